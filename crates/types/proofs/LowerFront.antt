-- How the front place gets the smallest type that it can have with all placed who are.
use Prim.Native.Nat.{ℕ, zero, suc, ◌+◌, ◌-◌, ◌^◌, ◌≤◌, ◌<◌}
use mathlib.Core.Path.{◌≡◌, refl, sym, ap, subst, ◌∙◌}
use mathlib.Core.Bool.{Bool, true, false, ◌&&◌}
use mathlib.Core.List.{List}
use mathlib.Core.Logic.{◌≢◌}
use native.Mathlib.Omega.{arith}
use lib.Dec.{eqb, ltb}
use lib.ListN.{length, get_or, set, length-set}
use lib.Seq.{get_or-set_same, get_or-set_other, set-set, set-get_or}
use borrow.Author.Tests.{eqb-true, eq-eqb, lt-ltb, le-ltb, ltb-true}
use Rattle.lists.specs.Lists.{bit}
use Rattle.lists.proofs.Words.{and_fst}
use Rattle.lists.specs.Numbers.{holds}
use Rattle.matching.specs.Use.{one_less, Placing}
use Rattle.placing.specs.Left.{at_type, Left, given_back, Vacating}
use Rattle.placing.specs.Search.{Searching, Moved, Stuck}
use Rattle.placing.specs.Taken.{Attempted}
use Rattle.matching.specs.FirstPlacing.{SameTyped}
use Rattle.types.specs.Lowered.{Sealed, Lowering, Lowered}
use Rattle.lists.proofs.Counting.{less_or, same_or, bit_same, bit_other, count_le}
use Rattle.types.proofs.Blocked.{blocked, has_no_other, has_own}
use Rattle.placing.proofs.Holders.{nothing_more}
use Rattle.placing.proofs.PositionsLeft.{at_set, vacating, vacated, left_some, moved_to}

-- lists that give types to the same places
module _ (types others : List ℕ) where
  pub typed_too : SameTyped types others → (q : ℕ) → 0 < get_or others q 0 → 0 < get_or types q 0
  typed_too same q l = ltb-true 0 _ (same q ∙ lt-ltb 0 _ l)

  both_typed : ((q : ℕ) → 0 < get_or others q 0 → 0 < get_or types q 0) → ((q : ℕ) → get_or others q 0 ≡ 0 → get_or types q 0 ≡ 0) → SameTyped types others
  both_typed typed untyped q =
      less_or 0 (get_or others q 0) (λ l. lt-ltb 0 _ (typed q l) ∙ sym (lt-ltb 0 _ l))
      (λ l. le-ltb 0 (get_or types q 0) (omega (arith, untyped q (omega arith))) ∙ sym (le-ltb 0 _ l))

-- where the search for a smaller type stands at type t: the types below t that the front place holds are exhausted; the places are as they
-- were, and the marks too but for the front place; left is what the places leave of the positions
pub record Lowers (room marks₀ placed₀ left marks placed exhausted : List ℕ) (t : ℕ) : Type 0 where
  pub as_marked : (m : ℕ) → set marks 0 m ≡ set marks₀ 0 m
  pub as_placed : placed ≡ placed₀
  pub positions : Left room left placed₀
  pub types : length exhausted ≡ 8
  pub sealed : Sealed room marks₀ placed₀ exhausted
  pub tried : (u : ℕ) → u < t → holds (get_or marks₀ 0 0) u ≡ true → 0 < get_or exhausted u 0

-- the front place before it leaves its type
module _ {room left₀ marks₀ before exhausted₀ : List ℕ} (s : Lowering room left₀ marks₀ before exhausted₀) where
  -- the type that it has, from 0
  pub last_held : (get_or before 0 0 - 1 < length room) × (holds (get_or marks₀ 0 0) (get_or before 0 0 - 1) ≡ true)
  last_held = s.placing.held 0 (get_or before 0 0 - 1) s.within (omega (arith, s.some))

  pub last_small : get_or before 0 0 ≤ 8
  last_small = omega (arith, last_held.0, s.few, s.some)

  pub leaves : ((t : ℕ) → get_or room t 0 < 2 ^ 64) → Vacating left₀ before 0
  leaves = vacating s.placing s.positions 0 s.within

-- how the front place gets the smallest type, from the places with its type taken away
module _ {room left₀ marks₀ before exhausted₀ vacant : List ℕ} (s : Lowering room left₀ marks₀ before exhausted₀) (gone : vacant ≡ set before 0 0) where
  there : 0 < length before
  there = omega (arith, s.placing.each, s.within)

  none : get_or vacant 0 0 ≡ 0
  none = rw gone (get_or-set_same before 0 0 0 there)

  others : (q : ℕ) → q ≢ 0 → get_or vacant q 0 ≡ get_or before q 0
  others q n = rw gone (get_or-set_other before 0 q 0 0 n)

  away : (q u : ℕ) → get_or vacant q 0 ≡ suc u → q ≢ 0
  away q u e same = omega (arith, none, rw same at e)

  one_fewer : (t : ℕ) → at_type vacant t + bit (eqb (get_or before 0 0) (suc t)) ≡ at_type before t
  one_fewer t = rw gone (omega (arith, at_set before 0 0 t there, bit_other 0 (suc t) (λ z. omega arith)))

  vacant_placing : Placing room marks₀ vacant
  vacant_placing = record {
    each = ap length gone ∙ length-set before 0 0 ∙ s.placing.each;
    held = λ q t l e. s.placing.held q t l (sym (others q (away q t e)) ∙ e);
    within = λ t l. omega (arith, s.placing.within t l, one_fewer t);
  }

  -- no type is tried yet
  pub untried : {left : List ℕ} → left ≡ given_back left₀ (get_or before 0 0) → Lowers room marks₀ vacant left marks₀ vacant exhausted₀ 0
  untried back = record {
    as_marked = λ m. refl;
    as_placed = refl;
    positions = rw (back, gone) (vacated s.placing s.positions 0 s.within);
    types = s.types;
    sealed = rw gone s.sealed;
    tried = λ u l. absurd (omega arith);
  }

  -- the front place gets a type, and no smaller one that it holds can be had
  settled : {left left' marks marks' placed exhausted after : List ℕ} {t : ℕ} → Lowers room marks₀ vacant left marks placed exhausted t
      → ((m : ℕ) → set marks' 0 m ≡ set marks₀ 0 m) → Placing room marks₀ after → Left room left' after → SameTyped after before → get_or after 0 0 ≡ suc t
      → Sealed room marks₀ (set after 0 0) exhausted → Lowered room left' marks₀ marks' before after exhausted
  settled {marks' = marks'} {exhausted = exhausted} {after} {t} k marked placing positions same at sealed = record {
    placing = placing;
    positions = positions;
    same = same;
    others = λ q l.
        sym (get_or-set_other marks' 0 q 0 0 (λ e. omega arith)) ∙ ap (λ (x : List ℕ). get_or x q 0) (marked 0)
        ∙ get_or-set_other marks₀ 0 q 0 0 (λ e. omega arith);
    sealed = sealed;
    least = λ types h alike. less_or (get_or types 0 0) (suc t) (λ less. absurd (smaller types h alike (get_or types 0 0) refl less)) (λ most. rw at most);
  }
    where
      smaller : (types : List ℕ) → Placing room marks₀ types → SameTyped types before → (x : ℕ) → get_or types 0 0 ≡ x → x < suc t → ⊥
      smaller types h alike zero e l = omega (arith, typed_too types before alike 0 s.some)
      smaller types h alike (suc u) e l =
          blocked room marks₀ vacant types 0 (λ u. ltb 0 (get_or exhausted u 0)) vacant_placing h s.within
          (λ w v. k.sealed.full w (ltb-true 0 _ v))
          (λ q w x v d m o. lt-ltb 0 _ (k.sealed.closed q w x (ltb-true 0 _ v) d m o))
          (λ q l. typed_too types before alike q (same_or q 0 (λ same. absurd (omega (arith, none, rw same at l))) (λ other. rw (others q other) at l)))
          none u e
          (lt-ltb 0 _ (k.tried u (omega arith) (h.held 0 u s.within e).1))

  -- type t is tried: the front place has the marks of it alone
  module _ {left marks placed exhausted : List ℕ} {t o : ℕ} (k : Lowers room marks₀ vacant left marks placed exhausted t) (small : suc t < get_or before 0 0) (single : o ≡ 2 ^ t) where
    marked : set marks 0 o ≡ set marks₀ 0 (2 ^ t)
    marked = k.as_marked o ∙ ap (λ (x : ℕ). set marks₀ 0 x) single

    alone_at : get_or (set marks₀ 0 (2 ^ t)) 0 0 ≡ 2 ^ t
    alone_at = get_or-set_same marks₀ 0 (2 ^ t) 0 s.within

    alone_off : (q : ℕ) → q ≢ 0 → get_or (set marks₀ 0 (2 ^ t)) q 0 ≡ get_or marks₀ q 0
    alone_off q n = get_or-set_other marks₀ 0 q (2 ^ t) 0 n

    pub tries : Searching room left (set marks 0 o) placed exhausted 0
    tries = rw (marked, k.as_placed) record {
      few = s.few;
      types = k.types;
      within = rw (length-set marks₀ 0 (2 ^ t)) s.within;
      placing = record {
        each = vacant_placing.each ∙ sym (length-set marks₀ 0 (2 ^ t));
        held = λ q u l e. rw (alone_off q (away q u e)) (vacant_placing.held q u (rw (length-set marks₀ 0 (2 ^ t)) at l) e);
        within = vacant_placing.within;
      };
      away = λ u e. absurd (away 0 u e refl);
      positions = k.positions;
    }

    -- what the attempt says, of the places and the marks at the start
    attempted_from : {left' exhausted' after : List ℕ} {r : Bool} → Attempted room left left' (set marks 0 o) exhausted exhausted' placed after 0 r
        → Attempted room left left' (set marks₀ 0 (2 ^ t)) exhausted exhausted' vacant after 0 r
    attempted_from {left'} {exhausted'} {after} {r} attempted =
        subst (λ (l : List ℕ). Attempted room left left' l exhausted exhausted' vacant after 0 r) marked
        (subst (λ (l : List ℕ). Attempted room left left' (set marks 0 o) exhausted exhausted' l after 0 r) k.as_placed attempted)

    as_marked_again : (m : ℕ) → set (set marks 0 o) 0 m ≡ set marks₀ 0 m
    as_marked_again m = set-set marks 0 o m ∙ k.as_marked m

    -- it cannot be had
    pub missed : {left' exhausted' after : List ℕ} {r : Bool} → Attempted room left left' (set marks 0 o) exhausted exhausted' placed after 0 r → r ≡ false → length exhausted' ≡ length exhausted
        → Lowers room marks₀ vacant left' (set marks 0 o) after exhausted' (t + 1)
    missed {left'} {exhausted'} {after} attempted none_left kept = record {
      as_marked = as_marked_again;
      as_placed = stuck.same;
      positions = rw stuck.same at attempted.positions;
      types = kept ∙ k.types;
      sealed = record {
        full = λ u v. less_or 0 (get_or exhausted u 0) (λ l. k.sealed.full u l) (λ l. stuck.full u v (omega arith));
        closed = λ q u w v e l h.
            less_or 0 (get_or exhausted u 0) (λ b. stuck.more w (k.sealed.closed q u w b e l h))
            (λ b. stuck.closed q u w v (omega arith) e l (rw (alone_off q (away q u e)) h));
      };
      tried = λ u l h.
          same_or u t (λ same. rw same (stuck.own t (omega (arith, (last_held s).0)) (rw alone_at (has_own t (omega (arith, last_small s))))))
          (λ other. stuck.more u (k.tried u (omega arith) h));
    }
      where
        stuck : Stuck room (set marks₀ 0 (2 ^ t)) exhausted exhausted' vacant after 0
        stuck = (attempted_from attempted).stuck none_left

    -- the front place gets it
    pub reached : {left' exhausted' after : List ℕ} {b r : Bool} → b ≡ (holds (get_or marks₀ 0 0) t && eqb (get_or exhausted t 0) 0) → b ≡ true
        → Attempted room left left' (set marks 0 o) exhausted exhausted' placed after 0 r → r ≡ true → Lowered room left' marks₀ (set marks 0 o) before after exhausted'
    reached {left'} {exhausted'} {after} test passed attempted some_type =
        rw (attempted.spared some_type) (settled k as_marked_again placing attempted.positions same at sealed)
      where
        moved : Moved room (set marks₀ 0 (2 ^ t)) exhausted vacant after 0
        moved = (attempted_from attempted).found some_type

        single_type : (u : ℕ) → get_or after 0 0 ≡ suc u → u ≡ t
        single_type u e =
            let (l, h) = moved.placing.held 0 u (rw (length-set marks₀ 0 (2 ^ t)) s.within) e in
            has_no_other t u (omega (arith, last_small s)) (omega (arith, s.few)) (rw alone_at at h)

        at : get_or after 0 0 ≡ suc t
        at = omega (arith, moved.reached, single_type (get_or after 0 0 - 1) (omega (arith, moved.reached)))

        placing : Placing room marks₀ after
        placing = record {
          each = moved.placing.each ∙ length-set marks₀ 0 (2 ^ t);
          held = λ q u l e.
              same_or q 0 (λ same. rw (same, single_type u (rw same at e)) (omega (arith, (last_held s).0), and_fst _ _ (sym test ∙ passed)))
              (λ other. rw (alone_off q other) at (moved.placing.held q u (rw (length-set marks₀ 0 (2 ^ t)) l) e));
          within = moved.placing.within;
        }

        same : SameTyped after before
        same =
            both_typed after before
            (λ q l. same_or q 0 (λ same. rw same moved.reached) (λ other. moved.kept q (rw (others q other) l)))
            (λ q e. same_or q 0 (λ same. absurd (omega (arith, s.some, rw same at e))) (λ other. moved.apart q other (others q other ∙ e)))

        sizes : length vacant ≡ length (set after 0 0)
        sizes = vacant_placing.each ∙ sym (length-set after 0 0 ∙ placing.each)

        off_front : (q u : ℕ) → get_or (set after 0 0) q 0 ≡ suc u → q ≢ 0
        off_front q u e same = omega (arith, get_or-set_same after 0 0 0 (omega (arith, placing.each, s.within)), rw same at e)

        -- nobody leaves an exhausted type, and nobody comes to one
        sealed : Sealed room marks₀ (set after 0 0) exhausted
        sealed = record {
          full = λ u v. omega (arith, k.sealed.full u v, no_fewer u v);
          closed = λ q u w v e.
              let off = off_front q u e in
              k.sealed.closed q u w v (moved.comes q u v (sym (get_or-set_other after 0 q 0 0 off) ∙ e)).0;
        }
          where
            no_fewer : (u : ℕ) → 0 < get_or exhausted u 0 → at_type vacant u ≤ at_type (set after 0 0) u
            no_fewer u v =
                rw sizes
                (count_le (length (set after 0 0)) (λ q. eqb (get_or vacant q 0) (suc u)) (λ q. eqb (get_or (set after 0 0) q 0) (suc u))
                (λ q l e.
                let off = away q u (eqb-true _ _ e) in
                eq-eqb _ _ (get_or-set_other after 0 q 0 0 off ∙ moved.stays q u off v (eqb-true _ _ e))))

  -- the front place does not hold type t, or it is exhausted
  pub skipped : {left marks placed exhausted : List ℕ} {t : ℕ} {b : Bool} → Lowers room marks₀ vacant left marks placed exhausted t
      → b ≡ (holds (get_or marks₀ 0 0) t && eqb (get_or exhausted t 0) 0) → b ≡ false
      → Lowers room marks₀ vacant left marks placed exhausted (t + 1)
  skipped {exhausted = exhausted} k test failed = record {
    as_marked = k.as_marked;
    as_placed = k.as_placed;
    positions = k.positions;
    types = k.types;
    sealed = k.sealed;
    tried = nothing_more (get_or marks₀ 0 0) exhausted k.tried test failed;
  }

  -- no smaller type can be had: a position of the type that the front place had is left, and it gets it again
  module _ {left marks placed exhausted : List ℕ} {t last : ℕ} (k : Lowers room marks₀ vacant left marks placed exhausted t) (end : last ≡ t) (at : get_or before 0 0 ≡ suc last) where
    below : last < length room
    below = (s.placing.held 0 last s.within at).0

    one_left : at_type vacant last < get_or room last 0
    one_left = omega (arith, s.placing.within last below, one_fewer last, bit_same _ _ at)

    pub returning : Vacating left placed 0 × (last < 8) × (last < length left) × (0 < get_or left last 0)
    returning = rw k.as_placed (
      record { within = omega (arith, vacant_placing.each, s.within); counted = λ u e. absurd (omega (arith, none)) },
      omega (arith, below, s.few),
      omega (arith, below, k.positions.each),
      left_some k.positions last below one_left,
    )

    pub kept_last : {left' after : List ℕ} → left' ≡ one_less (given_back left (get_or placed 0 0)) last → after ≡ set placed 0 (suc last)
        → Lowered room left' marks₀ marks before after exhausted
    kept_last {left'} {after} less again = rw as_before (settled k k.as_marked s.placing positions (λ q. refl) (at ∙ ap suc end) (rw (← gone) k.sealed))
      where
        as_before : after ≡ before
        as_before = again ∙ rw (k.as_placed, gone, set-set before 0 0 (suc last), ← at) (set-get_or before 0 0)

        positions : Left room left' before
        positions = rw (← as_before, less, again, k.as_placed) (moved_to vacant_placing k.positions 0 last s.within below one_left)
