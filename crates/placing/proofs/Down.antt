-- The way down the merit list: what is known at place p, and how it goes on when the place is not considered, is placed, or
-- is searched for in vain.
use Prim.Native.Nat.{ℕ, zero, suc, ◌+◌, ◌≤◌, ◌<◌}
use mathlib.Core.Path.{◌≡◌, refl, sym, ap, subst, ◌∙◌}
use mathlib.Core.Bool.{Bool, true, false}
use mathlib.Core.List.{List, ◌++◌}
use native.Mathlib.Omega.{arith}
use lib.Dec.{eqb, ltb}
use lib.ListN.{length, get_or, take, drop, replicate, length-replicate, get_or-replicate, get_or-eq_default}
use borrow.Author.Tests.{eq-eqb, eqb-true, ne_eqb, lt-ltb, le-ltb, ltb-true}
use Rattle.lists.specs.Lists.{count_of}
use Rattle.lists.specs.Numbers.{holds}
use Rattle.matching.specs.Use.{Placing}
use Rattle.matching.specs.ForUse.{raises, taken_for_use}
use Rattle.placing.specs.Left.{at_type, Left}
use Rattle.placing.specs.Search.{Searching, Moved, Stuck}
use Rattle.placing.specs.Taken.{Without, AllExhausted, Attempted, Took}
use Rattle.lists.proofs.Counting.{test, less_or, same_or, bit_true, bit_false, count_le}
use Rattle.lists.proofs.Counts.{count_more, count_within, count_rest}
use Rattle.matching.proofs.Use.{placed, PlacingTo, placed_raises}
use Rattle.matching.proofs.Tight.{placed_blocked}
use Rattle.matching.proofs.Taking.{taken_for_use_considered, taken_before_placed}
use Rattle.placing.proofs.FrontPlaces.{searching_front, attempted_all}

-- just those taken below p have a type; left is what they leave of the positions; the exhausted types are full, and who is placed at one
-- holds exhausted types only; without more all types are exhausted
pub record Down (reserved marks : List ℕ) (considered : ℕ → Bool) (left placed exhausted : List ℕ) (more : Bool) (n p : ℕ) : Type 0 where
  pub placing : Placing reserved marks placed
  pub positions : Left reserved left placed
  pub each : (q : ℕ) → q < p → taken_for_use reserved marks considered q ≡ ltb 0 (get_or placed q 0)
  pub rest : (q : ℕ) → p ≤ q → get_or placed q 0 ≡ 0
  pub number : n ≡ count_of p (taken_for_use reserved marks considered)
  pub full : (t : ℕ) → 0 < get_or exhausted t 0 → get_or reserved t 0 ≤ at_type placed t
  pub closed : (q t u : ℕ) → 0 < get_or exhausted t 0 → get_or placed q 0 ≡ suc t → u < length reserved
      → holds (get_or marks q 0) u ≡ true → 0 < get_or exhausted u 0
  pub types : length exhausted ≡ 8
  pub over : more ≡ false → AllExhausted (length reserved) exhausted

pub no_type : (n : ℕ) (l : List ℕ) (q : ℕ) → l ≡ replicate n 0 → get_or l q 0 ≡ 0
no_type n l q e =
    rw e
    (less_or q n (λ b. get_or-replicate n q 0 0 b)
    (λ h. get_or-eq_default (replicate n 0) 0 (omega (arith, length-replicate n zero))))

module _ (reserved marks : List ℕ) (X : ℕ → Bool) where
  abbrev H : ℕ → Bool
  H = taken_for_use reserved marks X

  pub top : (left placed exhausted : List ℕ) (more : Bool) → placed ≡ replicate (length marks) 0 → Left reserved left placed → Without reserved exhausted
      → (more ≡ false → AllExhausted (length reserved) exhausted) → Down reserved marks X left placed exhausted more 0 0
  top left placed exhausted more empty positions none over = record {
    placing = record {
      each = ap length empty ∙ length-replicate (length marks) zero;
      held = λ i t l e. absurd (clash i t e);
      within = λ t l. omega (arith, count_rest 0 (length placed) (λ q. eqb (get_or placed q 0) (suc t)) (λ q l. ne_eqb _ _ (clash q t)));
    };
    positions = positions;
    each = λ q l. absurd (omega arith);
    rest = λ q l. no_type (length marks) placed q empty;
    number = refl;
    full = λ t v. omega (arith, none.none t v);
    closed = λ q t u v e. absurd (clash q t e);
    types = none.types;
    over = over;
  }
    where
      clash : (q t : ℕ) → get_or placed q 0 ≡ suc t → ⊥
      clash q t e = omega (arith, no_type (length marks) placed q empty)

  -- the end of the list is reached
  pub bottom : {left placed exhausted : List ℕ} {more : Bool} {n p : ℕ} → Down reserved marks X left placed exhausted more n p → p ≡ length marks → Took reserved left marks placed X n
  bottom d end = record {
    placing = d.placing;
    positions = d.positions;
    each = λ q l. d.each q (omega arith);
    number = d.number ∙ ap (λ (k : ℕ). count_of k H) end;
  }

  module _ {left placed₀ exhausted : List ℕ} {more : Bool} {n p : ℕ} (inside : p < length marks) (d : Down reserved marks X left placed₀ exhausted more n p) where
    unplaced : ltb 0 (get_or placed₀ p 0) ≡ false
    unplaced = le-ltb 0 (get_or placed₀ p 0) (omega (arith, d.rest p (omega arith)))

    not_considered : X p ≡ false → Down reserved marks X left placed₀ exhausted more n (p + 1)
    not_considered out = record {
      placing = d.placing;
      positions = d.positions;
      each = λ q l. same_or q p (λ s. rw s (not_taken ∙ sym unplaced)) (λ o. d.each q (omega arith));
      rest = λ q l. d.rest q (omega arith);
      number = omega (arith, count_more H p n 0 d.number (bit_false (H p) not_taken));
      full = d.full;
      closed = d.closed;
      types = d.types;
      over = d.over;
    }
      where
        not_taken : H p ≡ false
        not_taken = unfold taken_for_use in rw out

    by_places : (l : List ℕ) (k : ℕ) → k ≤ length marks → Placing reserved marks l → PlacingTo reserved (λ q. get_or l q 0) (λ q. get_or marks q 0) k
    by_places l k h pl = record {
      held = λ q t b e. pl.held q t (omega arith) e;
      within = λ t b. omega (arith, pl.within t b, pl.each, count_within k (length l) (λ q. eqb (get_or l q 0) (suc t)) (omega (arith, pl.each)));
    }

    -- a considered place is taken when it raises the use of those who have a type
    raised : (l : List ℕ) → ((q : ℕ) → q < p → H q ≡ ltb 0 (get_or l q 0)) → X p ≡ true
        → H p ≡ raises reserved (placed (λ q. get_or l q 0) (λ q. get_or marks q 0) p) (get_or marks p 0)
    raised l each in-play =
        taken_for_use_considered reserved marks X p in-play
        ∙ ap (λ (A : List ℕ). raises reserved A (get_or marks p 0)) (taken_before_placed reserved marks X (λ q. get_or l q 0) p each)

    moved : (left' placed' : List ℕ) → X p ≡ true → Left reserved left' placed' → Moved reserved marks exhausted placed₀ placed' p
        → Down reserved marks X left' placed' exhausted more (n + 1) (p + 1)
    moved left' placed' in-play positions m = record {
      placing = m.placing;
      positions = positions;
      each = λ q l. same_or q p (λ s. rw s (taken ∙ sym (lt-ltb 0 _ m.reached))) (λ o. same q (omega arith));
      rest = λ q l. m.apart q (λ s. omega arith) (d.rest q (omega arith));
      number = count_more H p n 1 d.number (bit_true (H p) taken);
      full = λ t v. omega (arith, d.full t v, no_fewer t v);
      closed = λ q t u v e. d.closed q t u v (m.comes q t v e).0;
      types = d.types;
      over = d.over;
    }
      where
        same : (q : ℕ) → q < p → H q ≡ ltb 0 (get_or placed' q 0)
        same q l =
            d.each q l
            ∙ less_or 0 (get_or placed₀ q 0) (λ h. lt-ltb 0 _ h ∙ sym (lt-ltb 0 _ (m.kept q h)))
            (λ h. le-ltb 0 _ h ∙ sym (le-ltb 0 (get_or placed' q 0) (omega (arith, m.apart q (λ s. omega arith) (omega arith)))))

        taken : H p ≡ true
        taken =
            raised placed' same in-play
            ∙ placed_raises reserved (λ q. get_or placed' q 0) (λ q. get_or marks q 0) p (by_places placed' (suc p) (omega arith) m.placing) m.reached

        sizes : length placed₀ ≡ length placed'
        sizes = d.placing.each ∙ sym m.placing.each

        no_fewer : (t : ℕ) → 0 < get_or exhausted t 0 → at_type placed₀ t ≤ at_type placed' t
        no_fewer t v =
            rw sizes
            (count_le (length placed') (λ q. eqb (get_or placed₀ q 0) (suc t)) (λ q. eqb (get_or placed' q 0) (suc t))
            (λ q l e. eq-eqb _ _ (m.stays q t (λ s. away q t s (eqb-true _ _ e)) v (eqb-true _ _ e))))
          where
            away : (q t : ℕ) → q ≡ p → get_or placed₀ q 0 ≡ suc t → ⊥
            away q t s e = omega (arith, d.rest q (omega arith))

    stuck : (left' placed' exhausted' : List ℕ) (more' : Bool) → X p ≡ true → Left reserved left' placed'
        → Stuck reserved marks exhausted exhausted' placed₀ placed' p → length exhausted' ≡ 8
        → (more' ≡ false → AllExhausted (length reserved) exhausted') → Down reserved marks X left' placed' exhausted' more' n (p + 1)
    stuck left' placed' exhausted' more' in-play positions s types over =
        subst (λ (l : List ℕ). Down reserved marks X left' l exhausted' more' n (p + 1)) (sym s.same)
        record {
          placing = d.placing;
          positions = rw (← s.same) positions;
          each = λ q l. same_or q p (λ e. rw e (not_taken ∙ sym unplaced)) (λ o. d.each q (omega arith));
          rest = λ q l. d.rest q (omega arith);
          number = omega (arith, count_more H p n 0 d.number (bit_false (H p) not_taken));
          full = full;
          closed = closed;
          types = types;
          over = over;
        }
      where
        full : (t : ℕ) → 0 < get_or exhausted' t 0 → get_or reserved t 0 ≤ at_type placed₀ t
        full t v = less_or 0 (get_or exhausted t 0) (λ h. d.full t h) (λ h. s.full t v (omega arith))

        closed : (q t u : ℕ) → 0 < get_or exhausted' t 0 → get_or placed₀ q 0 ≡ suc t → u < length reserved
            → holds (get_or marks q 0) u ≡ true → 0 < get_or exhausted' u 0
        closed q t u v e l h =
            less_or 0 (get_or exhausted t 0) (λ k. s.more u (d.closed q t u k e l h)) (λ k. s.closed q t u v (omega arith) e l h)

        not_taken : H p ≡ false
        not_taken =
            raised placed₀ d.each in-play
            ∙ placed_blocked reserved (λ q. get_or placed₀ q 0) (λ q. get_or marks q 0) p (get_or marks p 0) (λ t. ltb 0 (get_or exhausted' t 0))
            (by_places placed₀ p (omega arith) d.placing)
            (λ t l v. omega (arith, full t (ltb-true _ _ v), count_rest p (length placed₀) (λ q. eqb (get_or placed₀ q 0) (suc t)) (λ q h. ne_eqb _ _ (away q t h))))
            (λ q t u l e v b h. lt-ltb 0 _ (closed q t u (ltb-true _ _ v) e b h))
            (λ u l h. lt-ltb 0 _ (s.own u l h))
          where
            away : (q t : ℕ) → p ≤ q → get_or placed₀ q 0 ≡ suc t → ⊥
            away q t h e = omega (arith, d.rest q h)

    -- all types are exhausted
    full_up : AllExhausted (length reserved) exhausted → Down reserved marks X left placed₀ exhausted more n (p + 1)
    full_up all =
        test (X p)
        (λ in-play.
        stuck left placed₀ exhausted more in-play d.positions
        record {
          same = refl;
          more = λ t v. v;
          full = λ t v z. absurd (omega arith);
          closed = λ q t u v z. absurd (omega arith);
          own = λ u l h. all u l;
        }
        d.types d.over)
        not_considered

    -- a search for the place goes down to it only: nobody beyond has a type
    beyond : (q : ℕ) → p + 1 ≤ q → get_or placed₀ q 0 ≡ 0
    beyond q l = d.rest q (omega arith)

    pub searching : length reserved ≤ 8 → Searching reserved left (take (p + 1) marks) (take (p + 1) placed₀) exhausted p
    searching few = searching_front d.placing (p + 1) (omega arith) beyond d.positions few d.types (omega arith) (d.rest p (omega arith))

    among_all : {left' part exhausted' : List ℕ} {b : Bool} → Attempted reserved left left' (take (p + 1) marks) exhausted exhausted' (take (p + 1) placed₀) part p b
        → length part ≡ length (take (p + 1) placed₀) → Attempted reserved left left' marks exhausted exhausted' placed₀ (part ++ drop (p + 1) placed₀) p b
    among_all {part = part} a sized = attempted_all d.placing (p + 1) (omega arith) beyond part sized (omega arith) a

    -- what stands after the place: where all types are exhausted, ..
    pub passed_full : more ≡ false → Down reserved marks X left placed₀ exhausted more n (p + 1)
    passed_full none = full_up (d.over none)

    -- .. where it is not considered, ..
    module _ {r : Bool} (said : r ≡ X p) where
      pub passed : r ≡ false → Down reserved marks X left placed₀ exhausted more n (p + 1)
      passed out = not_considered (sym said ∙ out)

      -- .. where it is placed, and where the search for it is in vain
      module _ {left' part exhausted' : List ℕ} {b : Bool} (in-play : r ≡ true)
          (a : Attempted reserved left left' (take (p + 1) marks) exhausted exhausted' (take (p + 1) placed₀) part p b)
          (sized : length part ≡ length (take (p + 1) placed₀)) where
        pub placed_one : b ≡ true → Down reserved marks X left' (part ++ drop (p + 1) placed₀) exhausted' more (n + 1) (p + 1)
        placed_one got =
            let all = among_all a sized in
            rw (a.spared got) (moved left' _ (sym said ∙ in-play) all.positions (all.found got))

        pub passed_by : {more' : Bool} → b ≡ false → length exhausted' ≡ length exhausted → (more' ≡ false → AllExhausted (length reserved) exhausted')
            → Down reserved marks X left' (part ++ drop (p + 1) placed₀) exhausted' more' n (p + 1)
        passed_by {more'} none kept over =
            let all = among_all a sized in
            stuck left' _ exhausted' more' (sym said ∙ in-play) all.positions (all.stuck none) (kept ∙ d.types) over
