-- The search for a place, one type and one holder after the other: what is known where it stands, and how it goes on.
use Prim.Native.Nat.{ℕ, zero, suc, ◌+◌, ◌≤◌, ◌<◌}
use mathlib.Core.Path.{◌≡◌, refl, sym, ap, subst, ◌∙◌}
use mathlib.Core.Bool.{Bool, true, false, ◌&&◌}
use mathlib.Core.List.{List}
use native.Mathlib.Omega.{arith}
use lib.Dec.{eqb}
use lib.ListN.{length, get_or, set, length-set}
use lib.Seq.{get_or-set_same, get_or-set_other}
use borrow.Author.Tests.{eqb-true, eq-eqb, ne_eqb}
use Rattle.std.specs.Prelude.{Option, None, Some}
use Rattle.lists.specs.Lists.{bit, count_of}
use Rattle.lists.specs.Numbers.{holds}
use Rattle.matching.specs.Use.{one_less, Placing}
use Rattle.placing.specs.Left.{at_type, Left, given_back}
use Rattle.placing.specs.Search.{PassedOver, Ends, Moved, Stuck, Searched}
use Rattle.lists.proofs.Counting.{less_or, same_or, bit_true, bit_false, bit_suc, count_less}
use Rattle.placing.proofs.Holders.{tried_test, nothing_more}
use Rattle.placing.proofs.PositionsLeft.{at_set, moved_to}

-- the types visited since: each is full, and who is placed at one holds visited types only
pub record Grown (reserved marks placed visited visited' : List ℕ) : Type 0 where
  pub more : (u : ℕ) → 0 < get_or visited u 0 → 0 < get_or visited' u 0
  pub full : (u : ℕ) → 0 < get_or visited' u 0 → get_or visited u 0 ≡ 0 → get_or reserved u 0 ≤ at_type placed u
  pub closed : (p u w : ℕ) → 0 < get_or visited' u 0 → get_or visited u 0 ≡ 0 → get_or placed p 0 ≡ suc u → w < length reserved
      → holds (get_or marks p 0) w ≡ true → 0 < get_or visited' w 0

-- the types below t that c holds are visited
pub record Tried (reserved marks placed visited visited' : List ℕ) (c t : ℕ) : Type 0 where
  pub grown : Grown reserved marks placed visited visited'
  pub own : (u : ℕ) → u < t → holds (get_or marks c 0) u ≡ true → 0 < get_or visited' u 0

-- those placed at type t from place h on hold visited types only
pub record Asked (reserved marks placed visited visited' : List ℕ) (t h : ℕ) : Type 0 where
  pub grown : Grown reserved marks placed visited visited'
  pub asked : (p w : ℕ) → h ≤ p → get_or placed p 0 ≡ suc t → w < length reserved → holds (get_or marks p 0) w ≡ true
      → 0 < get_or visited' w 0

-- type t, which c holds, has a position left after some were moved
pub record Cleared (reserved marks visited before after : List ℕ) (c t : ℕ) : Type 0 where
  pub fresh : get_or visited t 0 ≡ 0
  pub below : t < length reserved
  pub held : holds (get_or marks c 0) t ≡ true
  pub placing : Placing reserved marks after
  pub room : at_type after t < get_or reserved t 0
  pub ends : Ends reserved before after (suc t)
  pub kept : (p : ℕ) → 0 < get_or before p 0 → 0 < get_or after p 0
  pub apart : (p : ℕ) → get_or before p 0 ≡ 0 → get_or after p 0 ≡ 0
  pub stays : (p u : ℕ) → 0 < get_or visited u 0 → get_or before p 0 ≡ suc u → get_or after p 0 ≡ suc u
  pub comes : (p u : ℕ) → 0 < get_or visited u 0 → get_or after p 0 ≡ suc u → get_or before p 0 ≡ suc u

-- how the search ends, by the type that was found
abbrev pub SearchEnded : (reserved marks visited visited' before after : List ℕ) (c : ℕ) → Option ℕ → Type 0
SearchEnded reserved marks visited visited' before after c (Some t) = Cleared reserved marks visited before after c t
SearchEnded reserved marks visited visited' before after c None = Stuck reserved marks visited visited' before after c

-- how many types are not visited
abbrev pub unvisited : List ℕ → ℕ
unvisited visited = count_of (length visited) (λ t. eqb (get_or visited t 0) 0)

module _ (reserved marks placed : List ℕ) where
  -- more types are visited, and then more again
  join : (v v₁ v₂ : List ℕ) → Grown reserved marks placed v v₁ → Grown reserved marks placed v₁ v₂ → Grown reserved marks placed v v₂
  join v v₁ v₂ g h = record {
    more = λ u l. h.more u (g.more u l);
    full = λ u l z. less_or 0 (get_or v₁ u 0) (λ m. g.full u m z) (λ m. h.full u l (omega arith));
    closed = λ p u w l z e b o.
        less_or 0 (get_or v₁ u 0) (λ m. h.more w (g.closed p u w m z e b o)) (λ m. h.closed p u w l (omega arith) e b o);
  }

  -- c does not hold type t, or it is visited
  pub skip : {visited₀ visited : List ℕ} {c t : ℕ} {r : Bool} → Tried reserved marks placed visited₀ visited c t
      → r ≡ (holds (get_or marks c 0) t && eqb (get_or visited t 0) 0) → r ≡ false → Tried reserved marks placed visited₀ visited c (t + 1)
  skip {visited = visited} {c = c} k test none = record { grown = k.grown; own = nothing_more (get_or marks c 0) visited k.own test none }

  -- every type was tried
  pub done : {visited₀ visited : List ℕ} {c t : ℕ} → Tried reserved marks placed visited₀ visited c t → length reserved ≤ t
      → Stuck reserved marks visited₀ visited placed placed c
  done k all = record {
    same = refl;
    more = k.grown.more;
    full = k.grown.full;
    closed = k.grown.closed;
    own = λ u l held. k.own u (omega arith) held;
  }

  -- the places from r up to the end are passed over
  pub pass : {visited₁ visited before : List ℕ} {t end r : ℕ} → Asked reserved marks placed visited₁ visited t end → before ≡ placed → length reserved ≤ 8
      → PassedOver marks before visited t end r → Asked reserved marks placed visited₁ visited t r
  pass {visited = visited} {t = t} {end} {r} a was few passed_over = record {
    grown = a.grown;
    asked = λ p w l e b held. less_or p end (λ less. s.over p l less e w (omega arith) held) (λ h. a.asked p w h e b held);
  }
    where
      s : PassedOver marks placed visited t end r
      s = subst (λ (l : List ℕ). PassedOver marks l visited t end r) was passed_over

  -- the search for the holder at place h fails
  pub fail : {visited₁ visited visited' before after : List ℕ} {t r h : ℕ} → Asked reserved marks placed visited₁ visited t r → r ≤ suc h → before ≡ placed
      → Stuck reserved marks visited visited' before after h → Asked reserved marks placed visited₁ visited' t h
  fail {visited₁} {visited} {visited'} {after = after} {h = h} a next was stuck = record {
    grown = join visited₁ visited visited' a.grown record { more = s.more; full = s.full; closed = s.closed };
    asked = λ p w l e b held.
        same_or p h (λ q. s.own w b (rw q at held)) (λ q. s.more w (a.asked p w (omega arith) e b held));
  }
    where
      s : Stuck reserved marks visited visited' placed after h
      s = subst (λ (x : List ℕ). Stuck reserved marks visited visited' x after h) was stuck

  -- type t is held by c and not visited
  module _ {visited₀ visited : List ℕ} {c t : ℕ} {r : Bool} (k : Tried reserved marks placed visited₀ visited c t) (types : length visited ≡ 8)
      (few : length reserved ≤ 8) (below : t < length reserved) (test : r ≡ (holds (get_or marks c 0) t && eqb (get_or visited t 0) 0)) (tries : r ≡ true) where
    sized : t < length visited
    sized = omega arith

    held : holds (get_or marks c 0) t ≡ true
    held = (tried_test (get_or marks c 0) t (get_or visited t 0) test tries).0

    free : get_or visited t 0 ≡ 0
    free = (tried_test (get_or marks c 0) t (get_or visited t 0) test tries).1

    unseen : get_or visited₀ t 0 ≡ 0
    unseen = less_or 0 (get_or visited₀ t 0) (λ l. absurd (seen (k.grown.more t l))) (λ z. omega arith)
      where
        seen : 0 < get_or visited t 0 → ⊥
        seen l = omega (arith, free)

    -- it has a position left
    pub clear : Placing reserved marks placed → at_type placed t < get_or reserved t 0
        → Cleared reserved marks visited₀ placed placed c t
    clear placing room = record {
      fresh = unseen;
      below = below;
      held = held;
      placing = placing;
      room = room;
      ends = record { last = t; below = below; counts = λ u. omega (arith, bit_suc t u) };
      kept = λ p l. l;
      apart = λ p e. e;
      stays = λ p u v e. e;
      comes = λ p u v e. e;
    }

    -- it is visited now, and its holders are asked
    module _ {visited' : List ℕ} {h : ℕ} (a : Asked reserved marks placed (set visited t 1) visited' t h) where
      here : 0 < get_or visited' t 0
      here = a.grown.more t (rw (get_or-set_same visited t 1 0 sized) (omega arith))

      since : (u : ℕ) → 0 < get_or visited u 0 → 0 < get_or visited' u 0
      since u v = same_or u t (λ e. rw e here) (λ n. a.grown.more u (rw (get_or-set_other visited t u 1 0 n) v))

      -- fewer types are unvisited
      pub fewer : length visited₀ ≡ 8 → length visited' ≡ 8 → unvisited visited' < unvisited visited₀
      fewer types₀ types' =
          rw (types' ∙ sym types, types₀ ∙ sym types)
          (count_less (length visited) t (λ u. eqb (get_or visited' u 0) 0) (λ u. eqb (get_or visited₀ u 0) 0) sized before
          (ne_eqb (get_or visited' t 0) 0 (λ e. omega (arith, here)))
          (eq-eqb _ _ unseen))
        where
          before : (u : ℕ) → u < length visited → eqb (get_or visited' u 0) 0 ≡ true → eqb (get_or visited₀ u 0) 0 ≡ true
          before u l e =
              less_or 0 (get_or visited₀ u 0) (λ v. absurd (lost (since u (k.grown.more u v)))) (λ z. eq-eqb (get_or visited₀ u 0) 0 (omega arith))
            where
              lost : 0 < get_or visited' u 0 → ⊥
              lost v = omega (arith, eqb-true (get_or visited' u 0) 0 e)

      -- who is placed there has a visited type
      pub at_visited : {before : List ℕ} (g : ℕ) → before ≡ placed → get_or before g 0 ≡ suc t → (u : ℕ) → get_or before g 0 ≡ suc u → 0 < get_or visited' u 0
      at_visited g was at u e = let same : u ≡ t = omega arith in rw same here

      -- the holder at place h has moved
      pub cleared : {before after : List ℕ} {g : ℕ} → before ≡ placed → g < length placed → Placing reserved marks placed
          → get_or before g 0 ≡ suc t → Moved reserved marks visited' before after g → Cleared reserved marks visited₀ placed after c t
      cleared {before} {after} {g} was inside placing at-type moved = record {
        fresh = unseen;
        below = below;
        held = held;
        placing = m.placing;
        room = room;
        ends = rw (← at) m.ends;
        kept = m.kept;
        apart = λ p e. m.apart p (λ q. omega (arith, at, e, place q)) e;
        stays = λ p u v e. m.stays p u (λ q. other p u q v e) (since u (k.grown.more u v)) e;
        comes = λ p u v e. (m.comes p u (since u (k.grown.more u v)) e).0;
      }
        where
          at : get_or placed g 0 ≡ suc t
          at = omega (arith, ap (λ (l : List ℕ). get_or l g 0) was)

          place : {p : ℕ} → p ≡ g → get_or placed p 0 ≡ get_or placed g 0
          place q = ap (λ (i : ℕ). get_or placed i 0) q

          m : Moved reserved marks visited' placed after g
          m = subst (λ (l : List ℕ). Moved reserved marks visited' l after g) was moved

          sizes : length after ≡ length placed
          sizes = m.placing.each ∙ sym placing.each

          room : at_type after t < get_or reserved t 0
          room =
              rw sizes
              (omega (
                arith,
                count_less (length placed) g (λ p. eqb (get_or after p 0) (suc t)) (λ p. eqb (get_or placed p 0) (suc t)) inside
                    (λ p l e. eq-eqb _ _ (m.comes p t here (eqb-true _ _ e)).0)
                    (ne_eqb _ _ (λ e. (m.comes g t here e).1 refl))
                    (eq-eqb _ _ at),
                placing.within t below,
              ))

          other : (p u : ℕ) → p ≡ g → 0 < get_or visited₀ u 0 → get_or placed p 0 ≡ suc u → ⊥
          other p u q v e =
              let type : t ≡ u = omega (arith, at, place q) in
              omega (arith, ap (λ (i : ℕ). get_or visited₀ i 0) type, unseen)

      -- it is full, and the other holders were passed over
      pub finish : {before left : List ℕ} → before ≡ placed → Left reserved left placed → get_or left t 0 ≤ 0 → PassedOver marks before visited' t h 0
          → Tried reserved marks placed visited₀ visited' c (t + 1)
      finish {before} was positions none over = record {
        grown = record {
          more = λ u v. since u (k.grown.more u v);
          full = λ u v z.
              same_or u t (λ q. rw q (omega (arith, positions.value t below)))
              (λ n. less_or 0 (get_or visited u 0) (λ l. k.grown.full u l z) (λ l. a.grown.full u v (not_marked u n (omega arith))));
          closed = λ p u w v z e l o.
              same_or u t (λ q. asked p w (rw q at e) l o)
              (λ n.
              less_or 0 (get_or visited u 0) (λ b. since w (k.grown.closed p u w b z e l o))
              (λ b. a.grown.closed p u w v (not_marked u n (omega arith)) e l o));
        };
        own = λ u l o. same_or u t (λ q. rw q here) (λ n. since u (k.own u (omega arith) o));
      }
        where
          passed : PassedOver marks placed visited' t h 0
          passed = subst (λ (x : List ℕ). PassedOver marks x visited' t h 0) was over

          asked : (p w : ℕ) → get_or placed p 0 ≡ suc t → w < length reserved → holds (get_or marks p 0) w ≡ true → 0 < get_or visited' w 0
          asked p w e b o = less_or p h (λ less. passed.over p (omega arith) less e w (omega arith) o) (λ beyond. a.asked p w beyond e b o)

          not_marked : (u : ℕ) → (u ≡ t → ⊥) → get_or visited u 0 ≡ 0 → get_or (set visited t 1) u 0 ≡ 0
          not_marked u n z = rw (get_or-set_other visited t u 1 0 n) z

-- c takes the position
settle : (reserved marks visited before after : List ℕ) (c t : ℕ) → c < length marks
    → ((u : ℕ) → get_or before c 0 ≡ suc u → 0 < get_or visited u 0) → Cleared reserved marks visited before after c t → Moved reserved marks visited before (set after c (suc t)) c
settle reserved marks visited before after c t inside away k = record {
  placing = record { each = length-set after c (suc t) ∙ k.placing.each; held = held; within = within };
  reached = rw at (omega arith);
  ends = record {
    last = k.ends.last;
    below = k.ends.below;
    counts = λ u. rw (← unmoved) (omega (arith, at_set after c (suc t) u here, k.ends.counts u));
  };
  kept = λ p l. same_or p c (λ q. rw (q, at) (omega arith)) (λ n. rw (elsewhere p n) (k.kept p l));
  apart = λ p n e. elsewhere p n ∙ k.apart p e;
  stays = λ p u n v e. elsewhere p n ∙ k.stays p u v e;
  comes = λ p u v e.
      same_or p c (λ q. absurd (fresh u v (type p u q e))) (λ n. (k.comes p u v (sym (elsewhere p n) ∙ e), n));
}
  where
    here : c < length after
    here = omega (arith, k.placing.each)

    at : get_or (set after c (suc t)) c 0 ≡ suc t
    at = get_or-set_same after c (suc t) 0 here

    -- c has not moved before
    unmoved : get_or after c 0 ≡ get_or before c 0
    unmoved = go (get_or before c 0) refl
      where
        go : (x : ℕ) → get_or before c 0 ≡ x → get_or after c 0 ≡ get_or before c 0
        go zero e = k.apart c e ∙ sym e
        go (suc u) e = k.stays c u (away u e) e ∙ sym e

    elsewhere : (p : ℕ) → (p ≡ c → ⊥) → get_or (set after c (suc t)) p 0 ≡ get_or after p 0
    elsewhere p n = get_or-set_other after c p (suc t) 0 n

    type : (p u : ℕ) → p ≡ c → get_or (set after c (suc t)) p 0 ≡ suc u → u ≡ t
    type p u q e = omega (arith, at, rw q at e)

    fresh : (u : ℕ) → 0 < get_or visited u 0 → u ≡ t → ⊥
    fresh u v q = omega (arith, ap (λ (i : ℕ). get_or visited i 0) q, k.fresh)

    held : (p u : ℕ) → p < length marks → get_or (set after c (suc t)) p 0 ≡ suc u
        → (u < length reserved) × (holds (get_or marks p 0) u ≡ true)
    held p u l e =
        same_or p c (λ q. rw (type p u q e, q) (k.below, k.held)) (λ n. k.placing.held p u l (sym (elsewhere p n) ∙ e))

    within : (u : ℕ) → u < length reserved → at_type (set after c (suc t)) u ≤ get_or reserved u 0
    within u l =
        same_or u t
        (λ q.
        let room : at_type after u < get_or reserved u 0 = rw q k.room in
        omega (arith, grown, bit_true _ (eq-eqb (get_or (set after c (suc t)) c 0) (suc u) (at ∙ ap suc (sym q)))))
        (λ n.
        omega
        (arith, grown, k.placing.within u l, bit_false _ (ne_eqb (get_or (set after c (suc t)) c 0) (suc u) (λ e. n (omega (arith, at))))))
      where
        grown : at_type (set after c (suc t)) u ≤ at_type after u + bit (eqb (get_or (set after c (suc t)) c 0) (suc u))
        grown = rw at (omega (arith, at_set after c (suc t) u here))

-- how the search ends when c has taken the position, and what is left then
pub settled : {reserved left marks visited visited' before after l p : List ℕ} {c t : ℕ} → c < length marks
    → ((u : ℕ) → get_or before c 0 ≡ suc u → 0 < get_or visited u 0) → Cleared reserved marks visited before after c t → Left reserved left after → l ≡ one_less (given_back left (get_or after c 0)) t → p ≡ set after c (suc t)
    → Searched reserved l marks visited visited' before p c true
settled {reserved} {marks = marks} {visited} {before = before} {after} {c = c} {t} inside away k positions el ep = rw (el, ep) record {
  positions = moved_to k.placing positions c t inside k.below k.room;
  found = λ e. settle reserved marks visited before after c t inside away k;
  stuck = λ e. cc;
}

-- .. or there is none for it
pub unsettled : {reserved left marks visited visited' before after : List ℕ} {c : ℕ} → Stuck reserved marks visited visited' before after c → Left reserved left after
    → Searched reserved left marks visited visited' before after c false
unsettled k positions = record { positions = positions; found = λ e. cc; stuck = λ e. k }
