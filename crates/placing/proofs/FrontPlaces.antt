-- The places before an end, where nobody from there on has a type: what a search says of them it says of all places.
use Prim.Native.Nat.{ℕ, suc, ◌+◌, ◌-◌, ◌≤◌, ◌<◌}
use mathlib.Core.Path.{◌≡◌, sym, ap, ◌∙◌}
use mathlib.Core.Bool.{Bool}
use mathlib.Core.List.{List, ◌++◌}
use native.Mathlib.Omega.{arith}
use lib.Dec.{eqb}
use lib.ListN.{length, get_or, take, drop, take-append-drop, get_or-append, get_or-eq_default}
use lib.Seq.{get_or-take, get_or-drop, get_or-append-add, length-take-le, length_front}
use borrow.Author.Tests.{ne_eqb}
use Rattle.matching.specs.Use.{Placing}
use Rattle.placing.specs.Left.{at_type, Left}
use Rattle.placing.specs.Search.{Searching, Moved, Stuck}
use Rattle.placing.specs.Taken.{Attempted}
use Rattle.lists.proofs.Counting.{less_or, count_ext}
use Rattle.lists.proofs.Counts.{count_rest}

-- of two lists with the same type at every place, one has no more at a type than the other
no_more : (l m : List ℕ) → ((q : ℕ) → get_or l q 0 ≡ get_or m q 0) → (t : ℕ) → at_type m t ≤ at_type l t
no_more l m same t =
    omega (
      arith,
      count_rest (length l) (length m) (λ q. eqb (get_or m q 0) (suc t))
          (λ q b. let none : get_or l q 0 ≡ 0 = get_or-eq_default l 0 b in ne_eqb (get_or m q 0) (suc t) (λ e. omega (arith, same q))),
      count_ext (length l) (λ q. eqb (get_or l q 0) (suc t)) (λ q. eqb (get_or m q 0) (suc t)) (λ q b. ap (λ (x : ℕ). eqb x (suc t)) (same q)),
    )

-- what holds of a list holds of one with the same type at every place
module _ (l m : List ℕ) (same : (q : ℕ) → get_or l q 0 ≡ get_or m q 0) where
  as_many_at : (t : ℕ) → at_type l t ≡ at_type m t
  as_many_at t = omega (arith, no_more l m same t, no_more m l (λ q. sym (same q)) t)

  left_alike : {reserved left : List ℕ} → Left reserved left l → Left reserved left m
  left_alike k = record { each = k.each; value = λ t b. omega (arith, k.value t b, as_many_at t) }

  placing_alike : {reserved marks marks' : List ℕ} → Placing reserved marks l → length m ≡ length marks'
      → ((q t : ℕ) → get_or l q 0 ≡ suc t → (q < length marks) × (get_or marks q 0 ≡ get_or marks' q 0)) → Placing reserved marks' m
  placing_alike k each held = record {
    each = each;
    held = λ q t b e.
        let typed = same q ∙ e in
        let (inside, alike) = held q t typed in
        let (low, has) = k.held q t inside typed in
        (low, rw (← alike) has);
    within = λ t b. omega (arith, k.within t b, as_many_at t);
  }

module _ {reserved marks placed : List ℕ} (k : Placing reserved marks placed) (end : ℕ) (within : end ≤ length marks)
    (rest : (q : ℕ) → end ≤ q → get_or placed q 0 ≡ 0) where
  marks_each : length (take end marks) ≡ end
  marks_each = length-take-le end marks within

  front_each : length (take end placed) ≡ end
  front_each = length-take-le end placed (omega (arith, k.each))

  -- each place has the same type in the front, where those beyond its end have none
  front_same : (q : ℕ) → get_or placed q 0 ≡ get_or (take end placed) q 0
  front_same q =
      less_or q end (λ b. sym (get_or-take end placed q 0 b))
      (λ b. rest q b ∙ sym (get_or-eq_default (take end placed) 0 (omega (arith, front_each))))

  -- who has a type is before the end
  typed_below : (q t : ℕ) → get_or placed q 0 ≡ suc t → q < end
  typed_below q t e = less_or q end (λ b. b) (λ b. absurd (omega (arith, rest q b)))

  pub searching_front : {left exhausted : List ℕ} {p : ℕ} → Left reserved left placed → length reserved ≤ 8 → length exhausted ≡ 8 → p < end → get_or placed p 0 ≡ 0
      → Searching reserved left (take end marks) (take end placed) exhausted p
  searching_front {p = p} positions few types inside none = record {
    few = few;
    types = types;
    within = omega (arith, marks_each);
    placing = placing_alike placed (take end placed) front_same k (front_each ∙ sym marks_each)
        (λ q t e. let b = typed_below q t e in (omega arith, sym (get_or-take end marks q 0 b)));
    away = λ t e. absurd (omega (arith, front_same p));
    positions = left_alike placed (take end placed) front_same positions;
  }

  -- what a search before the end leaves there, and the places from the end on
  module _ (part : List ℕ) (sized : length part ≡ length (take end placed)) where
    abbrev whole : List ℕ
    whole = part ++ drop end placed

    part_each : length part ≡ end
    part_each = sized ∙ front_each

    -- each place has the same type in the whole
    back_same : (q : ℕ) → get_or part q 0 ≡ get_or whole q 0
    back_same q =
        less_or q end (λ b. sym (get_or-append part (drop end placed) 0 q (omega (arith, part_each))))
        (λ b.
        let at : q ≡ length part + (q - end) = omega (arith, part_each) in
        get_or-eq_default part 0 (omega (arith, part_each))
        ∙ sym
        (ap (λ (i : ℕ). get_or whole i 0) at
        ∙ get_or-append-add part (drop end placed) (q - end) 0
        ∙ get_or-drop end placed (q - end) 0
        ∙ rest (end + (q - end)) (omega arith)))

    part_below : (q t : ℕ) → get_or part q 0 ≡ suc t → q < end
    part_below q t e =
        less_or q end (λ b. b)
        (λ b. let none : get_or part q 0 ≡ 0 = get_or-eq_default part 0 (omega (arith, part_each)) in absurd (omega arith))

    moved_all : {exhausted : List ℕ} {p : ℕ} → Moved reserved (take end marks) exhausted (take end placed) part p → Moved reserved marks exhausted placed whole p
    moved_all {p = p} m = record {
      placing = placing_alike part whole back_same m.placing (length_front placed part end sized ∙ k.each)
          (λ q t e. let b = part_below q t e in (omega (arith, marks_each), get_or-take end marks q 0 b));
      reached = omega (arith, m.reached, back_same p);
      ends = record {
        last = m.ends.last;
        below = m.ends.below;
        counts = λ t. rw (front_same p) (omega (arith, m.ends.counts t, as_many_at part whole back_same t, as_many_at placed (take end placed) front_same t));
      };
      kept = λ q b. omega (arith, back_same q, m.kept q (omega (arith, front_same q)));
      apart = λ q other e. sym (back_same q) ∙ m.apart q other (sym (front_same q) ∙ e);
      stays = λ q t other v e. sym (back_same q) ∙ m.stays q t other v (sym (front_same q) ∙ e);
      comes = λ q t v e. let (was, other) = m.comes q t v (back_same q ∙ e) in (front_same q ∙ was, other);
    }

    stuck_all : {exhausted exhausted' : List ℕ} {p : ℕ} → p < end → Stuck reserved (take end marks) exhausted exhausted' (take end placed) part p
        → Stuck reserved marks exhausted exhausted' placed whole p
    stuck_all {p = p} inside s = record {
      same = ap (λ (x : List ℕ). x ++ drop end placed) s.same ∙ take-append-drop end placed;
      more = s.more;
      full = λ t v z. omega (arith, s.full t v z, as_many_at placed (take end placed) front_same t);
      closed = λ q t u v z e b h. s.closed q t u v z (sym (front_same q) ∙ e) b (rw (get_or-take end marks q 0 (typed_below q t e)) h);
      own = λ u b h. s.own u b (rw (get_or-take end marks p 0 inside) h);
    }

    pub attempted_all : {left left' exhausted exhausted' : List ℕ} {p : ℕ} {r : Bool} → p < end
        → Attempted reserved left left' (take end marks) exhausted exhausted' (take end placed) part p r
        → Attempted reserved left left' marks exhausted exhausted' placed whole p r
    attempted_all inside a = record {
      positions = left_alike part whole back_same a.positions;
      found = λ e. moved_all (a.found e);
      one = λ e none. a.one e (sym (front_same _) ∙ none);
      spared = a.spared;
      stuck = λ e. stuck_all inside (a.stuck e);
    }
