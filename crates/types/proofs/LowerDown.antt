-- How one place after the other gets the smallest type, down to the first placing.
use Prim.Native.Nat.{ℕ, suc, ◌+◌, ◌-◌, ◌≤◌, ◌<◌}
use mathlib.Core.Path.{◌≡◌, refl, sym, ap, subst, ◌∙◌}
use mathlib.Core.Bool.{true}
use mathlib.Core.List.{List, ◌++◌}
use mathlib.Core.Logic.{◌≢◌}
use native.Mathlib.Omega.{arith}
use native.Mathlib.Numerals.{add-one}
use lib.Dec.{eqb, ltb}
use lib.ListN.{length, get_or, set, take, drop, length-drop, get_or-eq_default}
use lib.Seq.{set-get_or, get_or-drop, drop-drop, take_at, ext_get_or, length-take-le, length_front}
use borrow.Author.Tests.{lt-ltb, ltb-true}
use Rattle.lists.specs.Lists.{count_of}
use Rattle.matching.specs.Use.{one_less, Placing}
use Rattle.placing.specs.Left.{Left}
use Rattle.matching.specs.FirstPlacing.{SameTyped}
use Rattle.types.specs.Lowered.{Sealed, Lowered, LoweringFrom, LoweredFrom, PlacedFirst}
use Rattle.lists.proofs.Counting.{less_or, same_or, bit_same, bit_other, count_ext}
use Rattle.matching.proofs.Use.{one_less_length, one_less_same, one_less_other, one_less_le}
use Rattle.matching.proofs.FirstPlacing.{types_first}
use Rattle.types.proofs.LowerFrom.{from_at, from_front, from_count, positions_from, left_from, sealed_rest, front_position}

-- the front of a list, written anew
pub front_written : {whole : List ℕ} (n : ℕ) (l part : List ℕ) → whole ≡ part ++ drop n l → length part ≡ length (take n l) → n ≤ length l
    → (take n whole ≡ part) × (length whole ≡ length l)
front_written n l part e sized within =
    rw e (take_at part (drop n l) n (sized ∙ length-take-le n l within), length_front l part n sized)

-- where the way down stands at place p: those above have their smallest types; room is what they leave of the positions, left is what all
-- leave, and what is exhausted is so for the places from p on, whose marks are their own
pub record LoweredTo (reserved marks before room left held placed exhausted : List ℕ) (p : ℕ) : Type 0 where
  pub placing : Placing reserved marks placed
  pub positions : Left reserved left placed
  pub same : SameTyped placed before
  pub as_many : length room ≡ length reserved
  pub counted : (t : ℕ) → t < length reserved → get_or room t 0 + count_of p (λ q. eqb (get_or placed q 0) (suc t)) ≡ get_or reserved t 0
  pub types : length exhausted ≡ 8
  pub sealed : Sealed room (drop p marks) (drop p placed) exhausted
  pub each : length held ≡ length marks
  pub rest : (q : ℕ) → p ≤ q → get_or held q 0 ≡ get_or marks q 0
  pub smallest : (others : List ℕ) → Placing reserved marks others → SameTyped others before → (i : ℕ) → i < p
      → ((k : ℕ) → k < i → get_or placed k 0 ≡ get_or others k 0) → get_or placed i 0 ≤ get_or others i 0

-- how the way down begins, goes on and ends
module _ (reserved marks before : List ℕ) where
  -- all places are passed
  pub lowered_all : {room left held placed exhausted : List ℕ} {p : ℕ} → LoweredTo reserved marks before room left held placed exhausted p → p ≡ length marks
      → PlacedFirst true reserved marks before placed
  lowered_all {placed = placed} {p = p} k end = record {
    same = k.same;
    types = λ e. types_first reserved marks before placed record {
      placing = k.placing;
      same = k.same;
      smallest = λ others h alike i same.
          less_or i p (λ l. k.smallest others h alike i l same)
          (λ l. let z : get_or placed i 0 ≡ 0 = get_or-eq_default placed 0 (omega (arith, k.placing.each)) in omega arith);
    };
  }

  module _ {room left held placed exhausted : List ℕ} {p : ℕ} (k : LoweredTo reserved marks before room left held placed exhausted p) (inside : p < length marks) where
    own : drop p held ≡ drop p marks
    own =
        ext_get_or 0 (drop p held) (drop p marks) (omega (arith, length-drop p held, length-drop p marks, k.each))
        (λ q l. get_or-drop p held q 0 ∙ k.rest (p + q) (omega arith) ∙ sym (get_or-drop p marks q 0))

    -- where place p has a type, it may get a smaller one
    pub lowering_from : length reserved ≤ 8 → get_or placed p 0 ≢ 0 → LoweringFrom room left held placed exhausted p
    lowering_from few some = record {
      few = omega (arith, k.as_many);
      each = k.placing.each ∙ sym k.each;
      placing = rw own (positions_from marks placed p k.as_many (omega arith) k.placing k.counted);
      positions = left_from placed p k.as_many (omega (arith, k.placing.each)) k.counted k.positions;
      within = omega (arith, k.each);
      some = omega arith;
      types = k.types;
      sealed = rw own k.sealed;
    }

    -- place p is passed where it has no type ..
    pub lowered_none : get_or placed p 0 ≡ 0 → LoweredTo reserved marks before room left held placed exhausted (p + 1)
    lowered_none untyped = record {
      placing = k.placing;
      positions = k.positions;
      same = k.same;
      as_many = k.as_many;
      counted = λ t l. rw add-one (omega (arith, k.counted t l, bit_other (get_or placed p 0) (suc t) (λ e. omega arith)));
      types = k.types;
      sealed = rw (← drop-drop 1 p marks, ← drop-drop 1 p placed) (sealed_rest (drop p marks) (drop p placed) out refl (λ t b. omega arith));
      each = k.each;
      rest = λ q l. k.rest q (omega arith);
      smallest = λ others h alike i l same.
          same_or i p (λ at. rw (at, untyped) (omega arith)) (λ other. k.smallest others h alike i (omega arith) same);
    }
      where
        out : Sealed room (drop p marks) (set (drop p placed) 0 0) exhausted
        out =
            subst (λ (x : List ℕ). Sealed room (drop p marks) x exhausted)
            (sym (ap (λ (x : ℕ). set (drop p placed) 0 x) (sym (from_front placed p ∙ untyped)) ∙ set-get_or (drop p placed) 0 0)) k.sealed

    -- .. and where it has got the smallest
    module _ {room' left' held' after exhausted' : List ℕ} (w : LoweredFrom room room' left' held held' placed after exhausted' p) (some : get_or placed p 0 ≢ 0) where
      of_own : Lowered room left' (drop p marks) (drop p held') (drop p placed) (drop p after) exhausted'
      of_own = rw (← own) w.lowered

      new_each : length after ≡ length marks
      new_each = omega (arith, of_own.placing.each, length-drop p after, length-drop p marks)

      count_above : (t : ℕ) → count_of p (λ q. eqb (get_or after q 0) (suc t)) ≡ count_of p (λ q. eqb (get_or placed q 0) (suc t))
      count_above t = count_ext p _ _ (λ q l. ap (λ (x : ℕ). eqb x (suc t)) (w.above q l))

      new_placing : Placing reserved marks after
      new_placing = record {
        each = new_each;
        held = λ q t l e.
            less_or q p (λ above. k.placing.held q t l (sym (w.above q above) ∙ e))
            (λ m.
            let (low, has) = of_own.placing.held (q - p) t (omega (arith, length-drop p marks)) (from_at after p q m ∙ e) in
            (omega (arith, k.as_many), rw (← from_at marks p q m) has));
        within = λ t l.
            omega (arith, of_own.placing.within t (omega (arith, k.as_many)), k.counted t l, count_above t, from_count after p t (omega (arith, new_each)));
      }

      new_positions : Left reserved left' after
      new_positions = record {
        each = omega (arith, of_own.positions.each, k.as_many);
        value = λ t l.
            omega (arith, of_own.positions.value t (omega (arith, k.as_many)), k.counted t l, count_above t, from_count after p t (omega (arith, new_each)));
      }

      new_same : SameTyped after before
      new_same q =
          less_or q p (λ above. rw (w.above q above) (k.same q))
          (λ m. ap (ltb 0) (sym (from_at after p q m)) ∙ of_own.same (q - p) ∙ ap (ltb 0) (from_at placed p q m) ∙ k.same q)

      new_smallest : (others : List ℕ) → Placing reserved marks others → SameTyped others before → (i : ℕ) → i < p + 1
          → ((k : ℕ) → k < i → get_or after k 0 ≡ get_or others k 0) → get_or after i 0 ≤ get_or others i 0
      new_smallest others h alike i l agree =
          same_or i p
          (λ same.
          rw (same, ← from_front after p, ← from_front others p) (of_own.least (drop p others) (there (λ q b. agree q (omega arith))) also))
          (λ other. rw (w.above i (omega arith)) (k.smallest others h alike i (omega arith) (λ j m. sym (w.above j (omega arith)) ∙ agree j m)))
        where
          -- a placing that agrees with this one above p is one of the places from p on in what is left
          there : ((q : ℕ) → q < p → get_or after q 0 ≡ get_or others q 0) → Placing room (drop p marks) (drop p others)
          there same =
              positions_from marks others p k.as_many (omega arith) h
              (λ t b.
              omega (
                arith,
                k.counted t b,
                count_ext p (λ q. eqb (get_or others q 0) (suc t)) (λ q. eqb (get_or placed q 0) (suc t))
                    (λ q m. ap (λ (x : ℕ). eqb x (suc t)) (sym (same q m) ∙ w.above q m)),
              ))

          also : SameTyped (drop p others) (drop p placed)
          also q = rw (get_or-drop p others q 0, get_or-drop p placed q 0) (alike (p + q) ∙ sym (k.same (p + q)))

      typed : 0 < get_or after p 0
      typed = ltb-true 0 _ (new_same p ∙ sym (k.same p) ∙ lt-ltb 0 (get_or placed p 0) (omega arith))

      -- one position of the type that p has, from 0, is gone
      new_counted : (u t : ℕ) → get_or after p 0 ≡ suc u → t < length reserved → get_or (one_less room u) t 0 + count_of (suc p) (λ q. eqb (get_or after q 0) (suc t)) ≡ get_or reserved t 0
      new_counted u t at l =
          same_or t u
          (λ same.
          let low : u < length reserved = omega arith in
          rw same
          (omega (
            arith,
            one_less_same room u (omega (arith, k.as_many)),
            k.counted u low,
            count_above u,
            bit_same (get_or after p 0) (suc u) at,
            front_position of_own.placing (omega (arith, length-drop p marks)) u (from_front after p ∙ at),
          )))
          (λ other.
          omega (arith, one_less_other room u t other, k.counted t l, count_above t, bit_other (get_or after p 0) (suc t) (λ e. other (omega arith))))

      pub lowered_one : length held' ≡ length held → length exhausted' ≡ length exhausted → LoweredTo reserved marks before room' left' held' after exhausted' (p + 1)
      lowered_one sized kept = rw w.less record {
        placing = new_placing;
        positions = new_positions;
        same = new_same;
        as_many = one_less_length room (get_or after p 0 - 1) ∙ k.as_many;
        counted = λ t l. rw add-one (new_counted (get_or after p 0 - 1) t (omega (arith, typed)) l);
        types = kept ∙ k.types;
        sealed =
            rw (← drop-drop 1 p marks, ← drop-drop 1 p after)
            (sealed_rest (drop p marks) (drop p after) of_own.sealed (one_less_length room (get_or after p 0 - 1)) (one_less_le room (get_or after p 0 - 1)));
        each = sized ∙ k.each;
        rest = λ q l.
            sym (from_at held' p q (omega arith)) ∙ w.lowered.others (q - p) (omega arith) ∙ from_at held p q (omega arith) ∙ k.rest q (omega arith);
        smallest = new_smallest;
      }
