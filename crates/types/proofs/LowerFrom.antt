-- How a place gets the smallest type over the places from there on, in the positions that those before leave.
use Prim.Native.Nat.{ℕ, suc, ◌+◌, ◌-◌, ◌≤◌, ◌<◌}
use mathlib.Core.Path.{◌≡◌, refl, sym, ap, ◌∙◌}
use mathlib.Core.List.{List, [], ◌∷◌, ◌++◌, append-nil}
use mathlib.Core.Logic.{◌≢◌}
use native.Mathlib.Omega.{arith}
use lib.Dec.{eqb}
use lib.ListN.{length, get_or, set, take, drop, length-set, length-drop, drop_of_length-le, get_or-append, get_or-eq_default}
use lib.Seq.{get_or-set_same, get_or-set_other, get_or-take, get_or-drop, drop_at, take_all, length-take-le}
use borrow.Author.Tests.{eqb-true, eq-eqb}
use Rattle.lists.specs.Lists.{count_of}
use Rattle.matching.specs.Use.{one_less, Placing}
use Rattle.placing.specs.Left.{at_type, Left}
use Rattle.types.specs.Lowered.{Sealed, Reopened, Lowering, Lowered, LoweringFrom, LoweredFrom}
use Rattle.lists.proofs.Counting.{less_or, bit_same, bit_other, count_first, count_ext, count_le}
use Rattle.lists.proofs.Counts.{count_within, count_from}
use Rattle.types.proofs.LowerFront.{typed_too}

-- the places from p on
module _ (l : List ℕ) (p : ℕ) where
  pub from_at : (q : ℕ) → p ≤ q → get_or (drop p l) (q - p) 0 ≡ get_or l q 0
  from_at q m = get_or-drop p l (q - p) 0 ∙ ap (λ (k : ℕ). get_or l k 0) (omega arith)

  pub from_front : get_or (drop p l) 0 0 ≡ get_or l p 0
  from_front = get_or-drop p l 0 0 ∙ ap (λ (k : ℕ). get_or l k 0) (omega arith)

  from_whole : take (length l - p) (drop p l) ≡ drop p l
  from_whole = take_all (length l - p) (drop p l) (omega (arith, length-drop p l))

  -- those at a type are those before p and those from p on
  pub from_count : (t : ℕ) → p ≤ length l → at_type l t ≡ count_of p (λ q. eqb (get_or l q 0) (suc t)) + at_type (drop p l) t
  from_count t m =
      count_from (length l) p (length (drop p l)) (λ q. eqb (get_or l q 0) (suc t)) (omega (arith, length-drop p l))
      ∙ ap (λ (k : ℕ). count_of p (λ q. eqb (get_or l q 0) (suc t)) + k)
      (count_ext (length (drop p l)) _ _ (λ i b. ap (λ (x : ℕ). eqb x (suc t)) (sym (get_or-drop p l i 0))))

-- a list whose places from p on are written anew, as the code leaves it
abbrev anew : ℕ → List ℕ → List ℕ → List ℕ
anew p l part = take p l ++ (part ++ drop (length l - p) (drop p l))

module _ (l part : List ℕ) (p : ℕ) (inside : p ≤ length l) where
  anew_above : (q : ℕ) → q < p → get_or (anew p l part) q 0 ≡ get_or l q 0
  anew_above q b =
      get_or-append (take p l) (part ++ drop (length l - p) (drop p l)) 0 q (omega (arith, length-take-le p l inside)) ∙ get_or-take p l q 0 b

  anew_from : drop p (anew p l part) ≡ part
  anew_from =
      drop_at (take p l) (part ++ drop (length l - p) (drop p l)) p (length-take-le p l inside)
      ∙ ap (λ (x : List ℕ). part ++ x) (drop_of_length-le (drop p l) {i = length l - p} (omega (arith, length-drop p l))) ∙ append-nil part

-- the positions that the places before p leave: a placing is one of the places from p on in these
pub positions_from : {reserved room : List ℕ} (marks l : List ℕ) (p : ℕ) → length room ≡ length reserved → p ≤ length marks → Placing reserved marks l
    → ((t : ℕ) → t < length reserved → get_or room t 0 + count_of p (λ q. eqb (get_or l q 0) (suc t)) ≡ get_or reserved t 0) → Placing room (drop p marks) (drop p l)
positions_from {reserved} {room} marks l p sizes inside h counted = record {
  each = omega (arith, length-drop p l, length-drop p marks, h.each);
  held = λ i t b e.
      let (low, own) = h.held (p + i) t (omega (arith, length-drop p marks)) (sym (get_or-drop p l i 0) ∙ e) in
      (omega arith, rw (get_or-drop p marks i 0) own);
  within = λ t b.
      let low : t < length reserved = omega arith in
      omega (arith, h.within t low, counted t low, from_count l p t (omega (arith, h.each)));
}

-- what all leave of the positions is what the places from p on leave of these
pub left_from : {reserved room left : List ℕ} (l : List ℕ) (p : ℕ) → length room ≡ length reserved → p ≤ length l
    → ((t : ℕ) → t < length reserved → get_or room t 0 + count_of p (λ q. eqb (get_or l q 0) (suc t)) ≡ get_or reserved t 0) → Left reserved left l → Left room left (drop p l)
left_from l p sizes inside counted h = record {
  each = omega (arith, h.each);
  value = λ t b. omega (arith, h.value t (omega arith), counted t (omega arith), from_count l p t inside);
}

-- without the front place, those at a type are those from place 1 on
front_off : (l : List ℕ) (t : ℕ) → at_type (set l 0 0) t ≡ at_type (drop 1 l) t
front_off [] t = refl
front_off (x ∷ l) t =
    omega (arith, count_first (length l) (λ q. eqb (get_or (0 ∷ l) q 0) (suc t)), bit_other 0 (suc t) (λ z. omega arith))

-- what is exhausted without the front place is so for the places from 1 on, with fewer positions too
pub sealed_rest : {room room' exhausted : List ℕ} (marks l : List ℕ) → Sealed room marks (set l 0 0) exhausted → length room' ≡ length room
    → ((t : ℕ) → t < length room → get_or room' t 0 ≤ get_or room t 0) → Sealed room' (drop 1 marks) (drop 1 l) exhausted
sealed_rest {room} {room'} marks l s sizes fewer = record {
  full = λ t v.
      less_or t (length room) (λ b. omega (arith, fewer t b, s.full t v, front_off l t))
      (λ b. let z : get_or room' t 0 ≡ 0 = get_or-eq_default room' 0 (omega arith) in omega arith);
  closed = λ q t u v e b h.
      s.closed (1 + q) t u v (get_or-set_other l 0 (1 + q) 0 0 (λ z. omega arith) ∙ sym (get_or-drop 1 l q 0) ∙ e) (omega arith)
      (rw (get_or-drop 1 marks q 0) at h);
}

-- where the type of the front place is not exhausted, what is exhausted is so without the front place
sealed_without : {room marks l exhausted exhausted' : List ℕ} {u : ℕ} → Sealed room marks l exhausted → Reopened exhausted exhausted' u → get_or l 0 0 ≡ suc u
    → 0 < length l → Sealed room marks (set l 0 0) exhausted'
sealed_without {room} {marks} {l} {exhausted} {exhausted'} {u} s reopened at inside = record {
  full = λ t v. omega (arith, s.full t (before t v), no_fewer t v);
  closed = λ q t w v e b h.
      rw (reopened.others t v) (s.closed q t w (before t v) (sym (get_or-set_other l 0 q 0 0 (away q t e)) ∙ e) b h);
}
  where
    before : (t : ℕ) → 0 < get_or exhausted' t 0 → 0 < get_or exhausted t 0
    before t v = rw (reopened.others t v) at v

    away : (q t : ℕ) → get_or (set l 0 0) q 0 ≡ suc t → q ≢ 0
    away q t e same = omega (arith, get_or-set_same l 0 0 0 inside, rw same at e)

    other : (q t : ℕ) → 0 < get_or exhausted' t 0 → get_or l q 0 ≡ suc t → q ≢ 0
    other q t v e same =
        let equal : t ≡ u = omega (arith, rw same at e) in
        omega (arith, reopened.freed, rw equal at v)

    no_fewer : (t : ℕ) → 0 < get_or exhausted' t 0 → at_type l t ≤ at_type (set l 0 0) t
    no_fewer t v =
        rw (length-set l 0 0)
        (count_le (length l) (λ q. eqb (get_or l q 0) (suc t)) (λ q. eqb (get_or (set l 0 0) q 0) (suc t))
        (λ q b e. eq-eqb _ _ (get_or-set_other l 0 q 0 0 (other q t v (eqb-true _ _ e)) ∙ eqb-true _ _ e)))

-- the type of the front place has a position
pub front_position : {room marks l : List ℕ} → Placing room marks l → 0 < length marks → (t : ℕ) → get_or l 0 0 ≡ suc t → 0 < get_or room t 0
front_position {l = l} h inside t e =
    omega (
      arith,
      h.within t (h.held 0 t inside e).0,
      count_within 1 (length l) (λ q. eqb (get_or l q 0) (suc t)) (omega (arith, h.each)),
      bit_same (get_or l 0 0) (suc t) e,
    )

-- how place p gets the smallest type, by what the places from p on have
module _ {room left marks placed exhausted : List ℕ} {p : ℕ} (s : LoweringFrom room left marks placed exhausted p) where
  fits : p < length placed
  fits = omega (arith, s.each, s.within)

  -- the type that it has, from 0
  pub front_small : get_or placed p 0 - 1 < 8
  front_small =
      omega (
        arith,
        s.few,
        (s.placing.held 0 (get_or placed p 0 - 1) (omega (arith, s.within, length-drop p marks)) (omega (arith, s.some, from_front placed p))).0,
      )

  pub lowering : {exhausted' : List ℕ} {u : ℕ} → Reopened exhausted exhausted' u → get_or placed p 0 ≡ suc u → length exhausted' ≡ length exhausted
      → Lowering room left (take (length marks - p) (drop p marks)) (take (length placed - p) (drop p placed)) exhausted'
  lowering reopened at kept = rw (from_whole marks p, from_whole placed p) record {
    few = s.few;
    placing = s.placing;
    positions = s.positions;
    within = omega (arith, s.within, length-drop p marks);
    some = rw (from_front placed p) s.some;
    types = kept ∙ s.types;
    sealed = sealed_without s.sealed reopened (from_front placed p ∙ at) (omega (arith, fits, length-drop p placed));
  }

  module _ {left' part after exhausted' : List ℕ}
      (parts : Lowered room left' (take (length marks - p) (drop p marks)) part (take (length placed - p) (drop p placed)) after exhausted') where
    from_there : Lowered room left' (drop p marks) part (drop p placed) after exhausted'
    from_there = rw (← from_whole marks p, ← from_whole placed p) parts

    front : get_or (anew p placed after) p 0 ≡ get_or after 0 0
    front = sym (from_front (anew p placed after) p) ∙ ap (λ (x : List ℕ). get_or x 0 0) (anew_from placed after p (omega (arith, fits)))

    pub some_type : 0 < get_or (anew p placed after) p 0
    some_type = rw front (typed_too after (drop p placed) from_there.same 0 (rw (from_front placed p) s.some))

    -- its type is one of those, and has a position
    pub type_there : get_or (anew p placed after) p 0 - 1 < length room
    type_there =
        (from_there.placing.held 0 (get_or (anew p placed after) p 0 - 1) (omega (arith, s.within, length-drop p marks)) (omega (arith, some_type, front))).0

    pub position_there : (x : ℕ) → x ≡ get_or (anew p placed after) p 0 → 0 < get_or room (x - 1) 0
    position_there x e =
        front_position from_there.placing (omega (arith, s.within, length-drop p marks)) (x - 1) (omega (arith, some_type, front))

    pub lowered_from : (x : ℕ) → x ≡ get_or (anew p placed after) p 0
        → LoweredFrom room (set room (x - 1) (get_or room (x - 1) 0 - 1)) left' marks (anew p marks part) placed (anew p placed after) exhausted' p
    unfolding one_less
    lowered_from x e = record {
      above = anew_above placed after p (omega (arith, fits));
      lowered = rw (anew_from marks part p (omega (arith, s.within)), anew_from placed after p (omega (arith, fits))) from_there;
      less = rw e refl;
    }
