-- The use of a set of candidates is the greatest number of them that can be placed, as document 01 says; and how it
-- changes with one more candidate.
use Prim.Native.Nat.{ℕ, zero, suc, ◌+◌, ◌-◌, ◌≤◌, ◌<◌, max}
use mathlib.Core.Path.{◌≡◌, refl, sym, ap, ◌∙◌}
use mathlib.Core.Bool.{true, false, cond, ◌&&◌}
use mathlib.Core.List.{List, [], ◌∷◌}
use mathlib.Core.Logic.{◌≢◌}
use native.Mathlib.Omega.{arith}
use lib.Dec.{eqb, ltb}
use lib.ListN.{length, get_or, length-set}
use lib.Seq.{get_or-set_same, get_or-set_other}
use borrow.Author.Tests.{ltb-true, ltb-false, lt-ltb, le-ltb}
use Rattle.lists.specs.Lists.{bit, count_of, list_sum, greatest_of}
use Rattle.lists.proofs.Words.{and_fst, and_snd}
use Rattle.lists.specs.Numbers.{holds}
use Rattle.matching.specs.Use.{one_less, use_of, Placing, placed_in}
use Rattle.matching.specs.ForUse.{raises}
use Rattle.lists.proofs.Counting.{test, less_or, same_or, bit_true, bit_false, bit_same, bit_other, count_first}
use Rattle.lists.proofs.Counting.{greatest_above, greatest_below, greatest_reached, sum_less}

pub one_less_length : (reserved : List ℕ) (t : ℕ) → length (one_less reserved t) ≡ length reserved
unfolding one_less
one_less_length reserved t = length-set reserved t _

pub one_less_same : (reserved : List ℕ) (t : ℕ) → t < length reserved → get_or (one_less reserved t) t 0 ≡ get_or reserved t 0 - 1
unfolding one_less
one_less_same reserved t l = get_or-set_same reserved t _ 0 l

pub one_less_other : (reserved : List ℕ) (t u : ℕ) → u ≢ t → get_or (one_less reserved t) u 0 ≡ get_or reserved u 0
unfolding one_less
one_less_other reserved t u n = get_or-set_other reserved t u _ 0 n

pub one_less_le : (reserved : List ℕ) (t u : ℕ) → u < length reserved → get_or (one_less reserved t) u 0 ≤ get_or reserved u 0
one_less_le reserved t u l =
    same_or u t
    (λ u≡t. rw u≡t (omega (arith, one_less_same reserved t (omega arith))))
    (λ u≢t. omega (arith, one_less_other reserved t u u≢t))

one_less_sum : (reserved : List ℕ) (t : ℕ) → 0 < get_or reserved t 0 → suc (list_sum (one_less reserved t)) ≡ list_sum reserved
unfolding one_less
one_less_sum reserved t h = sum_less reserved t h

-- how many are given type t
abbrev pub given_type : List ℕ → ℕ → ℕ
given_type types t = count_of (length types) (λ i. eqb (get_or types i 0) (suc t))

pub given_type_cons : (x : ℕ) (types : List ℕ) (t : ℕ) → given_type (x ∷ types) t ≡ bit (eqb x (suc t)) + given_type types t
given_type_cons x types t = count_first (length types) (λ i. eqb (get_or (x ∷ types) i 0) (suc t))

pub placed_in_cons : (x : ℕ) (types : List ℕ) → placed_in (x ∷ types) ≡ bit (ltb 0 x) + placed_in types
unfolding placed_in
placed_in_cons x types = count_first (length types) (λ i. ltb 0 (get_or (x ∷ types) i 0))

-- the first is left out
pub placing_none : (reserved : List ℕ) (m : ℕ) (marks types : List ℕ) → Placing reserved marks types → Placing reserved (m ∷ marks) (0 ∷ types)
placing_none reserved m marks types p = record {
  each = omega arith;
  held = held;
  within = λ t l. omega (arith, p.within t l, given_type_cons 0 types t, bit_other 0 (suc t) (omega arith));
}
  where
    held : (i t : ℕ) → i < length (m ∷ marks) → get_or (0 ∷ types) i 0 ≡ suc t → (t < length reserved) × (holds (get_or (m ∷ marks) i 0) t ≡ true)
    held zero t l e = absurd (omega arith)
    held (suc i) t l e = p.held i t (omega arith) e

-- the first is given type t, the others what is left
pub placing_some : (reserved : List ℕ) (m : ℕ) (marks types : List ℕ) (t : ℕ) → t < length reserved → holds m t ≡ true → 0 < get_or reserved t 0
    → Placing (one_less reserved t) marks types → Placing reserved (m ∷ marks) (suc t ∷ types)
placing_some reserved m marks types t l h r p = record {
  each = omega arith;
  held = held;
  within = λ u k. same_or u t (same u k) (other u k);
}
  where
    held : (i u : ℕ) → i < length (m ∷ marks) → get_or (suc t ∷ types) i 0 ≡ suc u → (u < length reserved) × (holds (get_or (m ∷ marks) i 0) u ≡ true)
    held zero u k e =
        let t≡u : t ≡ u = omega arith in
        (omega arith, rw (← t≡u) h)
    held (suc i) u k e = rw (one_less_length reserved t) at (p.held i u (omega arith) e)

    same : (u : ℕ) → u < length reserved → u ≡ t → given_type (suc t ∷ types) u ≤ get_or reserved u 0
    same u k u≡t =
        rw u≡t
        (let k' : t < length (one_less reserved t) = omega (arith, one_less_length reserved t) in
        omega (arith, p.within t k', one_less_same reserved t l, given_type_cons (suc t) types t, bit_same (suc t) (suc t) refl))

    other : (u : ℕ) → u < length reserved → u ≢ t → given_type (suc t ∷ types) u ≤ get_or reserved u 0
    other u k u≢t =
        let k' : u < length (one_less reserved t) = omega (arith, one_less_length reserved t) in
        omega (arith, p.within u k', one_less_other reserved t u u≢t, given_type_cons (suc t) types u, bit_other (suc t) (suc u) (omega arith))

-- the placing of the others, where the first is left out
pub placing_rest_none : (reserved : List ℕ) (m : ℕ) (marks types : List ℕ) → Placing reserved (m ∷ marks) (0 ∷ types) → Placing reserved marks types
placing_rest_none reserved m marks types p = record {
  each = omega (arith, p.each);
  held = λ i t l e. p.held (suc i) t (omega arith) e;
  within = λ t l. omega (arith, p.within t l, given_type_cons 0 types t);
}

-- the placing of the others, where the first is given type t
pub placing_rest_some : (reserved : List ℕ) (m : ℕ) (marks types : List ℕ) (t : ℕ) → Placing reserved (m ∷ marks) (suc t ∷ types)
    → (t < length reserved) × (holds m t ≡ true) × (0 < get_or reserved t 0) × Placing (one_less reserved t) marks types
placing_rest_some reserved m marks types t p = (
  first.0,
  first.1,
  omega (arith, at_t),
  record {
    each = omega (arith, p.each);
    held = λ i u l e. rw (one_less_length reserved t) (p.held (suc i) u (omega arith) e);
    within = λ u k. within u (omega (arith, one_less_length reserved t));
  },
)
  where
    first : (t < length reserved) × (holds m t ≡ true)
    first = p.held 0 t (omega arith) refl

    at_t : suc (given_type types t) ≤ get_or reserved t 0
    at_t = omega (arith, p.within t first.0, given_type_cons (suc t) types t, bit_same (suc t) (suc t) refl)

    within : (u : ℕ) → u < length reserved → given_type types u ≤ get_or (one_less reserved t) u 0
    within u k =
        same_or u t
        (λ u≡t. rw u≡t (omega (arith, at_t, one_less_same reserved t first.0)))
        (λ u≢t. omega (arith, one_less_other reserved t u u≢t, p.within u k, given_type_cons (suc t) types u))

-- with one position more a placing is a placing
placing_more : (reserved marks types : List ℕ) (t : ℕ) → Placing (one_less reserved t) marks types → Placing reserved marks types
placing_more reserved marks types t p = record {
  each = p.each;
  held = λ i u l e. rw (one_less_length reserved t) at (p.held i u l e);
  within = λ u l. omega (arith, one_less_le reserved t u l, p.within u (omega (arith, one_less_length reserved t)));
}

-- the use of the first and the others, where the first is given type t; 0 where it cannot be
abbrev giving : List ℕ → ℕ → List ℕ → ℕ → ℕ
giving reserved m others t = let one_more = suc (use_of (one_less reserved t) others) in cond (holds m t && ltb 0 (get_or reserved t 0)) one_more 0

giving_can : (reserved : List ℕ) (m : ℕ) (others : List ℕ) (t : ℕ) → holds m t ≡ true → 0 < get_or reserved t 0
    → giving reserved m others t ≡ suc (use_of (one_less reserved t) others)
giving_can reserved m others t h r = rw (h, lt-ltb 0 (get_or reserved t 0) r)

giving_cases : (reserved : List ℕ) (m : ℕ) (others : List ℕ) (t : ℕ) → 0 < giving reserved m others t → (holds m t ≡ true) × (0 < get_or reserved t 0)
giving_cases reserved m others t h =
    test (holds m t && ltb 0 (get_or reserved t 0))
    (λ e. (and_fst _ _ e, ltb-true 0 _ (and_snd (holds m t) _ e)))
    (λ e. absurd (omega (arith, ap {B = ℕ} (λ b. cond b (suc (use_of (one_less reserved t) others)) 0) e)))

giving_below : (reserved : List ℕ) (m : ℕ) (others : List ℕ) (b : ℕ)
    → ((t : ℕ) → t < length reserved → 0 < get_or reserved t 0 → suc (use_of (one_less reserved t) others) ≤ b)
    → greatest_of (length reserved) (giving reserved m others) ≤ b
giving_below reserved m others b h =
    greatest_below (length reserved) (giving reserved m others) b
    (λ t l.
    less_or 0 (giving reserved m others t)
    (λ some.
    let can : (holds m t ≡ true) × (0 < get_or reserved t 0) = giving_cases reserved m others t some in
    omega (arith, h t l can.1, giving_can reserved m others t can.0 can.1))
    (λ none. omega arith))

use_of_cons : (reserved : List ℕ) (m : ℕ) (others : List ℕ)
    → use_of reserved (m ∷ others) ≡ max (use_of reserved others) (greatest_of (length reserved) (giving reserved m others))
unfolding use_of
use_of_cons reserved m others = refl

abbrev Reached : List ℕ → List ℕ → Type 0
Reached reserved marks = (types : List ℕ) × Placing reserved marks types × (placed_in types ≡ use_of reserved marks)

reached_some : (reserved : List ℕ) (m : ℕ) (marks : List ℕ) (t : ℕ) → t < length reserved → holds m t ≡ true → 0 < get_or reserved t 0
    → use_of reserved (m ∷ marks) ≡ giving reserved m marks t → Reached (one_less reserved t) marks → Reached reserved (m ∷ marks)
reached_some reserved m marks t l h r e rest = (
  suc t ∷ rest.0,
  placing_some reserved m marks rest.0 t l h r rest.1,
  omega (arith, rest.2, e, giving_can reserved m marks t h r, placed_in_cons (suc t) rest.0, bit_true (ltb 0 (suc t)) (lt-ltb 0 (suc t) (omega arith))),
)

pub use_reached : (reserved marks : List ℕ) → (types : List ℕ) × Placing reserved marks types × (placed_in types ≡ use_of reserved marks)
use_reached reserved [] =
    ([], record { each = refl; held = λ i t l e. absurd (omega arith); within = λ t l. omega arith }, unfold placed_in use_of in refl)
use_reached reserved (m ∷ marks) =
    less_or (use_of reserved marks) (greatest_of (length reserved) (giving reserved m marks))
    (λ more. some (greatest_reached (length reserved) (giving reserved m marks) (omega arith)) more (λ t. use_reached (one_less reserved t) marks))
    (λ most. none (use_reached reserved marks) most)
  where
    none : Reached reserved marks → greatest_of (length reserved) (giving reserved m marks) ≤ use_of reserved marks → Reached reserved (m ∷ marks)
    none rest h =
        (0 ∷ rest.0, placing_none reserved m marks rest.0 rest.1, omega (arith, rest.2, use_of_cons reserved m marks, placed_in_cons 0 rest.0, bit_false (ltb 0 0) refl))

    some : (t : ℕ) × (t < length reserved) × (giving reserved m marks t ≡ greatest_of (length reserved) (giving reserved m marks))
        → use_of reserved marks < greatest_of (length reserved) (giving reserved m marks)
        → ((t : ℕ) → Reached (one_less reserved t) marks) → Reached reserved (m ∷ marks)
    some best more rest =
        let can : (holds m best.0 ≡ true) × (0 < get_or reserved best.0 0) = giving_cases reserved m marks best.0 (omega (arith, best.2)) in
        reached_some reserved m marks best.0 best.1 can.0 can.1 (omega (arith, best.2, use_of_cons reserved m marks)) (rest best.0)

pub use_greatest : (reserved marks types : List ℕ) → Placing reserved marks types → placed_in types ≤ use_of reserved marks
use_greatest reserved [] [] p = unfold placed_in in omega arith
use_greatest reserved [] (x ∷ types) p = absurd (omega (arith, p.each))
use_greatest reserved (m ∷ marks) [] p = unfold placed_in in omega arith
use_greatest reserved (m ∷ marks) (zero ∷ types) p =
    omega (arith, use_greatest reserved marks types (placing_rest_none reserved m marks types p), use_of_cons reserved m marks, placed_in_cons 0 types)
use_greatest reserved (m ∷ marks) (suc t ∷ types) p =
    let (l, h, r, rest) = placing_rest_some reserved m marks types t p in
    omega (
      arith,
      use_greatest (one_less reserved t) marks types rest,
      use_of_cons reserved m marks,
      placed_in_cons (suc t) types,
      greatest_above (length reserved) (giving reserved m marks) t l,
      giving_can reserved m marks t h r,
      bit_true (ltb 0 (suc t)) (lt-ltb 0 (suc t) (omega arith)),
    )

pub use_of_nil : (reserved : List ℕ) → use_of reserved [] ≡ 0
unfolding use_of
use_of_nil reserved = refl

pub use_of_length : (reserved marks : List ℕ) → use_of reserved marks ≤ length marks
use_of_length reserved [] = omega (arith, use_of_nil reserved)
use_of_length reserved (m ∷ marks) =
    omega (
      arith,
      use_of_cons reserved m marks,
      use_of_length reserved marks,
      giving_below reserved m marks (suc (length marks)) (λ t l r. omega (arith, use_of_length (one_less reserved t) marks)),
    )

pub use_of_sum : (reserved marks : List ℕ) → use_of reserved marks ≤ list_sum reserved
use_of_sum reserved [] = omega (arith, use_of_nil reserved)
use_of_sum reserved (m ∷ marks) =
    omega (
      arith,
      use_of_cons reserved m marks,
      use_of_sum reserved marks,
      giving_below reserved m marks (list_sum reserved) (λ t l r. omega (arith, use_of_sum (one_less reserved t) marks, one_less_sum reserved t r)),
    )

-- with one position less the use does not rise
pub use_of_one_less : (reserved marks : List ℕ) (t : ℕ) → t < length reserved → use_of (one_less reserved t) marks ≤ use_of reserved marks
use_of_one_less reserved marks t l = go (use_reached (one_less reserved t) marks)
  where
    go : Reached (one_less reserved t) marks → use_of (one_less reserved t) marks ≤ use_of reserved marks
    go r = omega (arith, r.2, use_greatest reserved marks r.0 (placing_more reserved marks r.0 t r.1))

-- the first can be given type t: the use is at least one more than that of the others with what is left
pub use_of_give : (reserved : List ℕ) (m : ℕ) (marks : List ℕ) (t : ℕ) → t < length reserved → holds m t ≡ true → 0 < get_or reserved t 0
    → suc (use_of (one_less reserved t) marks) ≤ use_of reserved (m ∷ marks)
use_of_give reserved m marks t l h r =
    omega (arith, use_of_cons reserved m marks, greatest_above (length reserved) (giving reserved m marks) t l, giving_can reserved m marks t h r)

-- where all are placed, the first is given some type and the others are placed with what is left
pub use_of_given : (reserved : List ℕ) (m : ℕ) (marks : List ℕ) → use_of reserved (m ∷ marks) ≡ suc (length marks)
    → (t : ℕ) × (t < length reserved) × (holds m t ≡ true) × (0 < get_or reserved t 0) × (use_of (one_less reserved t) marks ≡ length marks)
use_of_given reserved m marks e = go (greatest_reached (length reserved) (giving reserved m marks) (omega (arith, most))) (omega (arith, most))
  where
    most : greatest_of (length reserved) (giving reserved m marks) ≡ suc (length marks)
    most =
        omega (
          arith,
          use_of_cons reserved m marks,
          use_of_length reserved marks,
          giving_below reserved m marks (suc (length marks)) (λ t l r. omega (arith, use_of_length (one_less reserved t) marks)),
        )

    go : (t : ℕ) × (t < length reserved) × (giving reserved m marks t ≡ greatest_of (length reserved) (giving reserved m marks))
        → greatest_of (length reserved) (giving reserved m marks) ≡ suc (length marks)
        → (t : ℕ) × (t < length reserved) × (holds m t ≡ true) × (0 < get_or reserved t 0) × (use_of (one_less reserved t) marks ≡ length marks)
    go best q =
        let can : (holds m best.0 ≡ true) × (0 < get_or reserved best.0 0) = giving_cases reserved m marks best.0 (omega (arith, best.2)) in
        (best.0, best.1, can.0, can.1, omega (arith, best.2, giving_can reserved m marks best.0 can.0 can.1))

-- where each is placed, the use is their number
pub use_of_everyone : (reserved marks types : List ℕ) → Placing reserved marks types → placed_in types ≡ length marks → use_of reserved marks ≡ length marks
use_of_everyone reserved marks types p e = omega (arith, use_greatest reserved marks types p, use_of_length reserved marks)

-- one more candidate raises the use by one or leaves it
pub use_of_grows : (reserved marks : List ℕ) (c : ℕ) → use_of reserved marks ≤ use_of reserved (c ∷ marks)
use_of_grows reserved marks c = omega (arith, use_of_cons reserved c marks)

pub use_of_step : (reserved marks : List ℕ) (c : ℕ) → use_of reserved (c ∷ marks) ≤ suc (use_of reserved marks)
use_of_step reserved marks c =
    omega (
      arith,
      use_of_cons reserved c marks,
      giving_below reserved c marks (suc (use_of reserved marks)) (λ t l r. omega (arith, use_of_one_less reserved marks t l)),
    )

pub raises_true : (reserved marks : List ℕ) (c : ℕ) → raises reserved marks c ≡ true → use_of reserved (c ∷ marks) ≡ suc (use_of reserved marks)
unfolding raises
raises_true reserved marks c e = omega (arith, ltb-true, use_of_step reserved marks c)

pub raises_false : (reserved marks : List ℕ) (c : ℕ) → raises reserved marks c ≡ false → use_of reserved (c ∷ marks) ≡ use_of reserved marks
unfolding raises
raises_false reserved marks c e = omega (arith, ltb-false, use_of_grows reserved marks c)

-- the f of the places below p to which g gives a type, the latest first
abbrev pub placed : (ℕ → ℕ) → (ℕ → ℕ) → ℕ → List ℕ
placed g f zero = []
placed g f (suc p) = let before = placed g f p in cond (ltb 0 (g p)) (f p ∷ before) before

-- g gives each place below p a held type, from 1, or none, 0, and no type more often than it has positions
pub record PlacingTo (reserved : List ℕ) (g f : ℕ → ℕ) (p : ℕ) : Type 0 where
  pub held : (q t : ℕ) → q < p → g q ≡ suc t → (t < length reserved) × (holds (f q) t ≡ true)
  pub within : (t : ℕ) → t < length reserved → count_of p (λ q. eqb (g q) (suc t)) ≤ get_or reserved t 0

pub placed_length : (g f : ℕ → ℕ) (p : ℕ) → length (placed g f p) ≡ count_of p (λ q. ltb 0 (g q))
placed_length g f zero = refl
placed_length g f (suc p) =
    less_or 0 (g p)
    (λ h. rw (lt-ltb 0 (g p) h) (omega (arith, placed_length g f p)))
    (λ h. rw (le-ltb 0 (g p) h) (omega (arith, placed_length g f p)))

pub placed_types : (g : ℕ → ℕ) (p : ℕ) → placed_in (placed g g p) ≡ length (placed g g p)
placed_types g zero = unfold placed_in in refl
placed_types g (suc p) =
    less_or 0 (g p)
    (λ h. rw (lt-ltb 0 (g p) h) (omega (arith, placed_in_cons (g p) (placed g g p), bit_true (ltb 0 (g p)) (lt-ltb 0 (g p) h), placed_types g p)))
    (λ h. rw (le-ltb 0 (g p) h) (placed_types g p))

pub placed_given : (g : ℕ → ℕ) (p t : ℕ) → given_type (placed g g p) t ≡ count_of p (λ q. eqb (g q) (suc t))
placed_given g zero t = refl
placed_given g (suc p) t =
    less_or 0 (g p)
    (λ h. rw (lt-ltb 0 (g p) h) (omega (arith, given_type_cons (g p) (placed g g p) t, placed_given g p t)))
    (λ h. rw (le-ltb 0 (g p) h) (omega (arith, bit_other (g p) (suc t) (omega arith), placed_given g p t)))

-- the place at which one of the list stands
abbrev pub Stands : (ℕ → ℕ) → (ℕ → ℕ) → ℕ → List ℕ → List ℕ → ℕ → Type 0
Stands g f p A types i = (q : ℕ) × (q < p) × (get_or A i 0 ≡ f q) × (get_or types i 0 ≡ g q)

pub placed_place : (g f : ℕ → ℕ) (p i : ℕ) → i < length (placed g f p) → Stands g f p (placed g f p) (placed g g p) i
placed_place g f zero i l = absurd (omega arith)
placed_place g f (suc p) i l =
    less_or 0 (g p)
    (λ h. rw (lt-ltb 0 (g p) h) (some i (rw (lt-ltb 0 (g p) h) at l) (placed_place g f p)))
    (λ h. rw (le-ltb 0 (g p) h) (later i (placed_place g f p i (rw (le-ltb 0 (g p) h) at l))))
  where
    later : (i : ℕ) → Stands g f p (placed g f p) (placed g g p) i → Stands g f (suc p) (placed g f p) (placed g g p) i
    later i s = (s.0, omega (arith, s.1), s.2, s.3)

    some : (i : ℕ) → i < length (f p ∷ placed g f p) → ((i : ℕ) → i < length (placed g f p) → Stands g f p (placed g f p) (placed g g p) i)
        → Stands g f (suc p) (f p ∷ placed g f p) (g p ∷ placed g g p) i
    some zero l rest = (p, omega arith, refl, refl)
    some (suc i) l rest = later i (rest i (omega arith))

-- a placing of places is a placing of the list of those who are given a type
pub placed_placing : (reserved : List ℕ) (g f : ℕ → ℕ) (p : ℕ) → PlacingTo reserved g f p → Placing reserved (placed g f p) (placed g g p)
placed_placing reserved g f p h = record {
  each = omega (arith, placed_length g f p, placed_length g g p);
  held = λ i t l e.
      let at : Stands g f p (placed g f p) (placed g g p) i = placed_place g f p i l in
      rw at.2 (h.held at.0 t at.1 (sym at.3 ∙ e));
  within = λ t l. omega (arith, placed_given g p t, h.within t l);
}

-- those who are given a type can all be placed
pub placed_everyone : (reserved : List ℕ) (g f : ℕ → ℕ) (p : ℕ) → PlacingTo reserved g f p → use_of reserved (placed g f p) ≡ length (placed g f p)
placed_everyone reserved g f p h =
    use_of_everyone reserved (placed g f p) (placed g g p) (placed_placing reserved g f p h)
    (omega (arith, placed_types g p, placed_length g f p, placed_length g g p))

-- the one at place p is given a type with all before
pub placed_raises : (reserved : List ℕ) (g f : ℕ → ℕ) (p : ℕ) → PlacingTo reserved g f (suc p) → 0 < g p → raises reserved (placed g f p) (f p) ≡ true
unfolding raises
placed_raises reserved g f p h l =
    omega (arith, lt-ltb, rw (lt-ltb 0 (g p) l) at (placed_everyone reserved g f (suc p) h), use_of_length reserved (placed g f p))

-- who is in the list turns only on who is given a type
pub placed_same : (g g' f : ℕ → ℕ) (p : ℕ) → ((q : ℕ) → q < p → ltb 0 (g q) ≡ ltb 0 (g' q)) → placed g f p ≡ placed g' f p
placed_same g g' f zero h = refl
placed_same g g' f (suc p) h = rw (h p (omega arith), placed_same g g' f p (λ q l. h q (omega arith)))
