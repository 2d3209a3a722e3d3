-- Hall's theorem, by construction: a list of marks can all be placed, or some set of types has fewer positions than
-- people who hold its types only.
use Prim.Native.Nat.{ℕ, zero, suc, ◌≤◌, ◌<◌}
use mathlib.Core.Path.{◌≡◌, refl}
use mathlib.Core.Bool.{Bool, true, false, cond}
use mathlib.Core.List.{List, [], ◌∷◌}
use mathlib.Core.Logic.{◌⊎◌, inl, inr, ⊎_elim}
use native.Mathlib.Omega.{arith}
use lib.Dec.{eqb}
use lib.ListN.{length, get_or}
use borrow.Author.Tests.{eq-eqb, ne_eqb}
use Rattle.lists.specs.Numbers.{holds}
use Rattle.matching.specs.Use.{one_less}
use Rattle.matching.specs.ForUse.{raises}
use Rattle.lists.proofs.Counting.{test, less_or, below, clash, bit_true, bit_max, or_left, or_right, bit_pass, sum_of_zero}
use Rattle.matching.proofs.Use.{one_less_length, use_of_nil, use_of_length, use_of_give, raises_false}
use Rattle.matching.proofs.Tight.{Placeable, cap, only, confined, Tight, union, only_from, cap_one_less, pigeonhole, tight_union}

-- T has fewer positions than people of A who hold its types only
abbrev pub Violated : List ℕ → List ℕ → (ℕ → Bool) → Type 0
Violated reserved A T = cap reserved T < confined reserved A T

-- the types with no positions
abbrev empty : List ℕ → ℕ → Bool
empty reserved t = eqb (get_or reserved t 0) 0

empty_cap : (reserved : List ℕ) → cap reserved (empty reserved) ≡ 0
unfolding cap
empty_cap reserved = sum_of_zero (length reserved) _ (λ t l. none (get_or reserved t 0))
  where
    none : (n : ℕ) → cond (eqb n 0) n 0 ≡ 0
    none zero = refl
    none (suc n) = rw (ne_eqb (suc n) 0 (λ q. omega arith))

-- an exhausted set that holds the types with no positions and the first n types of c
abbrev Gathered : List ℕ → List ℕ → ℕ → ℕ → (ℕ → Bool) → Type 0
Gathered reserved A c n T =
    Tight reserved A T × ((t : ℕ) → empty reserved t ≡ true → T t ≡ true) × ((t : ℕ) → t < n → holds c t ≡ true → T t ≡ true)

gathered_next : (reserved A : List ℕ) (c n : ℕ) (T : ℕ → Bool) → Gathered reserved A c n T → (holds c n ≡ true → T n ≡ true)
    → Gathered reserved A c (suc n) T
gathered_next reserved A c n T g at =
    (g.0, g.1, λ t k h. below t n k (λ less. g.2 t less h) (λ same. rw same (at (rw same at h))))

gathered_union : (reserved A : List ℕ) (c n : ℕ) (T U : ℕ → Bool) → Placeable reserved A → Gathered reserved A c n T → Tight reserved A U
    → Gathered reserved A c n (union T U)
gathered_union reserved A c n T U e g v =
    (tight_union reserved A T U e g.0 v, (λ t h. or_left (T t) (U t) (g.1 t h)), (λ t k h. or_left (T t) (U t) (g.2 t k h)))

-- a set that is short of positions once type t has one less, and not before, is exhausted and contains t
short : (reserved A : List ℕ) (t : ℕ) (U : ℕ → Bool) → t < length reserved → 0 < get_or reserved t 0 → Placeable reserved A → Violated (one_less reserved t) A U
    → Tight reserved A U × (U t ≡ true)
short reserved A t U l r e v = (
  omega (arith, less, cap_one_less reserved U t l r, bit_max (U t)),
  bit_pass (U t) (omega (arith, less, cap_one_less reserved U t l r, pigeonhole reserved A U e)),
)
  where
    less : cap (one_less reserved t) U < confined reserved A U
    less = rw (one_less_length reserved t) at v

-- the types of c one after the other: c can be given one of them and the others placed, or they are all exhausted
gather : (reserved A : List ℕ) (c : ℕ) → Placeable reserved A
    → ((t : ℕ) → Placeable (one_less reserved t) A ⊎ ((T : ℕ → Bool) × Violated (one_less reserved t) A T))
    → (n : ℕ) → n ≤ length reserved → Placeable reserved (c ∷ A) ⊎ ((T : ℕ → Bool) × Gathered reserved A c n T)
gather reserved A c e without zero l =
    inr (empty reserved, (omega (arith, empty_cap reserved), (λ t h. h), (λ t k h. absurd (omega arith))))
gather reserved A c e without (suc n) l = ⊎_elim inl next (gather reserved A c e without n (omega arith))
  where
    held : (g : (T : ℕ → Bool) × Gathered reserved A c n T) → holds c n ≡ true
        → Placeable reserved (c ∷ A) ⊎ ((T : ℕ → Bool) × Gathered reserved A c (suc n) T)
    held g h =
        less_or 0 (get_or reserved n 0)
        (λ r.
        ⊎_elim
        (λ p. inl (omega (arith, use_of_give reserved c A n l h r, use_of_length reserved (c ∷ A))))
        (λ v.
        let s : Tight reserved A v.0 × (v.0 n ≡ true) = short reserved A n v.0 l r e v.1 in
        inr (
          union g.0 v.0,
          gathered_next reserved A c n (union g.0 v.0) (gathered_union reserved A c n g.0 v.0 e g.1 s.0)
              (λ _. or_right (g.0 n) (v.0 n) s.1),
        ))
        (without n))
        (λ r. inr (g.0, gathered_next reserved A c n g.0 g.1 (λ _. g.1.1 n (eq-eqb (get_or reserved n 0) 0 (omega arith)))))

    next : (T : ℕ → Bool) × Gathered reserved A c n T → Placeable reserved (c ∷ A) ⊎ ((T : ℕ → Bool) × Gathered reserved A c (suc n) T)
    next g =
        test (holds c n) (held g)
        (λ not-held. inr (g.0, gathered_next reserved A c n g.0 g.1 (λ h. clash h not-held)))

pub hall : (reserved A : List ℕ) → Placeable reserved A ⊎ ((T : ℕ → Bool) × Violated reserved A T)
hall reserved [] = inl (use_of_nil reserved)
hall reserved (c ∷ A) =
    ⊎_elim
    (λ e. ⊎_elim inl (more e) (gather reserved A c e (λ t. hall (one_less reserved t) A) (length reserved) (omega arith)))
    (λ v. inr (v.0, omega (arith, v.1)))
    (hall reserved A)
  where
    more : Placeable reserved A → (T : ℕ → Bool) × Gathered reserved A c (length reserved) T
        → Placeable reserved (c ∷ A) ⊎ ((T : ℕ → Bool) × Violated reserved (c ∷ A) T)
    more e g = inr (g.0, omega (arith, g.1.0, bit_true (only (length reserved) g.0 c) (only_from (length reserved) g.0 c g.1.2)))

-- who does not raise the use of people who can all be placed holds exhausted types only
pub exhausted : (reserved A : List ℕ) (c : ℕ) → Placeable reserved A → raises reserved A c ≡ false
    → (T : ℕ → Bool) × Tight reserved A T × (only (length reserved) T c ≡ true)
exhausted reserved A c e h = go (hall reserved (c ∷ A))
  where
    go : Placeable reserved (c ∷ A) ⊎ ((T : ℕ → Bool) × Violated reserved (c ∷ A) T) → (T : ℕ → Bool) × Tight reserved A T × (only (length reserved) T c ≡ true)
    go (inl all) = absurd (omega (arith, raises_false reserved A c h))
    go (inr v) = (
      v.0,
      omega (arith, v.1, bit_max (only (length reserved) v.0 c)),
      bit_pass (only (length reserved) v.0 c) (omega (arith, v.1, pigeonhole reserved A v.0 e)),
    )
