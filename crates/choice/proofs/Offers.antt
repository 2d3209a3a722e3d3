-- Sets of offers, each of a place and a category, and counting in them.
use Prim.Native.Nat.{ℕ, zero, suc, ◌+◌, ◌≤◌, ◌<◌}
use mathlib.Core.Path.{◌≡◌, refl, sym, ◌∙◌, ap}
use mathlib.Core.Bool.{Bool, true, not, ◌&&◌}
use native.Mathlib.Omega.{arith}
use lib.Dec.{eqb, ltb}
use borrow.Author.Tests.{lt-ltb, eqb-true, eq-eqb}
use Rattle.round.specs.declared.entry.Category.{Category}
use Rattle.round.specs.declared.entry.Category.TheVariants.{Open, SC, ST, OBC, EWS}
use Rattle.round.specs.Category.{code_of, category_of}
use Rattle.lists.specs.Lists.{bit, count_of, sum_of}
use Rattle.lists.proofs.Counting.{count_le}
use Rattle.lists.proofs.Sets.{same_by_count, count_split}
use Rattle.round.proofs.Codes.{category_code}

abbrev pub Offers : Type 0
Offers = ℕ → Category → Bool

-- Y has each offer of X; the same for the places below n
abbrev pub Within : Offers → Offers → Type 0
Within X Y = (p : ℕ) (c : Category) → X p c ≡ true → Y p c ≡ true

abbrev pub WithinBelow : ℕ → Offers → Offers → Type 0
WithinBelow n X Y = (p : ℕ) → p < n → (c : Category) → X p c ≡ true → Y p c ≡ true

-- of each place below n there is at most one offer
abbrev pub Alone : ℕ → Offers → Type 0
Alone n Y = (p : ℕ) → p < n → (c d : Category) → Y p c ≡ true → Y p d ≡ true → c ≡ d

-- the two categories are one
abbrev pub same : Category → Category → Bool
same c d = eqb (code_of c) (code_of d)

pub same_self : (c : Category) → same c c ≡ true
same_self c = eq-eqb (code_of c) (code_of c) refl

pub same_category_lem : (c d : Category) → same c d ≡ true → c ≡ d
same_category_lem c d e = sym (category_code c) ∙ ap category_of (eqb-true (code_of c) (code_of d) e) ∙ category_code d

-- how many offers the set has, of the places below n
unfoldable pub offers_in : ℕ → Offers → ℕ
offers_in n Y =
    count_of n (λ p. Y p Open) + count_of n (λ p. Y p SC) + count_of n (λ p. Y p ST) + count_of n (λ p. Y p OBC) + count_of n (λ p. Y p EWS)

-- the same, place by place
pub offers_by_place : (n : ℕ) (Y : Offers) → offers_in n Y ≡ sum_of n (λ p. bit (Y p Open) + bit (Y p SC) + bit (Y p ST) + bit (Y p OBC) + bit (Y p EWS))
unfolding offers_in
offers_by_place zero Y = refl
offers_by_place (suc n) Y = omega (arith, offers_by_place n Y)

pub offers_split : (n : ℕ) (Y L : Offers) → Within L Y → offers_in n Y ≡ offers_in n L + offers_in n (λ p c. Y p c && not (L p c))
unfolding offers_in
offers_split n Y L s =
    let part : (c : Category) → count_of n (λ p. Y p c) ≡ count_of n (λ p. L p c) + count_of n (λ p. Y p c && not (L p c)) =
    λ c. count_split n (λ p. Y p c) (λ p. L p c) (λ p l. s p c) in
    omega (arith, part Open, part SC, part ST, part OBC, part EWS)

-- a set of offers within another that has no more is that set
pub same_by_offers : (n : ℕ) (X Y : Offers) → WithinBelow n X Y → offers_in n Y ≤ offers_in n X → (p : ℕ) → p < n → (c : Category) → X p c ≡ Y p c
unfolding offers_in
same_by_offers n X Y s few p l c = same_by_count n (λ r. X r c) (λ r. Y r c) (λ r m. s r m c) (each c) p l
  where
    part : (d : Category) → count_of n (λ r. X r d) ≤ count_of n (λ r. Y r d)
    part d = count_le n (λ r. X r d) (λ r. Y r d) (λ r m. s r m d)

    each : (d : Category) → count_of n (λ r. Y r d) ≤ count_of n (λ r. X r d)
    each Open = omega (arith, few, part SC, part ST, part OBC, part EWS)
    each SC = omega (arith, few, part Open, part ST, part OBC, part EWS)
    each ST = omega (arith, few, part Open, part SC, part OBC, part EWS)
    each OBC = omega (arith, few, part Open, part SC, part ST, part EWS)
    each EWS = omega (arith, few, part Open, part SC, part ST, part OBC)

-- the offers of the places below n
abbrev pub cut_offers : ℕ → Offers → Offers
cut_offers n Y p c = ltb p n && Y p c

pub cut_in : (n : ℕ) (Y : Offers) (p : ℕ) → p < n → (c : Category) → Y p c ≡ true → cut_offers n Y p c ≡ true
cut_in n Y p l c y = rw (lt-ltb p n l) y
