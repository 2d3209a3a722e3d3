-- Sums over the five categories of each institute or of each place.
use mathlib.Core.Path.{◌≡◌, refl, sym, ap}
use mathlib.Core.Bool.{Bool, false}
use Prim.Native.Nat.{ℕ, zero, suc, ◌+◌, ◌*◌}
use native.Mathlib.Omega.{arith}
use Rattle.round.specs.declared.entry.Category.{Category}
use Rattle.round.specs.declared.entry.Category.TheVariants.{Open, SC, ST, OBC, EWS}
use Rattle.lists.specs.Lists.{bit, sum_of}
use Rattle.choice.proofs.Offers.{offers_in, offers_by_place}
use Rattle.offers.proofs.Rounds.Numbered.{number_of}

-- how many of a candidate's five possible offers to an institute are in the set
unfoldable pub five : (Category → Bool) → ℕ
five Z = bit (Z Open) + bit (Z SC) + bit (Z ST) + bit (Z OBC) + bit (Z EWS)

pub five_same : (Z X : Category → Bool) → ((c : Category) → Z c ≡ X c) → five Z ≡ five X
unfolding five
five_same Z X h = rw (h Open, h SC, h ST, h OBC, h EWS)

pub five_none : (Z : Category → Bool) → ((c : Category) → Z c ≡ false) → five Z ≡ 0
unfolding five
five_none Z h = rw (h Open, h SC, h ST, h OBC, h EWS)

-- the offers of so many places
pub five_is : (n : ℕ) (Y : ℕ → Category → Bool) → sum_of n (λ p. five (Y p)) ≡ offers_in n Y
unfolding five
five_is n Y = sym (offers_by_place n Y)

-- the sum over all entries, institute by institute
pub sum_fives : (m : ℕ) (f : ℕ → ℕ)
    → sum_of (5 * m) f ≡ sum_of m (λ j. f (number_of j Open) + f (number_of j SC) + f (number_of j ST) + f (number_of j OBC) + f (number_of j EWS))
sum_fives zero f = refl
sum_fives (suc m) f =
    let e : 5 * suc m ≡ suc (suc (suc (suc (suc (5 * m))))) = omega arith in
    let a : 5 * m + 0 ≡ 5 * m = omega arith in
    let b : 5 * m + 1 ≡ suc (5 * m) = omega arith in
    let c : 5 * m + 2 ≡ suc (suc (5 * m)) = omega arith in
    let d : 5 * m + 3 ≡ suc (suc (suc (5 * m))) = omega arith in
    let g : 5 * m + 4 ≡ suc (suc (suc (suc (5 * m)))) = omega arith in
    rw e (omega (arith, sum_fives m f, ap f a, ap f b, ap f c, ap f d, ap f g))
