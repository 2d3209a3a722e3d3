-- A merit list is no longer than the list of candidates, and there is a seat for each candidate.
use mathlib.Core.Path.{◌≡◌, refl, ap}
use mathlib.Core.Logic.{inl, inr}
use mathlib.Core.List.{List}
use Prim.Native.Nat.{ℕ, zero, suc, ◌≤◌, ◌<◌}
use native.Mathlib.Omega.{arith}
use native.Mathlib.Decide.{dec_lt}
use lib.Dec.{ltb}
use lib.ListN.{length}
use borrow.Author.Tests.{lt-ltb, le-ltb}
use Rattle.round.specs.Round.{Round}
use Rattle.round.specs.Places.{institute_at}
use Rattle.round.specs.Sound.{SoundInstitute}
use Rattle.lists.specs.Lists.{bit, sum_of}
use Rattle.lists.proofs.Words.{length_tabulate}
use Rattle.lists.proofs.Counting.{bit_max, sum_of_le, sum_of_ext}
use Rattle.offers.specs.Offers.{candidate_on, place_on}
use Rattle.offers.specs.Process.{candidate_count, chosen, seat_by, seats_after, tried, seats}
use Rattle.lists.proofs.DoubleSums.{sum_through}
use Rattle.offers.proofs.Rounds.Places.{merit_length, candidate_at_lem, candidate_below, place_of}

sum_ones : (k : ℕ) → sum_of k (λ i. 1) ≡ k
sum_ones zero = refl
sum_ones (suc k) = omega (arith, sum_ones k)

-- a merit list is no longer than the list of candidates
pub merit_short : (r : Round) (j : ℕ) {n types : ℕ} → SoundInstitute n types (institute_at r j) → merit_length r j ≤ n
merit_short r j {n} sound =
    omega (
      arith,
      through,
      sum_of_le n on (λ i. 1) (λ i l. bit_max (ltb (place_on r j i) (merit_length r j))),
      sum_of_ext (merit_length r j) (λ p. on (candidate_on r j p)) (λ p. 1) there,
      sum_ones n,
      sum_ones (merit_length r j),
    )
  where
    on : ℕ → ℕ
    on i = bit (ltb (place_on r j i) (merit_length r j))

    there : (p : ℕ) → p < merit_length r j → on (candidate_on r j p) ≡ 1
    there p l = ap bit (lt-ltb _ (merit_length r j) (omega (arith, place_of r j sound p l)))

    through : sum_of n on ≡ sum_of (merit_length r j) (λ p. on (candidate_on r j p))
    through =
        sum_through (merit_length r j) n (candidate_on r j) (place_on r j) (candidate_below r j sound) (place_of r j sound) on
        (λ i l. elim (dec_lt (place_on r j i) (merit_length r j)) [
          | yes m ↦ inl (m, candidate_at_lem r j i m)
          | no m ↦ inr (ap bit (le-ltb (place_on r j i) (merit_length r j) (omega arith)))
        ])

pub seats_length : (r : Round) (state : List ℕ) → length (seats_after r state) ≡ candidate_count r
unfolding seats_after
seats_length r state = length_tabulate 0 (candidate_count r) (seat_by r (chosen r state))

pub list_length : (r : Round) → length (seats r) ≡ candidate_count r
unfolding seats
list_length r = seats_length r (tried r)
