-- The number of offers in a state, and the number of entries, as sums over the candidates.
use mathlib.Core.Path.{◌≡◌, refl, ◌∙◌, ap}
use mathlib.Core.List.{List, [], ◌∷◌, map}
use Prim.Native.Nat.{ℕ, ◌≤◌}
use native.Mathlib.Omega.{arith}
use lib.ListN.{length, length-map, get_or-map}
use Rattle.lists.specs.Lists.{list_sum, sum_of}
use Rattle.round.specs.Round.{Round}
use Rattle.round.specs.Places.{no_candidate}
use Rattle.lists.proofs.Words.{sum_of_front}
use Rattle.lists.proofs.Counting.{sum_of_le, sum_of_ext}
use Rattle.offers.specs.Rows.{row_at}
use Rattle.offers.specs.Process.{candidate_count, entry_total}
use Rattle.market.proofs.Reached.{reached_fits}
use Rattle.offers.proofs.Rounds.Numbered.{row_by, rows_of}
use Rattle.offers.proofs.Rounds.Running.{state_of, Running}

-- the sum of a list
sum_of_lem : (l : List ℕ) → list_sum l ≡ sum_of (length l) (state_of l)
sum_of_lem [] = refl
sum_of_lem (x ∷ l) = omega (arith, sum_of_lem l, sum_of_front (length l) (state_of (x ∷ l)))

pub entries : (r : Round) → entry_total r ≡ sum_of (candidate_count r) (λ i. (rows_of r i).len)
unfolding row_by
entries r =
    let lengths : List ℕ = map (λ c. length c.row) r.candidates in
    sum_of_lem lengths
    ∙ ap (λ n. sum_of n (state_of lengths)) (length-map r.candidates (λ c. length c.row))
    ∙ sum_of_ext (candidate_count r) (state_of lengths) (λ i. length (row_at r i)) (λ i l. get_or-map (λ c. length c.row) r.candidates i no_candidate)

module _ {r : Round} {state : List ℕ} (run : Running r state) where
  pub state_sum : list_sum state ≡ sum_of (candidate_count r) (state_of state)
  state_sum = sum_of_lem state ∙ ap (λ n. sum_of n (state_of state)) run.each

  -- no more offers than entries
  pub state_most : list_sum state ≤ entry_total r
  state_most =
      omega (
        arith,
        state_sum,
        entries r,
        sum_of_le (candidate_count r) (state_of state) (λ i. (rows_of r i).len) (λ i l. reached_fits run.reached i),
      )
