-- What a review finds on a list of seats (document 02, Points 5 and 7). Candidates, institutes and the entries of a row have numbers from 0 here; a
-- finding names a candidate, and the institute of an entry, by its number from 1.
use Rattle.std.specs.Prelude.{ℕ, suc, ◌-◌, Bool, cond, not, ◌&&◌, ◌||◌, List, eqb, ltb}
use Rattle.round.specs.declared.entry.Category.{Category}
use Rattle.round.specs.declared.entry.Entry.{Entry}
use Rattle.lists.specs.Lists.{first_of}
use Rattle.round.specs.Round.{Round}
use Rattle.round.specs.Places.{candidate_at, entry_at}
use Rattle.offers.specs.Rows.{same_category}
use Rattle.offers.specs.Offers.{OfferSet, step_for, taken_from}
use Rattle.offers.specs.Process.{Seat, is_none, candidate_count}
use Rattle.offers.specs.Stable.{seat_on}
use Rattle.offers.specs.Listed.{in_row, listed_at, above}

pub data Finding : Type 0 where
  passes : Finding
  -- the candidate with this number has a seat that is not in the row, or a step that is not the one its institute gives
  wrong_seat : ℕ → Finding
  -- this entry of the candidate with this number ranks above the seat, and its institute would choose it
  better_entry : ℕ → Entry → Finding

module _ (r : Round) (list : List Seat) where
  -- the step that the institute of candidate i's seat gives i when it chooses from these
  unfoldable pub step_due : ℕ → ℕ
  step_due i = let j : ℕ = (seat_on list i).institute - 1 in step_for r j (listed_at r list j) i

  -- candidate i's seat is not in the row or its step is not that one; where there is no seat nothing is wrong
  unfoldable pub wrong : ℕ → Bool
  wrong i = not (is_none (seat_on list i)) && not (in_row r list i && eqb (step_due i) (seat_on list i).step)

  -- these seats at institute j and one entry more, that of candidate i with a category there
  unfoldable pub with_entry : ℕ → ℕ → Category → OfferSet
  with_entry j i c k d = listed_at r list j k d || (eqb k i && same_category c d)

  -- the institute of an entry of candidate i would choose it if that one entry were added
  unfoldable pub would_take : ℕ → Entry → Bool
  would_take i e = let j : ℕ = e.institute - 1 in taken_from r j (with_entry j i e.category) i e.category

  -- the place in the row of the best of them that would be chosen; their number where none would
  unfoldable pub best : ℕ → ℕ
  best i = first_of (above r list i) (λ k. would_take i (entry_at (candidate_at r i) k))

  -- some entry above candidate i's seat would be chosen
  unfoldable pub better : ℕ → Bool
  better i = ltb (best i) (above r list i)

  -- where no seat is wrong: the first candidate with a better entry, and the best such entry; failing that, the list passes
  unfoldable pub entry_finding : Finding
  entry_finding =
      let i : ℕ = first_of (candidate_count r) better in
      cond (ltb i (candidate_count r)) (better_entry (suc i) (entry_at (candidate_at r i) (best i))) passes

  -- the first candidate whose seat is wrong; failing that, what is found on the entries
  unfoldable pub finding : Finding
  finding =
      let i : ℕ = first_of (candidate_count r) wrong in
      cond (ltb i (candidate_count r)) (wrong_seat (suc i)) entry_finding
