-- Orders of offers (document 02, Point 2): any candidate held by no institute who has an untried entry may go next.
-- An order is the list of those who go, as numbers from 0, the first to go first; whoever goes makes one offer, of the best untried entry, and
-- may go again later.
use Rattle.std.specs.Prelude.{ℕ, zero, suc, ◌≤◌, ◌≡◌, Bool, true, cond, ◌&&◌, List, [], ◌∷◌, ◌++◌, ltb, length}
use Rattle.lists.specs.Lists.{first_of}
use Rattle.round.specs.Round.{Round}
use Rattle.offers.specs.Process.{candidate_count, seats_after, may_offer, offered, untried, entry_total, tried, offers_made, seats}
use Rattle.offers.specs.Ended.{Ended, OneHolder}

module _ (r : Round) where
  -- in a state candidate i may go next: held by no institute, each choosing from all offers made to it so far, and with an untried entry
  unfoldable pub may_go : List ℕ → ℕ → Bool
  may_go state i = ltb i (candidate_count r) && may_offer r state (seats_after r state) i

  -- each of the list may go in the state that those before leave, the first in this state
  unfoldable pub all_may_go : List ℕ → List ℕ → Bool
  all_may_go state [] = true
  all_may_go state (i ∷ order) = may_go state i && all_may_go (offered state i) order

  -- the state after those of the list have offered, one after the other, from this state on
  unfoldable pub state_from : List ℕ → List ℕ → List ℕ
  state_from state [] = state
  state_from state (i ∷ order) = state_from (offered state i) order

  -- the list is an order of offers: each may go when the turn comes, and before the first no entry is tried
  abbrev pub Order : List ℕ → Type 0
  Order order = all_may_go (untried r) order ≡ true

  -- how many entries of each row an order has tried, best first
  abbrev pub tried_in : List ℕ → List ℕ
  tried_in order = state_from (untried r) order

  -- from a state on, the lowest-numbered candidate who may offer goes next, until nobody may or so many have gone
  unfoldable pub lowest_from : ℕ → List ℕ → List ℕ
  lowest_from zero state = []
  lowest_from (suc n) state =
      let list = seats_after r state in
      let i : ℕ = first_of (candidate_count r) (may_offer r state list) in
      cond (ltb i (candidate_count r)) (i ∷ lowest_from n (offered state i)) []

  -- the lowest-number order
  unfoldable pub lowest_first : List ℕ
  lowest_first = lowest_from (entry_total r) (untried r)

-- an order has made the offers of the process and has its seats
pub record SameEnd (r : Round) (order : List ℕ) : Type 0 where
  -- of each row as many entries are tried, best first, and so the same ones
  pub same_offers : tried_in r order ≡ tried r
  pub same_number : length order ≡ offers_made r
  -- each candidate has the same seat, institute and step, or none
  pub same_seats : seats_after r (tried_in r order) ≡ seats r

-- what holds of an order of offers
pub record OrderHolds (r : Round) (order : List ℕ) : Type 0 where
  -- it is no longer than the number of entries
  pub bounded : length order ≤ entry_total r
  -- no two institutes hold one candidate after it
  pub one_holder : OneHolder r (tried_in r order)
  -- where it has not ended somebody can go next
  pub goes_on : (Ended r (tried_in r order) → ⊥) → (i : ℕ) × Order r (order ++ (i ∷ []))
  -- where it has ended it has made the offers of the process, and has its seats
  pub ends_alike : Ended r (tried_in r order) → SameEnd r order

-- any order of offers ends, and ends alike
pub record AnyOrder (r : Round) : Type 0 where
  -- the process is the lowest-number order
  pub lowest_first_is : Order r (lowest_first r) × (tried_in r (lowest_first r) ≡ tried r)
  pub each : (order : List ℕ) → Order r order → OrderHolds r order
