-- The offers (document 01, "Offers"): who offers what, how long, and the seats that result.
-- A state of the process is how many entries of each row have been tried, best first.
use Rattle.std.specs.Prelude.{ℕ, zero, suc, ◌-◌, Bool, cond, not, ◌&&◌, List, [], map, eqb, ltb, length, get_or, set, replicate}
use Rattle.lists.specs.Lists.{tabulate, first_of, list_sum}
use Rattle.round.specs.Round.{Round}
use Rattle.choice.specs.Account.{StepAccount, type_used, account_of}
use Rattle.offers.specs.Rows.{row_at, rank_in, entry_of}
use Rattle.offers.specs.Offers.{OfferSet, steps_on, account_on, place_on}

-- document 01's seat: the number of an institute and a step; 0 and 0 for none
pub record Seat : Type 0 where
  pub institute : ℕ
  pub step : ℕ

abbrev pub no_seat : Seat
no_seat = record { institute = 0; step = 0 }

abbrev pub is_none : Seat → Bool
is_none s = eqb s.institute 0 && eqb s.step 0

-- the state after candidate i has offered the best untried entry: one more of the row is tried
abbrev pub offered : List ℕ → ℕ → List ℕ
offered state i = set state i (suc (get_or state i 0))

module _ (r : Round) where
  abbrev pub candidate_count : ℕ
  candidate_count = length r.candidates

  abbrev pub institute_count : ℕ
  institute_count = length r.institutes

  -- the offers made to institute j: the tried entries; an entry not in the row has the row's length for its rank, and no
  -- order of offers tries more of a row
  unfoldable pub made_to : List ℕ → ℕ → OfferSet
  made_to state j i c = ltb (rank_in (row_at r i) (entry_of j c)) (get_or state i 0)

  -- the steps that each institute's merit list is given, each institute choosing from all offers ever made to it
  unfoldable pub chosen : List ℕ → List (List ℕ)
  chosen state = tabulate institute_count (λ j. steps_on r j (made_to state j))

  -- the seat of candidate i by these: the first institute that holds i, and the step; after an order of offers no other does
  unfoldable pub seat_by : List (List ℕ) → ℕ → Seat
  seat_by steps i =
      let step_by : ℕ → ℕ = λ j. get_or (get_or steps j []) (place_on r j i) 0 in
      let holder : ℕ = first_of institute_count (λ j. not (eqb (step_by j) 0)) in
      cond (ltb holder institute_count) (record { institute = suc holder; step = step_by holder }) no_seat

  unfoldable pub seats_after : List ℕ → List Seat
  seats_after state = let steps = chosen state in tabulate candidate_count (seat_by steps)

  -- held by no institute, and with an untried entry
  unfoldable pub may_offer : List ℕ → List Seat → ℕ → Bool
  may_offer state list i = is_none (get_or list i no_seat) && ltb (get_or state i 0) (length (row_at r i))

  -- one turn: the lowest-numbered candidate who may offers the best untried entry
  unfoldable pub turn : List ℕ → List ℕ
  turn state =
      let list = seats_after state in
      let i : ℕ = first_of candidate_count (may_offer state list) in
      cond (ltb i candidate_count) (offered state i) state

  unfoldable pub turns : ℕ → List ℕ → List ℕ
  turns zero state = state
  turns (suc n) state = turns n (turn state)

  -- the state before the first offer: no entry is tried
  abbrev pub untried : List ℕ
  untried = replicate candidate_count 0

  abbrev pub entry_total : ℕ
  entry_total = list_sum (map (λ c. length c.row) r.candidates)

  -- the state in which the process ends: a turn tries one more entry while anyone may offer, and then none, so as many turns as there are
  -- entries reach the end
  unfoldable pub tried : List ℕ
  tried = turns entry_total untried

  -- the number of offers of the process
  unfoldable pub offers_made : ℕ
  offers_made = list_sum tried

  -- document 01's list: the seat of each candidate
  unfoldable pub seats : List Seat
  seats = seats_after tried

  -- the account of institute j's choice from all offers ever made to it, when the process has ended
  unfoldable pub account_at_end : ℕ → List StepAccount
  account_at_end j = account_on r j (made_to tried j)

  -- the type under which candidate i is seated (document 02, Point 3), by the list and the accounts of the choices that gave it: the one that the
  -- seat's step used at the candidate's merit place, which is 0 where the step took the candidate in its fill by merit; 0 for no seat
  unfoldable pub type_by : List Seat → List (List StepAccount) → ℕ → ℕ
  type_by list accounts i =
      let seat = get_or list i no_seat in
      let j : ℕ = seat.institute - 1 in
      let step = account_of (get_or accounts j []) seat.step in
      cond (is_none seat) 0 (type_used step (place_on r j i))

  -- the type of each candidate, or 0
  unfoldable pub types_used : List ℕ
  types_used = let list = seats in let accounts = tabulate institute_count account_at_end in tabulate candidate_count (type_by list accounts)

-- the offers to institute j among the entries that the candidates tried last
unfoldable pub last_to : Round → List ℕ → ℕ → OfferSet
last_to r state j i c = eqb (suc (rank_in (row_at r i) (entry_of j c))) (get_or state i 0)
