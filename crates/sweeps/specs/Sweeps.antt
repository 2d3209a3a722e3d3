-- The process in sweeps: everybody who may offer offers the best untried entry, each once, and then each institute that got an offer chooses
-- from the entries tried last that name it. The code's tables have, for each candidate, how many entries were tried, the number of the
-- institute of the last one (0 for none), the set of its category (bit c for code c), and the step, 0 for none.
use Rattle.std.specs.Prelude.{ℕ, suc, ◌-◌, ◌^◌, ◌≤◌, ◌<◌, ◌≡◌, ◌≢◌, Bool, true, cond, not, ◌&&◌, List, eqb, ltb, length, get_or, set}
use Rattle.round.specs.declared.entry.Entry.{Entry}
use Rattle.round.specs.Category.{code_of}
use Rattle.lists.specs.Lists.{tabulate, count_of}
use Rattle.round.specs.Round.{Round}
use Rattle.round.specs.Places.{candidate_at, institute_at, entry_at}
use Rattle.lists.specs.Numbers.{holds}
use Rattle.lists.specs.Gathers.{Gathers}
use Rattle.choice.specs.declared.step.Numbers.{Numbers}
use Rattle.choice.specs.Noted.{noted_of, ClosingsFew, Placed}
use Rattle.offers.specs.Rows.{row_at}
use Rattle.offers.specs.Offers.{OfferSet, candidate_on, place_on, account_on, step_for, type_for}
use Rattle.offers.specs.Process.{candidate_count}

-- candidate i has no step, by the table of steps, and an untried entry
unfoldable pub may_try : Round → List ℕ → List ℕ → ℕ → Bool
may_try r tried steps i = eqb (get_or steps i 0) 0 && ltb (get_or tried i 0) (length (row_at r i))

-- the best untried entry of candidate i
abbrev pub next_entry : Round → List ℕ → ℕ → Entry
next_entry r tried i = entry_at (candidate_at r i) (get_or tried i 0)

-- candidate i has offered the best untried entry, and its institute is marked as one that got an offer
pub record OfferMade (r : Round) (i : ℕ) (tried₀ asked₀ wanted₀ fresh₀ tried asked wanted fresh : List ℕ) : Type 0 where
  pub tried_one : tried ≡ set tried₀ i (suc (get_or tried₀ i 0))
  pub asked_one : asked ≡ set asked₀ i (next_entry r tried₀ i).institute
  pub wanted_one : wanted ≡ set wanted₀ i (2 ^ code_of (next_entry r tried₀ i).category)
  pub fresh_many : length fresh ≡ length fresh₀
  pub fresh_new : get_or fresh ((next_entry r tried₀ i).institute - 1) 0 ≢ 0
  pub fresh_kept : (j : ℕ) → get_or fresh₀ j 0 ≢ 0 → get_or fresh j 0 ≢ 0

-- the tables after everybody who may, by the tables of tried entries and steps, has offered the best untried entry
module _ (r : Round) (steps tried : List ℕ) where
  abbrev pub tried_next : ℕ → ℕ
  tried_next i = cond (may_try r tried steps i) (suc (get_or tried i 0)) (get_or tried i 0)

  abbrev pub asked_next : List ℕ → ℕ → ℕ
  asked_next asked i = cond (may_try r tried steps i) (next_entry r tried i).institute (get_or asked i 0)

  abbrev pub wanted_next : List ℕ → ℕ → ℕ
  wanted_next wanted i = cond (may_try r tried steps i) (2 ^ code_of (next_entry r tried i).category) (get_or wanted i 0)

-- everybody who may has offered, so many in all, and each institute that got an offer is marked
pub record OffersMade (r : Round) (steps tried₀ asked₀ wanted₀ tried asked wanted fresh : List ℕ) (made : ℕ) : Type 0 where
  pub tried_now : tried ≡ tabulate (candidate_count r) (tried_next r steps tried₀)
  pub asked_now : asked ≡ tabulate (candidate_count r) (asked_next r steps tried₀ asked₀)
  pub wanted_now : wanted ≡ tabulate (candidate_count r) (wanted_next r steps tried₀ wanted₀)
  pub number : made ≡ count_of (candidate_count r) (may_try r tried₀ steps)
  pub fresh_many : length fresh ≡ 1000
  pub fresh_new : (i : ℕ) → i < candidate_count r → may_try r tried₀ steps i ≡ true → get_or fresh ((next_entry r tried₀ i).institute - 1) 0 ≢ 0

-- the categories of candidate c's offer, by two tables, where it is made to the institute with a number, else none
unfoldable pub offer_to : ℕ → List ℕ → List ℕ → ℕ → ℕ
offer_to number asked wanted c = cond (eqb (get_or asked c 0) number) (get_or wanted c 0) 0

-- the set of offers that such numbers make
unfoldable pub offers_by : (ℕ → ℕ) → OfferSet
offers_by offer i c = holds (offer i) (code_of c)

-- the marks of candidate c
unfoldable pub marks_of : Round → ℕ → ℕ
marks_of r c = (candidate_at r c).marks

-- no number stands twice among the first k of a list, and each is below n
pub record Apart (who : List ℕ) (n k : ℕ) : Type 0 where
  pub within : (q : ℕ) → q < k → get_or who q 0 < n
  pub once : (q p : ℕ) → q < k → p < q → get_or who p 0 ≢ get_or who q 0

-- at the first k numbers of a list a table has these values, elsewhere what stood there
pub record Scattered (who : List ℕ) (value : ℕ → ℕ) (k : ℕ) (before after : List ℕ) : Type 0 where
  pub many : length after ≡ length before
  pub at : (q : ℕ) → q < k → get_or after (get_or who q 0) 0 ≡ value q
  pub off : (c : ℕ) → ((q : ℕ) → q < k → get_or who q 0 ≢ c) → get_or after c 0 ≡ get_or before c 0

module _ (r : Round) (j : ℕ) where
  -- the candidate at a place of institute j's merit list has an offer
  abbrev pub offers_at : (ℕ → ℕ) → ℕ → Bool
  offers_at offer p = not (eqb (offer (candidate_on r j p)) 0)

  -- the k offers at the first n places of institute j's merit list, in its order: who makes each, the marks and the categories, and, where it is asked for,
  -- the place
  pub record Gathered (offer : ℕ → ℕ) (placed : Bool) (n : ℕ) (who marks offers places : List ℕ) (k : ℕ) : Type 0 where
    pub number : k ≡ count_of n (offers_at offer)
    pub who_at : Gathers (offers_at offer) n (candidate_on r j) who
    pub marks_at : Gathers (offers_at offer) n (λ p. marks_of r (candidate_on r j p)) marks
    pub offers_at_is : Gathers (offers_at offer) n (λ p. offer (candidate_on r j p)) offers
    pub places_at : placed ≡ true → Gathers (offers_at offer) n (λ p. p) places

  -- candidate c stands on institute j's merit list and has an offer
  unfoldable pub takes_part : (ℕ → ℕ) → ℕ → Bool
  takes_part offer c = ltb (place_on r j c) (length (institute_at r j).merit) && not (eqb (offer c) 0)

  -- the first k of a list are those who take part, each once; further lists have for each the step that institute j gives, and, where
  -- it is asked for, the type that it uses; and the numbers are then those of the account, with the places of its closing places put in
  pub record ChosenListed (offer : ℕ → ℕ) (first : Bool) (who chosen used places : List ℕ) (noted : List Numbers) (k : ℕ) : Type 0 where
    pub few : k ≤ 512
    pub apart : Apart who (candidate_count r) k
    pub part : (q : ℕ) → q < k → takes_part offer (get_or who q 0) ≡ true
    pub each : (c : ℕ) → takes_part offer c ≡ true → (q : ℕ) × (q < k) × (get_or who q 0 ≡ c)
    pub chosen_at : (q : ℕ) → q < k → get_or chosen q 0 ≡ step_for r j (offers_by offer) (get_or who q 0)
    pub typed_at_is : first ≡ true → (q : ℕ) → q < k → get_or used q 0 ≡ type_for r j (offers_by offer) (get_or who q 0)
    pub noted_few : first ≡ true → ClosingsFew k noted
    pub noted_as : first ≡ true → (table : List Numbers) → Placed places noted table → table ≡ noted_of (account_on r j (offers_by offer))

  -- a table has these values for those who take part, and for everybody else what stood there
  pub record PutFor (offer value : ℕ → ℕ) (before after : List ℕ) : Type 0 where
    pub many : length after ≡ length before
    pub at : (c : ℕ) → c < candidate_count r → get_or after c 0 ≡ cond (takes_part offer c) (value c) (get_or before c 0)

  -- institute j has chosen from the last offers that were made to it
  abbrev pub ChosenAnew : List ℕ → List ℕ → List ℕ → List ℕ → Type 0
  ChosenAnew asked wanted steps₀ steps =
      PutFor (offer_to (suc j) asked wanted) (step_for r j (offers_by (offer_to (suc j) asked wanted))) steps₀ steps

-- of the first k institutes each that got an offer has chosen
pub record ChosenAll (r : Round) (asked wanted fresh : List ℕ) (k : ℕ) (steps₀ steps : List ℕ) : Type 0 where
  pub many : length steps ≡ length steps₀
  pub chose : (c j : ℕ) → c < candidate_count r → j < k → get_or asked c 0 ≡ suc j → get_or fresh j 0 ≢ 0 → get_or steps c 0
      ≡ cond (takes_part r j (offer_to (suc j) asked wanted) c) (step_for r j (offers_by (offer_to (suc j) asked wanted)) c) (get_or steps₀ c 0)
  pub kept : (c : ℕ) → c < candidate_count r → ((j : ℕ) → j < k → get_or asked c 0 ≡ suc j → get_or fresh j 0 ≡ 0) → get_or steps c 0 ≡ get_or steps₀ c 0

-- the holders: the institutes of the last offers, 0 for whoever has no step
abbrev pub settled : List ℕ → List ℕ → List ℕ
settled asked steps = tabulate (length steps) (λ i. cond (eqb (get_or steps i 0) 0) 0 (get_or asked i 0))
