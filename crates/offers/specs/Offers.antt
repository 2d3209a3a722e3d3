-- What one institute of a round chooses from a set of offers to it (document 01, "One institute chooses" and "The words of demand 3").
-- An offer is a candidate with one entry of that candidate's row. A set of offers to an institute says of candidate i, from 0, and a category
-- whether i's entry there is in the set; that each is of the row is said where it matters.
use Rattle.std.specs.Prelude.{ℕ, suc, ◌-◌, Bool, not, ◌&&◌, List, map, eqb, length, get_or}
use Rattle.round.specs.declared.entry.Category.{Category}
use Rattle.lists.specs.Lists.{first_of}
use Rattle.round.specs.Round.{Round}
use Rattle.choice.specs.Choice.{choose}
use Rattle.choice.specs.Account.{StepAccount, account, type_in}
use Rattle.round.specs.Places.{candidate_at, institute_at, merit_at}
use Rattle.offers.specs.Rows.{same_category, category_at}

abbrev pub OfferSet : Type 0
OfferSet = ℕ → Category → Bool

module _ (r : Round) (j : ℕ) where
  -- the candidate, from 0, at a place of the merit list of institute j
  abbrev pub candidate_on : ℕ → ℕ
  candidate_on p = merit_at (institute_at r j) p - 1

  -- the place of candidate i on that merit list; its length where i is absent
  unfoldable pub place_on : ℕ → ℕ
  place_on i =
      first_of (length (institute_at r j).merit) (λ p. eqb (merit_at (institute_at r j) p) (suc i))

  -- the marks at each place of the merit list
  abbrev pub marks_on : List ℕ
  marks_on = map (λ number. (candidate_at r (number - 1)).marks) (institute_at r j).merit

  -- the offers of the candidates at the places
  abbrev pub at_places : OfferSet → ℕ → Category → Bool
  at_places offers p c = offers (candidate_on p) c

  -- the step that each place of the merit list is given when institute j chooses from a set of offers
  unfoldable pub steps_on : OfferSet → List ℕ
  steps_on offers = choose marks_on (at_places offers) (institute_at r j).steps

  -- the account of that choice
  unfoldable pub account_on : OfferSet → List StepAccount
  account_on offers = account marks_on (at_places offers) (institute_at r j).steps

  -- the step at which institute j takes candidate i, 0 for none: whoever is absent from its merit list is unacceptable
  unfoldable pub step_for : OfferSet → ℕ → ℕ
  step_for offers i = get_or (steps_on offers) (place_on i) 0

  -- the type, from 1, that institute j uses for candidate i; 0 where it does not take i for use
  unfoldable pub type_for : OfferSet → ℕ → ℕ
  type_for offers i = type_in (account_on offers) (place_on i)

  -- the offers that institute j takes
  unfoldable pub taken_from : OfferSet → OfferSet
  taken_from offers i c = let k : ℕ = step_for offers i in not (eqb k 0) && same_category (category_at r j k) c
