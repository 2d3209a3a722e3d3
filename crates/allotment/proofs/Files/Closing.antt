-- The closing places of an institute: by its account, and as the numbers of the account have them.
use Prim.Native.Nat.{ℕ, suc, ◌<◌, ◌≤◌}
use mathlib.Core.Path.{◌≡◌, refl, sym, ap, ◌∙◌}
use mathlib.Core.Bool.{Bool, true, false}
use mathlib.Core.List.{List}
use native.Mathlib.Omega.{arith}
use lib.ListN.{length, get_or}
use Rattle.lists.specs.Lists.{greatest_of, joined}
use Rattle.round.specs.Round.{Round}
use Rattle.round.specs.Places.{institute_at}
use Rattle.lists.proofs.Words.{from_same, tabulate_at}
use Rattle.choice.specs.Account.{StepAccount, account_of, closing_place}
use Rattle.choice.specs.declared.step.Numbers.{Numbers}
use Rattle.choice.specs.Noted.{numbers_of, noted_of}
use Rattle.choice.proofs.Accounts.{merit_long, merit_place, largest_few, closing_largest}
use Rattle.choice.proofs.Noted.{none, map_front, noted_at, noted_long}
use Rattle.offers.specs.Areas.{word_bytes}
use Rattle.offers.specs.Offers.{marks_on, at_places, account_on}
use Rattle.offers.specs.Process.{made_to, tried, account_at_end}
use Rattle.offers.proofs.Rounds.Agreed.{merit_marks}
use Rattle.allotment.specs.Areas.{closing_count, places_to, closing_places, closing_bytes}
use Rattle.allotment.specs.Writing.{closings_in}

pub places_few : (listed : Bool) → closing_count listed ≤ 12
unfolding closing_count
places_few true = omega arith
places_few false = omega arith

-- what step k + 1 of institute j did in the end
abbrev step_at_end : Round → ℕ → ℕ → StepAccount
step_at_end r j k = account_of (account_at_end r j) (suc k)

-- its closing place is the largest over the whole merit list
module _ (r : Round) (j k : ℕ) where
  closing_all : closing_place (step_at_end r j k) ≡ greatest_of (length (institute_at r j).merit) (merit_place (step_at_end r j k))
  unfolding account_at_end account_on
  closing_all =
      closing_largest (step_at_end r j k) (length (institute_at r j).merit)
      (omega (arith, merit_marks r j, merit_long (marks_on r j) (at_places r j (made_to r (tried r) j)) (institute_at r j).steps k))

  -- of so many closing places, that of the step
  place_at : (count : ℕ) → k < count → get_or (places_to count r j) k 0 ≡ closing_place (step_at_end r j k)
  unfolding places_to
  place_at count l = tabulate_at count (λ k. closing_place (step_at_end r j k)) 0 k l

  -- and the number of the account
  number_at : (numbers_of (step_at_end r j k)).closing ≡ closing_place (step_at_end r j k)
  unfolding numbers_of
  number_at = refl

  -- a closing place is no larger than the merit list is long
  pub closing_few : (count : ℕ) → k < count → get_or (places_to count r j) k 0 ≤ length (institute_at r j).merit
  closing_few count l = omega (arith, place_at count l, closing_all, largest_few (step_at_end r j k) (length (institute_at r j).merit))

-- the bytes are those of the numbers
pub closings_in_lem : (r : Round) (j : ℕ) {noted : List Numbers} → noted ≡ noted_of (account_at_end r j) → closings_in r.steps_listed noted ≡ closing_bytes r j
unfolding closings_in closing_bytes
closings_in_lem r j {noted} e =
    let count : ℕ = closing_count r.steps_listed in
    ap joined
    (map_front (λ numbers. word_bytes numbers.closing) noted none count (omega (arith, places_few r.steps_listed, ap length e, noted_long (account_at_end r j)))
    ∙ from_same 0 count (λ k. word_bytes (get_or noted k none).closing) (λ k. word_bytes (get_or (closing_places r j) k 0))
    (λ k l.
    ap word_bytes
    (ap (λ (t : List Numbers). (get_or t k none).closing) e
    ∙ ap (λ (numbers : Numbers). numbers.closing) (noted_at (account_at_end r j) k none (omega (arith, places_few r.steps_listed)))
    ∙ number_at r j k
    ∙ sym (place_at r j k count (omega arith)))))
