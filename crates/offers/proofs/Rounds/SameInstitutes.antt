-- Rounds with the same candidates and institutes have the same offers, seats, accounts and types, whether or not their institutes list their own steps.
use Prim.Native.Nat.{ℕ, zero, suc}
use mathlib.Core.Path.{◌≡◌, refl, ap, ◌∙◌, subst, fun_ext}
use mathlib.Core.Bool.{Bool}
use mathlib.Core.List.{List}
use Rattle.round.specs.Round.{Round}
use Rattle.lists.specs.Lists.{list_sum, tabulate}
use Rattle.choice.specs.Account.{StepAccount}
use Rattle.offers.specs.Offers.{place_on, steps_on, account_on}
use Rattle.offers.specs.Process.{Seat, candidate_count, institute_count, made_to, chosen, seat_by, seats_after, may_offer, turn, turns, untried, entry_total, tried, offers_made, seats, account_at_end, type_by, types_used}

-- the round, with its institutes listing their own steps or not
abbrev with_listed : Round → Bool → Round
with_listed r listed = record { candidates = r.candidates; institutes = r.institutes; steps_listed = listed }

module _ (r : Round) (listed : Bool) where
  turns_same : (n : ℕ) (state : List ℕ) → turns (with_listed r listed) n state ≡ turns r n state
  unfolding turns turn may_offer seats_after seat_by chosen made_to steps_on place_on
  turns_same zero state = refl
  turns_same (suc n) state = turns_same n (turn r state)

  tried_same : tried (with_listed r listed) ≡ tried r
  unfolding tried
  tried_same = turns_same (entry_total r) (untried r)

  offers_same : offers_made (with_listed r listed) ≡ offers_made r
  unfolding offers_made
  offers_same = ap list_sum tried_same

  seats_same : seats (with_listed r listed) ≡ seats r
  unfolding seats seats_after seat_by chosen made_to steps_on place_on
  seats_same = ap (seats_after r) tried_same

  account_same : (j : ℕ) → account_at_end (with_listed r listed) j ≡ account_at_end r j
  unfolding account_at_end account_on made_to
  account_same j = ap (λ (state : List ℕ). account_on r j (made_to r state j)) tried_same

  types_same : types_used (with_listed r listed) ≡ types_used r
  unfolding types_used type_by place_on
  types_same =
      ap (λ (list : List Seat). tabulate (candidate_count r) (type_by r list (tabulate (institute_count r) (account_at_end (with_listed r listed))))) seats_same
      ∙ ap (λ (account : ℕ → List StepAccount). tabulate (candidate_count r) (type_by r (seats r) (tabulate (institute_count r) account))) (fun_ext account_same)

-- what both rounds have
pub record SameProcess (r other : Round) : Type 0 where
  pub offers : offers_made other ≡ offers_made r
  pub list : seats other ≡ seats r
  pub accounts : (j : ℕ) → account_at_end other j ≡ account_at_end r j
  pub types : types_used other ≡ types_used r

pub same_process : (r other : Round) → r.candidates ≡ other.candidates → r.institutes ≡ other.institutes → SameProcess r other
same_process r other candidates institutes = subst (SameProcess r) whole record {
  offers = offers_same r other.steps_listed;
  list = seats_same r other.steps_listed;
  accounts = account_same r other.steps_listed;
  types = types_same r other.steps_listed;
}
  where
    whole : with_listed r other.steps_listed ≡ other
    whole = λ k. record { candidates = candidates k; institutes = institutes k; steps_listed = other.steps_listed }
