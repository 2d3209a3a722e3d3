-- When the process of a sound round has ended: an institute's account from any offers between its seats and all offers made to it is the one
-- from all of them, and says which type was used for each seat.
use mathlib.Core.Path.{◌≡◌, refl, sym, ◌∙◌, ap}
use mathlib.Core.Bool.{true}
use mathlib.Core.Logic.{◌⊎◌, inl, inr}
use mathlib.Core.List.{[]}
use Prim.Native.Nat.{ℕ, suc, ◌-◌, ◌<◌}
use native.Mathlib.Omega.{arith}
use native.Mathlib.Decide.{dec_lt}
use lib.ListN.{length, get_or}
use borrow.Author.Tests.{ne_eqb}
use Rattle.round.specs.declared.entry.Category.{Category}
use Rattle.round.specs.Round.{Round}
use Rattle.round.specs.Places.{institute_at}
use Rattle.lists.specs.Lists.{tabulate}
use Rattle.round.specs.Sound.{Sound}
use Rattle.lists.proofs.Words.{length_tabulate, tabulate_at}
use Rattle.choice.specs.Choice.{choose}
use Rattle.choice.specs.Account.{type_used, account_of}
use Rattle.choice.proofs.Accounts.{type_of}
use Rattle.offers.specs.Offers.{OfferSet, marks_on, at_places, place_on, steps_on, account_on, step_for, type_for}
use Rattle.offers.specs.Process.{Seat, no_seat, candidate_count, institute_count, made_to, tried, seats, account_at_end, type_by, types_used}
use Rattle.offers.specs.Stable.{seat_offers}
use Rattle.offers.proofs.Rounds.Agreed.{merit_marks, same_account_on, step_absent}
use Rattle.offers.proofs.Rounds.Running.{held_at, Running, one_at, held_made}
use Rattle.offers.proofs.Rounds.Places.{merit_length}
use Rattle.offers.proofs.Rounds.Seats.{step_in, Seated, Unseated, seat_of}
use Rattle.offers.proofs.Rounds.Process.{tried_running}
use Rattle.offers.proofs.Rounds.SeatOffers.{seated_at, given_held}

module _ {types : ℕ} {r : Round} (sound : Sound types r) (j : ℕ) (hj : j < institute_count r) where
  run : Running r (tried r)
  run = tried_running sound

  pub account_between : (X : OfferSet) → ((i : ℕ) → i < candidate_count r → (c : Category) → X i c ≡ true → made_to r (tried r) j i c ≡ true)
      → ((i : ℕ) → i < candidate_count r → (c : Category) → seat_offers r (seats r) j i c ≡ true → X i c ≡ true)
      → account_on r j X ≡ account_at_end r j
  unfolding account_at_end seats
  account_between X made seated =
      same_account_on r j (sound.institute j hj) X (made_to r (tried r) j) (one_at sound run j hj) made
      (λ i hi c t. seated i hi c (given_held sound run i j hi hj c ∙ held_at r (tried r) i j c hi hj ∙ t))

  -- from the seats themselves
  pub account_seats : (X : OfferSet) → ((i : ℕ) → i < candidate_count r → (c : Category) → X i c ≡ seat_offers r (seats r) j i c)
      → account_on r j X ≡ account_at_end r j
  unfolding seats
  account_seats X same =
      account_between X (λ i hi c t. held_made sound run i j c (sym (given_held sound run i j hi hj c) ∙ (sym (same i hi c) ∙ t))) (λ i hi c t. same i hi c ∙ t)

  step_here : (i : ℕ)
      → get_or (choose (marks_on r j) (at_places r j (made_to r (tried r) j)) (institute_at r j).steps) (place_on r j i) 0 ≡ step_in r (tried r) j i
  unfolding step_for steps_on
  step_here i = refl

  -- the type used for a candidate with a step is the one that the step used
  pub type_seated : (i k : ℕ) → step_in r (tried r) j i ≡ suc k
      → type_for r j (made_to r (tried r) j) i ≡ type_used (account_of (account_at_end r j) (suc k)) (place_on r j i)
  unfolding account_at_end account_on type_for
  type_seated i k e =
      elim (dec_lt (place_on r j i) (merit_length r j)) [
        | yes l ↦
            type_of (marks_on r j) (at_places r j (made_to r (tried r) j)) (institute_at r j).steps (place_on r j i) k (omega (arith, merit_marks r j))
            (step_here i ∙ e)
        | no l ↦ absurd (omega (arith, step_absent r j (made_to r (tried r) j) i l))
      ]

  -- the type of a candidate with a seat of the institute is the one that the seat's step used
  pub types_at_step : (i k : ℕ) → i < candidate_count r → get_or (seats r) i no_seat ≡ record { institute = suc j; step = suc k }
      → get_or (types_used r) i 0 ≡ type_used (account_of (account_at_end r j) (suc k)) (place_on r j i)
  unfolding types_used type_by
  types_at_step i k hi at =
      let here : suc j - 1 ≡ j = omega arith in
      tabulate_at (candidate_count r) _ 0 i hi
      ∙ rw (at, ne_eqb (suc j) 0 (λ z. omega arith), here, tabulate_at (institute_count r) (account_at_end r) [] j hj)

  -- the type of a candidate whom the institute seats is the one that it uses
  pub types_seated : (i : ℕ) → i < candidate_count r → (get_or (seats r) i no_seat).institute ≡ suc j
      → get_or (types_used r) i 0 ≡ type_for r j (made_to r (tried r) j) i
  unfolding seats
  types_seated i hi e =
      let (d, at) = seated_at sound run i j hi hj e in
      let step : step_in r (tried r) j i ≡ suc (step_in r (tried r) j i - 1) = omega arith in
      types_at_step i (step_in r (tried r) j i - 1) hi (at ∙ ap (λ s. record { institute = suc j; step = s }) step)
      ∙ sym (type_seated i (step_in r (tried r) j i - 1) step)

-- a seat is of an institute of the round
pub seat_inside : {types : ℕ} {r : Round} → Sound types r → (i j : ℕ) → i < candidate_count r → (get_or (seats r) i no_seat).institute ≡ suc j → j < institute_count r
unfolding seats
seat_inside {r = r} sound i j hi e = go (seat_of sound (tried_running sound) i hi)
  where
    go : Seated r (tried r) i ⊎ Unseated r (tried r) i → j < institute_count r
    go (inl s) = omega (arith, s.inside, sym (ap (λ (x : Seat). x.institute) s.seat) ∙ e)
    go (inr s) = absurd (omega (arith, sym (ap (λ (x : Seat). x.institute) s.seat) ∙ e))

module _ (r : Round) where
  pub types_length : length (types_used r) ≡ candidate_count r
  unfolding types_used
  types_length = length_tabulate 0 (candidate_count r) (type_by r (seats r) (tabulate (institute_count r) (account_at_end r)))

  -- whoever has no seat has no type
  pub types_unseated : (i : ℕ) → i < candidate_count r → get_or (seats r) i no_seat ≡ no_seat → get_or (types_used r) i 0 ≡ 0
  unfolding types_used type_by
  types_unseated i hi e = tabulate_at (candidate_count r) _ 0 i hi ∙ rw e
