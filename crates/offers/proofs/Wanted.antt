-- The seats that two arrays hold, and the sets of their steps' categories.
use Prim.Native.Nat.{ℕ, suc, ◌+◌, ◌-◌, ◌^◌, ◌≤◌, ◌<◌}
use mathlib.Core.Path.{◌≡◌, sym, ◌∙◌, ap, ap₂}
use mathlib.Core.Logic.{◌≢◌}
use mathlib.Core.List.{List}
use native.Mathlib.Omega.{arith}
use lib.ListN.{length, get_or, set, length-set}
use lib.Seq.{get_or-set_same, get_or-set_other}
use Rattle.round.specs.declared.entry.Category.{Category}
use Rattle.questions.specs.declared.head.Head.{Head as CodeHead}
use Rattle.reader.specs.declared.change.Change.{Change}
use Rattle.round.specs.Category.{code_of}
use Rattle.round.specs.Round.{Round}
use Rattle.round.specs.Sound.{Sound}
use Rattle.reader.specs.Opened.{opened_round, OpenedFile}
use Rattle.round.specs.Places.{step_numbers}
use Rattle.lists.proofs.Counting.{same_or}
use Rattle.offers.specs.Rows.{category_at}
use Rattle.offers.specs.Process.{Seat, candidate_count, institute_count, made_to, tried, seats}
use Rattle.offers.specs.Held.{HeldIn}
use Rattle.offers.specs.Held.{SeatsWanted}
use Rattle.offers.proofs.Rounds.Agreed.{step_number}
use Rattle.offers.proofs.Rounds.Seats.{step_in}
use Rattle.offers.proofs.Rounds.Process.{tried_running}
use Rattle.offers.proofs.Rounds.Bounds.{list_length}
use Rattle.offers.proofs.Rounds.SeatsFew.{seat_few}
use Rattle.offers.proofs.Rounds.SeatOffers.{seated_at}
use Rattle.offers.proofs.Known.{candidates_many, institutes_many, round_sound}

-- the sets of the steps' categories, one candidate after the other
module _ {r : Round} {holders steps wanted : List ℕ} {i : ℕ} (w : SeatsWanted r i holders steps wanted) where
  -- the next has no holder
  pub one_unseated : {x : ℕ} → x ≡ get_or holders i 0 → x ≡ 0 → {wanted' : List ℕ} → wanted' ≡ wanted → SeatsWanted r (i + 1) holders steps wanted'
  one_unseated {x} ex z e = rw e record {
    many = w.many;
    at = λ k j l d. same_or k i (λ s. absurd (omega (arith, ex, ap (λ x. get_or holders x 0) s))) (λ n. w.at k j (omega arith) d);
  }

  -- the next has one, and the set of its step's category is written
  pub one_wanted : {c : Category} {number step x : ℕ} → i < length steps → number ≡ get_or holders i 0 → step ≡ get_or steps i 0
      → c ≡ category_at r (number - 1) step → x ≡ 2 ^ code_of c → {wanted' : List ℕ} → wanted' ≡ set wanted i x
      → SeatsWanted r (i + 1) holders steps wanted'
  one_wanted {c} {number} {step} {x} inside eh es ec ex e = rw e record {
    many = length-set wanted i x ∙ w.many;
    at = λ k j l d.
        same_or k i
        (λ s.
        let held : number - 1 ≡ j = omega (arith, eh, ap (λ x. get_or holders x 0) s) in
        rw (s, get_or-set_same wanted i x 0 (omega (arith, w.many)))
        (ex ∙ ap (λ (c : Category). 2 ^ code_of c) (ec ∙ ap₂ (λ (q p : ℕ). category_at r q p) held es)))
        (λ n. get_or-set_other wanted i k x 0 n ∙ w.at k j (omega arith) d);
  }

  pub all_wanted : (n : ℕ) → i ≡ n → SeatsWanted r n holders steps wanted
  all_wanted n e = rw e at w

pub wanted_same : {r : Round} {k : ℕ} {holders steps wanted wanted' : List ℕ} → wanted' ≡ wanted → SeatsWanted r k holders steps wanted → SeatsWanted r k holders steps wanted'
wanted_same e w = rw e w

-- the arrays that hold the list of the round have a place for each candidate
module _ {file : List ℕ} {h : CodeHead} {change : Change} {row starts : List ℕ} (hand : OpenedFile file h change row starts) where
  pub holders_each : {holders steps : List ℕ} → HeldIn (seats (opened_round file change row)) holders steps → length holders ≡ h.candidates
  holders_each list = list.holders_many ∙ list_length (opened_round file change row) ∙ candidates_many hand

  pub steps_each : {holders steps : List ℕ} → HeldIn (seats (opened_round file change row)) holders steps → length steps ≡ h.candidates
  steps_each list = list.steps_many ∙ list_length (opened_round file change row) ∙ candidates_many hand

  pub wanted_each : {k : ℕ} {holders steps wanted : List ℕ} → HeldIn (seats (opened_round file change row)) holders steps → SeatsWanted (opened_round file change row) k holders steps wanted → length wanted ≡ h.candidates
  wanted_each list wants = wants.many ∙ steps_each list

-- two arrays hold the list of the round
module _ {file : List ℕ} {h : CodeHead} {change : Change} {row starts : List ℕ} (hand : OpenedFile file h change row starts)
    {holders steps : List ℕ} (list : HeldIn (seats (opened_round file change row)) holders steps) where
  abbrev r : Round
  r = opened_round file change row

  abbrev sound : Sound h.types (opened_round file change row)
  sound = round_sound hand

  pub arrays_many : length holders ≡ length steps
  arrays_many = list.holders_many ∙ sym list.steps_many

  -- whoever is held by institute j has the step that it gives from all offers made to it
  pub seat_step : (i j : ℕ) → i < candidate_count r → j < institute_count r → get_or holders i 0 ≡ suc j
      → (get_or steps i 0 ≡ step_in r (tried r) j i) × (step_in r (tried r) j i ≢ 0)
  unfolding seats
  seat_step i j hi hj e =
      let seat = list.seat i (omega (arith, list_length r)) in
      let at = seated_at sound (tried_running sound) i j hi hj (ap (λ (s : Seat). s.institute) seat ∙ e) in
      (sym (ap (λ (s : Seat). s.step) seat) ∙ ap (λ (s : Seat). s.step) at.1, at.0)

  -- a holder is an institute of the round, and the step has one of its numbers
  module _ {i number : ℕ} (l : i < length steps) (e : number ≡ get_or holders i 0) (some : number ≢ 0) where
    inside : i < candidate_count r
    inside = omega (arith, list.steps_many, list_length r)

    holder : suc (number - 1) ≡ number
    holder = omega (arith, some)

    below : number - 1 < institute_count r
    below =
        let seat = ap (λ (s : Seat). s.institute) (list.seat i (omega (arith, list_length r, inside))) in
        omega (arith, some, e, seat, (seat_few sound i inside).0)

    at : (get_or steps i 0 ≡ step_in r (tried r) (number - 1) i) × (step_in r (tried r) (number - 1) i ≢ 0)
    at = seat_step i (number - 1) inside below (sym e ∙ sym holder)

    pub seat_known : number - 1 < h.institutes
    seat_known = omega (arith, below, institutes_many hand)

    pub seat_least : {step : ℕ} → step ≡ get_or steps i 0 → 1 ≤ step
    seat_least f = omega (arith, at)

    pub seat_most : {step : ℕ} → step ≡ get_or steps i 0 → step ≤ step_numbers r (number - 1)
    seat_most f = omega (arith, at.0, step_number r (number - 1) (made_to r (tried r) (number - 1)) i, sound.numbered (number - 1) below)
