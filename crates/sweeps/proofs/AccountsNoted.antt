-- The types used: the offers that the seats stand for, and what is noted as one institute after the other chooses from its seats.
use Prim.Native.Nat.{ℕ, suc, ◌+◌, ◌^◌, ◌<◌}
use mathlib.Core.Path.{◌≡◌, refl, sym, ◌∙◌, ap}
use mathlib.Core.Bool.{true, not, ◌&&◌}
use mathlib.Core.Logic.{◌≢◌, ◌⊎◌, inl, inr}
use mathlib.Core.List.{List}
use native.Mathlib.Omega.{arith}
use native.Mathlib.Decide.{dec_lt}
use lib.ListN.{length, get_or, replicate}
use lib.Seq.{ext_get_or}
use borrow.Author.Tests.{eq-eqb, ne_eqb, lt-ltb}
use Rattle.round.specs.declared.entry.Category.{Category}
use Rattle.questions.specs.declared.head.Head.{Head as CodeHead}
use Rattle.reader.specs.declared.change.Change.{Change}
use Rattle.round.specs.Category.{code_of}
use Rattle.round.specs.Round.{Round}
use Rattle.round.specs.Sound.{Sound}
use Rattle.reader.specs.Opened.{opened_round, OpenedFile}
use Rattle.lists.specs.Numbers.{holds}
use Rattle.choice.specs.Account.{type_in, StepAccount}
use Rattle.choice.specs.declared.step.Numbers.{Numbers}
use Rattle.choice.specs.Noted.{noted_of}
use Rattle.lists.proofs.Counting.{same_or, and_true}
use Rattle.lists.proofs.Tabulate.{get_or_zeros}
use Rattle.choice.proofs.Steps.{sized}
use Rattle.offers.specs.Rows.{same_category, category_at}
use Rattle.offers.specs.Offers.{place_on, account_on, type_for}
use Rattle.offers.specs.Process.{Seat, candidate_count, institute_count, made_to, tried, seats, account_at_end, types_used}
use Rattle.offers.specs.Stable.{seat_offers}
use Rattle.offers.specs.Standing.{is_step}
use Rattle.offers.specs.Held.{HeldIn}
use Rattle.sweeps.specs.Sweeps.{offer_to, offers_by, takes_part}
use Rattle.offers.specs.Held.{SeatsWanted}
use Rattle.sweeps.specs.Accounts.{AccountedAnew, TypesNoted}
use Rattle.offers.proofs.Rounds.Places.{merit_length}
use Rattle.offers.proofs.Rounds.Agreed.{step_number, step_absent}
use Rattle.offers.proofs.Rounds.Seats.{step_in, Seated, Unseated, seat_of}
use Rattle.offers.proofs.Rounds.Process.{tried_running}
use Rattle.offers.proofs.Rounds.Bounds.{list_length}
use Rattle.offers.proofs.Rounds.Standing.{is_step_lem}
use Rattle.offers.proofs.Rounds.AccountRound.{account_seats, types_seated, types_length, types_unseated}
use Rattle.offers.proofs.Known.{candidates_many, institutes_many, round_sound}
use Rattle.offers.proofs.Wanted.{seat_step}
use Rattle.sweeps.proofs.Lasts.{holds_only, holds_none, only_some, no_part}

-- the notes have a place for each candidate
module _ {file : List ℕ} {h : CodeHead} {change : Change} {row starts : List ℕ} (hand : OpenedFile file h change row starts) where
  pub types_each : {k : ℕ} {holders types : List ℕ} → TypesNoted (opened_round file change row) k holders types → length types ≡ h.candidates
  types_each noted = noted.many ∙ candidates_many hand

  -- before any institute has chosen nobody has a type
  pub none_noted : {holders types : List ℕ} → types ≡ replicate h.candidates 0 → TypesNoted (opened_round file change row) 0 holders types
  none_noted e = record {
    many = sized _ e ∙ sym (candidates_many hand);
    noted = λ i j hi l. absurd (omega arith);
    others = λ i hi none. ap (λ (t : List ℕ). get_or t i 0) e ∙ get_or_zeros h.candidates i;
  }

-- two arrays hold the list of the round
module _ {file : List ℕ} {h : CodeHead} {change : Change} {row starts : List ℕ} (hand : OpenedFile file h change row starts)
    {holders steps : List ℕ} (list : HeldIn (seats (opened_round file change row)) holders steps) where
  abbrev r : Round
  r = opened_round file change row

  abbrev sound : Sound h.types (opened_round file change row)
  sound = round_sound hand

  -- and a third has the sets of its seats' categories
  module _ {wanted : List ℕ} (wants : SeatsWanted (opened_round file change row) (length steps) holders steps wanted) where
    -- whoever is held by institute j has a set with the category of the step
    module _ (i j : ℕ) (hi : i < candidate_count r) (hj : j < institute_count r) (e : get_or holders i 0 ≡ suc j) where
      stepped : (get_or steps i 0 ≡ step_in r (tried r) j i) × (step_in r (tried r) j i ≢ 0)
      stepped = seat_step hand list i j hi hj e

      wanted_at : get_or wanted i 0 ≡ 2 ^ code_of (category_at r j (get_or steps i 0))
      wanted_at = wants.at i j (omega (arith, list.steps_many, list_length r)) e

      held_given : (c : Category) → holds (get_or wanted i 0) (code_of c) ≡ (is_step r (record { institute = suc j; step = get_or steps i 0 }) && same_category (category_at r j (get_or steps i 0)) c)
      held_given c =
          ap (λ x. holds x (code_of c)) wanted_at
          ∙ holds_only (category_at r j (get_or steps i 0)) c
          ∙ rw (is_step_lem r j (get_or steps i 0) hj (λ z. stepped.1 (sym stepped.0 ∙ z)) (omega (arith, stepped.0, step_number r j (made_to r (tried r) j) i, sound.numbered j hj)))

      -- and takes part where institute j chooses from its seats
      held_part : takes_part r j (offer_to (suc j) holders wanted) i ≡ true
      unfolding takes_part offer_to
      held_part =
          elim (dec_lt (place_on r j i) (merit_length r j)) [
            | yes l ↦
                and_true _ _ (lt-ltb _ _ l)
                (rw (eq-eqb (get_or holders i 0) (suc j) e, wanted_at) (ap not (ne_eqb _ 0 (only_some (category_at r j (get_or steps i 0))))))
            | no l ↦ absurd (stepped.1 (step_absent r j (made_to r (tried r) j) i l))
          ]

    -- the offers by the tables are those that the seats stand for
    offers_given : (i j : ℕ) (c : Category) → i < candidate_count r → j < institute_count r → offers_by (offer_to (suc j) holders wanted) i c ≡ seat_offers r (seats r) j i c
    unfolding offers_by offer_to seat_offers
    offers_given i j c hi hj =
        rw (list.seat i (omega (arith, list_length r)))
        (same_or (get_or holders i 0) (suc j)
        (λ e. rw (e, eq-eqb (suc j) (suc j) refl) (held_given i j hi hj e c))
        (λ d. rw (ne_eqb (get_or holders i 0) (suc j) d) (holds_none c)))

    -- the account of institute j when it chooses from its seats is that of its choice from all offers made to it
    pub account_same : (j : ℕ) → j < institute_count r → account_on r j (offers_by (offer_to (suc j) holders wanted)) ≡ account_at_end r j
    account_same j hj = account_seats sound j hj (offers_by (offer_to (suc j) holders wanted)) (λ k hk c. offers_given k j c hk hj)

    type_same : (i j : ℕ) → j < institute_count r → type_for r j (offers_by (offer_to (suc j) holders wanted)) i ≡ type_for r j (made_to r (tried r) j) i
    unfolding type_for account_at_end
    type_same i j hj = ap (λ (account : List StepAccount). type_in account (place_on r j i)) (account_same j hj)

    -- and so are its numbers
    pub numbers_same : {k : ℕ} {types types' : List ℕ} {noted : List Numbers} → k < h.institutes → AccountedAnew (opened_round file change row) k holders wanted types types' noted
        → noted ≡ noted_of (account_at_end (opened_round file change row) k)
    numbers_same {k} l all = all.numbers ∙ ap noted_of (account_same k (omega (arith, institutes_many hand)))

    -- one institute more
    pub one_noted : {k : ℕ} {types types' : List ℕ} {noted : List Numbers} → k < h.institutes → TypesNoted (opened_round file change row) k holders types
        → AccountedAnew (opened_round file change row) k holders wanted types types' noted → TypesNoted (opened_round file change row) (k + 1) holders types'
    one_noted {k} l u all = let a = all.typed in record {
      many = a.many ∙ u.many;
      noted = λ i j hi m e.
          same_or j k
          (λ s.
          let at : get_or holders i 0 ≡ suc k = e ∙ ap suc s in
          let hk : k < institute_count r = omega (arith, institutes_many hand) in
          rw s (a.at i hi ∙ rw (held_part i k hi hk at) (type_same i k hk)))
          (λ d. a.at i hi ∙ rw (no_part r k holders wanted i (λ z. d (omega arith))) (u.noted i j hi (omega arith) e));
      others = λ i hi none.
          a.at i hi ∙ rw (no_part r k holders wanted i (none k (omega arith))) (u.others i hi (λ j m. none j (omega arith)));
    }

-- two arrays hold the list of the round
module _ {file : List ℕ} {h : CodeHead} {change : Change} {row starts : List ℕ} (hand : OpenedFile file h change row starts)
    {holders steps : List ℕ} (list : HeldIn (seats (opened_round file change row)) holders steps) where
  -- every institute has chosen, and the types are those of the round
  pub all_noted : {k : ℕ} {types : List ℕ} → k ≡ h.institutes → TypesNoted (opened_round file change row) k holders types → types ≡ types_used (opened_round file change row)
  unfolding seats
  all_noted {k} {types} e u =
      ext_get_or 0 types (types_used (opened_round file change row)) (u.many ∙ sym (types_length (opened_round file change row)))
      (λ i l. at i (omega (arith, u.many)) (seat_of sound (tried_running sound) i (omega (arith, u.many))))
    where
      sound : Sound h.types (opened_round file change row)
      sound = round_sound hand

      at : (i : ℕ) → i < candidate_count (opened_round file change row) → Seated (opened_round file change row) (tried (opened_round file change row)) i ⊎ Unseated (opened_round file change row) (tried (opened_round file change row)) i
          → get_or types i 0 ≡ get_or (types_used (opened_round file change row)) i 0
      at i hi (inl s) =
          let seat = list.seat i (omega (arith, list_length (opened_round file change row))) in
          let held : get_or holders i 0 ≡ suc s.institute = sym (ap (λ (x : Seat). x.institute) seat) ∙ ap (λ (x : Seat). x.institute) s.seat in
          u.noted i s.institute hi (omega (arith, institutes_many hand, s.inside)) held
          ∙ sym (types_seated sound s.institute s.inside i hi (ap (λ (x : Seat). x.institute) s.seat))
      at i hi (inr s) =
          let seat = list.seat i (omega (arith, list_length (opened_round file change row))) in
          let held : get_or holders i 0 ≡ 0 = sym (ap (λ (x : Seat). x.institute) seat) ∙ ap (λ (x : Seat). x.institute) s.seat in
          u.others i hi (λ j m z. omega arith) ∙ sym (types_unseated (opened_round file change row) i hi s.seat)
