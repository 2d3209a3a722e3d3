-- Where an institute's completion takes at most one offer of each candidate, the institute takes the same offers, and from any offers between
-- those taken and those made it gives the same steps and the same account.
use mathlib.Core.Path.{◌≡◌, refl, sym, ◌∙◌, ap}
use mathlib.Core.Bool.{Bool, true, false, not, ◌&&◌}
use mathlib.Core.Logic.{◌≢◌}
use mathlib.Core.List.{List, [], ◌∷◌}
use Prim.Native.Nat.{ℕ, zero, suc, ◌-◌, ◌≤◌, ◌<◌}
use native.Mathlib.Omega.{arith}
use native.Mathlib.Decide.{dec_lt}
use lib.Dec.{eqb}
use lib.ListN.{length, get_or, length-map, get_or-eq_default}
use borrow.Author.Tests.{eqb-true, eqb-false, eq-eqb, ne_eqb, not-true}
use Rattle.round.specs.declared.entry.Category.{Category}
use Rattle.round.specs.Category.{code_of}
use Rattle.round.specs.Round.{StepRule, Round}
use Rattle.round.specs.Places.{institute_at, no_step}
use Rattle.round.specs.Sound.{SoundInstitute}
use Rattle.lists.proofs.Words.{and_fst, and_snd}
use Rattle.choice.proofs.Offers.{WithinBelow, Alone, same_self, same_category_lem}
use Rattle.choice.proofs.Chosen.{taken_under, choose_length, choose_number}
use Rattle.choice.proofs.Agreement.{agreement, same_steps, same_account}
use Rattle.offers.specs.Rows.{same_category, category_at}
use Rattle.offers.specs.Offers.{OfferSet, candidate_on, marks_on, at_places, place_on, steps_on, account_on, step_for, taken_from}
use Rattle.offers.proofs.Rounds.Places.{merit_length, candidate_below}
use Rattle.offers.proofs.Rounds.Completed.{completed_at, completed, completed_on, completed_off, completed_here, lawful}

eqb_sym : (a b : ℕ) → eqb a b ≡ eqb b a
eqb_sym a b = go (eqb b a) refl
  where
    go : (t : Bool) → eqb b a ≡ t → eqb a b ≡ eqb b a
    go true e = eq-eqb a b (sym (eqb-true b a e)) ∙ sym e
    go false e = ne_eqb a b (λ p. eqb-false b a e (sym p)) ∙ sym e

-- step number k, from 1, takes under category c
pub under_is : (rules : List StepRule) (k : ℕ) (c : Category) → k ≤ length rules
    → (not (eqb k 0) && same_category (get_or rules (k - 1) no_step).category c) ≡ taken_under rules k c
under_is [] zero c l = refl
under_is [] (suc k) c l = absurd (omega arith)
under_is (rule ∷ rules) zero c l = refl
under_is (rule ∷ rules) (suc zero) c l = eqb_sym (code_of rule.category) (code_of c)
under_is (rule ∷ rules) (suc (suc k)) c l =
    let a : suc (suc k) - 1 ≡ suc k = omega arith in
    let b : suc k - 1 ≡ k = omega arith in
    let ih = under_is rules (suc k) c (omega arith) in
    rw (a, ne_eqb (suc (suc k)) 0 (λ z. omega arith)) (rw (b, ne_eqb (suc k) 0 (λ z. omega arith)) at ih)

module _ (r : Round) (j : ℕ) where
  -- the completion takes at most one offer of each candidate
  abbrev pub One : OfferSet → Type 0
  One Y = (i : ℕ) (c d : Category) → completed r j Y i c ≡ true → completed r j Y i d ≡ true → c ≡ d

  pub merit_marks : length (marks_on r j) ≡ merit_length r j
  merit_marks = length-map (institute_at r j).merit _

  pub step_number : (Y : OfferSet) (i : ℕ) → step_for r j Y i ≤ length (institute_at r j).steps
  unfolding step_for steps_on
  step_number Y i = choose_number (marks_on r j) (at_places r j Y) (institute_at r j).steps (place_on r j i)

  -- who is absent from the merit list has no step
  pub step_absent : (Y : OfferSet) (i : ℕ) → ¬ (place_on r j i < merit_length r j) → step_for r j Y i ≡ 0
  unfolding step_for steps_on
  step_absent Y i l =
      get_or-eq_default (steps_on r j Y) 0 (omega (arith, merit_marks, choose_length (marks_on r j) (at_places r j Y) (institute_at r j).steps))

  -- who has a step is taken under its category
  pub step_taken : (Y : OfferSet) (i : ℕ) → step_for r j Y i ≢ 0 → taken_from r j Y i (category_at r j (step_for r j Y i)) ≡ true
  unfolding taken_from
  step_taken Y i d = rw (ne_eqb (step_for r j Y i) 0 d) (same_self (category_at r j (step_for r j Y i)))

  pub taken_step : (Y : OfferSet) (i : ℕ) (c : Category) → taken_from r j Y i c ≡ true → (step_for r j Y i ≢ 0) × (category_at r j (step_for r j Y i) ≡ c)
  unfolding taken_from
  taken_step Y i c t = (
    eqb-false (step_for r j Y i) 0 (not-true (eqb (step_for r j Y i) 0) (and_fst (not (eqb (step_for r j Y i) 0)) _ t)),
    same_category_lem (category_at r j (step_for r j Y i)) c (and_snd (not (eqb (step_for r j Y i) 0)) _ t),
  )

  -- the same steps take the same offers
  pub taken_by_steps : (Y Y' : OfferSet) → steps_on r j Y ≡ steps_on r j Y' → (i : ℕ) (c : Category) → taken_from r j Y i c ≡ taken_from r j Y' i c
  unfolding taken_from step_for
  taken_by_steps Y Y' e i c =
      ap (λ (l : List ℕ). not (eqb (get_or l (place_on r j i) 0) 0) && same_category (category_at r j (get_or l (place_on r j i) 0)) c) e

  module _ {n types : ℕ} (sound : SoundInstitute n types (institute_at r j)) where
    alone : (Y : OfferSet) → One Y → Alone (length (marks_on r j)) (completed_at r j Y)
    alone Y one p l c d t u =
        let m : p < merit_length r j = omega (arith, merit_marks) in
        one (candidate_on r j p) c d (completed_here r j sound Y p c m ∙ t) (completed_here r j sound Y p d m ∙ u)

    pub taken_completed : (Y : OfferSet) → One Y → (i : ℕ) (c : Category) → taken_from r j Y i c ≡ completed r j Y i c
    unfolding taken_from step_for steps_on
    taken_completed Y one i c =
        elim (dec_lt (place_on r j i) (merit_length r j)) [
          | yes l ↦
              under_is (institute_at r j).steps (get_or (steps_on r j Y) (place_on r j i) 0) c (step_number Y i)
              ∙ agreement (marks_on r j) (institute_at r j).steps (lawful r j sound) (at_places r j Y) (alone Y one)
              (place_on r j i)
              (omega (arith, merit_marks))
              c
              ∙ sym (completed_on r j Y i c l)
          | no l ↦ rw (step_absent Y i l) (sym (completed_off r j Y i c l))
        ]

    -- offers between those taken and those made
    module _ (Y Y' : OfferSet) (one : One Y')
        (fewer : (i : ℕ) → i < n → (c : Category) → Y i c ≡ true → Y' i c ≡ true)
        (held : (i : ℕ) → i < n → (c : Category) → completed r j Y' i c ≡ true → Y i c ≡ true) where
      fewer_here : WithinBelow (length (marks_on r j)) (at_places r j Y) (at_places r j Y')
      fewer_here p l c = fewer (candidate_on r j p) (candidate_below r j sound p (omega (arith, merit_marks))) c

      held_here : WithinBelow (length (marks_on r j)) (completed_at r j Y') (at_places r j Y)
      held_here p l c t =
          let m : p < merit_length r j = omega (arith, merit_marks) in
          held (candidate_on r j p) (candidate_below r j sound p m) c (completed_here r j sound Y' p c m ∙ t)

      pub same_steps_on : steps_on r j Y ≡ steps_on r j Y'
      unfolding steps_on
      same_steps_on =
          same_steps (marks_on r j) (institute_at r j).steps (lawful r j sound) (at_places r j Y) (at_places r j Y') fewer_here held_here (alone Y' one)

      pub same_account_on : account_on r j Y ≡ account_on r j Y'
      unfolding account_on
      same_account_on =
          same_account (marks_on r j) (institute_at r j).steps (lawful r j sound) (at_places r j Y) (at_places r j Y') fewer_here held_here (alone Y' one)
