-- Where more offers change an institute's steps, it takes one of the new offers however many of the other new ones are made with it.
use mathlib.Core.Path.{◌≡◌, subst, ◌∙◌, sym, ap}
use mathlib.Core.Bool.{true, false}
use mathlib.Core.Logic.{◌⊎◌, inl, inr}
use Prim.Native.Nat.{ℕ, ◌<◌}
use native.Mathlib.Omega.{arith}
use native.Mathlib.Decide.{dec_lt}
use lib.ListN.{get_or}
use Rattle.round.specs.declared.entry.Category.{Category}
use Rattle.round.specs.Round.{Round}
use Rattle.round.specs.Places.{institute_at}
use Rattle.round.specs.Sound.{SoundInstitute}
use Rattle.choice.proofs.Offers.{Within}
use Rattle.choice.proofs.Chosen.{taken_under, choose_offered}
use Rattle.choice.proofs.FirstDifference.{NewlyTaken, first_difference}
use Rattle.offers.specs.Offers.{OfferSet, candidate_on, marks_on, at_places, place_on, steps_on, step_for, taken_from}
use Rattle.offers.specs.Process.{candidate_count}
use Rattle.offers.proofs.Rounds.Places.{merit_length, candidate_at_lem, candidate_below, place_of}
use Rattle.offers.proofs.Rounds.Completed.{lawful}
use Rattle.offers.proofs.Rounds.Agreed.{under_is, merit_marks, step_number, step_absent, taken_step}

-- an offer of W outside X that institute j takes from whatever offers of W are added to those of X, itself among them
pub record NewlyTakenFrom (r : Round) (j : ℕ) (X W : OfferSet) : Type 0 where
  pub candidate : ℕ
  pub category : Category
  pub inside : candidate < candidate_count r
  pub wanted : W candidate category ≡ true
  pub outside : X candidate category ≡ false
  pub takes : (Y : OfferSet) → Within X Y → Within Y W → Y candidate category ≡ true → taken_from r j Y candidate category ≡ true

module _ (r : Round) (j : ℕ) where
  -- what is taken, by the step that takes it
  taken_under_lem : (Y : OfferSet) (i : ℕ) (c : Category) → taken_from r j Y i c ≡ taken_under (institute_at r j).steps (step_for r j Y i) c
  unfolding taken_from
  taken_under_lem Y i c = under_is (institute_at r j).steps (step_for r j Y i) c (step_number r j Y i)

  -- an institute takes only what is offered
  pub taken_offered : (Y : OfferSet) (i : ℕ) (c : Category) → taken_from r j Y i c ≡ true → Y i c ≡ true
  unfolding step_for steps_on
  taken_offered Y i c t =
      elim (dec_lt (place_on r j i) (merit_length r j)) [
        | yes l ↦
            subst (λ i. Y i c ≡ true) (candidate_at_lem r j i l)
            (choose_offered (marks_on r j) (at_places r j Y) (institute_at r j).steps (place_on r j i) (omega (arith, merit_marks r j)) c
            (sym (taken_under_lem Y i c) ∙ t))
        | no l ↦ absurd ((taken_step r j Y i c t).0 (step_absent r j Y i l))
      ]

  module _ {types : ℕ} (sound : SoundInstitute (candidate_count r) types (institute_at r j)) where
    -- the candidate at a place is taken by the step given there
    taken_here : (Y : OfferSet) (p : ℕ) (c : Category) → p < merit_length r j
        → taken_from r j Y (candidate_on r j p) c ≡ taken_under (institute_at r j).steps (get_or (steps_on r j Y) p 0) c
    unfolding step_for
    taken_here Y p c l =
        taken_under_lem Y (candidate_on r j p) c
        ∙ ap (λ (q : ℕ). taken_under (institute_at r j).steps (get_or (steps_on r j Y) q 0) c) (place_of r j sound p l)

    -- the institute gives the same steps, or some offer of W outside X is newly taken
    pub first_difference_on : (X W : OfferSet) → Within X W → (steps_on r j X ≡ steps_on r j W) ⊎ NewlyTakenFrom r j X W
    unfolding steps_on
    first_difference_on X W fewer =
        go
        (first_difference (marks_on r j) (at_places r j X) (at_places r j W)
        (λ p. fewer (candidate_on r j p))
        (institute_at r j).steps
        (lawful r j sound))
      where
        go : (steps_on r j X ≡ steps_on r j W) ⊎ NewlyTaken (marks_on r j) (institute_at r j).steps (at_places r j X) (at_places r j W)
            → (steps_on r j X ≡ steps_on r j W) ⊎ NewlyTakenFrom r j X W
        go (inl e) = inl e
        go (inr new) =
            let p : ℕ = new.place in
            let l : p < merit_length r j = omega (arith, merit_marks r j) in
            inr record {
              candidate = candidate_on r j p;
              category = new.category;
              inside = candidate_below r j sound p l;
              wanted = new.wanted;
              outside = new.outside;
              takes = λ Y more less v.
                  taken_here Y p new.category l ∙ new.takes (at_places r j Y) (λ q. more (candidate_on r j q)) (λ q. less (candidate_on r j q)) v;
            }
