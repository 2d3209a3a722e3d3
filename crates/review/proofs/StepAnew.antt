-- Where an institute has chosen, a candidate whose step was 0 before has the step that the institute gives.
use Prim.Native.Nat.{ℕ, suc, ◌<◌}
use mathlib.Core.Path.{◌≡◌, sym, ◌∙◌}
use mathlib.Core.List.{List}
use lib.ListN.{get_or}
use Rattle.round.specs.Round.{Round}
use Rattle.lists.proofs.Counting.{test}
use Rattle.offers.specs.Offers.{step_for}
use Rattle.offers.specs.Process.{candidate_count}
use Rattle.sweeps.specs.Sweeps.{offer_to, offers_by, takes_part, ChosenAnew}
use Rattle.review.proofs.StepsChosen.{no_part_no_step}

pub step_anew : (r : Round) (j : ℕ) (asked wanted : List ℕ) {steps steps' : List ℕ} → ChosenAnew r j asked wanted steps steps'
    → (i : ℕ) → i < candidate_count r → get_or steps i 0 ≡ 0 → get_or steps' i 0 ≡ step_for r j (offers_by (offer_to (suc j) asked wanted)) i
step_anew r j asked wanted a i l z =
    let offer : ℕ → ℕ = offer_to (suc j) asked wanted in
    a.at i l ∙ test (takes_part r j offer i) (λ t. rw t) (λ f. rw f (z ∙ sym (no_part_no_step r j offer i f)))
