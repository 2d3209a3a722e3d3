-- The choices of one institute after the other: what the table of steps holds on the way.
use Prim.Native.Nat.{ℕ, suc, ◌+◌, ◌<◌}
use mathlib.Core.Path.{◌≡◌, ◌∙◌, ap}
use mathlib.Core.Bool.{cond}
use mathlib.Core.Logic.{◌≢◌}
use mathlib.Core.List.{List}
use native.Mathlib.Omega.{arith}
use lib.ListN.{get_or}
use Rattle.round.specs.Round.{Round}
use Rattle.lists.proofs.Counting.{same_or}
use Rattle.offers.specs.Offers.{step_for}
use Rattle.offers.specs.Process.{candidate_count}
use Rattle.sweeps.specs.Sweeps.{offer_to, offers_by, takes_part, ChosenAnew, ChosenAll}
use Rattle.sweeps.proofs.Lasts.{no_part}

module _ (r : Round) (asked wanted fresh steps₀ : List ℕ) where
  module _ {k : ℕ} {steps : List ℕ} (s : ChosenAll r asked wanted fresh k steps₀ steps) where
    -- institute k got no offer
    pub one_spared : get_or fresh k 0 ≡ 0 → ChosenAll r asked wanted fresh (k + 1) steps₀ steps
    one_spared z = record {
      many = s.many;
      chose = λ c j hc l e d. same_or j k (λ q. absurd (d (ap (λ x. get_or fresh x 0) q ∙ z))) (λ n. s.chose c j hc (omega arith) e d);
      kept = λ c hc h. s.kept c hc (λ j l. h j (omega arith));
    }

    -- whoever asked another institute last has the step from before the choice of institute k
    untouched : {steps' : List ℕ} → ChosenAnew r k asked wanted steps steps' → (c : ℕ) → c < candidate_count r → get_or asked c 0 ≢ suc k
        → get_or steps' c 0 ≡ get_or steps c 0
    untouched a c hc n = a.at c hc ∙ rw (no_part r k asked wanted c n)

    -- institute k has chosen
    pub one_chosen : get_or fresh k 0 ≢ 0 → {steps' : List ℕ} → ChosenAnew r k asked wanted steps steps' → ChosenAll r asked wanted fresh (k + 1) steps₀ steps'
    one_chosen d {steps'} a = record {
      many = a.many ∙ s.many;
      chose = λ c j hc l e f. same_or j k (λ q. rw q (here c hc (e ∙ ap suc q)))
          (λ n. untouched a c hc (λ z. n (omega arith)) ∙ s.chose c j hc (omega arith) e f);
      kept = λ c hc h. untouched a c hc (λ e. d (h k (omega arith) e)) ∙ s.kept c hc (λ j l. h j (omega arith));
    }
      where
        here : (c : ℕ) → c < candidate_count r → get_or asked c 0 ≡ suc k → get_or steps' c 0
            ≡ cond (takes_part r k (offer_to (suc k) asked wanted) c) (step_for r k (offers_by (offer_to (suc k) asked wanted)) c) (get_or steps₀ c 0)
        here c hc e =
            a.at c hc
            ∙ ap (λ x. cond (takes_part r k (offer_to (suc k) asked wanted) c) (step_for r k (offers_by (offer_to (suc k) asked wanted)) c) x)
            (s.kept c hc (λ j l w. absurd (omega arith)))
