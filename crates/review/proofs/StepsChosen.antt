-- Where every institute has chosen, each candidate with an offer has the step that its institute gives.
use Prim.Native.Nat.{ℕ, suc, ◌<◌, ◌≤◌}
use mathlib.Core.Path.{◌≡◌, sym, ◌∙◌, ap}
use mathlib.Core.Bool.{false}
use mathlib.Core.List.{List}
use native.Mathlib.Omega.{arith}
use lib.ListN.{length, get_or, replicate, get_or-replicate, get_or-eq_default}
use borrow.Author.Tests.{eqb-true, lt-ltb, not-false}
use Rattle.round.specs.declared.entry.Category.{Category}
use Rattle.questions.specs.declared.head.Head.{Head as CodeHead}
use Rattle.reader.specs.declared.change.Change.{Change}
use Rattle.round.specs.Round.{Round, Institute}
use Rattle.round.specs.Places.{no_institute}
use Rattle.reader.specs.Opened.{opened_round, OpenedFile}
use Rattle.lists.proofs.Words.{and_no}
use Rattle.lists.proofs.Tabulate.{get_or_zeros}
use Rattle.choice.proofs.Steps.{sized}
use Rattle.lists.proofs.Counting.{clash, test, less_or, same_or}
use Rattle.offers.specs.Rows.{category_at}
use Rattle.offers.specs.Offers.{place_on, step_for}
use Rattle.offers.specs.Process.{candidate_count}
use Rattle.sweeps.specs.Sweeps.{offer_to, offers_by, takes_part, ChosenAll}
use Rattle.offers.proofs.Rounds.Places.{merit_length}
use Rattle.offers.proofs.Rounds.Agreed.{step_absent, step_taken}
use Rattle.offers.proofs.Rounds.FirstDifference.{taken_offered}
use Rattle.offers.proofs.Known.{institutes_few, institutes_many, candidates_many}
use Rattle.sweeps.proofs.Lasts.{holds_none}
use Rattle.review.specs.Tables.{StepsGiven}

-- who takes no part in an institute's choice has no step
module _ (r : Round) (j : ℕ) (offer : ℕ → ℕ) (i : ℕ) where
  -- without an offer
  step_unoffered : offer i ≡ 0 → step_for r j (offers_by offer) i ≡ 0
  unfolding offers_by
  step_unoffered e =
      let k : ℕ = step_for r j (offers_by offer) i in
      let c : Category = category_at r j k in
      let none : offers_by offer i c ≡ false = rw e (holds_none c) in
      same_or k 0 (λ z. z) (λ d. clash (taken_offered r j (offers_by offer) i c (step_taken r j (offers_by offer) i d)) none)

  pub no_part_no_step : takes_part r j offer i ≡ false → step_for r j (offers_by offer) i ≡ 0
  unfolding takes_part
  no_part_no_step f =
      less_or (place_on r j i) (merit_length r j)
      (λ l. step_unoffered (eqb-true (offer i) 0 (not-false _ (and_no _ _ f (lt-ltb (place_on r j i) (merit_length r j) l)))))
      (λ l. step_absent r j (offers_by offer) i (λ m. omega arith))

-- every institute has chosen, and nobody had a step before
module _ {file : List ℕ} {h : CodeHead} {change : Change} {row starts : List ℕ} (at : OpenedFile file h change row starts)
    {asked wanted fresh steps₀ steps : List ℕ} (chosen : ChosenAll (opened_round file change row) asked wanted fresh h.institutes steps₀ steps)
    (marked : fresh ≡ replicate 1000 1) (none : steps₀ ≡ replicate h.candidates 0) where
  abbrev r : Round
  r = opened_round file change row

  no_step_lem : (i : ℕ) → get_or steps₀ i 0 ≡ 0
  no_step_lem i = ap (λ (l : List ℕ). get_or l i 0) none ∙ get_or_zeros h.candidates i

  step_chosen : (i j : ℕ) → i < candidate_count r → get_or asked i 0 ≡ suc j → j < h.institutes
      → get_or steps i 0 ≡ step_for r j (offers_by (offer_to (suc j) asked wanted)) i
  step_chosen i j hi e l =
      let offer : ℕ → ℕ = offer_to (suc j) asked wanted in
      let mark : get_or fresh j 0 ≡ 1 = ap (λ (l : List ℕ). get_or l j 0) marked ∙ get_or-replicate 1000 j 1 0 (omega (arith, institutes_few at)) in
      chosen.chose i j hi l e (λ z. omega arith)
      ∙ test (takes_part r j offer i) (λ t. rw t) (λ f. rw f (no_step_lem i ∙ sym (no_part_no_step r j offer i f)))

  -- no institute of the round has the number that is asked
  step_outside : (i j : ℕ) → i < candidate_count r → get_or asked i 0 ≡ suc j → h.institutes ≤ j
      → get_or steps i 0 ≡ step_for r j (offers_by (offer_to (suc j) asked wanted)) i
  step_outside i j hi e l =
      let nobody : merit_length r j ≡ 0 =
      ap (λ (o : Institute). length o.merit) (get_or-eq_default r.institutes no_institute (omega (arith, institutes_many at))) in
      chosen.kept i hi (λ q m d. absurd (omega arith))
      ∙ no_step_lem i
      ∙ sym (step_absent r j (offers_by (offer_to (suc j) asked wanted)) i (λ m. omega arith))

  pub steps_given : StepsGiven r asked wanted steps
  steps_given = record {
    many = chosen.many ∙ sized h.candidates none ∙ sym (candidates_many at);
    given = λ i j hi e. less_or j h.institutes (step_chosen i j hi e) (step_outside i j hi e);
  }
