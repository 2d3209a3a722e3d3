-- The whole promise of a review, from its answer and the work area.
use Prim.Native.Nat.{ℕ}
use mathlib.Core.Path.{◌≡◌, sym, ◌∙◌, ap}
use mathlib.Core.List.{List}
use lib.Dec.{eqb, leb}
use lib.ListN.{length}
use Rattle.questions.specs.Records.{form_of}
use Rattle.questions.specs.Reading.{round_of}
use Rattle.questions.specs.Refusal.{verdict, passes as passes-all}
use Rattle.reader.specs.Calls.{said, work_size}
use Rattle.reader.specs.declared.refusal.Refusal.{Refusal}
use Rattle.std.specs.Prelude.{Result}
use Rattle.reader.proofs.Calls.{said_passes, asks_yes}
use Rattle.reader.proofs.Sound.{sound}
use Rattle.lists.proofs.Words.{length_tabulate}
use Rattle.offers.specs.Areas.{seat_in, seats_in}
use Rattle.offers.specs.Process.{candidate_count, seats}
use Rattle.offers.specs.Stable.{Stable}
use Rattle.review.specs.declared.Judgement.{Judgement}
use Rattle.review.specs.Finding.{Finding, finding}
use Rattle.review.specs.Outcome.{outcome_of, list_for, outcome, work_after, Reviewed, Passing}
use Rattle.offers.specs.Listed.{list_size}
use Rattle.review.specs.Promise.{Promise}
use Rattle.review.proofs.Stability.{passes_stable, stable_passes, own_passes}

list_many : (file list : List ℕ) → length (list_for file list) ≡ candidate_count (round_of file)
unfolding seats_in
list_many file list = length_tabulate 0 (candidate_count (round_of file)) (seat_in (form_of file) list)

module _ (file list work : List ℕ) where
  -- what is found is the finding, of a file that passes
  reviewed_found : {what : Finding} → outcome file list (length work) ≡ said what → (verdict file ≡ passes-all) × (what ≡ finding (round_of file) (list_for file list))
  unfolding outcome
  reviewed_found e =
      let (pass, rest) = said_passes (verdict file) e in
      let roomy = (asks_yes 15 (eqb (length list) (list_size (form_of file) (round_of file))) rest).1 in
      let found = (asks_yes 14 (leb (work_size (round_of file)) (length work)) roomy).1 in
      (pass, cc found)

  only_stable_lem : Passing file list work → Stable (round_of file) (list_for file list)
  only_stable_lem e =
      let (pass, is) = reviewed_found e in
      passes_stable (sound file pass) (list_for file list) (list_many file list) (sym is)

  every_stable_lem : Reviewed file list work → Stable (round_of file) (list_for file list) → Passing file list work
  every_stable_lem (what, e) stable =
      let (pass, is) = reviewed_found e in
      e ∙ ap said (is ∙ stable_passes (sound file pass) (list_for file list) (list_many file list) stable)

  own_list_lem : Reviewed file list work → list_for file list ≡ seats (round_of file) → Passing file list work
  own_list_lem (what, e) own =
      let (pass, is) = reviewed_found e in
      e ∙ ap said (is ∙ ap (finding (round_of file)) own ∙ own_passes (sound file pass))

  -- the answer and the work area are the defined ones
  pub promised : {result : Result Judgement Refusal} {workNow : List ℕ} → outcome_of result ≡ outcome file list (length work) → workNow ≡ work_after file list work
      → Promise file list work result workNow
  promised told left = record { answered = told; work_area = left; only_stable = only_stable_lem; every_stable = every_stable_lem; own_list = own_list_lem }
