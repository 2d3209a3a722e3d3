-- What the review answers: for an opened round, by the sizes that questions 15 and 14 ask for, and for a file.
use Prim.Native.Nat.{ℕ, ◌*◌, ◌<◌, ◌≤◌}
use mathlib.Core.Path.{◌≡◌, refl, sym, ap, ◌∙◌}
use mathlib.Core.Logic.{◌≢◌}
use mathlib.Core.List.{List, ◌++◌}
use native.Mathlib.Omega.{arith}
use lib.ListN.{length, drop, replicate}
use borrow.Author.Tests.{eq-eqb, ne_eqb, le-leb, lt-leb}
use Rattle.questions.specs.declared.form.Form.{Form}
use Rattle.questions.specs.declared.head.Head.{Head as CodeHead}
use Rattle.reader.specs.declared.change.Change.{Change}
use Rattle.questions.specs.Form.{seat_width}
use Rattle.round.specs.Round.{Round}
use Rattle.questions.specs.Records.{Head, form_of}
use Rattle.questions.specs.Reading.{round_of}
use Rattle.questions.specs.Refusal as verdicts
use Rattle.questions.specs.Refusal.{verdict}
use Rattle.reader.specs.Opened.{opened_round, OpenedFile}
use Rattle.reader.specs.Calls.{work_size}
use Rattle.reader.specs.Outcome.{verdict_of, RoundRead}
use Rattle.reader.specs.declared.refusal.Refusal.{Refusal}
use Rattle.reader.proofs.Calls.{work_by_lem, read_refused}
use Rattle.std.specs.Prelude.{Result, Ok, Err}
use Rattle.questions.specs.Numbered.{number_of}
use Rattle.questions.specs.declared.question.Question.TheVariants as Question
use Rattle.offers.proofs.Known.{candidates_many}
use Rattle.review.specs.declared.Judgement.{Judgement}
use Rattle.review.specs.Finding.{finding}
use Rattle.review.specs.Outcome.{finding_of, outcome, work_after, Called}
use Rattle.offers.specs.Listed.{list_size, list_of, UnderReview}
use Rattle.review.specs.Promise.{Promise}
use Rattle.review.proofs.Promised.{promised}

-- the refusals of the call's own
abbrev no_list : Refusal
no_list = record { question = Question.List; offset = 0 }

abbrev no_areas : Refusal
no_areas = record { question = Question.Areas; offset = 0 }

-- an opened round, and the size of the list that the code has worked out
module _ {file : List ℕ} {h : CodeHead} {change : Change} {row starts : List ℕ} (hand : OpenedFile file h change row starts) where
  abbrev r : Round
  r = opened_round file change row

  module _ {size : ℕ} (due : size ≡ seat_width h.form * h.candidates) (list : List ℕ) where
    size_due : size ≡ list_size h.form r
    size_due = due ∙ ap (λ (n : ℕ). seat_width h.form * n) (sym (candidates_many hand))

    pub other_size : {f : Refusal} (work : List ℕ) → length list ≢ size → f ≡ no_list → Called h.form r list work (Err f) work
    other_size work d e = rw e record { answered = rw (ne_eqb (length list) (list_size h.form r) (λ e. d (e ∙ sym size_due))); work_area = refl }

    module _ (same : length list ≡ size) where
      pub under_review : UnderReview h list
      under_review = record { size = same ∙ due }

      pub work_small : {f : Refusal} (work : List ℕ) → length work < 8 * h.candidates → f ≡ no_areas → Called h.form r list work (Err f) work
      work_small work l e = rw e record {
        answered = rw (eq-eqb (length list) (list_size h.form r) (same ∙ size_due), lt-leb (work_size r) (length work) (omega (arith, candidates_many hand)));
        work_area = refl;
      }

      pub all_well : (work : List ℕ) {workNow : List ℕ} {what : Judgement} → 8 * h.candidates ≤ length work
          → finding_of what ≡ finding r (list_of h.form r list)
          → workNow ≡ replicate (8 * h.candidates) 0 ++ drop (8 * h.candidates) work → Called h.form r list work (Ok what) workNow
      all_well work {what = what} l told cleared = record {
        answered =
            rw (
              told,
              eq-eqb (length list) (list_size h.form r) (same ∙ size_due),
              le-leb (work_size r) (length work) (omega (arith, candidates_many hand)),
            );
        work_area = work_by_lem {what = finding_of what} r work refl (candidates_many hand) cleared;
      }

-- a file that is refused, and one whose own round was at hand
module _ (file : List ℕ) {list work : List ℕ} where
  pub file_refused : {f : Refusal} → verdict file ≡ verdicts.refused (number_of f.question) f.offset → Promise file list work (Err f) work
  unfolding outcome work_after
  file_refused e = promised file list work (rw e) (rw e)

  -- as the reader hands it up
  pub round_refused : {read : Result CodeHead Refusal} {starts : List ℕ} {f : Refusal} → RoundRead file read starts → read ≡ Err f → Promise file list work (Err f) work
  round_refused read e = file_refused (read_refused (rw e at read))

  passes_called : {result : Result Judgement Refusal} {workNow : List ℕ} → verdict file ≡ verdicts.passes → Called (form_of file) (round_of file) list work result workNow
      → Promise file list work result workNow
  unfolding outcome work_after
  passes_called e c = promised file list work (rw e c.answered) (rw (e, ← c.answered) c.work_area)

  -- the round is the file's own
  own_called : {form : Form} {r : Round} → verdict file ≡ verdicts.passes → form ≡ form_of file → r ≡ round_of file
      → {result : Result Judgement Refusal} {workNow : List ℕ} → Called form r list work result workNow → Promise file list work result workNow
  own_called accepted form own called = passes_called accepted (rw (form, own) at called)

  pub file_called : {h : CodeHead} {change : Change} {row starts : List ℕ} → OpenedFile file h change row starts → opened_round file change row ≡ round_of file
      → {result : Result Judgement Refusal} {workNow : List ℕ} → Called h.form (opened_round file change row) list work result workNow → Promise file list work result workNow
  file_called hand own called = own_called hand.accepted (ap (λ (h : Head). h.form) hand.head) own called

  pub round_called : {read : Result CodeHead Refusal} {starts : List ℕ} {h given : CodeHead} → RoundRead file read starts → read ≡ Ok h → given ≡ h → {r : Round} → r ≡ round_of file
      → {result : Result Judgement Refusal} {workNow : List ℕ} → Called given.form r list work result workNow → Promise file list work result workNow
  round_called {h = h} round e given own called =
      let form : h.form ≡ form_of file = ap (λ (h : Head). h.form) (round.head h e) in
      own_called (sym round.answer ∙ ap verdict_of e) (ap (λ (h : CodeHead). h.form) given ∙ form) own called
