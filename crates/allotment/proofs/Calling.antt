-- What the public call knows: of the opened round, by the sizes that question 14 asks for, and of the file.
use Prim.Native.Nat.{ℕ, ◌*◌, ◌<◌, ◌≤◌}
use mathlib.Core.Path.{◌≡◌, refl, sym, ap, ◌∙◌}
use mathlib.Core.Bool.{Bool, true, false, cond, ◌&&◌}
use mathlib.Core.List.{List, ◌++◌}
use native.Mathlib.Omega.{arith}
use lib.Dec.{leb}
use lib.ListN.{length, drop, replicate}
use borrow.Author.Tests.{le-leb, lt-leb}
use Rattle.questions.specs.Read.{as_head}
use Rattle.questions.specs.declared.form.Form.{Form}
use Rattle.questions.specs.declared.head.Head.{Head as CodeHead}
use Rattle.reader.specs.declared.change.Change.{Change}
use Rattle.round.specs.Round.{Round}
use Rattle.questions.specs.Records.{Head, form_of, own_steps}
use Rattle.questions.specs.Reading.{round_of}
use Rattle.questions.specs.Refusal as verdicts
use Rattle.questions.specs.Refusal.{verdict}
use Rattle.reader.specs.Opened.{OpenedFile, opened_round}
use Rattle.reader.specs.Calls.{work_size}
use Rattle.reader.proofs.Bodies.{opened_listed}
use Rattle.reader.specs.Outcome.{verdict_of, RoundRead}
use Rattle.reader.proofs.Calls.{work_by_lem, read_refused}
use Rattle.offers.specs.Process.{candidate_count, institute_count, offers_made}
use Rattle.offers.proofs.Known.{candidates_many, institutes_many}
use Rattle.std.specs.Prelude.{Result, Ok, Err}
use Rattle.questions.specs.declared.question.Question.TheVariants.{Areas}
use Rattle.reader.specs.declared.refusal.Refusal.{Refusal}
use Rattle.allotment.specs.declared.Answer.{Answer}
use Rattle.allotment.specs.declared.Answer.TheVariants.{Refused}
use Rattle.allotment.specs.Areas.{size_for, answer_bytes, answer_size}
use Rattle.allotment.specs.Outcome.{answer_of, outcome, answer_after, work_after, Called}
use Rattle.allotment.specs.Promise.{Promise}
use Rattle.allotment.proofs.Files.AreaSeats.{length_answer}
use Rattle.allotment.proofs.Files.Promised.{promised}

-- the bytes that question 14 asks for, by the numbers of a round
size_by : (form : Form) (r : Round) (listed : Bool) (n m : ℕ) → candidate_count r ≡ n → institute_count r ≡ m → r.steps_listed ≡ listed → answer_size form r ≡ size_for form listed n m
size_by form r listed n m e f d = rw (e, f, d)

no_room : {A : Type 0} (b : Bool) (here there : A) → cond (b && false) here there ≡ there
no_room true here there = refl
no_room false here there = refl

-- question 14 answered no
abbrev no_areas : Refusal
no_areas = record { question = Areas; offset = 0 }

-- the opened round
module _ {file : List ℕ} {h : CodeHead} {change : Change} {row starts : List ℕ} (hand : OpenedFile file h change row starts) where
  abbrev r : Round
  r = opened_round file change row

  -- the sizes that question 14 asks for, by the flag that code has found
  module _ {listed : Bool} {asked : ℕ} (flag : listed ≡ own_steps (as_head h)) (size : asked ≡ size_for h.form listed h.candidates h.institutes) where
    size_here : answer_size h.form r ≡ asked
    size_here =
        size_by h.form r listed h.candidates h.institutes (candidates_many hand) (institutes_many hand) (opened_listed hand ∙ sym flag) ∙ sym size

    pub answer_fits : {room : ℕ} → asked ≤ room → answer_size h.form r ≤ room
    answer_fits l = omega (arith, size_here)

    module _ {answer work : List ℕ} where
      pub answer_small : {f : Refusal} → length answer < asked → f ≡ no_areas → Called h.form r answer work (answer_of (Err f)) answer work
      answer_small l e = rw e record { answered = rw (lt-leb (answer_size h.form r) (length answer) (omega (arith, size_here))); answer_area = refl; work_area = refl }

      pub all_well : {offers : ℕ} {answerNow workNow : List ℕ} → asked ≤ length answer → 8 * h.candidates ≤ length work
          → offers ≡ offers_made r
          → answerNow ≡ answer_bytes h.form r ++ drop (answer_size h.form r) answer
          → workNow ≡ replicate (8 * h.candidates) 0 ++ drop (8 * h.candidates) work
          → Called h.form r answer work (answer_of (Ok offers)) answerNow workNow
      all_well {offers} l m told seen cleared = record {
        answered =
            rw (
              told,
              le-leb (answer_size h.form r) (length answer) (omega (arith, size_here)),
              le-leb (work_size r) (length work) (omega (arith, candidates_many hand)),
            );
        answer_area = seen ∙ ap (λ (size : ℕ). answer_bytes h.form r ++ drop size answer) (sym (length_answer h.form r));
        work_area = work_by_lem {what = offers} r work refl (candidates_many hand) cleared;
      }

  pub work_small : {f : Refusal} {answer work : List ℕ} → length work < 8 * h.candidates → f ≡ no_areas → Called h.form r answer work (answer_of (Err f)) answer work
  work_small {f} {answer} {work} l e = rw e record {
    answered = rw (lt-leb (work_size r) (length work) (omega (arith, candidates_many hand))) (sym (no_room (leb (answer_size h.form r) (length answer)) _ _));
    answer_area = refl;
    work_area = refl;
  }

-- a file that is refused, and one whose own round was at hand
module _ (file : List ℕ) {answer work : List ℕ} where
  pub file_refused : {number offset : ℕ} → verdict file ≡ verdicts.refused number offset → Promise file answer work (Refused number offset) answer work
  unfolding outcome answer_after work_after
  file_refused e = promised file answer work _ answer work (rw e) (rw e) (rw e)

  -- as the reader hands it up
  pub round_refused : {read : Result CodeHead Refusal} {starts : List ℕ} {f : Refusal} → RoundRead file read starts → read ≡ Err f → Promise file answer work (answer_of (Err f)) answer work
  round_refused read e = file_refused (read_refused (rw e at read))

  passes_called : {result : Answer} {answerNow workNow : List ℕ} → verdict file ≡ verdicts.passes → Called (form_of file) (round_of file) answer work result answerNow workNow → Promise file answer work result answerNow workNow
  unfolding outcome answer_after work_after
  passes_called {result} {answerNow} {workNow} e c =
      promised file answer work result answerNow workNow (rw e c.answered)
      (rw (e, ← c.answered) c.answer_area) (rw (e, ← c.answered) c.work_area)

  -- the round is the file's own
  own_called : {form : Form} {r : Round} → verdict file ≡ verdicts.passes → form ≡ form_of file → r ≡ round_of file
      → {result : Answer} {answerNow workNow : List ℕ} → Called form r answer work result answerNow workNow
      → Promise file answer work result answerNow workNow
  own_called accepted form own called = passes_called accepted (rw (form, own) at called)

  pub file_called : {h : CodeHead} {change : Change} {row starts : List ℕ} → OpenedFile file h change row starts → opened_round file change row ≡ round_of file
      → {result : Answer} {answerNow workNow : List ℕ} → Called h.form (opened_round file change row) answer work result answerNow workNow
      → Promise file answer work result answerNow workNow
  file_called hand own called = own_called hand.accepted (ap (λ (h : Head). h.form) hand.head) own called

  pub round_called : {read : Result CodeHead Refusal} {starts : List ℕ} {h given : CodeHead} → RoundRead file read starts → read ≡ Ok h → given ≡ h → {r : Round} → r ≡ round_of file
      → {result : Answer} {answerNow workNow : List ℕ} → Called given.form r answer work result answerNow workNow
      → Promise file answer work result answerNow workNow
  round_called {h = h} round e given own called =
      let form : h.form ≡ form_of file = ap (λ (h : Head). h.form) (round.head h e) in
      own_called (sym round.answer ∙ ap verdict_of e) (ap (λ (h : CodeHead). h.form) given ∙ form) own called
