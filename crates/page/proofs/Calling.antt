-- The answer of a call with areas for the largest round, as what is printed: it is allotted where the file passes, and else refused as the file is.
use Prim.Native.Nat.{ℕ, ◌+◌, ◌≤◌, ◌<◌}
use mathlib.Core.Path.{◌≡◌, refl, sym, ap, ◌∙◌}
use mathlib.Core.Bool.{Bool}
use mathlib.Core.List.{List}
use borrow.Author.Tests.{le-leb}
use native.Mathlib.Omega.{arith}
use lib.ListN.{length, drop}
use mir.Syntax.{w64}
use mir.Val as val
use Rattle.questions.specs.declared.form.Form.{Form}
use Rattle.questions.specs.declared.form.Form.TheVariants.{Narrow, Wide}
use Rattle.questions.specs.Records.{form_of}
use Rattle.questions.specs.Reading.{round_of}
use Rattle.questions.specs.Refusal.{Verdict, passes, verdict}
use Rattle.questions.specs.Refusal as Refusal
use Rattle.reader.proofs.Sound.{sound}
use Rattle.offers.specs.Process.{candidate_count, institute_count, offers_made}
use Rattle.allotment.specs.declared.Answer.{Answer}
use Rattle.allotment.specs.declared.Answer.TheVariants.{Allotted, Refused}
use Rattle.allotment.specs.Areas.{size_for, answer_size}
use Rattle.allotment.proofs.Files.AreaSeats.{closings_few}
use Rattle.reader.specs.Calls.{Outcome, said, refused}
use Rattle.allotment.specs.Outcome.{outcome_of, outcome}
use Rattle.allotment.specs.Promise.{Promise}
use Rattle.allotment.proofs.Files.Accepting.{outcome_refused, outcome_allotted, answer_written}
use Rattle.text.specs.declared.Text.{Text}
use Rattle.text.specs.Put.{Fits, Put}
use Rattle.page.specs.Page.{refused_line, page, printed_by, printed_for, printed}
use Rattle.page.specs.Reads.{Answered}
use Rattle.page.proofs.Short.{refusal_short}
use Rattle.page.proofs.Whole.{printed_long}

pub refusal_fits : {area : Text} (number offset : ℕ) → area.len + 94208 ≤ length area.area.now → val.Fits w64 number → val.Fits w64 offset → Fits area (refused_line number offset)
refusal_fits number offset l few small = record { room = omega (arith, refusal_short number offset (omega arith) (omega arith)) }

-- the largest round's answer has 26,560 bytes
size_most : (form : Form) (listed : Bool) (n m : ℕ) → n ≤ 512 → m ≤ 1000 → size_for form listed n m ≤ 26560
size_most Narrow listed n m l k = omega (arith, closings_few listed {m = m} refl k)
size_most Wide listed n m l k = omega (arith, closings_few listed {m = m} refl k)

-- an input that is read
printed_read : (input : List ℕ) → length input ≤ 65536 → printed input ≡ printed_for input
unfolding printed
printed_read input l = rw (le-leb (length input) 65536 l)

-- a call with areas for the largest round
module _ {file answer work answerNow workNow : List ℕ} {told : Answer}
    (promise : Promise file answer work told answerNow workNow) (long : length answer ≡ 26560) (wide : length work ≡ 4096) where
  abbrev here : Outcome ℕ
  here = outcome file (length answer) (length work)

  -- a file that passes is allotted
  passing : verdict file ≡ passes → here ≡ said (offers_made (round_of file))
  passing e =
      outcome_allotted file (length answer) (length work) e
      (omega (
        arith,
        size_most (form_of file) (round_of file).steps_listed (candidate_count (round_of file)) (institute_count (round_of file)) (sound file e).candidates_most (sound file e).institutes_most_is,
      )) (omega (arith, (sound file e).candidates_most))

  module _ {offers : ℕ} (allots : told ≡ Allotted offers) where
    as_allotted : here ≡ said offers
    as_allotted = sym promise.answered ∙ ap outcome_of allots

    passes_then : (v : Verdict) → verdict file ≡ v → verdict file ≡ passes
    passes_then passes e = e
    passes_then (Refusal.refused number offset) e = let z = outcome_refused file (length answer) (length work) number offset e in cc (z, as_allotted)

    accepted : verdict file ≡ passes
    accepted = passes_then (verdict file) refl

    pub answered : Answered file offers answerNow
    answered =
        let same : ◌≡◌ {A = Outcome ℕ} (said offers) (said (offers_made (round_of file))) = sym as_allotted ∙ passing accepted in
        record {
          accepted = accepted;
          counted = cc;
          rest = drop (answer_size (form_of file) (round_of file)) answer;
          stands = promise.answer_area ∙ answer_written file answer work offers as_allotted;
        }

    pub printed_page : length file ≤ 65536 → {area now : Text} → Put area (page (round_of file)) now → Put area (printed file) now
    unfolding printed_for
    printed_page l p = rw (printed_read file l, accepted) p

  module _ {number offset : ℕ} (refuses : told ≡ Refused number offset) where
    as_refused : here ≡ refused number offset
    as_refused = sym promise.answered ∙ ap outcome_of refuses

    printed_refused : (v : Verdict) → verdict file ≡ v → printed_by v (round_of file) ≡ refused_line number offset
    printed_refused passes e = let z = passing e in cc (z, as_refused)
    printed_refused (Refusal.refused n o) e =
        let z : ◌≡◌ {A = Outcome ℕ} (refused n o) (refused number offset) = sym (outcome_refused file (length answer) (length work) n o e) ∙ as_refused in
        cc

    pub printed_line : length file ≤ 65536 → {area now : Text} → Put area (refused_line number offset) now → Put area (printed file) now
    unfolding printed_for
    printed_line l p = rw (printed_read file l, printed_refused (verdict file) refl) p

-- an input that is not read
pub printed_unread : (input : List ℕ) {area now : Text} {number : ℕ} → 65536 < length input → number ≡ 16 → Put area (refused_line number 0) now
    → Put area (printed input) now
printed_unread input l e p = rw (printed_long input l) (rw e at p)
