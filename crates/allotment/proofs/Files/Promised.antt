-- The whole promise of a call from its answer and both areas: every sound round is stable and truthful, its process ends, any order of offers
-- ends alike, its types are those of the first placings, and the steps of policies 0 and 1, written as lists, seat everyone alike.
use Prim.Native.Nat.{ℕ, ◌<◌}
use mathlib.Core.Path.{◌≡◌, sym, ap, ◌∙◌}
use mathlib.Core.List.{List}
use native.Mathlib.Omega.{arith}
use lib.ListN.{length}
use Rattle.questions.specs.Records.{form_of}
use Rattle.questions.specs.Reading.{round_of}
use Rattle.offers.specs.Process.{Seat, candidate_count}
use Rattle.offers.specs.Stable.{Stable}
use Rattle.offers.proofs.Rounds.StableRound.{round_stable}
use Rattle.offers.proofs.Rounds.TruthfulRound.{round_truthful}
use Rattle.offers.proofs.Rounds.AtEnd.{at_end}
use Rattle.offers.proofs.Rounds.AnyOrder.{any_order_ends}
use Rattle.offers.proofs.Rounds.AccountRound.{types_at_step, types_unseated, seat_inside}
use Rattle.offers.proofs.Rounds.FirstTypes.{types_first}
use Rattle.allotment.specs.declared.Answer.{Answer}
use Rattle.offers.specs.Areas.{seats_in}
use Rattle.allotment.specs.Outcome.{outcome_of, outcome, answer_after, work_after, Accepted}
use Rattle.allotment.specs.Truthful.{Truthful}
use Rattle.allotment.specs.Types.{Published}
use Rattle.allotment.specs.Promise.{Promise}
use Rattle.allotment.proofs.Files.Accepting.{accepted_passes, accepted_sound, seat_after, seats_after_lem, type_after_lem}
use Rattle.allotment.proofs.Files.AsLists.{alike_as_lists}
use Rattle.allotment.proofs.Files.AlikeRounds.{same_count, inside, alike_rounds}

truthful : (file answer work : List ℕ) → Accepted file answer work → Truthful file (answer_after file answer work)
unfolding Truthful
truthful file answer work accepted other otherAnswer otherWork otherAccepted i alike =
    let l : i < candidate_count (round_of file) = inside file other i alike in
    let m : i < candidate_count (round_of other) = omega (arith, same_count file other i alike) in
    rw (seat_after file answer work accepted i l, seat_after other otherAnswer otherWork otherAccepted i m)
    (round_truthful (accepted_sound file answer work accepted) (accepted_sound other otherAnswer otherWork otherAccepted) i l
    (alike_rounds file other i alike))

stable : (file answer work : List ℕ) → Accepted file answer work
    → Stable (round_of file) (seats_in (form_of file) (candidate_count (round_of file)) (answer_after file answer work))
stable file answer work accepted = rw (seats_after_lem file answer work accepted) (round_stable (accepted_sound file answer work accepted))

published : (file answer work : List ℕ) → Accepted file answer work → Published (form_of file) (round_of file) (answer_after file answer work)
published file answer work accepted =
    let sound = accepted_sound file answer work accepted in
    record {
      seated = λ i j k l e.
          let seat = sym (seat_after file answer work accepted i l) ∙ e in
          type_after_lem file answer work accepted i l ∙ types_at_step sound j (seat_inside sound i j l (ap (λ (s : Seat). s.institute) seat)) i k l seat;
      unseated = λ i l e. type_after_lem file answer work accepted i l ∙ types_unseated (round_of file) i l (sym (seat_after file answer work accepted i l) ∙ e);
      first = types_first (round_of file);
    }

-- the answer and both areas are the defined ones
pub promised : (file answer work : List ℕ) (result : Answer) (answerNow workNow : List ℕ)
    → outcome_of result ≡ outcome file (length answer) (length work)
    → answerNow ≡ answer_after file answer work → workNow ≡ work_after file answer work
    → Promise file answer work result answerNow workNow
promised file answer work result answerNow workNow told seen cleared = record {
  answered = told;
  answer_area = seen;
  work_area = cleared;
  truthful = λ accepted. rw seen (truthful file answer work accepted);
  stable = λ accepted. rw seen (stable file answer work accepted);
  process = λ accepted. at_end (accepted_sound file answer work accepted);
  any_order = λ accepted. any_order_ends (accepted_sound file answer work accepted);
  types = λ accepted. rw seen (published file answer work accepted);
  as_lists = λ accepted few. alike_as_lists file (accepted_passes file answer work accepted) few;
}
