-- When a call answers "allotted", and what it leaves in the answer area.
use Prim.Native.Nat.{ℕ, ◌<◌, ◌≤◌}
use mathlib.Core.Path.{◌≡◌}
use mathlib.Core.List.{List, ◌++◌}
use borrow.Author.Tests.{le-leb}
use lib.ListN.{length, get_or, drop}
use Rattle.questions.specs.Records.{form_of, head_of}
use Rattle.questions.specs.Reading.{round_of}
use Rattle.round.specs.Sound.{Sound}
use Rattle.reader.proofs.Sound.{sound}
use Rattle.questions.specs.Refusal as Refusal
use Rattle.questions.specs.Refusal.{verdict, passes}
use Rattle.offers.specs.Process.{no_seat, candidate_count, institute_count, offers_made, seats, types_used}
use Rattle.allotment.specs.Areas.{answer_bytes, answer_size, type_standing}
use Rattle.offers.specs.Areas.{seat_in, seats_in}
use Rattle.reader.specs.Calls.{Outcome, said, refused, work_size}
use Rattle.reader.proofs.Calls.{said_passes}
use Rattle.allotment.specs.Outcome.{outcome, answer_after, Accepted}
use Rattle.allotment.proofs.Files.AreaSeats.{length_answer, seat_stands, seats_stand, type_stands}

module _ (file : List ℕ) (a w : ℕ) where
  -- the file is refused
  pub outcome_refused : (number offset : ℕ) → verdict file ≡ Refusal.refused number offset → outcome file a w ≡ refused number offset
  unfolding outcome
  outcome_refused number offset e = rw e

  pub outcome_allotted : verdict file ≡ passes → answer_size (form_of file) (round_of file) ≤ a → work_size (round_of file) ≤ w
      → outcome file a w ≡ said (offers_made (round_of file))
  unfolding outcome
  outcome_allotted e l m = rw (e, le-leb (answer_size (form_of file) (round_of file)) a l, le-leb (work_size (round_of file)) w m)

-- what an accepted call leaves in the answer area
module _ (file answer work : List ℕ) where
  abbrev called : Outcome ℕ
  called = outcome file (length answer) (length work)

  pub answer_written : (offers : ℕ) → called ≡ said offers
      → answer_after file answer work ≡ answer_bytes (form_of file) (round_of file) ++ drop (answer_size (form_of file) (round_of file)) answer
  unfolding answer_after
  answer_written offers e = rw (e, length_answer (form_of file) (round_of file))

-- the list that stands in the answer area after an accepted call
module _ (file answer work : List ℕ) (accepted : Accepted file answer work) where
  pub accepted_passes : verdict file ≡ passes
  unfolding outcome
  accepted_passes = (said_passes (verdict file) accepted.1).0

  -- its round is sound
  pub accepted_sound : Sound (head_of file).types (round_of file)
  accepted_sound = sound file accepted_passes

  pub seat_after : (i : ℕ) → i < candidate_count (round_of file) → seat_in (form_of file) (answer_after file answer work) i ≡ get_or (seats (round_of file)) i no_seat
  seat_after i l = rw (answer_written file answer work accepted.0 accepted.1) (seat_stands (form_of file) (round_of file) accepted_sound _ i l)

  pub type_after_lem : (i : ℕ) → i < candidate_count (round_of file)
      → type_standing (form_of file) (round_of file).steps_listed (candidate_count (round_of file)) (institute_count (round_of file)) (answer_after file answer work) i ≡ get_or (types_used (round_of file)) i 0
  type_after_lem i l = rw (answer_written file answer work accepted.0 accepted.1) (type_stands (form_of file) (round_of file) _ i l)

  pub seats_after_lem : seats_in (form_of file) (candidate_count (round_of file)) (answer_after file answer work) ≡ seats (round_of file)
  seats_after_lem = rw (answer_written file answer work accepted.0 accepted.1) (seats_stand (form_of file) (round_of file) accepted_sound _)
