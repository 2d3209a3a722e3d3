-- The numbers of a seat are small: its institute is one of the round, or 0, and its step is at most 12.
use mathlib.Core.Logic.{◌⊎◌, inl, inr}
use Prim.Native.Nat.{ℕ, ◌<◌, ◌≤◌}
use native.Mathlib.Omega.{arith}
use lib.ListN.{get_or}
use Rattle.round.specs.Round.{Round}
use Rattle.round.specs.Sound.{Sound}
use Rattle.offers.specs.Process.{no_seat, candidate_count, institute_count, made_to, tried, seats}
use Rattle.offers.proofs.Rounds.Agreed.{step_number}
use Rattle.offers.proofs.Rounds.Seats.{Seated, Unseated, seat_of}
use Rattle.offers.proofs.Rounds.Process.{tried_running}

pub seat_few : {types : ℕ} {r : Round} → Sound types r → (i : ℕ) → i < candidate_count r
    → ((get_or (seats r) i no_seat).institute ≤ institute_count r) × ((get_or (seats r) i no_seat).step ≤ 12)
unfolding seats
seat_few {r = r} sound i l = go (seat_of sound (tried_running sound) i l)
  where
    go : Seated r (tried r) i ⊎ Unseated r (tried r) i → ((get_or (seats r) i no_seat).institute ≤ institute_count r) × ((get_or (seats r) i no_seat).step ≤ 12)
    go (inl s) =
        rw s.seat (
          omega (arith, s.inside),
          omega (arith, step_number r s.institute (made_to r (tried r) s.institute) i, (sound.institute s.institute s.inside).steps_most),
        )
    go (inr s) = rw s.seat (omega arith, omega arith)
