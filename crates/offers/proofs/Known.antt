-- What is known of the opened round.
use Prim.Native.Nat.{ℕ, ◌-◌, ◌≤◌, ◌<◌}
use mathlib.Core.Path.{◌≡◌}
use mathlib.Core.List.{List}
use native.Mathlib.Omega.{arith}
use lib.ListN.{length, take, replicate}
use Rattle.questions.specs.declared.head.Head.{Head as CodeHead}
use Rattle.reader.specs.declared.change.Change.{Change}
use Rattle.round.specs.Places.{institute_at, merit_at}
use Rattle.round.specs.Sound.{Sound, SoundInstitute}
use Rattle.reader.specs.Opened.{opened_round, OpenedFile}
use Rattle.reader.proofs.Bodies.{opened_candidates, opened_institutes, opened_sound}
use Rattle.choice.proofs.Steps.{room, front_each, front_zero}
use Rattle.offers.specs.Process.{candidate_count, institute_count}
use Rattle.offers.proofs.Rounds.Bounds.{merit_short}

module _ {file : List ℕ} {h : CodeHead} {change : Change} {row starts : List ℕ} (hand : OpenedFile file h change row starts) where
  pub candidates_many : candidate_count (opened_round file change row) ≡ h.candidates
  candidates_many = opened_candidates hand

  pub institutes_many : institute_count (opened_round file change row) ≡ h.institutes
  institutes_many = opened_institutes hand

  pub round_sound : Sound h.types (opened_round file change row)
  round_sound = opened_sound hand

  pub candidates_few : h.candidates ≤ 512
  candidates_few = omega (arith, candidates_many, round_sound.candidates_most)

  pub institutes_few : h.institutes ≤ 1000
  institutes_few = omega (arith, institutes_many, round_sound.institutes_most_is)

  -- an institute, with its merit list
  module _ {j : ℕ} (inside : j < h.institutes) where
    pub institute_sound : SoundInstitute (candidate_count (opened_round file change row)) h.types (institute_at (opened_round file change row) j)
    institute_sound = round_sound.institute j (omega (arith, institutes_many))

    pub merit_few : length (institute_at (opened_round file change row) j).merit ≤ 512
    merit_few = omega (arith, merit_short (opened_round file change row) j institute_sound, round_sound.candidates_most)

    -- the number at a place, as the code has read it
    module _ {p number : ℕ} (within : p < length (institute_at (opened_round file change row) j).merit) (reads : number ≡ merit_at (institute_at (opened_round file change row) j) p) where
      pub number_least : 1 ≤ number
      number_least = omega (arith, institute_sound.merit_from p within)

      pub number_most : number - 1 < h.candidates
      number_most = omega (arith, institute_sound.merit_from p within, institute_sound.merit_to p within, candidates_many)

  -- a table of zeros has a place for each candidate
  module _ {table : List ℕ} (e : table ≡ replicate 512 0) where
    pub places : h.candidates ≤ length table
    places = room candidates_few e

    pub places_many : length (take h.candidates table) ≡ h.candidates
    places_many = front_each candidates_few e

    pub places_zero : take h.candidates table ≡ replicate h.candidates 0
    places_zero = front_zero candidates_few e
