-- The end of the process (document 01, "Offers"): when offers have ended, and what holds once those of the process have.
use Rattle.std.specs.Prelude.{ℕ, ◌<◌, ◌≤◌, ◌≡◌, false, ◌≢◌, List}
use Rattle.round.specs.Round.{Round}
use Rattle.offers.specs.Offers.{step_for}
use Rattle.offers.specs.Process.{candidate_count, institute_count, made_to, seats_after, may_offer, entry_total, tried, offers_made}

-- in a state nobody may offer any more
abbrev pub Ended : Round → List ℕ → Type 0
Ended r state = (i : ℕ) → i < candidate_count r → may_offer r state (seats_after r state) i ≡ false

-- in a state no two institutes, each choosing from all offers made to it so far, hold one candidate
abbrev pub OneHolder : Round → List ℕ → Type 0
OneHolder r state =
    (i j k : ℕ) → i < candidate_count r → j < institute_count r → k < institute_count r →
    step_for r j (made_to r state j) i ≢ 0 → step_for r k (made_to r state k) i ≢ 0 → j ≡ k

-- what holds when the process has ended
pub record AtEnd (r : Round) : Type 0 where
  -- the number of offers is at most the number of entries
  pub bounded : offers_made r ≤ entry_total r
  -- after the process nobody may offer
  pub ended : Ended r (tried r)
  pub one_holder : OneHolder r (tried r)
