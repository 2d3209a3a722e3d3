-- What the searches of a review find.
use Rattle.std.specs.Prelude.{ℕ, ◌<◌, ◌≡◌, Bool, true, false, List, Option, MatchOption}
use Rattle.lists.specs.Lists.{first_of}
use Rattle.round.specs.declared.entry.Entry.{Entry}
use Rattle.round.specs.Round.{Round}
use Rattle.round.specs.Places.{candidate_at, entry_at}
use Rattle.offers.specs.Process.{Seat}
use Rattle.review.specs.Finding.{best, better}

-- the first number below n that passes the test, or none where none does
abbrev pub FirstOf : Option ℕ → ℕ → (ℕ → Bool) → Type 0
FirstOf found n test = MatchOption found (first_of n test ≡ n) (λ i. (i < n) × (i ≡ first_of n test))

-- the best entry above candidate i's seat that would be chosen, or none where none would
abbrev pub BestEntry : Round → List Seat → ℕ → Option Entry → Type 0
BestEntry r list i found =
    MatchOption found (better r list i ≡ false) (λ entry. (better r list i ≡ true) × (entry ≡ entry_at (candidate_at r i) (best r list i)))
