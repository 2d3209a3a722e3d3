-- What the types are that are published (document 02, Point 3: "An institute's choice shall now give the first placing: ..").
use Rattle.std.specs.Prelude.{ℕ, suc, ◌<◌, length}
use Rattle.round.specs.Round.{Round}
use Rattle.round.specs.Places.{institute_at, step_at}
use Rattle.choice.specs.Account.{account_of, TypesFirst}
use Rattle.offers.specs.Offers.{marks_on}
use Rattle.offers.specs.Process.{institute_count, account_at_end}

-- when the process has ended, at every step of every institute, in its choice from all offers ever made to it: down the merit list, those whom
-- the step took for raising the use have the smallest of all placings that place them all, and nobody else has a type
abbrev pub FirstTypes : Round → Type 0
FirstTypes r =
    (j k : ℕ) → j < institute_count r → k < length (institute_at r j).steps →
    TypesFirst (step_at (institute_at r j) k).reserved (marks_on r j) (account_of (account_at_end r j) (suc k))
