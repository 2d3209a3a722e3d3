-- The types that are published are those of the first placings.
use Rattle.round.specs.Round.{Round}
use Rattle.round.specs.Places.{institute_at}
use Rattle.choice.proofs.TypesFirst.{account_first}
use Rattle.offers.specs.Offers.{marks_on, at_places, account_on}
use Rattle.offers.specs.Process.{made_to, tried, account_at_end}
use Rattle.offers.specs.FirstTypes.{FirstTypes}

pub types_first : (r : Round) → FirstTypes r
unfolding account_at_end account_on
types_first r j k hj l = account_first (marks_on r j) (at_places r j (made_to r (tried r) j)) (institute_at r j).steps k l
