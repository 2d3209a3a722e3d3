-- What the steps of policies 0 and 1, written as lists, change in an allotment (document 02, Point 7: "Policies 0 and 1, written as such lists, seat
-- everyone alike").
use Rattle.std.specs.Prelude.{ℕ, ◌≡◌, List, ◌++◌, replicate}
use Rattle.round.specs.Round.{Round}
use Rattle.questions.specs.Records.{form_of}
use Rattle.questions.specs.Refusal.{passes, verdict}
use Rattle.questions.specs.Reading.{round_of}
use Rattle.reader.specs.Rewritten.{as_lists}
use Rattle.offers.specs.Process.{offers_made, seats, types_used}
use Rattle.allotment.specs.Areas.{closing_places}

-- two rounds seat everyone alike, the other with twelve closing places for each institute and this one with six: at the steps that both have they are the
-- same, and the others are 0
pub record SeatedAlike (r other : Round) : Type 0 where
  pub offers : offers_made other ≡ offers_made r
  pub seats_alike : seats other ≡ seats r
  pub types : types_used other ≡ types_used r
  pub closing : (j : ℕ) → closing_places other j ≡ closing_places r j ++ replicate 6 0

-- the file with the steps of its institutes written as lists is not refused, has the same form, means a round with the same candidates and institutes,
-- and seats everyone alike
pub record AlikeAsLists (file : List ℕ) : Type 0 where
  pub passing : verdict (as_lists file) ≡ passes
  pub form : form_of (as_lists file) ≡ form_of file
  pub candidates : (round_of (as_lists file)).candidates ≡ (round_of file).candidates
  pub institutes : (round_of (as_lists file)).institutes ≡ (round_of file).institutes
  pub alike : SeatedAlike (round_of file) (round_of (as_lists file))
