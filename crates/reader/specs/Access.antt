-- What the body of an institute of the opened round stands for.
use Rattle.std.specs.Prelude.{ℕ, ◌≡◌, List}
use Rattle.questions.specs.declared.head.Head.{Head as CodeHead}
use Rattle.round.specs.Round.{Round}
use Rattle.questions.specs.Reading.{steps_in}
use Rattle.round.specs.Places.{institute_at}
use Rattle.questions.specs.Read.{as_head, LawfulSteps}

-- an institute's body gives its steps
pub record StepsRead (r : Round) (h : CodeHead) (j : ℕ) (body : List ℕ) : Type 0 where
  pub steps_of : steps_in (as_head h) body ≡ (institute_at r j).steps
  pub lawful : LawfulSteps (as_head h) body
