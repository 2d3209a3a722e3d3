use Rattle.choice.proofs.Noted.{PlacedTo}
use Rattle.choice.proofs.account.place_closings.Given as goal

abbrev pub invariant-loop-numbers : goal.invariant-loop-numbers
invariant-loop-numbers l = PlacedTo l.places l.initial.noted l.numbers-index l.noted
