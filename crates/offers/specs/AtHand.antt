-- The seats of a list that is at hand.
use Rattle.std.specs.Prelude.{List}
use Rattle.reader.specs.AtHand.{round_at}
use Rattle.offers.specs.declared.listed.Listed.{Listed}
use Rattle.offers.specs.Listed.{list_of}
use Rattle.offers.specs.Process.{Seat}

-- the seats of a list under review
abbrev pub seats_at : Listed → List Seat
seats_at l = list_of l.o.head.form (round_at l.o) l.list.now
