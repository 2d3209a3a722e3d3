-- The round that is opened.
use Rattle.reader.specs.declared.opened.Opened.{Opened}
use Rattle.reader.specs.Opened.{opened_round}
use Rattle.round.specs.Round.{Round}

-- the round of an opened file, with its change
abbrev pub round_at : Opened → Round
round_at o = opened_round o.file.now o.change o.row.now
