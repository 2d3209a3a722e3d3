-- `offers::seats::rank_in` meets its contract: the rank is the first place with the entry. Assumes nothing.
use mathlib.Core.Path.{sym, ◌∙◌}
use borrow.Author.Rules.{rules}
use Rattle.offers.proofs.FirstFound.{find_or_end, rank_first}
use Rattle.offers.proofs.seats.rank_in.Goals as goal

pub returns : goal.returns
returns c = c.unwrap_or.ensures ∙ find_or_end _ _ _ _ c.row_length-size.ensures c.find.ensures.ran (λ x b q k. search rules) ∙ sym (rank_first _ _)
