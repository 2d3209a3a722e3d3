-- What the functions that write the answer area speak of: the closing places in the numbers of an account.
use Rattle.std.specs.Prelude.{ℕ, Bool, List, map, take}
use Rattle.lists.specs.Lists.{joined}
use Rattle.choice.specs.declared.step.Numbers.{Numbers}
use Rattle.offers.specs.Areas.{word_bytes}
use Rattle.allotment.specs.Areas.{closing_count}

-- the bytes of an institute's closing places, twelve or six, by the numbers of its account
unfoldable pub closings_in : Bool → List Numbers → List ℕ
closings_in listed noted = joined (map (λ numbers. word_bytes numbers.closing) (take (closing_count listed) noted))
