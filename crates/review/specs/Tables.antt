-- What the review's tables hold: the listed seats that are in their rows, as offers (for each candidate the number of an institute, 0 for none, and
-- a set of categories, bit c for code c), and the steps that the institutes give.
use Rattle.std.specs.Prelude.{ℕ, suc, ◌^◌, ◌<◌, ◌≡◌, Bool, not, ◌&&◌, List, eqb, length, get_or, set}
use Rattle.std.specs.Int.Bits.{bit_or}
use Rattle.round.specs.declared.entry.Category.{Category}
use Rattle.questions.specs.declared.form.Form.{Form}
use Rattle.round.specs.Category.{code_of}
use Rattle.round.specs.Round.{Round}
use Rattle.offers.specs.Offers.{OfferSet, step_for}
use Rattle.offers.specs.Process.{is_none, candidate_count}
use Rattle.offers.specs.Areas.{seat_in}
use Rattle.sweeps.specs.Sweeps.{offer_to, offers_by}

-- a table has for each candidate with an offer the step that its institute gives when it chooses from the offers to it
pub record StepsGiven (r : Round) (asked wanted steps : List ℕ) : Type 0 where
  pub many : length steps ≡ candidate_count r
  pub given : (i j : ℕ) → i < candidate_count r → get_or asked i 0 ≡ suc j → get_or steps i 0 ≡ step_for r j (offers_by (offer_to (suc j) asked wanted)) i

-- by the bytes of the list and these tables, candidate i's seat is wrong: it is some, and has no offer or another step
unfoldable pub wrong_by : Form → List ℕ → List ℕ → List ℕ → ℕ → Bool
wrong_by form list asked steps i =
    not (is_none (seat_in form list i))
    && not (not (eqb (get_or asked i 0) 0) && eqb (get_or steps i 0) (seat_in form list i).step)

-- the tables with one entry more, that of candidate i with a category at the institute with a number: nobody else's offer is changed, and no
-- other institute than this one chooses from them
unfoldable pub asked_with : ℕ → ℕ → List ℕ → List ℕ
asked_with number i asked = set asked i number

unfoldable pub wanted_with : ℕ → ℕ → Category → List ℕ → List ℕ → List ℕ
wanted_with number i c asked wanted = set wanted i (bit_or (offer_to number asked wanted i) (2 ^ code_of c))

-- the offers to institute j by these
unfoldable pub offers_with : ℕ → ℕ → Category → List ℕ → List ℕ → OfferSet
offers_with j i c asked wanted = offers_by (offer_to (suc j) (asked_with (suc j) i asked) (wanted_with (suc j) i c asked wanted))
