-- The page as it is read off an answer area.
use Rattle.std.specs.Prelude.{ℕ, ◌+◌, ◌*◌, ◌≡◌, Bool, List, ◌++◌}
use Rattle.lists.specs.Lists.{tabulate, joined}
use Rattle.lists.specs.Numbers.{word}
use Rattle.questions.specs.Records.{form_of}
use Rattle.questions.specs.declared.form.Form.{Form}
use Rattle.questions.specs.Form.{seat_width}
use Rattle.questions.specs.Reading.{round_of}
use Rattle.questions.specs.Refusal.{verdict, passes}
use Rattle.offers.specs.Process.{offers_made}
use Rattle.allotment.specs.Areas.{closing_count, closing_width, type_standing, answer_bytes}
use Rattle.offers.specs.Areas.{seat_in}
use Rattle.page.specs.Page.{offers_line, seat_line, closing_line}

-- the lines of the seats and types that stand in an answer area
unfoldable pub seat_lines : Form → Bool → List ℕ → ℕ → ℕ → List ℕ
seat_lines form listed answer candidates institutes =
    joined (tabulate candidates (λ i. seat_line (i + 1) (seat_in form answer i) (type_standing form listed candidates institutes answer i)))

-- the closing place of step k, where those of its institute start at a byte
abbrev pub place_in : List ℕ → ℕ → ℕ → ℕ
place_in answer from k = word answer (from + 2 * k)

-- the lines of the closing places that stand behind the seats
unfoldable pub closing_lines : Form → Bool → List ℕ → ℕ → ℕ → List ℕ
closing_lines form listed answer candidates institutes =
    joined
    (tabulate institutes (λ j. closing_line (j + 1) (closing_count listed) (place_in answer (seat_width form * candidates + closing_width listed * j))))

-- the page that the number of offers and an answer area stand for
unfoldable pub page_in : Form → Bool → ℕ → ℕ → ℕ → List ℕ → List ℕ
page_in form listed offers candidates institutes answer =
    offers_line offers ++ seat_lines form listed answer candidates institutes ++ closing_lines form listed answer candidates institutes

-- an accepted file with its number of offers, and an area that starts with its answer
pub record Answered (file : List ℕ) (offers : ℕ) (answer : List ℕ) : Type 0 where
  pub accepted : verdict file ≡ passes
  pub counted : offers ≡ offers_made (round_of file)
  pub rest : List ℕ
  pub stands : answer ≡ answer_bytes (form_of file) (round_of file) ++ rest
