-- A list of seats for the candidates of a round: which of the seats are in their holders' rows, and these as offers (document 02, Points 5 and 7).
use Rattle.std.specs.Prelude.{ℕ, ◌*◌, ◌-◌, ◌^◌, ◌≤◌, ◌<◌, ◌≡◌, Bool, true, false, ◌&&◌, List, ltb, length, get_or}
use Rattle.questions.specs.declared.form.Form.{Form}
use Rattle.questions.specs.declared.head.Head.{Head as CodeHead}
use Rattle.round.specs.Category.{code_of}
use Rattle.round.specs.Round.{Round}
use Rattle.questions.specs.Form.{seat_width}
use Rattle.offers.specs.Rows.{row_at, category_at}
use Rattle.offers.specs.Offers.{OfferSet}
use Rattle.offers.specs.Process.{Seat, candidate_count}
use Rattle.offers.specs.Areas.{seats_in}
use Rattle.offers.specs.Standing.{seat_rank}
use Rattle.offers.specs.Stable.{seat_on, seat_offers}

module _ (r : Round) (list : List Seat) where
  -- candidate i's seat is in the row: it stands for an entry of the row
  unfoldable pub in_row : ℕ → Bool
  in_row i = ltb (seat_rank r i (seat_on list i)) (length (row_at r i))

  -- the listed seats at institute j that are in their rows, each as its holder's offer of the entry it stands for
  unfoldable pub listed_at : ℕ → OfferSet
  listed_at j i c = in_row i && seat_offers r list j i c

  -- how many entries of candidate i's row rank above the seat: all where there is no seat, or none in the row
  unfoldable pub above : ℕ → ℕ
  above i = seat_rank r i (seat_on list i)

-- the bytes of a list under review: a seat for each candidate
abbrev pub list_size : Form → Round → ℕ
list_size form r = seat_width form * candidate_count r

-- the list of seats that the bytes under review stand for
abbrev pub list_of : Form → Round → List ℕ → List Seat
list_of form r list = seats_in form (candidate_count r) list

-- a list with a seat's bytes for each candidate
pub record UnderReview (h : CodeHead) (list : List ℕ) : Type 0 where
  pub size : length list ≡ seat_width h.form * h.candidates

-- of the first k candidates two tables have the seats that are in their rows, and of nobody else any
pub record SeatsRead (r : Round) (list : List Seat) (k : ℕ) (asked wanted : List ℕ) : Type 0 where
  pub asked_many : length asked ≡ candidate_count r
  pub wanted_many : length wanted ≡ candidate_count r
  pub asked_at : (i : ℕ) → i < k → in_row r list i ≡ true → get_or asked i 0 ≡ (seat_on list i).institute
  pub wanted_at : (i : ℕ) → i < k → in_row r list i ≡ true → get_or wanted i 0 ≡ 2 ^ code_of (category_at r ((seat_on list i).institute - 1) (seat_on list i).step)
  pub nobody : (i : ℕ) → i < k → in_row r list i ≡ false → get_or asked i 0 ≡ 0
  pub later : (i : ℕ) → k ≤ i → get_or asked i 0 ≡ 0

-- the tables have every listed seat that is in its row
abbrev pub AllRead : Round → Form → List ℕ → List ℕ → List ℕ → Type 0
AllRead r form list asked wanted = SeatsRead r (list_of form r list) (candidate_count r) asked wanted
