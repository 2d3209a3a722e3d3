-- A list of seats as the code's local tables hold it, and its bytes.
use Rattle.std.specs.Prelude.{ℕ, suc, ◌^◌, ◌≤◌, ◌<◌, ◌≡◌, List, length, get_or}
use Rattle.lists.specs.Lists.{tabulate, joined}
use Rattle.questions.specs.declared.form.Form.{Form}
use Rattle.questions.specs.Form.{institutes_most}
use Rattle.round.specs.Category.{code_of}
use Rattle.round.specs.Round.{Round}
use Rattle.offers.specs.Rows.{category_at}
use Rattle.offers.specs.Process.{Seat, no_seat}
use Rattle.offers.specs.Areas.{seat_bytes}

-- two arrays hold a list of seats: the institute and the step of each candidate
pub record HeldIn (list : List Seat) (holders steps : List ℕ) : Type 0 where
  pub holders_many : length holders ≡ length list
  pub steps_many : length steps ≡ length list
  pub seat : (i : ℕ) → i < length list → get_or list i no_seat ≡ record { institute = get_or holders i 0; step = get_or steps i 0 }

-- the seat that two arrays hold for candidate i
abbrev pub seat_held : List ℕ → List ℕ → ℕ → Seat
seat_held holders steps i = record { institute = get_or holders i 0; step = get_or steps i 0 }

-- the list that two arrays hold
unfoldable pub seats_held : List ℕ → List ℕ → List Seat
seats_held holders steps = tabulate (length holders) (seat_held holders steps)

-- the bytes of the seats that two arrays hold
unfoldable pub held_bytes : Form → List ℕ → List ℕ → List ℕ
held_bytes form holders steps =
    let list : List Seat = seats_held holders steps in
    joined (tabulate (length holders) (λ i. seat_bytes form (get_or list i no_seat)))

-- each number of an array is 0 or that of an institute which a file of the form may have
abbrev pub HoldersFew : Form → List ℕ → Type 0
HoldersFew form holders = (i : ℕ) → i < length holders → get_or holders i 0 ≤ institutes_most form

-- a table has for each of the first k candidates who has a holder the set of the category of the step there
pub record SeatsWanted (r : Round) (k : ℕ) (holders steps wanted : List ℕ) : Type 0 where
  pub many : length wanted ≡ length steps
  pub at : (i j : ℕ) → i < k → get_or holders i 0 ≡ suc j → get_or wanted i 0 ≡ 2 ^ code_of (category_at r j (get_or steps i 0))
