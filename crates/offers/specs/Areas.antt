-- Seats as bytes (document 01, "Offers": "The answer area gets .."; document 02, Points 5 and 6).
use Rattle.std.specs.Prelude.{ℕ, ◌+◌, ◌*◌, ◌/◌, ◌%◌, List, [], ◌∷◌, ◌++◌, get_or}
use Rattle.lists.specs.Lists.{tabulate}
use Rattle.lists.specs.Numbers.{word}
use Rattle.questions.specs.declared.form.Form.{Form}
use Rattle.questions.specs.declared.form.Form.TheVariants.{Narrow, Wide}
use Rattle.offers.specs.Process.{Seat}

-- a two-byte number, little-endian
abbrev pub word_bytes : ℕ → List ℕ
word_bytes x = x % 256 ∷ (x / 256) % 256 ∷ []

-- institute and step; where the file is wide a two-byte institute, the step and a zero byte
abbrev pub seat_bytes : Form → Seat → List ℕ
seat_bytes Narrow s = s.institute ∷ s.step ∷ []
seat_bytes Wide s = word_bytes s.institute ++ (s.step ∷ 0 ∷ [])

-- the seat of candidate i in bytes that begin with a list; where the file is wide the last two bytes are read as one number, so that a last byte
-- other than 0 makes it no step, and no seat of 0 0 either
unfoldable pub seat_in : Form → List ℕ → ℕ → Seat
seat_in Narrow bytes i = record { institute = get_or bytes (2 * i) 0; step = get_or bytes (2 * i + 1) 0 }
seat_in Wide bytes i = record { institute = word bytes (4 * i); step = word bytes (4 * i + 2) }

-- the list of n candidates that bytes begin with
unfoldable pub seats_in : Form → ℕ → List ℕ → List Seat
seats_in form n bytes = tabulate n (seat_in form bytes)
