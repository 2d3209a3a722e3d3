-- Where the bytes of a seat stand in a list of seats.
use Prim.Native.Nat.{ℕ, ◌+◌, ◌*◌, ◌<◌, ◌≤◌}
use mathlib.Core.Path.{◌≡◌, refl}
use native.Mathlib.Omega.{arith}
use Rattle.questions.specs.declared.form.Form.{Form}
use Rattle.questions.specs.declared.form.Form.TheVariants.{Narrow, Wide}
use Rattle.questions.specs.Form.{seat_width}
use Rattle.offers.specs.Process.{Seat}
use Rattle.offers.specs.Areas.{seat_bytes}
use lib.ListN.{length}

-- a seat has as many bytes in either form as the form says
pub length_seat : (form : Form) (s : Seat) → length (seat_bytes form s) ≡ seat_width form
length_seat Narrow s = refl
length_seat Wide s = refl

-- the seat of candidate i lies within the bytes of n seats
pub seat_within : (form : Form) (n i : ℕ) → i < n → seat_width form * i + seat_width form ≤ seat_width form * n
seat_within Narrow n i l = omega arith
seat_within Wide n i l = omega arith

pub seat_inside : (form : Form) {size n i : ℕ} → size ≡ seat_width form * n → i < n → seat_width form * i + seat_width form ≤ size
seat_inside form {n = n} {i = i} e l = rw e (seat_within form n i l)

-- in a wide file it has four bytes
pub wide_bytes : {form : Form} (i size : ℕ) → seat_width form * i + seat_width form ≤ size → form ≡ Wide → 4 * i + 4 ≤ size
wide_bytes i size inside e = rw e at inside
