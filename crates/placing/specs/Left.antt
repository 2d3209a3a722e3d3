-- The positions left of each type while a step is filled (document 02, Point 4).
-- placed has at each place a type, from 1, or 0; left has at each type, from 0, the positions left, carried along.
use Rattle.std.specs.Prelude.{ℕ, zero, suc, ◌+◌, ◌^◌, ◌≤◌, ◌<◌, ◌≡◌, List, eqb, length, get_or, set}
use Rattle.lists.specs.Lists.{bit, count_of}

-- how many are placed at type t, from 0
abbrev pub at_type : List ℕ → ℕ → ℕ
at_type placed t = count_of (length placed) (λ p. eqb (get_or placed p 0) (suc t))

-- the value of each type equals the type's positions less those placed there, who are no more than these: the two make up the positions
pub record Left (reserved left placed : List ℕ) : Type 0 where
  pub each : length reserved ≤ length left
  pub value : (t : ℕ) → t < length reserved → get_or left t 0 + at_type placed t ≡ get_or reserved t 0

-- one position is taken, of one type, from 0, and of no other
pub record OneTaken (reserved left left' : List ℕ) : Type 0 where
  pub type : ℕ
  pub below : type < length reserved
  pub taken : (t : ℕ) → t < length reserved → get_or left' t 0 + bit (eqb type t) ≡ get_or left t 0

-- the values after a position of a type, from 1, is given back; 0 is for none
abbrev pub given_back : List ℕ → ℕ → List ℕ
given_back left zero = left
given_back left (suc t) = set left t (get_or left t 0 + 1)

-- who is at c has no type, or one whose value can be raised
pub record Vacating (left placed : List ℕ) (c : ℕ) : Type 0 where
  pub within : c < length placed
  pub counted : (t : ℕ) → get_or placed c 0 ≡ suc t → (t < length left) × (get_or left t 0 + 1 < 2 ^ 64)
