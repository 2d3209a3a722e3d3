-- Numbers in bytes, and tests of a number.
use Rattle.std.specs.Prelude.{ℕ, suc, ◌+◌, ◌*◌, ◌/◌, ◌%◌, ◌^◌, Bool, ◌&&◌, List, eqb, leb, get_or}

-- the two-byte number at a place, little-endian
abbrev pub word : List ℕ → ℕ → ℕ
word s i = get_or s i 0 + 256 * get_or s (suc i) 0

abbrev pub within : ℕ → ℕ → ℕ → Bool
within low high x = leb low x && leb x high

-- bit t of a byte, from 0, is set: the marks have type t, or a set of categories the one of code t
unfoldable pub holds : ℕ → ℕ → Bool
holds marks t = eqb ((marks / 2 ^ t) % 2) 1
