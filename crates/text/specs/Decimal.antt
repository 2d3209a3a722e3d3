-- A number in base ten, without a zero in front.
use Rattle.std.specs.Prelude.{ℕ, zero, suc, ◌+◌, ◌/◌, ◌%◌, cond, List, [], ◌∷◌, ◌++◌, ltb}

-- the digit of a number below ten
abbrev pub digit : ℕ → List ℕ
digit d = (48 + d) ∷ []

-- a number that has at most so many digits before its last
unfoldable pub decimal_by : ℕ → ℕ → List ℕ
decimal_by zero n = digit n
decimal_by (suc k) n = let longer = decimal_by k (n / 10) ++ digit (n % 10) in cond (ltb n 10) (digit n) longer

-- any number: it has fewer digits before its last than it counts
abbrev pub decimal : ℕ → List ℕ
decimal n = decimal_by n n

-- a number behind a space
abbrev pub next_number : ℕ → List ℕ
next_number n = 32 ∷ decimal n

-- a word, then a number behind a space
abbrev pub named : List ℕ → ℕ → List ℕ
named word n = word ++ next_number n
