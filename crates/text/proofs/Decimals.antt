-- A number's fewest digits in base ten are its text, and how long that is.
use Prim.Native.Nat.{ℕ, zero, suc, ◌+◌, ◌-◌, ◌*◌, ◌/◌, ◌%◌, ◌^◌, ◌≤◌, ◌<◌}
use mathlib.Core.Path.{◌≡◌, refl, sym, ap, ◌∙◌}
use mathlib.Core.List.{List, ◌++◌}
use native.Mathlib.Omega.{arith}
use native.Mathlib.Decide.{dec_lt}
use native.Mathlib.Nat.{pow-succ', one-le-pow}
use borrow.Author.Tests.{lt-ltb, le-ltb}
use lib.ListN.{length, length-append}
use Rattle.io.specs.Digits.{last_digits, hex_digit_ascii, IsDigitCount}
use Rattle.text.specs.Decimal.{digit, decimal_by, decimal}
use Rattle.text.specs.declared.Text.{Text}
use Rattle.text.specs.Put.{Fits, Put}

glyph_digit : (d : ℕ) → d < 10 → hex_digit_ascii d ≡ 48 + d
glyph_digit d l = rw (lt-ltb d 10 l)

-- a number below ten
one_digit : (f n : ℕ) → n < 10 → decimal_by f n ≡ digit n
unfolding decimal_by
one_digit zero n l = refl
one_digit (suc f) n l = rw (lt-ltb n 10 l)

-- a longer one
longer : (f n : ℕ) → 10 ≤ n → decimal_by (suc f) n ≡ decimal_by f (n / 10) ++ digit (n % 10)
unfolding decimal_by
longer f n l = rw (le-ltb n 10 l)

-- the fewest digits of a number are its text, however many more it might have
digits_by : (f k n : ℕ) → n ≤ f → n < 10 ^ suc k → (1 < suc k → 10 ^ k ≤ n) → last_digits 10 (suc k) n ≡ decimal_by f n
digits_by f zero n l below least =
    let few : n < 10 = omega arith in
    let same : n % 10 ≡ n = omega arith in
    rw (same, glyph_digit n few) (sym (one_digit f n few))
digits_by zero (suc k) n l below least = absurd (omega (arith, least (omega arith), one-le-pow (suc k) 10 (omega arith)))
digits_by (suc f) (suc k) n l below least =
    let many : 10 * 10 ^ k ≤ n = omega (arith, least (omega arith), pow-succ' 10 k) in
    let most : n < 10 * 10 ^ suc k = omega (arith, pow-succ' 10 (suc k)) in
    let ten : 10 ≤ n = omega (arith, one-le-pow k 10 (omega arith)) in
    let front : last_digits 10 (suc k) (n / 10) ≡ decimal_by f (n / 10) = digits_by f k (n / 10) (omega arith) (omega arith) (λ t. omega arith) in
    rw (longer f n ten) (rw (front, glyph_digit (n % 10) (omega arith)))

-- the text of a number is its fewest digits
pub fewest_digits : (k : ℕ) {n : ℕ} → IsDigitCount 10 1 n k → last_digits 10 k n ≡ decimal n
fewest_digits zero {n} e = absurd (omega (arith, e.0))
fewest_digits (suc k) {n} e =
    let less : suc k - 1 ≡ k = omega arith in
    digits_by n k n (omega arith) e.1 (λ l. rw less at (e.2 l))

-- a number below a power of ten has no more digits than that
short_by : (f k n : ℕ) → n < 10 ^ suc k → length (decimal_by f n) ≤ suc k
unfolding decimal_by
short_by zero k n l = omega arith
short_by (suc f) zero n l = omega (arith, ap length (one_digit (suc f) n (omega arith)))
short_by (suc f) (suc k) n l =
    let most : n < 10 * 10 ^ suc k = omega (arith, pow-succ' 10 (suc k)) in
    elim (dec_lt n 10) [
      | yes few ↦ omega (arith, ap length (one_digit (suc f) n few))
      | no many ↦ omega (arith, ap length (longer f n (omega arith)), length-append (decimal_by f (n / 10)) (digit (n % 10)), short_by f k (n / 10) (omega arith))
    ]

pub decimal_short : (k n : ℕ) → n < 10 ^ suc k → length (decimal n) ≤ suc k
decimal_short k n l = short_by n k n l

-- the digits of a number are put in as its text
module _ {n k : ℕ} {spelled : List ℕ} (few : IsDigitCount 10 1 n k) (same : spelled ≡ last_digits 10 k n) where
  spelled_out : spelled ≡ decimal n
  spelled_out = same ∙ fewest_digits k few

  pub digits_fit : {area : Text} → Fits area (decimal n) → Fits area spelled
  digits_fit fits = rw spelled_out fits

  pub digits_put : {area now : Text} → Put area spelled now → Put area (decimal n) now
  digits_put p = rw spelled_out at p
