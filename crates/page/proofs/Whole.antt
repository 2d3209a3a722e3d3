-- The first 65,537 bytes of an input decide what is printed for it.
use Prim.Native.Nat.{ℕ, ◌<◌}
use mathlib.Core.Path.{◌≡◌, refl, sym, ap, ◌∙◌}
use mathlib.Core.Bool.{Bool, true, false}
use mathlib.Core.List.{List}
use native.Mathlib.Omega.{arith}
use borrow.Author.Tests.{leb-true, leb-false, lt-leb}
use lib.Dec.{leb}
use lib.ListN.{length, take, length-take}
use lib.Seq.{take_all}
use Rattle.page.specs.Page.{refused_line, printed}

-- an input above 65,536 bytes is refused by 16
pub printed_long : (input : List ℕ) → 65536 < length input → printed input ≡ refused_line 16 0
unfolding printed
printed_long input l = rw (lt-leb (length input) 65536 l)

pub first_bytes : (input : List ℕ) → printed (take 65537 input) ≡ printed input
first_bytes input = go (leb (length input) 65536) refl
  where
    go : (b : Bool) → leb (length input) 65536 ≡ b → printed (take 65537 input) ≡ printed input
    go true e = ap printed (take_all 65537 input (omega (arith, leb-true (length input) 65536 e)))
    go false e =
        let long : 65536 < length input = omega (arith, leb-false (length input) 65536 e) in
        printed_long (take 65537 input) (omega (arith, length-take 65537 input)) ∙ sym (printed_long input long)
