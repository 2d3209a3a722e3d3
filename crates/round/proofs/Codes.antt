-- Categories and their codes.
use Prim.Native.Nat.{ℕ, zero, suc, ◌≤◌}
use mathlib.Core.Path.{◌≡◌, refl}
use native.Mathlib.Omega.{arith}
use Rattle.round.specs.declared.entry.Category.{Category}
use Rattle.round.specs.declared.entry.Category.TheVariants.{Open, SC, ST, OBC, EWS}
use Rattle.round.specs.Category.{code_of, category_of}

pub code_small : (c : Category) → code_of c ≤ 4
code_small Open = omega arith
code_small SC = omega arith
code_small ST = omega arith
code_small OBC = omega arith
code_small EWS = omega arith

pub category_code : (c : Category) → category_of (code_of c) ≡ c
category_code Open = refl
category_code SC = refl
category_code ST = refl
category_code OBC = refl
category_code EWS = refl

pub code_category : (code : ℕ) → code ≤ 4 → code_of (category_of code) ≡ code
code_category zero l = refl
code_category (suc zero) l = refl
code_category (suc (suc zero)) l = refl
code_category (suc (suc (suc zero))) l = refl
code_category (suc (suc (suc (suc zero)))) l = refl
code_category (suc (suc (suc (suc (suc n))))) l = absurd (omega arith)
