-- Putting values into a table at the numbers of a list, one after the other.
use Prim.Native.Nat.{ℕ, ◌+◌, ◌<◌}
use mathlib.Core.Path.{◌≡◌, refl, sym, ◌∙◌}
use mathlib.Core.List.{List}
use native.Mathlib.Omega.{arith}
use native.Mathlib.Decide.{ℕ_discrete}
use lib.ListN.{length, get_or, set, length-set}
use lib.Seq.{get_or-set_same, get_or-set_other}
use Rattle.sweeps.specs.Sweeps.{Apart, Scattered}

module _ (who : List ℕ) (value : ℕ → ℕ) where
  pub none_scattered : (table : List ℕ) → Scattered who value 0 table table
  none_scattered table = record { many = refl; at = λ q l. absurd (omega arith); off = λ c h. refl }

  module _ {n k q : ℕ} {table₀ table : List ℕ} (a : Apart who n k) (en : n ≡ length table₀) (l : q < k) (s : Scattered who value q table₀ table) where
    pub scattered_inside : get_or who q 0 < length table
    scattered_inside = omega (arith, s.many, a.within q l)

    pub one_scattered : {c x : ℕ} → c ≡ get_or who q 0 → x ≡ value q → Scattered who value (q + 1) table₀ (set table c x)
    one_scattered {c} {x} ec ex = record {
      many = length-set table c x ∙ s.many;
      at = λ p m. elim (ℕ_discrete p q) [
        | yes e ↦ rw (e, ← ec, get_or-set_same table c x 0 (omega (arith, scattered_inside))) ex
        | no d ↦ get_or-set_other table c (get_or who p 0) x 0 (λ e. a.once q p l (omega arith) (e ∙ ec)) ∙ s.at p (omega arith)
      ];
      off = λ b h. get_or-set_other table c b x 0 (λ e. h q (omega arith) (sym ec ∙ sym e)) ∙ s.off b (λ p m. h p (omega arith));
    }
