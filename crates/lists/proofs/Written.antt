-- A list that is written from the front, one place after the other: where it stands, and what it comes to.
use Prim.Native.Nat.{ℕ, ◌+◌, ◌≤◌, ◌<◌}
use mathlib.Core.Path.{◌≡◌, refl, sym, ◌∙◌}
use mathlib.Core.List.{List}
use native.Mathlib.Omega.{arith}
use lib.ListN.{length, get_or, set, length-set}
use lib.Seq.{get_or-set_same, get_or-set_other, ext_get_or}
use Rattle.lists.specs.Lists.{tabulate}
use Rattle.lists.proofs.Words.{length_tabulate, tabulate_at}
use Rattle.lists.proofs.Counting.{same_or}

-- the places below p hold F, the others what they held
pub record Written (l₀ l : List ℕ) (F : ℕ → ℕ) (p : ℕ) : Type 0 where
  pub sized : length l ≡ length l₀
  pub below : (q : ℕ) → q < p → get_or l q 0 ≡ F q
  pub above : (q : ℕ) → p ≤ q → get_or l q 0 ≡ get_or l₀ q 0

pub begin : (l : List ℕ) (F : ℕ → ℕ) → Written l l F 0
begin l F = record { sized = refl; below = λ q b. absurd (omega arith); above = λ q a. refl }

pub write : (l₀ l : List ℕ) (F : ℕ → ℕ) (p v : ℕ) → p < length l₀ → Written l₀ l F p → v ≡ F p → Written l₀ (set l p v) F (p + 1)
write l₀ l F p v inside k e = record {
  sized = length-set l p v ∙ k.sized;
  below = λ q b.
      same_or q p (λ s. rw (s, get_or-set_same l p v 0 (omega (arith, k.sized))) e)
      (λ n. get_or-set_other l p q v 0 n ∙ k.below q (omega arith));
  above = λ q a. get_or-set_other l p q v 0 (λ s. omega arith) ∙ k.above q (omega arith);
}

pub keep : (l₀ l : List ℕ) (F : ℕ → ℕ) (p : ℕ) → Written l₀ l F p → get_or l₀ p 0 ≡ F p → Written l₀ l F (p + 1)
keep l₀ l F p k e = record {
  sized = k.sized;
  below = λ q b. same_or q p (λ s. rw s (k.above p (omega arith) ∙ e)) (λ n. k.below q (omega arith));
  above = λ q a. k.above q (omega arith);
}

-- all is written
all_written : (l₀ l m : List ℕ) (F : ℕ → ℕ) (p : ℕ) → Written l₀ l F p → length l₀ ≤ p → length m ≡ length l₀
    → ((q : ℕ) → q < length l₀ → F q ≡ get_or m q 0) → l ≡ m
all_written l₀ l m F p k all len same =
    ext_get_or 0 l m (k.sized ∙ sym len)
    (λ q b. k.below q (omega (arith, k.sized)) ∙ same q (omega (arith, k.sized)))

pub tabulated : (l₀ l : List ℕ) (F : ℕ → ℕ) (p : ℕ) → Written l₀ l F p → length l₀ ≤ p → l ≡ tabulate (length l₀) F
tabulated l₀ l F p k all =
    all_written l₀ l (tabulate (length l₀) F) F p k all (length_tabulate 0 (length l₀) F)
    (λ q b. sym (tabulate_at (length l₀) F 0 q b))
