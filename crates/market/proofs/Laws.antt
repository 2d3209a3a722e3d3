-- A market: candidates, entries, and all institutes' choice together, by its laws alone.
use mathlib.Core.Path.{◌≡◌, refl}
use mathlib.Core.Bool.{Bool, true, false}
use mathlib.Core.Logic.{◌⊎◌, inl, inr}
use Prim.Native.Nat.{ℕ, ◌≤◌, ◌<◌}
use Rattle.lists.specs.Lists.{sum_of, count_of}
use Rattle.lists.proofs.Counting.{clash, false_unless, count_le, count_less}
use Rattle.lists.proofs.SomeBelow.{some_below}
use Rattle.lists.proofs.Sums.{sum_of_lt}

infix 40 ◌⊆◌
-- a set of contracts: whether it has candidate i with entry e
abbrev pub Contracts : Type 0
Contracts = ℕ → ℕ → Bool

abbrev pub ◌⊆◌ : Contracts → Contracts → Type 0
O ⊆ P = (i e : ℕ) → O i e ≡ true → P i e ≡ true

unfoldable pub total : ℕ → ℕ → Contracts → ℕ
total n K O = sum_of n (λ i. count_of K (O i))

pub record Market (n K : ℕ) (Ch : Contracts → Contracts) : Type 0 where
  pub within : (O : Contracts) (i e : ℕ) → Ch O i e ≡ true → O i e ≡ true
  pub bounded : (O : Contracts) (i e : ℕ) → Ch O i e ≡ true → (i < n) × (e < K)
  pub stays : (O P : Contracts) (i e : ℕ) → O ⊆ P → O i e ≡ true → Ch O i e ≡ false → Ch P i e ≡ false
  pub grows : (O P : Contracts) → O ⊆ P → total n K (Ch O) ≤ total n K (Ch P)

abbrev pub Held : (Contracts → Contracts) → Contracts → ℕ → Type 0
Held Ch O i = (e : ℕ) × (Ch O i e ≡ true)

abbrev pub Unheld : (Contracts → Contracts) → Contracts → ℕ → Type 0
Unheld Ch O i = (e : ℕ) → Ch O i e ≡ false

pub total_lt : (n K : ℕ) (A B : Contracts) → A ⊆ B → (i e : ℕ) → i < n → e < K → A i e ≡ false → B i e ≡ true → total n K A < total n K B
unfolding total
total_lt n K A B s i e hi he p q =
    sum_of_lt n (λ j. count_of K (A j)) (λ j. count_of K (B j)) (λ j l. count_le K (A j) (B j) (λ x m. s j x)) i hi (count_less K e (A i) (B i) he (λ x m. s i x) p q)

module _ {n K : ℕ} {Ch : Contracts → Contracts} (M : Market n K Ch) where
  -- (S) the other way round: what the larger set keeps the smaller keeps
  pub kept : (O P : Contracts) (i e : ℕ) → O ⊆ P → O i e ≡ true → Ch P i e ≡ true → Ch O i e ≡ true
  kept O P i e s o c = go (Ch O i e) refl
    where
      go : (b : Bool) → Ch O i e ≡ b → Ch O i e ≡ true
      go true q = q
      go false q = clash c (M.stays O P i e s o q)

  pub held_or_not : (O : Contracts) (i : ℕ) → Held Ch O i ⊎ Unheld Ch O i
  held_or_not O i = go (some_below K (Ch O i))
    where
      go : Held Ch O i ⊎ ((e : ℕ) → e < K → Ch O i e ≡ false) → Held Ch O i ⊎ Unheld Ch O i
      go (inl h) = inl h
      go (inr h) = inr (λ e. false_unless (Ch O i e) (λ c. clash c (h e (M.bounded O i e c).1)))
