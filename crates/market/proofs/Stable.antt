-- Offers of which none stands below its candidate's seat were all tried, so with the seats they are chosen as the seats alone.
use mathlib.Core.Path.{◌≡◌}
use mathlib.Core.Bool.{true, ◌||◌}
use mathlib.Core.Logic.{◌⊎◌, inl, inr}
use Prim.Native.Nat.{ℕ, ◌≤◌, ◌<◌}
use native.Mathlib.Omega.{arith}
use Rattle.std.proofs.lemmas.Bool.{or_cases}
use Rattle.lists.proofs.Counting.{or_right}
use Rattle.market.proofs.Laws.{◌⊆◌, Contracts, Market}
use Rattle.market.proofs.Rows.{Rows, State, offers, offered, tried}
use Rattle.market.proofs.Reached.{Served, Closed}
use Rattle.market.proofs.Between.{between}

infixl 60 ◌∪◌
abbrev pub ◌∪◌ : Contracts → Contracts → Contracts
(O ∪ P) i e = O i e || P i e

-- listed offers of candidates, none below a seat of its candidate in X
pub record NoneBelow (n : ℕ) (rows : Rows) (X Z : Contracts) : Type 0 where
  pub listed : (i e : ℕ) → Z i e ≡ true → (i < n) × ((rows i).rank e < (rows i).len)
  pub above : (i e d : ℕ) → Z i e ≡ true → X i d ≡ true → (rows i).rank e ≤ (rows i).rank d

module _ {n K : ℕ} {Ch : Contracts → Contracts} (M : Market n K Ch) {rows : Rows} {t : State} (c : Closed n Ch rows t) (Z : Contracts)
    (h : NoneBelow n rows (Ch (offers rows t)) Z) where
  pub tried_all : Z ⊆ offers rows t
  tried_all i e z = go (c.served i (h.listed i e z).0)
    where
      go : Served Ch rows t i → offers rows t i e ≡ true
      go (inl (d, q)) = offered rows t i e (omega (arith, h.above i e d z q, tried rows t i d (M.within (offers rows t) i d q)))
      go (inr q) = offered rows t i e (omega (arith, h.listed i e z))

  pub stable : (i e : ℕ) → Ch (Z ∪ Ch (offers rows t)) i e ≡ Ch (offers rows t) i e
  stable = between M (offers rows t) (Z ∪ Ch (offers rows t))
      (λ i e q. or_right (Z i e) (Ch (offers rows t) i e) q)
      (λ i e q. go i e (or_cases (Z i e) (Ch (offers rows t) i e) q))
    where
      go : (i e : ℕ) → (Z i e ≡ true) ⊎ (Ch (offers rows t) i e ≡ true) → offers rows t i e ≡ true
      go i e (inl z) = tried_all i e z
      go i e (inr q) = M.within (offers rows t) i e q
