-- Any offers between what is held and what was offered give the same seats.
use mathlib.Core.Path.{◌≡◌, refl, sym, ◌∙◌}
use mathlib.Core.Bool.{Bool, true, false}
use Prim.Native.Nat.{ℕ}
use native.Mathlib.Omega.{arith}
use Rattle.lists.proofs.Counting.{clash}
use Rattle.market.proofs.Laws.{◌⊆◌, Contracts, Market, kept, total_lt}

module _ {n K : ℕ} {Ch : Contracts → Contracts} (M : Market n K Ch) where
  pub between : (O X : Contracts) → Ch O ⊆ X → X ⊆ O → (i e : ℕ) → Ch X i e ≡ Ch O i e
  between O X a b i e = go (Ch X i e) (Ch O i e) refl refl
    where
      held : Ch O ⊆ Ch X
      held j d q = kept M X O j d b (a j d q) q

      go : (x o : Bool) → Ch X i e ≡ x → Ch O i e ≡ o → Ch X i e ≡ Ch O i e
      go true true p q = p ∙ sym q
      go true false p q =
          absurd (omega (arith, M.grows X O b, total_lt n K (Ch O) (Ch X) held i e (M.bounded X i e p).0 (M.bounded X i e p).1 q p))
      go false true p q = clash (held i e q) p
      go false false p q = p ∙ sym q
