-- Every reached state is below every closed one.
use mathlib.Core.Logic.{inl, inr}
use Prim.Native.Nat.{ℕ, ◌≤◌, ◌<◌}
use native.Mathlib.Nat.{lt_of_not-le}
use native.Mathlib.Omega.{arith}
use Rattle.lists.proofs.Counting.{clash}
use Rattle.market.proofs.Laws.{Contracts, Market, Unheld, kept}
use Rattle.market.proofs.Update.{split_at}
use Rattle.market.proofs.Rows.{Rows, State, offers, offered, tried, offers_le}
use Rattle.market.proofs.Reached.{Reached, start, step, Served, Closed}

module _ {n K : ℕ} {Ch : Contracts → Contracts} (M : Market n K Ch) {rows : Rows} where
  -- below a closed state nobody who has a turn has tried as much as there
  less : {t u : State} → Closed n Ch rows u → ((j : ℕ) → t j ≤ u j) → (i : ℕ) → i < n
      → Unheld Ch (offers rows t) i → t i < (rows i).len → t i < u i
  less {t} {u} c b i l f h = lt_of_not-le (λ m. go m (c.served i l))
    where
      go : u i ≤ t i → Served Ch rows u i → ⊥
      go m (inl (e, q)) =
          let o : (rows i).rank e < u i = tried rows u i e (M.within (offers rows u) i e q) in
          clash (kept M (offers rows t) (offers rows u) i e (offers_le rows t u b) (offered rows t i e (omega arith)) q) (f e)
      go m (inr q) = omega arith

  pub least : {t u : State} → Reached n Ch rows t → Closed n Ch rows u → (j : ℕ) → t j ≤ u j
  least (start z) c j = omega (arith, z j)
  least {u = w} (step {t = t} {u = u} i r l f h s) c j =
      split_at (λ j. u j ≤ w j) i (omega (arith, less c (least r c) i l f h)) (λ j d. omega (arith, s.elsewhere j d, least r c j)) j
