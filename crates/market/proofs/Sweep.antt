-- What lets many offer at once: the offers of others give nobody a seat.
use mathlib.Core.Path.{◌≡◌}
use Prim.Native.Nat.{ℕ, ◌≤◌, ◌<◌}
use native.Mathlib.Omega.{arith}
use Rattle.lists.proofs.Counting.{clash, false_unless}
use Rattle.market.proofs.Laws.{Contracts, Market, Unheld, kept}
use Rattle.market.proofs.Rows.{Rows, State, offers, offered, tried, offers_le}

module _ {n K : ℕ} {Ch : Contracts → Contracts} (M : Market n K Ch) (rows : Rows) where
  -- whoever has no seat and has offered nothing more has none when others have offered
  pub still_unheld : {t u : State} → ((i : ℕ) → t i ≤ u i) → (i : ℕ) → u i ≡ t i → Unheld Ch (offers rows t) i → Unheld Ch (offers rows u) i
  still_unheld {t} {u} more i same none e =
      false_unless (Ch (offers rows u) i e)
      (λ q.
      let o : (rows i).rank e < u i = tried rows u i e (M.within (offers rows u) i e q) in
      clash (kept M (offers rows t) (offers rows u) i e (offers_le rows t u more) (offered rows t i e (omega arith)) q) (none e))
