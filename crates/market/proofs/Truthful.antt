-- No other row would have served a candidate better, judged by the first row.
use mathlib.Core.Path.{◌≡◌, sym, ◌∙◌, subst⁻¹}
use mathlib.Core.Bool.{true}
use mathlib.Core.Logic.{◌⊎◌, inl, inr}
use Prim.Native.Nat.{ℕ, ◌<◌}
use native.Mathlib.Omega.{arith}
use Rattle.lists.proofs.Counting.{clash}
use Rattle.market.proofs.Laws.{Contracts, Market, Held, Unheld, held_or_not}
use Rattle.market.proofs.Update.{put_elsewhere}
use Rattle.market.proofs.Rows.{Ranked, Rows, RowsAlikeBut, State, offers, offered}
use Rattle.market.proofs.Reached.{Served, Closed, Final}
use Rattle.market.proofs.Final.{final}
use Rattle.market.proofs.Cut.{cut, cut_at, cut_rank, cut_len, cut_held, HeldBy}
use Rattle.market.proofs.Rejected.{rejected}

module _ {n K : ℕ} {Ch : Contracts → Contracts} (M : Market n K Ch) where
  pub truthful : {rows others : Rows} {t v : State} (i y : ℕ) → ((j : ℕ) → j < n → Ranked (rows j)) → RowsAlikeBut i others rows
      → Final n Ch rows t → Closed n Ch others v → Ch (offers others v) i y ≡ true
      → (rows i).rank y < (rows i).len → HeldBy Ch rows t i ((rows i).rank y)
  truthful {rows} {others} {t} {v} i y ranked same f c got listed = go (final M (cut_at rows i ((rows i).rank y)))
    where
      less : Rows
      less = cut_at rows i ((rows i).rank y)

      inside : i < n
      inside = (M.bounded (offers others v) i y got).0

      elsewhere : RowsAlikeBut i less rows
      elsewhere = put_elsewhere i (cut (rows i) ((rows i).rank y)) rows

      go : (u : State) × Final n Ch less u → HeldBy Ch rows t i ((rows i).rank y)
      go (u, e) = served (held_or_not M (offers less u) i)
        where
          all_tried : Unheld Ch (offers less u) i → Served Ch less u i → offers less u i y ≡ true
          all_tried none (inl h) = clash h.1 (none h.0)
          all_tried none (inr p) = offered less u i y (omega (arith, cut_rank rows i ((rows i).rank y) i y, cut_len rows i ((rows i).rank y)))

          served : Held Ch (offers less u) i ⊎ Unheld Ch (offers less u) i → HeldBy Ch rows t i ((rows i).rank y)
          served (inl h) = cut_held M rows i ((rows i).rank y) listed inside f e.closed h
          served (inr none) =
              absurd
              (rejected M i y (λ j l d. subst⁻¹ Ranked (elsewhere j d) (ranked j l)) (λ j d. same j d ∙ sym (elsewhere j d)) e none
              (all_tried none (e.closed.served i inside)) c got)
