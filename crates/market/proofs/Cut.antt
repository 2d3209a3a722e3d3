-- A row cut behind one of its entries: whoever holds something at the end with the cut row holds something as good with the whole row.
use mathlib.Core.Path.{◌≡◌, ap, subst, fun_ext}
use mathlib.Core.Bool.{true}
use mathlib.Core.Logic.{inl, inr, ◌≢◌}
use Prim.Native.Nat.{ℕ, suc, ◌≤◌, ◌<◌}
use native.Mathlib.Omega.{arith}
use native.Mathlib.Decide.{dec_le}
use lib.Dec.{ltb}
use Rattle.market.proofs.Laws.{◌⊆◌, Contracts, Market, Held, kept}
use Rattle.market.proofs.Update.{put, put_here, put_elsewhere, split_at}
use Rattle.market.proofs.Rows.{Row, Rows, State, offers, offered, tried, offers_le}
use Rattle.market.proofs.Reached.{Served, Closed, Final}
use Rattle.market.proofs.Least.{least}
use Rattle.market.proofs.Alone.{alone}

unfoldable pub cut : Row → ℕ → Row
cut r p = record { len = suc p; entry = r.entry; rank = r.rank }

-- held under an entry that the row puts at place p or before
abbrev pub HeldBy : (Contracts → Contracts) → Rows → State → ℕ → ℕ → Type 0
HeldBy Ch rows t i p = (e : ℕ) × (Ch (offers rows t) i e ≡ true) × ((rows i).rank e ≤ p)

-- i's row cut behind place p
abbrev pub cut_at : Rows → ℕ → ℕ → Rows
cut_at rows i p = put i (cut (rows i) p) rows

module _ (rows : Rows) (i p : ℕ) where
  pub cut_rank : (j e : ℕ) → (cut_at rows i p j).rank e ≡ (rows j).rank e
  unfolding cut
  cut_rank j e =
      split_at (λ j. (cut_at rows i p j).rank e ≡ (rows j).rank e) i
      (ap (λ r. r.rank e) (put_here i (cut (rows i) p) rows))
      (λ j d. ap (λ r. r.rank e) (put_elsewhere i (cut (rows i) p) rows j d)) j

  pub cut_len : (cut_at rows i p i).len ≡ suc p
  unfolding cut
  cut_len = ap (λ r. r.len) (put_here i (cut (rows i) p) rows)

  len_elsewhere : (j : ℕ) → j ≢ i → (cut_at rows i p j).len ≡ (rows j).len
  len_elsewhere j d = ap (λ r. r.len) (put_elsewhere i (cut (rows i) p) rows j d)

  cut_offers_lem : (t : State) → offers (cut_at rows i p) t ≡ offers rows t
  unfolding offers
  cut_offers_lem t = fun_ext (λ j. fun_ext (λ e. ap (λ r. ltb r (t j)) (cut_rank j e)))

module _ {n K : ℕ} {Ch : Contracts → Contracts} (M : Market n K Ch) (rows : Rows) (i p : ℕ) (inside : p < (rows i).len) where
  whole_held : (t : State) (j : ℕ) → Held Ch (offers (cut_at rows i p) t) j → Held Ch (offers rows t) j
  whole_held t j h = subst (λ O. Held Ch O j) (cut_offers_lem rows i p t) h

  whole_closed : {t : State} → Closed n Ch (cut_at rows i p) t → Held Ch (offers (cut_at rows i p) t) i → Closed n Ch rows t
  whole_closed {t} c h =
      record {
        fits =
            split_at (λ j. t j ≤ (rows j).len) i
            (omega (arith, c.fits i, cut_len rows i p))
            (λ j d. omega (arith, c.fits j, len_elsewhere rows i p j d));
        served =
            split_at (λ j. j < n → Served Ch rows t j) i
            (λ l. inl (whole_held t i h))
            (λ j d l. go j d (c.served j l));
      }
    where
      go : (j : ℕ) → j ≢ i → Served Ch (cut_at rows i p) t j → Served Ch rows t j
      go j d (inl q) = inl (whole_held t j q)
      go j d (inr q) = inr (omega (arith, len_elsewhere rows i p j d))

  pub cut_held : {t u : State} → i < n → Final n Ch rows t → Closed n Ch (cut_at rows i p) u
      → Held Ch (offers (cut_at rows i p) u) i → HeldBy Ch rows t i p
  cut_held {t} {u} l f c h = served (f.closed.served i l)
    where
      goes_past : suc p ≤ t i → Held Ch (offers rows u) i → HeldBy Ch rows t i p
      goes_past m (d, q) =
          let o : (rows i).rank d < u i = tried rows u i d (M.within (offers rows u) i d q) in
          let b : (rows i).rank d ≤ p = omega (arith, c.fits i, cut_len rows i p) in
          let s : offers rows t ⊆ offers rows u = offers_le rows t u (least M f.reached (whole_closed c h)) in
          (d, kept M (offers rows t) (offers rows u) i d s (offered rows t i d (omega arith)) q, b)

      served : Served Ch rows t i → HeldBy Ch rows t i p
      served (inl (e, q)) =
          elim (dec_le ((rows i).rank e) p) [
            | yes m ↦ (e, q, m)
            | no m ↦ goes_past (omega (arith, alone M f.reached i e q)) (whole_held u i h)
          ]
      served (inr q) = goes_past (omega arith) (whole_held u i h)
