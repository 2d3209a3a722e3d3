-- A closed state stays closed when one candidate's row is replaced by a single entry that she had offered.
use mathlib.Core.Path.{◌≡◌, refl, ◌∙◌, ap, subst⁻¹}
use mathlib.Core.Bool.{Bool, true, false, not}
use mathlib.Core.Logic.{inl, inr, ◌≢◌}
use Prim.Native.Nat.{ℕ, ◌≤◌, ◌<◌}
use native.Mathlib.Omega.{arith}
use lib.Dec.{eqb}
use borrow.Author.Tests.{eqb-true, eq-eqb}
use Rattle.lists.specs.Lists.{bit}
use Rattle.market.proofs.Laws.{◌⊆◌, Contracts, Market, kept}
use Rattle.market.proofs.Update.{put, put_here, put_elsewhere, split_at}
use Rattle.market.proofs.Rows.{Row, Rows, RowsAlikeBut, State, offers, offered, tried}
use Rattle.market.proofs.Reached.{Served, Closed}

unfoldable pub single : ℕ → Row
single y = record { len = 1; entry = λ p. y; rank = λ e. bit (not (eqb e y)) }

single_rank : (y : ℕ) → (single y).rank y ≡ 0
unfolding single
single_rank y = ap (λ b. bit (not b)) (eq-eqb y y refl)

single_only : (y e : ℕ) → (single y).rank e < 1 → e ≡ y
unfolding single
single_only y e h = go (eqb e y) refl
  where
    go : (b : Bool) → eqb e y ≡ b → e ≡ y
    go true p = eqb-true e y p
    go false p = absurd (omega (arith, ap (λ b. bit (not b)) p))

single_len : (y : ℕ) → (single y).len ≡ 1
unfolding single
single_len y = refl

module _ {n K : ℕ} {Ch : Contracts → Contracts} (M : Market n K Ch) {rows : Rows} {t : State} (c : Closed n Ch rows t) (i y : ℕ)
    (o : offers rows t i y ≡ true) {others : Rows} (same : RowsAlikeBut i others rows) (new : others i ≡ single y) where
  pub single_within : offers others (put i 1 t) ⊆ offers rows t
  single_within j e = split_at (λ j. offers others (put i 1 t) j e ≡ true → offers rows t j e ≡ true) i here elsewhere j
    where
      here : offers others (put i 1 t) i e ≡ true → offers rows t i e ≡ true
      here q =
          let p : (others i).rank e ≡ (single y).rank e = ap (λ r. r.rank e) new in
          subst⁻¹ (λ x. offers rows t i x ≡ true) (single_only y e (omega (arith, tried others (put i 1 t) i e q, put_here i 1 t))) o

      elsewhere : (j : ℕ) → j ≢ i → offers others (put i 1 t) j e ≡ true → offers rows t j e ≡ true
      elsewhere j d q =
          let p : (others j).rank e ≡ (rows j).rank e = ap (λ r. r.rank e) (same j d) in
          offered rows t j e (omega (arith, tried others (put i 1 t) j e q, put_elsewhere i 1 t j d))

  pub single_offered : offers others (put i 1 t) i y ≡ true
  single_offered =
      let p : (others i).rank y ≡ (single y).rank y = ap (λ r. r.rank y) new in
      offered others (put i 1 t) i y (omega (arith, single_rank y, put_here i 1 t))

  -- whoever else holds something holds it still
  pub single_held : (j e : ℕ) → j ≢ i → Ch (offers rows t) j e ≡ true → Ch (offers others (put i 1 t)) j e ≡ true
  single_held j e d q =
      let p : (others j).rank e ≡ (rows j).rank e = ap (λ r. r.rank e) (same j d) in
      let m : (rows j).rank e < t j = tried rows t j e (M.within (offers rows t) j e q) in
      kept M (offers others (put i 1 t)) (offers rows t) j e single_within
      (offered others (put i 1 t) j e (omega (arith, put_elsewhere i 1 t j d))) q

  pub single_closed : Closed n Ch others (put i 1 t)
  single_closed =
      record {
        fits =
            split_at (λ j. put i 1 t j ≤ (others j).len) i
            (omega (arith, put_here i 1 t, full))
            (λ j d. omega (arith, put_elsewhere i 1 t j d, len_elsewhere j d, c.fits j));
        served =
            split_at (λ j. j < n → Served Ch others (put i 1 t) j) i
            (λ l. inr (omega (arith, put_here i 1 t, full)))
            (λ j d l. go j d (c.served j l));
      }
    where
      full : (others i).len ≡ 1
      full = ap (λ r. r.len) new ∙ single_len y

      len_elsewhere : (j : ℕ) → j ≢ i → (others j).len ≡ (rows j).len
      len_elsewhere j d = ap (λ r. r.len) (same j d)

      go : (j : ℕ) → j ≢ i → Served Ch rows t j → Served Ch others (put i 1 t) j
      go j d (inl (e, q)) = inl (e, single_held j e d q)
      go j d (inr q) = inr (omega (arith, put_elsewhere i 1 t j d, len_elsewhere j d))
