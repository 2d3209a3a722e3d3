-- What a candidate tried in vain, to end with nothing, she gets by no other row.
use mathlib.Core.Path.{◌≡◌, sym, ◌∙◌}
use mathlib.Core.Bool.{true}
use mathlib.Core.Logic.{◌⊎◌, inl, inr, ◌≢◌}
use Prim.Native.Nat.{ℕ, ◌≤◌, ◌<◌}
use native.Mathlib.Omega.{arith}
use Rattle.lists.specs.Lists.{count_of}
use Rattle.lists.proofs.Counting.{clash}
use Rattle.lists.proofs.Sums.{sum_of_lt, count_none, count_one, count_some}
use Rattle.market.proofs.Laws.{Contracts, Market, Held, Unheld, kept, held_or_not, total}
use Rattle.market.proofs.Update.{put, put_here, put_elsewhere, split_at}
use Rattle.market.proofs.Rows.{Ranked, Rows, RowsAlikeBut, State, offers, offered, tried, offers_le}
use Rattle.market.proofs.Reached.{Served, Closed, Final}
use Rattle.market.proofs.Least.{least}
use Rattle.market.proofs.Alone.{one_held}
use Rattle.market.proofs.Final.{final}
use Rattle.market.proofs.Single.{single, single_within, single_offered, single_held, single_closed}

module _ {n K : ℕ} {Ch : Contracts → Contracts} (M : Market n K Ch) where
  -- nobody loses, and i, who held nothing, holds something: more is held
  more_held : (O P : Contracts) → ((j : ℕ) → j < n → (a b : ℕ) → Ch O j a ≡ true → Ch O j b ≡ true → a ≡ b)
      → ((j : ℕ) → Held Ch O j → Held Ch P j) → (i : ℕ) → Unheld Ch O i → Held Ch P i → total n K (Ch O) < total n K (Ch P)
  unfolding total
  more_held O P one keep i f h =
      sum_of_lt n (λ j. count_of K (Ch O j)) (λ j. count_of K (Ch P j)) (λ j l. low j l (held_or_not M O j)) i (M.bounded P i h.0 h.1).0
      (omega (arith, count_none K (Ch O i) (λ e l. f e), some i h))
    where
      some : (j : ℕ) → Held Ch P j → 1 ≤ count_of K (Ch P j)
      some j (e, q) = count_some K (Ch P j) e (M.bounded P j e q).1 q

      low : (j : ℕ) → j < n → Held Ch O j ⊎ Unheld Ch O j → count_of K (Ch O j) ≤ count_of K (Ch P j)
      low j l (inl g) = omega (arith, count_one K (Ch O j) (one j l), some j (keep j g))
      low j l (inr g) = omega (arith, count_none K (Ch O j) (λ e l. g e))

  -- of two closed states the lower holds whomever the upper holds
  held_below : {rows : Rows} {t u : State} → Closed n Ch rows t → Closed n Ch rows u → ((j : ℕ) → t j ≤ u j)
      → (j : ℕ) → Held Ch (offers rows u) j → Held Ch (offers rows t) j
  held_below {rows} {t} {u} c d b j (e, q) = go (c.served j (M.bounded (offers rows u) j e q).0)
    where
      go : Served Ch rows t j → Held Ch (offers rows t) j
      go (inl h) = h
      go (inr p) =
          let o : (rows j).rank e < u j = tried rows u j e (M.within (offers rows u) j e q) in
          (e, kept M (offers rows t) (offers rows u) j e (offers_le rows t u b) (offered rows t j e (omega (arith, d.fits j))) q)

  module _ {rows others : Rows} {t v : State} (i y : ℕ) (ranked : (j : ℕ) → j < n → j ≢ i → Ranked (rows j)) (same : RowsAlikeBut i others rows)
      (f : Final n Ch rows t) (none : Unheld Ch (offers rows t) i) (o : offers rows t i y ≡ true) where
    pub rejected : Closed n Ch others v → Ch (offers others v) i y ≡ true → ⊥
    rejected c got = go (final M only)
      where
        only : Rows
        only = put i (single y) rows

        new : only i ≡ single y
        new = put_here i (single y) rows

        as_rows : RowsAlikeBut i only rows
        as_rows = put_elsewhere i (single y) rows

        as_others : RowsAlikeBut i only others
        as_others j d = put_elsewhere i (single y) rows j d ∙ sym (same j d)

        offered_there : offers others v i y ≡ true
        offered_there = M.within (offers others v) i y got

        below_rows : Closed n Ch only (put i 1 t)
        below_rows = single_closed M f.closed i y o as_rows new

        below_others : Closed n Ch only (put i 1 v)
        below_others = single_closed M c i y offered_there as_others new

        got_there : Ch (offers only (put i 1 v)) i y ≡ true
        got_there =
            kept M (offers only (put i 1 v)) (offers others v) i y (single_within M c i y offered_there as_others new)
            (single_offered M c i y offered_there as_others new) got

        one : (j : ℕ) → j < n → (a b : ℕ) → Ch (offers rows t) j a ≡ true → Ch (offers rows t) j b ≡ true → a ≡ b
        one =
            split_at (λ j. j < n → (a b : ℕ) → Ch (offers rows t) j a ≡ true → Ch (offers rows t) j b ≡ true → a ≡ b) i
            (λ l a b p q. clash p (none a))
            (λ j d l. one_held M f.reached j (ranked j l d))

        go : (z : State) × Final n Ch only z → ⊥
        go (z, fz) =
            let to-rows : (j : ℕ) → z j ≤ put i 1 t j = least M fz.reached below_rows in
            let to-others : (j : ℕ) → z j ≤ put i 1 v j = least M fz.reached below_others in
            let keep : (j : ℕ) → Held Ch (offers rows t) j → Held Ch (offers only z) j =
            split_at (λ j. Held Ch (offers rows t) j → Held Ch (offers only z) j) i
            (λ h. clash h.1 (none h.0))
            (λ j d h. held_below fz.closed below_rows to-rows j (h.0, single_held M f.closed i y o as_rows new j h.0 d h.1))
            in
            let gets : Held Ch (offers only z) i = held_below fz.closed below_others to-others i (y, got_there) in
            omega (
              arith,
              more_held (offers rows t) (offers only z) one keep i none gets,
              M.grows (offers only z) (offers only (put i 1 t)) (offers_le only z (put i 1 t) to-rows),
              M.grows (offers only (put i 1 t)) (offers rows t) (single_within M f.closed i y o as_rows new),
            )
