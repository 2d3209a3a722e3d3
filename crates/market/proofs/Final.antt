-- A run of turns from the empty state ends: for all rows some state is reached and closed.
use mathlib.Core.Path.{refl, subst⁻¹}
use mathlib.Core.Logic.{◌⊎◌, inl, inr}
use Prim.Native.Nat.{ℕ, zero, suc, ◌+◌, ◌≤◌, ◌<◌}
use native.Mathlib.Omega.{arith}
use native.Mathlib.Decide.{dec_lt, ℕ_discrete}
use Rattle.lists.specs.Lists.{sum_of}
use Rattle.lists.proofs.Counting.{sum_of_le}
use Rattle.market.proofs.Laws.{Contracts, Market, Held, Unheld, held_or_not}
use Rattle.market.proofs.Rows.{Rows, State, offers}
use Rattle.market.proofs.Reached.{Served, Reached, start, step, Final, turn, turn_turned, turned_sum, reached_fits}

module _ {n K : ℕ} {Ch : Contracts → Contracts} (M : Market n K Ch) (rows : Rows) where
  abbrev Turn : State → ℕ → Type 0
  Turn t i = (i < n) × Unheld Ch (offers rows t) i × (t i < (rows i).len)

  one : (t : State) → ((i : ℕ) → t i ≤ (rows i).len) → (i : ℕ) → i < n → Turn t i ⊎ Served Ch rows t i
  one t b i l = go (held_or_not M (offers rows t) i)
    where
      go : Held Ch (offers rows t) i ⊎ Unheld Ch (offers rows t) i → Turn t i ⊎ Served Ch rows t i
      go (inl h) = inr (inl h)
      go (inr f) = elim (dec_lt (t i) (rows i).len) [ yes m ↦ inl (l, f, m) | no m ↦ inr (inr (omega (arith, b i))) ]

  -- somebody has a turn, or all below k are served
  abbrev Search : State → ℕ → Type 0
  Search t k = ((i : ℕ) × Turn t i) ⊎ ((i : ℕ) → i < k → Served Ch rows t i)

  lowest : (t : State) → ((i : ℕ) → t i ≤ (rows i).len) → (k : ℕ) → k ≤ n → Search t k
  lowest t b zero m = inr (λ i l. absurd (omega arith))
  lowest t b (suc k) m = go (lowest t b k (omega arith)) (one t b k m)
    where
      go : Search t k → Turn t k ⊎ Served Ch rows t k → Search t (suc k)
      go (inl x) y = inl x
      go (inr x) (inl y) = inl (k, y)
      go (inr x) (inr y) =
          inr (λ i l. elim (ℕ_discrete i k) [ yes p ↦ subst⁻¹ (Served Ch rows t) p y | no d ↦ x i (omega arith) ])

  turn_reached : (t : State) → Reached n Ch rows t → (i : ℕ) → Turn t i → Reached n Ch rows (turn i t)
  turn_reached t r i x = step i r x.0 x.1 x.2 (turn_turned i t)

  turn_or_end : (t : State) → Reached n Ch rows t → ((i : ℕ) → Turn t i → (u : State) × Final n Ch rows u) → (u : State) × Final n Ch rows u
  turn_or_end t r next = go (lowest t (reached_fits r) n (omega arith))
    where
      go : Search t n → (u : State) × Final n Ch rows u
      go (inl (i, x)) = next i x
      go (inr s) = (t, record { reached = r; closed = record { fits = reached_fits r; served = s } })

  -- k bounds the turns that are left
  run : (k : ℕ) (t : State) → Reached n Ch rows t → sum_of n (λ i. (rows i).len) ≤ sum_of n t + k → (u : State) × Final n Ch rows u
  run zero t r b =
      turn_or_end t r
      (λ i x.
      let full : sum_of n (turn i t) ≤ sum_of n (λ i. (rows i).len) =
      sum_of_le n (turn i t) (λ i. (rows i).len) (λ j l. reached_fits (turn_reached t r i x) j)
      in
      absurd (omega (arith, turned_sum n x.0 (turn_turned i t))))
  run (suc k) t r b =
      turn_or_end t r
      (λ i x. run k (turn i t) (turn_reached t r i x) (omega (arith, turned_sum n x.0 (turn_turned i t))))

  pub final : (u : State) × Final n Ch rows u
  final = run (sum_of n (λ i. (rows i).len)) (λ i. 0) (start (λ i. refl)) (omega arith)
