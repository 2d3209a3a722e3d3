-- States that turns lead to: a candidate held nowhere tries the next entry of the row. Closed: nobody has a turn left.
use mathlib.Core.Path.{◌≡◌, ◌∙◌}
use mathlib.Core.Logic.{◌⊎◌, ◌≢◌}
use mathlib.Core.List.{List}
use Prim.Native.Nat.{ℕ, suc, ◌≤◌, ◌<◌}
use native.Mathlib.Omega.{arith}
use lib.ListN.{length, get_or, set}
use lib.Seq.{get_or-set_same, get_or-set_other}
use Rattle.lists.specs.Lists.{sum_of}
use Rattle.lists.proofs.Counting.{sum_of_at}
use Rattle.market.proofs.Laws.{Contracts, Held, Unheld}
use Rattle.market.proofs.Update.{put, put_here, put_elsewhere, split_at}
use Rattle.market.proofs.Rows.{Rows, State, offers}

-- u is t with one more entry tried by i
pub record Turned (i : ℕ) (t u : State) : Type 0 where
  pub here : u i ≡ suc (t i)
  pub elsewhere : (j : ℕ) → j ≢ i → u j ≡ t j

pub data Reached (n : ℕ) (Ch : Contracts → Contracts) (rows : Rows) : State → Type 0 where
  start : {t : State} → ((i : ℕ) → t i ≡ 0) → Reached n Ch rows t
  step : {t u : State} (i : ℕ) → Reached n Ch rows t → i < n → Unheld Ch (offers rows t) i → t i < (rows i).len → Turned i t u
      → Reached n Ch rows u

-- i is held, or has tried the whole row
abbrev pub Served : (Contracts → Contracts) → Rows → State → ℕ → Type 0
Served Ch rows t i = Held Ch (offers rows t) i ⊎ (t i ≡ (rows i).len)

pub record Closed (n : ℕ) (Ch : Contracts → Contracts) (rows : Rows) (u : State) : Type 0 where
  pub fits : (i : ℕ) → u i ≤ (rows i).len
  pub served : (i : ℕ) → i < n → Served Ch rows u i

pub record Final (n : ℕ) (Ch : Contracts → Contracts) (rows : Rows) (t : State) : Type 0 where
  pub reached : Reached n Ch rows t
  pub closed : Closed n Ch rows t

unfoldable pub turn : ℕ → State → State
turn i t = put i (suc (t i)) t

pub turn_turned : (i : ℕ) (t : State) → Turned i t (turn i t)
unfolding turn
turn_turned i t = record { here = put_here i (suc (t i)) t; elsewhere = put_elsewhere i (suc (t i)) t }

-- a turn of a state kept in a list
pub set_turned : (l : List ℕ) (i v : ℕ) → i < length l → v ≡ suc (get_or l i 0)
    → Turned i (λ j. get_or l j 0) (λ j. get_or (set l i v) j 0)
set_turned l i v h p = record { here = get_or-set_same l i v 0 h ∙ p; elsewhere = λ j d. get_or-set_other l i j v 0 d }

pub turned_le : {i : ℕ} {t u : State} → Turned i t u → (j : ℕ) → t j ≤ u j
turned_le {i} {t} {u} s = split_at (λ j. t j ≤ u j) i (omega arith) (λ j d. omega (arith, s.elsewhere j d))

pub turned_sum : {i : ℕ} {t u : State} (n : ℕ) → i < n → Turned i t u → sum_of n u ≡ suc (sum_of n t)
turned_sum {i} {t} {u} n l s = omega (arith, sum_of_at n i 1 u t l s.elsewhere (omega (arith, s.here)))

module _ {n : ℕ} {Ch : Contracts → Contracts} {rows : Rows} where
  pub reached_fits : {t : State} → Reached n Ch rows t → (j : ℕ) → t j ≤ (rows j).len
  reached_fits (start z) j = omega (arith, z j)
  reached_fits (step {u = u} i r l f h s) j =
      split_at (λ j. u j ≤ (rows j).len) i (omega arith) (λ j d. omega (arith, s.elsewhere j d, reached_fits r j)) j
