-- Rows of entries in order of preference, how many entries of each row have been tried, and the offers so made.
use mathlib.Core.Path.{◌≡◌}
use mathlib.Core.Bool.{true}
use mathlib.Core.Logic.{◌≢◌}
use Prim.Native.Nat.{ℕ, ◌≤◌, ◌<◌}
use native.Mathlib.Omega.{arith}
use lib.Dec.{ltb}
use borrow.Author.Tests.{ltb-true, lt-ltb}
use Rattle.market.proofs.Laws.{◌⊆◌, Contracts}

pub record Row : Type 0 where
  pub len : ℕ
  pub entry : ℕ → ℕ
  pub rank : ℕ → ℕ

-- the entries of a row are different, and rank says where each stands; a rank of len or more: not in the row
pub record Ranked (r : Row) : Type 0 where
  pub rank_entry : (p : ℕ) → p < r.len → r.rank (r.entry p) ≡ p
  pub entry_rank : (e : ℕ) → r.rank e < r.len → r.entry (r.rank e) ≡ e

abbrev pub Rows : Type 0
Rows = ℕ → Row

-- rows alike but for i's
abbrev pub RowsAlikeBut : ℕ → Rows → Rows → Type 0
RowsAlikeBut i rows others = (j : ℕ) → j ≢ i → rows j ≡ others j

abbrev pub State : Type 0
State = ℕ → ℕ

unfoldable pub offers : Rows → State → Contracts
offers rows t i e = ltb ((rows i).rank e) (t i)

pub offered : (rows : Rows) (t : State) (i e : ℕ) → (rows i).rank e < t i → offers rows t i e ≡ true
unfolding offers
offered rows t i e = lt-ltb ((rows i).rank e) (t i)

pub tried : (rows : Rows) (t : State) (i e : ℕ) → offers rows t i e ≡ true → (rows i).rank e < t i
unfolding offers
tried rows t i e = ltb-true ((rows i).rank e) (t i)

pub offers_le : (rows : Rows) (t u : State) → ((i : ℕ) → t i ≤ u i) → offers rows t ⊆ offers rows u
offers_le rows t u h i e o = offered rows u i e (omega (arith, h i, tried rows t i e o))

pub one_entry : (r : Row) → Ranked r → (a b : ℕ) → r.rank a < r.len → r.rank a ≡ r.rank b → a ≡ b
one_entry r law a b l p = cc (law.entry_rank a l, law.entry_rank b (omega arith), p)
