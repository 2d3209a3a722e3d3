-- A function changed at one argument.
use mathlib.Core.Path.{◌≡◌, refl, ap, subst⁻¹}
use mathlib.Core.Bool.{cond}
use mathlib.Core.Logic.{◌≢◌}
use Prim.Native.Nat.{ℕ}
use native.Mathlib.Decide.{ℕ_discrete}
use lib.Dec.{eqb}
use borrow.Author.Tests.{eq-eqb, ne_eqb}

-- the value a at i, and f elsewhere
unfoldable pub put : {A : Type 0} → ℕ → A → (ℕ → A) → ℕ → A
put i a f j = cond (eqb j i) a (f j)

pub put_here : {A : Type 0} (i : ℕ) (a : A) (f : ℕ → A) → put i a f i ≡ a
unfolding put
put_here i a f = ap (λ b. cond b a (f i)) (eq-eqb i i refl)

pub put_elsewhere : {A : Type 0} (i : ℕ) (a : A) (f : ℕ → A) (j : ℕ) → j ≢ i → put i a f j ≡ f j
unfolding put
put_elsewhere i a f j d = ap (λ b. cond b a (f j)) (ne_eqb j i d)

-- what holds at i and elsewhere holds everywhere
pub split_at : (P : ℕ → Type 0) (i : ℕ) → P i → ((j : ℕ) → j ≢ i → P j) → (j : ℕ) → P j
split_at P i here elsewhere j = elim (ℕ_discrete j i) [ yes p ↦ subst⁻¹ P p here | no d ↦ elsewhere j d ]
