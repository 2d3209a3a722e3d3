-- The entry that a candidate tried last, as the tables have it.
use Prim.Native.Nat.{ℕ, suc, ◌^◌, ◌<◌}
use mathlib.Core.Path.{◌≡◌, refl, sym, ◌∙◌}
use mathlib.Core.Bool.{Bool, true, false, cond, not, ◌&&◌, and-false}
use mathlib.Core.Logic.{◌≢◌, ◌⊎◌, inl, inr}
use mathlib.Core.List.{List}
use native.Mathlib.Omega.{arith}
use lib.Dec.{eqb, ltb}
use lib.ListN.{length, get_or}
use borrow.Author.Tests.{eqb-true, eqb-false, eq-eqb, ne_eqb, not-true}
use Rattle.round.specs.declared.entry.Category.{Category}
use Rattle.round.specs.Category.{code_of}
use Rattle.lists.specs.Lists.{bit, all_of}
use Rattle.round.specs.Round.{Round}
use Rattle.round.specs.Places.{institute_at}
use Rattle.lists.proofs.Words.{all_at}
use Rattle.lists.specs.Numbers.{holds}
use Rattle.round.proofs.Codes.{code_small}
use Rattle.offers.specs.Rows.{row_at, rank_in, entry_of, same_entry}
use Rattle.offers.specs.Offers.{place_on}
use Rattle.offers.specs.Process.{institute_count}
use Rattle.offers.specs.Process.{last_to}
use Rattle.sweeps.specs.Sweeps.{offer_to, offers_by, takes_part}

-- nothing is tried yet
pub record Untried (state asked : List ℕ) (i : ℕ) : Type 0 where
  pub nothing : get_or state i 0 ≡ 0
  pub nobody : get_or asked i 0 ≡ 0

-- the entry tried last is that of an institute with a category
pub record LastKnown (r : Round) (state asked wanted : List ℕ) (i : ℕ) : Type 0 where
  pub institute : ℕ
  pub category : Category
  pub inside : institute < institute_count r
  pub asked_at : get_or asked i 0 ≡ suc institute
  pub wanted_at : get_or wanted i 0 ≡ 2 ^ code_of category
  pub last : (j : ℕ) (c : Category) → last_to r state j i c ≡ same_entry (entry_of institute category) (entry_of j c)

abbrev pub LastIn : Round → List ℕ → List ℕ → List ℕ → ℕ → Type 0
LastIn r state asked wanted i = Untried state asked i ⊎ LastKnown r state asked wanted i

-- a set of one category has that category alone
only_has : (a b : ℕ) → Bool
only_has a b = eqb (bit (holds (2 ^ a) b)) (bit (eqb a b))

bits_same : (a b : Bool) → bit a ≡ bit b → a ≡ b
bits_same true true e = refl
bits_same true false e = absurd (omega arith)
bits_same false true e = absurd (omega arith)
bits_same false false e = refl

pub holds_only : (d c : Category) → holds (2 ^ code_of d) (code_of c) ≡ eqb (code_of d) (code_of c)
unfolding only_has holds
holds_only d c =
    bits_same _ _
    (eqb-true _ _
    (all_at 5 (only_has (code_of d))
    (all_at 5 (λ a. all_of 5 (only_has a)) refl (code_of d) (omega (arith, code_small d)))
    (code_of c) (omega (arith, code_small c))))

pub holds_none : (c : Category) → holds 0 (code_of c) ≡ false
unfolding holds
holds_none c = not-true _ (all_at 5 (λ b. not (holds 0 b)) refl (code_of c) (omega (arith, code_small c)))

-- a set of one category is not empty
pub only_some : (c : Category) → 2 ^ code_of c ≢ 0
only_some c =
    eqb-false (2 ^ code_of c) 0 (not-true _ (all_at 5 (λ a. not (eqb (2 ^ a) 0)) refl (code_of c) (omega (arith, code_small c))))

-- the offers by the tables are those of the entries tried last
pub offers_last : {r : Round} {state asked wanted : List ℕ} {i : ℕ} → LastIn r state asked wanted i → (j : ℕ) (c : Category)
    → offers_by (offer_to (suc j) asked wanted) i c ≡ last_to r state j i c
unfolding offers_by offer_to last_to
offers_last {r} {state} {asked} {wanted} {i} (inl u) j c =
    rw (ne_eqb (get_or asked i 0) (suc j) (λ z. omega (arith, u.nobody))) (holds_none c)
    ∙ sym (ne_eqb (suc (rank_in (row_at r i) (entry_of j c))) (get_or state i 0) (λ z. omega (arith, u.nothing)))
offers_last (inr k) j c = rw (k.asked_at, k.wanted_at) (go (eqb (suc k.institute) (suc j))) ∙ sym (k.last j c)
  where
    go : (b : Bool) → holds (cond b (2 ^ code_of k.category) 0) (code_of c) ≡ (b && eqb (code_of k.category) (code_of c))
    go true = holds_only k.category c
    go false = holds_none c

-- who asked an institute last has an offer to it
pub offer_some : {r : Round} {state asked wanted : List ℕ} {i : ℕ} → LastIn r state asked wanted i → (j : ℕ) → get_or asked i 0 ≡ suc j
    → offer_to (suc j) asked wanted i ≢ 0
unfolding offer_to
offer_some (inl u) j e z = omega (arith, u.nobody)
offer_some {asked = asked} {i = i} (inr k) j e z = only_some k.category (rw (eq-eqb (get_or asked i 0) (suc j) e, k.wanted_at) at z)

-- who asked another institute takes no part
pub no_part : (r : Round) (j : ℕ) (asked wanted : List ℕ) (c : ℕ) → get_or asked c 0 ≢ suc j → takes_part r j (offer_to (suc j) asked wanted) c ≡ false
unfolding takes_part offer_to
no_part r j asked wanted c n = rw (ne_eqb (get_or asked c 0) (suc j) n) (and-false (ltb (place_on r j c) (length (institute_at r j).merit)))
