-- Some offer of a set ranks below its candidate's seat on a list, or none does.
use mathlib.Core.Path.{◌≡◌}
use mathlib.Core.Bool.{Bool, true, false, ◌&&◌}
use mathlib.Core.Logic.{◌⊎◌, inl, inr}
use mathlib.Core.List.{List}
use Prim.Native.Nat.{ℕ, ◌*◌, ◌/◌, ◌%◌, ◌≤◌, ◌<◌}
use native.Mathlib.Omega.{arith}
use lib.Dec.{ltb}
use borrow.Author.Tests.{ltb-true, ltb-false}
use Rattle.round.specs.declared.entry.Category.{Category}
use Rattle.round.specs.Category.{category_of}
use Rattle.round.specs.Round.{Round}
use Rattle.lists.proofs.Words.{and_fst, and_snd, and_no}
use Rattle.round.proofs.Codes.{code_small}
use Rattle.offers.specs.Rows.{row_at, rank_in, entry_of}
use Rattle.offers.specs.Offers.{OfferSet}
use Rattle.offers.specs.Process.{Seat, candidate_count}
use Rattle.offers.specs.Standing.{standing}
use Rattle.offers.specs.Stable.{seat_on, SomeBelow}
use Rattle.lists.proofs.SomeBelow.{some_below}
use Rattle.offers.proofs.Rounds.Numbered.{number_of, number_institute, number_category}

module _ (r : Round) (list : List Seat) (j : ℕ) (set : OfferSet) where
  -- no offer of the set ranks below its candidate's seat
  abbrev pub NoneBelow : Type 0
  NoneBelow = (i : ℕ) → i < candidate_count r → (c : Category) → set i c ≡ true → rank_in (row_at r i) (entry_of j c) ≤ standing r i (seat_on list i)

  below : ℕ → Category → Bool
  below i c = set i c && ltb (standing r i (seat_on list i)) (rank_in (row_at r i) (entry_of j c))

  pub below_or_none : SomeBelow r list j set ⊎ NoneBelow
  unfolding SomeBelow below
  below_or_none = go (some_below (5 * candidate_count r) (λ e. below (e / 5) (category_of (e % 5))))
    where
      go : ((e : ℕ) × (below (e / 5) (category_of (e % 5)) ≡ true)) ⊎ ((e : ℕ) → e < 5 * candidate_count r → below (e / 5) (category_of (e % 5)) ≡ false)
          → SomeBelow r list j set ⊎ NoneBelow
      go (inl (e, t)) =
          inl (e / 5, category_of (e % 5), and_fst (set (e / 5) (category_of (e % 5))) _ t, ltb-true _ _ (and_snd (set (e / 5) (category_of (e % 5))) _ t))
      go (inr none) =
          inr
          (λ i hi c t.
          let no : below i c ≡ false = rw (number_institute i c, number_category i c) at (none (number_of i c) (omega (arith, code_small c))) in
          ltb-false _ _ (and_no (set i c) _ no t))
