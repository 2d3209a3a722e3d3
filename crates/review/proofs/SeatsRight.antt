-- Where no seat is wrong: what the seats stand for, and the seats of an institute with one entry more.
use Prim.Native.Nat.{ℕ, suc, ◌<◌}
use mathlib.Core.Path.{◌≡◌, refl, sym, ◌∙◌, ap, fun_ext}
use mathlib.Core.Bool.{true, ◌&&◌}
use mathlib.Core.Logic.{◌⊎◌, inl, inr}
use mathlib.Core.List.{List}
use native.Mathlib.Omega.{arith}
use lib.Dec.{eqb}
use lib.ListN.{length}
use borrow.Author.Tests.{eqb-true, eq-eqb, ne_eqb}
use Rattle.round.specs.declared.entry.Category.{Category}
use Rattle.round.specs.declared.entry.Entry.{Entry}
use Rattle.round.specs.Round.{Round}
use Rattle.round.specs.Places.{candidate_at, entry_at}
use Rattle.std.proofs.lemmas.Bool.{or_cases}
use Rattle.lists.proofs.Words.{and_fst, and_snd}
use Rattle.lists.proofs.Counting.{test, or_left, or_right, and_true}
use Rattle.choice.proofs.Offers.{Within, same_self, same_category_lem}
use Rattle.offers.specs.Rows.{row_at, rank_in, entry_of, same_category, category_at}
use Rattle.offers.specs.Offers.{OfferSet, step_for, taken_from}
use Rattle.offers.specs.Process.{Seat, is_none, candidate_count, institute_count}
use Rattle.offers.specs.Standing.{standing}
use Rattle.offers.specs.Stable.{seat_on, seat_offers, step_of, together}
use Rattle.lists.proofs.SomeBelow.{same_test}
use Rattle.offers.proofs.Rounds.FirstDifference.{taken_offered}
use Rattle.offers.proofs.Rounds.Numbered.{rank_found}
use Rattle.offers.specs.Listed.{listed_at, above}
use Rattle.review.specs.Finding.{with_entry}
use Rattle.offers.proofs.InRow.{in_row_lem, not_none, none_above, none_stands, step_numbers_lem, given_at, listed_given}
use Rattle.review.proofs.NobodyWrong.{NobodyWrong, all_in_row, all_kept}

-- in a list of which no seat is wrong
module _ (r : Round) (list : List Seat) (many : length list ≡ candidate_count r) (right : NobodyWrong r list) where
  -- a seat stands at the end of the entries above it
  pub standing_above : (i : ℕ) → i < candidate_count r → standing r i (seat_on list i) ≡ above r list i
  standing_above i l =
      test (is_none (seat_on list i)) (λ none. none_stands r list i none ∙ sym (none_above r list i none))
      (λ some. (in_row_lem r list i (all_in_row r list many right i l some)).stands)

  -- a seat given by institute j stands for the entry there
  pub given_above : (j i : ℕ) (c : Category) → i < candidate_count r → seat_offers r list j i c ≡ true
      → (above r list i ≡ rank_in (row_at r i) (entry_of j c)) × (above r list i < length (row_at r i))
  given_above j i c l t =
      let (at, step, under) = given_at r list i j c t in
      let known = in_row_lem r list i (all_in_row r list many right i l (not_none r list i at)) in
      let same : known.institute ≡ j = omega (arith, known.at, at) in (
        known.rank ∙ ap (λ q. rank_in (row_at r i) (entry_of q (category_at r q (seat_on list i).step))) same
            ∙ ap (λ (d : Category). rank_in (row_at r i) (entry_of j d)) under,
        known.short,
      )

  -- and an entry at that place is that seat's
  pub above_given : (j i : ℕ) (c : Category) → i < candidate_count r → rank_in (row_at r i) (entry_of j c) ≡ above r list i
      → rank_in (row_at r i) (entry_of j c) < length (row_at r i) → seat_offers r list j i c ≡ true
  unfolding seat_offers
  above_given j i c l e short =
      test (is_none (seat_on list i)) (λ none. absurd (omega (arith, none_above r list i none)))
      (λ some.
      let known = in_row_lem r list i (all_in_row r list many right i l some) in
      let k : ℕ = known.institute in
      let d : Category = category_at r k (seat_on list i).step in
      let rank : rank_in (row_at r i) (entry_of k d) ≡ rank_in (row_at r i) (entry_of j c) = sym known.rank ∙ sym e in
      let same : entry_of k d ≡ entry_of j c =
      sym (rank_found (row_at r i) (entry_of k d) (omega arith)) ∙ ap (λ q. entry_at (candidate_at r i) q) rank
      ∙ rank_found (row_at r i) (entry_of j c) short in
      let at : suc k ≡ suc j = ap (λ (x : Entry). x.institute) same in
      let under : d ≡ c = ap (λ (x : Entry). x.category) same in
      let here : k ≡ j = omega arith in
      let under-here : category_at r j (seat_on list i).step ≡ c = ap (λ q. category_at r q (seat_on list i).step) (sym here) ∙ under in
      and_true _ _ (eq-eqb _ _ (known.at ∙ at)) (and_true _ _ known.step (rw under-here (same_self c))))

  -- what an institute takes of the seats it gave is those seats
  pub taken_given : (j i : ℕ) (c : Category) → j < institute_count r → i < candidate_count r → taken_from r j (seat_offers r list j) i c ≡ seat_offers r list j i c
  unfolding taken_from step_of
  taken_given j i c hj l = same_test _ _ (taken_offered r j (seat_offers r list j) i c) back
    where
      back : seat_offers r list j i c ≡ true → taken_from r j (seat_offers r list j) i c ≡ true
      back t =
          let (at, step, under) = given_at r list i j c t in
          let k : step_for r j (seat_offers r list j) i ≡ (seat_on list i).step = all_kept r list many right j i hj l ∙ rw (eq-eqb _ _ at) in
          rw (k, ne_eqb (seat_on list i).step 0 (λ z. omega (arith, step_numbers_lem r (seat_on list i) step)), under) (same_self c)

  -- the seats that institute j gave and one entry more
  module _ (j i : ℕ) (c : Category) where
    pub entry_with_lem : with_entry r list j i c i c ≡ true
    unfolding with_entry
    entry_with_lem = or_right (listed_at r list j i c) _ (and_true _ _ (eq-eqb i i refl) (same_self c))

    pub given_with : Within (seat_offers r list j) (with_entry r list j i c)
    unfolding with_entry
    given_with k d t = or_left _ _ (ap (λ (Y : OfferSet). Y k d) (listed_given r list many (all_in_row r list many right) j) ∙ t)

    pub with_cases : (k : ℕ) (d : Category) → with_entry r list j i c k d ≡ true → (seat_offers r list j k d ≡ true) ⊎ ((k ≡ i) × (d ≡ c))
    unfolding with_entry
    with_cases k d t = go (or_cases (listed_at r list j k d) _ t)
      where
        go : (listed_at r list j k d ≡ true) ⊎ ((eqb k i && same_category c d) ≡ true) → (seat_offers r list j k d ≡ true) ⊎ ((k ≡ i) × (d ≡ c))
        go (inl u) = inl (sym (ap (λ (Y : OfferSet). Y k d) (listed_given r list many (all_in_row r list many right) j)) ∙ u)
        go (inr u) = inr (eqb-true k i (and_fst (eqb k i) _ u), sym (same_category_lem c d (and_snd (eqb k i) _ u)))

    abbrev pub taken_with : OfferSet
    taken_with = taken_from r j (with_entry r list j i c)

    pub taken_with_lem : (k : ℕ) (d : Category) → taken_with k d ≡ true → with_entry r list j i c k d ≡ true
    taken_with_lem k d t = taken_offered r j (with_entry r list j i c) k d t

    -- what is taken of them, and the seats, are they again
    pub taken_together : taken_with i c ≡ true → together r list j taken_with ≡ with_entry r list j i c
    taken_together t = fun_ext (λ k. fun_ext (λ d. same_test _ _ (there k d) (back k d)))
      where
        there : (k : ℕ) (d : Category) → together r list j taken_with k d ≡ true → with_entry r list j i c k d ≡ true
        there k d u = go (or_cases (taken_with k d) _ u)
          where
            go : (taken_with k d ≡ true) ⊎ (seat_offers r list j k d ≡ true) → with_entry r list j i c k d ≡ true
            go (inl v) = taken_with_lem k d v
            go (inr v) = given_with k d v

        back : (k : ℕ) (d : Category) → with_entry r list j i c k d ≡ true → together r list j taken_with k d ≡ true
        back k d u = go (with_cases k d u)
          where
            go : (seat_offers r list j k d ≡ true) ⊎ ((k ≡ i) × (d ≡ c)) → together r list j taken_with k d ≡ true
            go (inl v) = or_right (taken_with k d) _ v
            go (inr (k-is, d-is)) = or_left _ _ (ap (λ q. taken_with q d) k-is ∙ ap (λ (e : Category). taken_with i e) d-is ∙ t)
