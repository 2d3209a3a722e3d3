-- The completion of an institute's choice on offers of candidates: who is absent from the merit list is taken under nothing.
use mathlib.Core.Path.{◌≡◌, sym, ◌∙◌, ap, subst}
use mathlib.Core.Bool.{Bool, true, false, ◌&&◌}
use mathlib.Core.Logic.{◌⊎◌, inl, inr}
use mathlib.Core.List.{List, [], ◌∷◌}
use Prim.Native.Nat.{ℕ, suc, ◌≤◌, ◌<◌}
use native.Mathlib.Omega.{arith}
use native.Mathlib.Decide.{dec_lt}
use lib.Dec.{ltb}
use lib.ListN.{length, get_or, length-map}
use borrow.Author.Tests.{ltb-true, lt-ltb, le-ltb}
use Rattle.round.specs.declared.entry.Category.{Category}
use Rattle.lists.specs.Lists.{list_sum, sum_of}
use Rattle.round.specs.Round.{StepRule, Round}
use Rattle.round.specs.Places.{institute_at, no_step}
use Rattle.round.specs.Sound.{SoundInstitute}
use Rattle.lists.proofs.Words.{and_fst}
use Rattle.choice.proofs.Offers.{offers_in}
use Rattle.choice.proofs.Completion.{Lawful, completion, completion_within, completion_stays, completion_grows, total_taken}
use Rattle.lists.proofs.Counting.{sum_of_ext}
use Rattle.offers.specs.Offers.{OfferSet, candidate_on, marks_on, at_places, place_on}
use Rattle.lists.proofs.DoubleSums.{sum_through}
use Rattle.offers.proofs.Rounds.Fives.{five, five_same, five_none, five_is}
use Rattle.offers.proofs.Rounds.Places.{merit_length, candidate_at_lem, candidate_below, place_of}

-- each step's reserved positions are within its own
lawful_steps : (rules : List StepRule)
    → ((s : ℕ) → s < length rules → list_sum (get_or rules s no_step).reserved ≤ (get_or rules s no_step).own) → Lawful rules
lawful_steps [] h = tt
lawful_steps (rule ∷ rules) h = (h 0 (omega arith), lawful_steps rules (λ s l. h (suc s) (omega arith)))

module _ (r : Round) (j : ℕ) where
  abbrev pub completed_at : OfferSet → ℕ → Category → Bool
  completed_at Y = completion (marks_on r j) (institute_at r j).steps (at_places r j Y)

  unfoldable pub completed : OfferSet → OfferSet
  completed Y i c = ltb (place_on r j i) (merit_length r j) && completed_at Y (place_on r j i) c

  completed_placed : (Y : OfferSet) (i : ℕ) (c : Category) → completed Y i c ≡ true → place_on r j i < merit_length r j
  unfolding completed
  completed_placed Y i c t = ltb-true (place_on r j i) (merit_length r j) (and_fst (ltb (place_on r j i) (merit_length r j)) _ t)

  pub completed_on : (Y : OfferSet) (i : ℕ) (c : Category) → place_on r j i < merit_length r j → completed Y i c ≡ completed_at Y (place_on r j i) c
  unfolding completed
  completed_on Y i c l = rw (lt-ltb (place_on r j i) (merit_length r j) l)

  pub completed_off : (Y : OfferSet) (i : ℕ) (c : Category) → ¬ (place_on r j i < merit_length r j) → completed Y i c ≡ false
  unfolding completed
  completed_off Y i c l = rw (le-ltb (place_on r j i) (merit_length r j) (omega arith))

  pub completed_within : (Y : OfferSet) (i : ℕ) (c : Category) → completed Y i c ≡ true → Y i c ≡ true
  completed_within Y i c t =
      let l : place_on r j i < merit_length r j = completed_placed Y i c t in
      let t' : completed_at Y (place_on r j i) c ≡ true = sym (completed_on Y i c l) ∙ t in
      subst (λ i. Y i c ≡ true) (candidate_at_lem r j i l) (completion_within (marks_on r j) (institute_at r j).steps (at_places r j Y) (place_on r j i) c t')

  module _ {n types : ℕ} (sound : SoundInstitute n types (institute_at r j)) where
    pub lawful : Lawful (institute_at r j).steps
    lawful = lawful_steps (institute_at r j).steps sound.reserved_within

    pub completed_stays : (Y Y' : OfferSet) → ((i : ℕ) (c : Category) → Y i c ≡ true → Y' i c ≡ true)
        → (i : ℕ) (c : Category) → Y i c ≡ true → completed Y i c ≡ false → completed Y' i c ≡ false
    completed_stays Y Y' s i c y out =
        elim (dec_lt (place_on r j i) (merit_length r j)) [
          | yes l ↦
              completed_on Y' i c l
              ∙ completion_stays (marks_on r j) (institute_at r j).steps lawful (at_places r j Y) (at_places r j Y')
              (λ p d. s (candidate_on r j p) d)
              (place_on r j i)
              c
              (ap (λ i. Y i c) (candidate_at_lem r j i l) ∙ y)
              (sym (completed_on Y i c l) ∙ out)
          | no l ↦ completed_off Y' i c l
        ]

    pub completed_inside : (Y : OfferSet) (i : ℕ) (c : Category) → completed Y i c ≡ true → i < n
    completed_inside Y i c t =
        let l : place_on r j i < merit_length r j = completed_placed Y i c t in
        omega (arith, candidate_below r j sound (place_on r j i) l, candidate_at_lem r j i l)

    -- at a place its candidate's offers count
    pub completed_here : (Y : OfferSet) (p : ℕ) (c : Category) → p < merit_length r j → completed Y (candidate_on r j p) c ≡ completed_at Y p c
    completed_here Y p c l =
        let q : place_on r j (candidate_on r j p) ≡ p = place_of r j sound p l in
        completed_on Y (candidate_on r j p) c (omega arith) ∙ ap (λ k. completed_at Y k c) q

    -- what is taken of candidates is what is taken of places
    completed_total : (Y : OfferSet) → sum_of n (λ i. five (completed Y i)) ≡ total_taken (marks_on r j) (institute_at r j).steps (at_places r j Y)
    unfolding total_taken
    completed_total Y =
        sum_through (merit_length r j) n (candidate_on r j) (place_on r j) (candidate_below r j sound) (place_of r j sound)
        (λ i. five (completed Y i))
        (λ i l. all i)
        ∙ sum_of_ext (merit_length r j) (λ p. five (completed Y (candidate_on r j p))) (λ p. five (completed_at Y p))
        (λ p l. five_same (completed Y (candidate_on r j p)) (completed_at Y p) (λ c. completed_here Y p c l))
        ∙ five_is (merit_length r j) (completed_at Y)
        ∙ ap (λ k. offers_in k (completed_at Y)) (sym (length-map (institute_at r j).merit _))
      where
        all : (i : ℕ) → ((place_on r j i < merit_length r j) × (candidate_on r j (place_on r j i) ≡ i)) ⊎ (five (completed Y i) ≡ 0)
        all i =
            elim (dec_lt (place_on r j i) (merit_length r j)) [
              | yes l ↦ inl (l, candidate_at_lem r j i l)
              | no l ↦ inr (five_none (completed Y i) (λ c. completed_off Y i c l))
            ]

    pub completed_grows : (Y Y' : OfferSet) → ((i : ℕ) (c : Category) → Y i c ≡ true → Y' i c ≡ true)
        → sum_of n (λ i. five (completed Y i)) ≤ sum_of n (λ i. five (completed Y' i))
    completed_grows Y Y' s =
        omega (
          arith,
          completed_total Y,
          completed_total Y',
          completion_grows (marks_on r j) (institute_at r j).steps lawful (at_places r j Y) (at_places r j Y') (λ p c. s (candidate_on r j p) c),
        )
