-- A sound round is a market: its institutes' completions together.
use mathlib.Core.Path.{◌≡◌, refl, ◌∙◌, ap, subst}
use mathlib.Core.Bool.{Bool, true, false, ◌&&◌}
use Prim.Native.Nat.{ℕ, ◌*◌, ◌/◌, ◌%◌, ◌<◌}
use native.Mathlib.Omega.{arith}
use lib.Dec.{ltb}
use borrow.Author.Tests.{ltb-true, lt-ltb}
use Rattle.round.specs.declared.entry.Category.{Category}
use Rattle.round.specs.Category.{category_of}
use Rattle.round.specs.Round.{Round}
use Rattle.round.specs.Sound.{Sound}
use Rattle.lists.specs.Lists.{bit, count_of, sum_of}
use Rattle.lists.proofs.Words.{and_fst, and_snd}
use Rattle.round.proofs.Codes.{code_small}
use Rattle.lists.proofs.Counting.{sum_of_le, sum_of_ext}
use Rattle.offers.specs.Offers.{OfferSet}
use Rattle.offers.specs.Process.{candidate_count, institute_count}
use Rattle.lists.proofs.Sums.{count_bits}
use Rattle.lists.proofs.DoubleSums.{sum_swap}
use Rattle.market.proofs.Laws.{Contracts, Market, total}
use Rattle.offers.proofs.Rounds.Numbered.{number_of, number_institute, number_category, number_back}
use Rattle.offers.proofs.Rounds.Fives.{five, five_same, sum_fives}
use Rattle.offers.proofs.Rounds.Completed.{completed, completed_within, completed_stays, completed_grows}

-- of three tests the last
and_false_last : (a b x y : Bool) → (a ≡ true → b ≡ true → x ≡ false → y ≡ false) → (a && (b && x)) ≡ false → (a && (b && y)) ≡ false
and_false_last true true x y h e = h refl refl e
and_false_last true false x y h e = refl
and_false_last false b x y h e = refl

-- the offers to institute j
abbrev pub offers_to : Contracts → ℕ → OfferSet
offers_to O j i c = O i (number_of j c)

module _ (r : Round) where
  abbrev pub entry_bound : ℕ
  entry_bound = 5 * institute_count r

  unfoldable pub choice_of : Contracts → Contracts
  choice_of O i e = ltb i (candidate_count r) && (ltb e entry_bound && completed r (e / 5) (offers_to O (e / 5)) i (category_of (e % 5)))

  pub choice_bounded : (O : Contracts) (i e : ℕ) → choice_of O i e ≡ true → (i < candidate_count r) × (e < entry_bound)
  unfolding choice_of
  choice_bounded O i e t = (
    ltb-true i (candidate_count r) (and_fst (ltb i (candidate_count r)) _ t),
    ltb-true e entry_bound (and_fst (ltb e entry_bound) _ (and_snd (ltb i (candidate_count r)) _ t)),
  )

  -- what is chosen is what each institute's completion takes
  pub choice_at : (O : Contracts) (i j : ℕ) (c : Category) → i < candidate_count r → j < institute_count r
      → choice_of O i (number_of j c) ≡ completed r j (offers_to O j) i c
  unfolding choice_of
  choice_at O i j c hi hj =
      let l : number_of j c < entry_bound = omega (arith, code_small c) in
      rw (lt-ltb i (candidate_count r) hi, lt-ltb (number_of j c) entry_bound l, number_institute j c, number_category j c)

  choice_back : (O : Contracts) (i e : ℕ) → choice_of O i e ≡ true → completed r (e / 5) (offers_to O (e / 5)) i (category_of (e % 5)) ≡ true
  unfolding choice_of
  choice_back O i e t = and_snd (ltb e entry_bound) _ (and_snd (ltb i (candidate_count r)) _ t)

  choice_total : (O : Contracts)
      → total (candidate_count r) entry_bound (choice_of O) ≡ sum_of (institute_count r) (λ j. sum_of (candidate_count r) (λ i. five (completed r j (offers_to O j) i)))
  unfolding total five
  choice_total O =
      sum_of_ext (candidate_count r) (λ i. count_of entry_bound (choice_of O i)) (λ i. sum_of (institute_count r) (λ j. five (completed r j (offers_to O j) i))) row
      ∙ sum_swap (candidate_count r) (institute_count r) (λ i j. five (completed r j (offers_to O j) i))
    where
      row : (i : ℕ) → i < candidate_count r → count_of entry_bound (choice_of O i) ≡ sum_of (institute_count r) (λ j. five (completed r j (offers_to O j) i))
      row i l =
          count_bits entry_bound (choice_of O i)
          ∙ sum_fives (institute_count r) (λ e. bit (choice_of O i e))
          ∙ sum_of_ext (institute_count r) (λ j. five (λ c. choice_of O i (number_of j c))) (λ j. five (completed r j (offers_to O j) i))
          (λ j m. five_same (λ c. choice_of O i (number_of j c)) (completed r j (offers_to O j) i) (λ c. choice_at O i j c l m))

  module _ {types : ℕ} (sound : Sound types r) where
    pub round_market : Market (candidate_count r) entry_bound choice_of
    unfolding choice_of
    round_market = record {
      within = λ O i e t.
          subst (λ x. O i x ≡ true) (number_back e) (completed_within r (e / 5) (offers_to O (e / 5)) i (category_of (e % 5)) (choice_back O i e t));
      bounded = choice_bounded;
      stays = λ O P i e s o.
          and_false_last (ltb i (candidate_count r)) (ltb e entry_bound) _ _
          (λ hi he.
          let b : e < entry_bound = ltb-true e entry_bound he in
          completed_stays r (e / 5) (sound.institute (e / 5) (omega arith)) (offers_to O (e / 5)) (offers_to P (e / 5))
          (λ k c. s k (number_of (e / 5) c))
          i
          (category_of (e % 5))
          (ap (λ x. O i x) (number_back e) ∙ o));
      grows = λ O P s.
          omega (
            arith,
            choice_total O,
            choice_total P,
            sum_of_le (institute_count r) (λ j. sum_of (candidate_count r) (λ i. five (completed r j (offers_to O j) i))) (λ j. sum_of (candidate_count r) (λ i. five (completed r j (offers_to P j) i)))
                (λ j l. completed_grows r j (sound.institute j l) (offers_to O j) (offers_to P j) (λ i c. s i (number_of j c))),
          );
    }
