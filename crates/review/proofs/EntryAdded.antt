-- The tables with one entry more have the listed seats and that entry.
use Prim.Native.Nat.{ℕ, zero, suc, ◌+◌, ◌^◌, ◌/◌, ◌%◌, ◌<◌}
use mathlib.Core.Path.{◌≡◌, refl, ◌∙◌, ap, fun_ext}
use mathlib.Core.Bool.{◌&&◌, ◌||◌, or-false}
use mathlib.Core.List.{List}
use mathlib.Core.Logic.{◌≢◌}
use native.Mathlib.Omega.{arith}
use native.Mathlib.Numerals.{add-one}
use lib.Bits.{bit_or, or_shr, or_mod}
use lib.Dec.{eqb}
use lib.ListN.{length, get_or, set}
use lib.Seq.{get_or-set_same, get_or-set_other, set-get_or, set-set}
use borrow.Author.Tests.{eq-eqb, ne_eqb}
use Rattle.round.specs.declared.entry.Category.{Category}
use Rattle.round.specs.Category.{code_of}
use Rattle.round.specs.Round.{Round}
use Rattle.lists.specs.Numbers.{holds}
use Rattle.lists.proofs.Counting.{same_or}
use Rattle.offers.specs.Rows.{same_category}
use Rattle.offers.specs.Offers.{step_for}
use Rattle.offers.specs.Process.{Seat, candidate_count}
use Rattle.sweeps.specs.Sweeps.{offer_to, offers_by}
use Rattle.sweeps.proofs.Lasts.{holds_only}
use Rattle.review.specs.Finding.{with_entry}
use Rattle.offers.specs.Listed.{SeatsRead}
use Rattle.review.specs.Tables.{asked_with, wanted_with, offers_with}
use Rattle.review.proofs.SeatsOffered.{offers_listed}

-- two sets together have what either has
or_digit : (x y : ℕ) → x < 2 → y < 2 → eqb (bit_or x y) 1 ≡ (eqb x 1 || eqb y 1)
or_digit zero zero k l = refl
or_digit zero (suc zero) k l = refl
or_digit (suc zero) zero k l = refl
or_digit (suc zero) (suc zero) k l = refl
or_digit zero (suc (suc y)) k l = absurd (omega arith)
or_digit (suc zero) (suc (suc y)) k l = absurd (omega arith)
or_digit (suc (suc x)) y k l = absurd (omega arith)

holds_or : (a b t : ℕ) → holds (bit_or a b) t ≡ (holds a t || holds b t)
unfolding holds
holds_or a b t =
    ap (λ x. eqb (x % 2) 1) (or_shr a b t)
    ∙ ap (λ x. eqb x 1) (or_mod (a / 2 ^ t) (b / 2 ^ t) 1)
    ∙ or_digit (a / 2 ^ t % 2) (b / 2 ^ t % 2) (omega arith) (omega arith)

-- an offer that is put into the tables
module _ (number i v : ℕ) (asked wanted : List ℕ) where
  offer_put : i < length asked → i < length wanted → offer_to number (set asked i number) (set wanted i v) i ≡ v
  unfolding offer_to
  offer_put a w = rw (get_or-set_same asked i number 0 a, get_or-set_same wanted i v 0 w, eq-eqb number number refl)

  offer_kept : (k : ℕ) → k ≢ i → offer_to number (set asked i number) (set wanted i v) k ≡ offer_to number asked wanted k
  unfolding offer_to
  offer_kept k n = rw (get_or-set_other asked i k number 0 n, get_or-set_other wanted i k v 0 n)

-- a table in which what stood at a place is put back
back_again : (table : List ℕ) (i v : ℕ) {added back : List ℕ} → added ≡ set table i v → back ≡ set added i (get_or table i 0) → back ≡ table
back_again table i v e f = f ∙ ap (λ (t : List ℕ). set t i (get_or table i 0)) e ∙ set-set table i v (get_or table i 0) ∙ set-get_or table i 0

-- the tables to which the code has added an entry at institute j
module _ (j i : ℕ) (c : Category) (asked wanted : List ℕ) {asked' wanted' : List ℕ}
    (a : asked' ≡ asked_with (j + 1) i asked) (w : wanted' ≡ wanted_with (j + 1) i c asked wanted) where
  pub step_added : (r : Round) {step : ℕ} → step ≡ step_for r j (offers_by (offer_to (suc j) asked' wanted')) i
      → step ≡ step_for r j (offers_with j i c asked wanted) i
  unfolding offers_with
  step_added r e = e ∙ rw (a, w, add-one)

  pub asked_back : {back : List ℕ} → back ≡ set asked' i (get_or asked i 0) → back ≡ asked
  unfolding asked_with
  asked_back = back_again asked i (j + 1) a

  pub wanted_back : {back : List ℕ} → back ≡ set wanted' i (get_or wanted i 0) → back ≡ wanted
  unfolding wanted_with
  wanted_back = back_again wanted i (bit_or (offer_to (j + 1) asked wanted i) (2 ^ code_of c)) w

-- where the tables have the listed seats
module _ {r : Round} {seats : List Seat} {asked wanted : List ℕ} (read : SeatsRead r seats (candidate_count r) asked wanted)
    (i : ℕ) (inside : i < candidate_count r) where
  -- candidate k's offer of a category d, where i's of a category c is added
  offer_added : (j : ℕ) (c : Category) (k : ℕ) (d : Category) → offers_with j i c asked wanted k d ≡ with_entry r seats j i c k d
  unfolding offers_with asked_with wanted_with with_entry offers_by
  offer_added j c k d = rw (← offers_listed read j) (same_or k i own other)
    where
      v : ℕ
      v = bit_or (offer_to (suc j) asked wanted i) (2 ^ code_of c)

      own : k ≡ i → offers_with j i c asked wanted k d ≡ (offers_by (offer_to (suc j) asked wanted) k d || (eqb k i && same_category c d))
      own e =
          let a : i < length asked = omega (arith, read.asked_many) in
          let w : i < length wanted = omega (arith, read.wanted_many) in
          rw (e, eq-eqb i i refl, offer_put (suc j) i v asked wanted a w, holds_or, holds_only)

      other : k ≢ i → offers_with j i c asked wanted k d ≡ (offers_by (offer_to (suc j) asked wanted) k d || (eqb k i && same_category c d))
      other n = rw (offer_kept (suc j) i v asked wanted k n, ne_eqb k i n, or-false)

  pub offers_added : (j : ℕ) (c : Category) → offers_with j i c asked wanted ≡ with_entry r seats j i c
  offers_added j c = fun_ext (λ k. fun_ext (λ d. offer_added j c k d))
