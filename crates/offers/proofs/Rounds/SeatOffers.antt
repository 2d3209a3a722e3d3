-- The seats that an institute gives stand for the offers that it holds, at its steps.
use mathlib.Core.Path.{◌≡◌, refl, sym, ◌∙◌, ap, subst}
use mathlib.Core.Bool.{Bool, true, false, cond, ◌&&◌}
use mathlib.Core.Logic.{◌≢◌, ◌⊎◌, inl, inr}
use mathlib.Core.List.{List}
use Prim.Native.Nat.{ℕ, suc, ◌<◌}
use native.Mathlib.Omega.{arith}
use lib.Dec.{eqb}
use lib.ListN.{get_or}
use borrow.Author.Tests.{eqb-true, eqb-false, eq-eqb}
use Rattle.round.specs.declared.entry.Category.{Category}
use Rattle.round.specs.Round.{Round}
use Rattle.round.specs.Sound.{Sound}
use Rattle.lists.proofs.Words.{and_fst, and_snd}
use Rattle.choice.proofs.Offers.{same_self, same_category_lem}
use Rattle.offers.specs.Rows.{same_category, category_at}
use Rattle.offers.specs.Process.{Seat, no_seat, candidate_count, institute_count, made_to, seats_after}
use Rattle.offers.specs.Standing.{is_step}
use Rattle.offers.specs.Stable.{seat_offers, step_of}
use Rattle.lists.proofs.SomeBelow.{same_test}
use Rattle.offers.proofs.Rounds.Numbered.{number_of}
use Rattle.offers.proofs.Rounds.Agreed.{step_number}
use Rattle.offers.proofs.Rounds.Running.{held, Running}
use Rattle.offers.proofs.Rounds.Seats.{step_in, step_held, held_step, seat_held_lem, Seated, Unseated, seat_of}
use Rattle.offers.proofs.Rounds.Standing.{is_step_lem}

module _ {types : ℕ} {r : Round} (sound : Sound types r) {tried : List ℕ} (run : Running r tried) (i j : ℕ)
    (hi : i < candidate_count r) (hj : j < institute_count r) where
  abbrev seat : Seat
  seat = get_or (seats_after r tried) i no_seat

  -- a seat at institute j is the step there
  pub seated_at : seat.institute ≡ suc j → (step_in r tried j i ≢ 0) × (seat ≡ record { institute = suc j; step = step_in r tried j i })
  seated_at e = go (seat_of sound run i hi)
    where
      go : Seated r tried i ⊎ Unseated r tried i → (step_in r tried j i ≢ 0) × (seat ≡ record { institute = suc j; step = step_in r tried j i })
      go (inl s) =
          let p : suc s.institute ≡ suc j = sym (ap (λ (x : Seat). x.institute) s.seat) ∙ e in
          let q : s.institute ≡ j = omega arith in
          subst (λ q. (step_in r tried q i ≢ 0) × (seat ≡ record { institute = suc q; step = step_in r tried q i })) q (s.number, s.seat)
      go (inr s) =
          let p : 0 ≡ suc j = sym (ap (λ (x : Seat). x.institute) s.seat) ∙ e in
          absurd (omega arith)

  pub given_held : (c : Category) → seat_offers r (seats_after r tried) j i c ≡ held r tried i (number_of j c)
  unfolding seat_offers
  given_held c = same_test _ _ there back
    where
      there : seat_offers r (seats_after r tried) j i c ≡ true → held r tried i (number_of j c) ≡ true
      there t =
          let at = seated_at (eqb-true seat.institute (suc j) (and_fst (eqb seat.institute (suc j)) _ t)) in
          let same : same_category (category_at r j seat.step) c ≡ true = and_snd (is_step r seat) _ (and_snd (eqb seat.institute (suc j)) _ t) in
          let under : category_at r j (step_in r tried j i) ≡ c =
          sym (ap (λ (x : Seat). category_at r j x.step) at.1) ∙ same_category_lem (category_at r j seat.step) c same in
          sym (ap (λ (d : Category). held r tried i (number_of j d)) under) ∙ step_held sound run i j hi hj at.0

      back : held r tried i (number_of j c) ≡ true → seat_offers r (seats_after r tried) j i c ≡ true
      back t =
          let at = held_step sound run i j c hi hj t in
          ap (λ (x : Seat). eqb x.institute (suc j) && (is_step r x && same_category (category_at r j x.step) c)) (seat_held_lem sound run i j c hi hj t)
          ∙ rw (eq-eqb (suc j) (suc j) refl, is_step_lem r j (step_in r tried j i) hj at.0 (omega (arith, step_number r j (made_to r tried j) i, sound.numbered j hj)), at.1) (same_self c)

  pub step_given_lem : step_of r (seats_after r tried) j i ≡ step_in r tried j i
  unfolding step_of
  step_given_lem = go (eqb (step_in r tried j i) 0) refl
    where
      go : (b : Bool) → eqb (step_in r tried j i) 0 ≡ b → step_of r (seats_after r tried) j i ≡ step_in r tried j i
      go true e = absent (eqb seat.institute (suc j)) refl
        where
          absent : (b : Bool) → eqb seat.institute (suc j) ≡ b → cond (eqb seat.institute (suc j)) seat.step 0 ≡ step_in r tried j i
          absent true at = absurd ((seated_at (eqb-true seat.institute (suc j) at)).0 (eqb-true (step_in r tried j i) 0 e))
          absent false at = rw at (sym (eqb-true (step_in r tried j i) 0 e))
      go false e =
          let t = step_held sound run i j hi hj (eqb-false (step_in r tried j i) 0 e) in
          ap (λ (x : Seat). cond (eqb x.institute (suc j)) x.step 0) (seat_held_lem sound run i j (category_at r j (step_in r tried j i)) hi hj t)
          ∙ rw (eq-eqb (suc j) (suc j) refl)
