-- The seats in a state that turns lead to: the institute and the step that hold a candidate, and none for whom nothing holds.
use mathlib.Core.Path.{◌≡◌, refl, sym, ◌∙◌, ap}
use mathlib.Core.Bool.{Bool, true, false, cond, not}
use mathlib.Core.Logic.{◌≢◌, ◌⊎◌, inl, inr}
use mathlib.Core.List.{List, []}
use Prim.Native.Nat.{ℕ, suc, ◌/◌, ◌%◌, ◌<◌}
use native.Mathlib.Omega.{arith}
use lib.Dec.{eqb, ltb}
use lib.ListN.{get_or}
use borrow.Author.Tests.{lt-ltb, le-ltb, ne_eqb, eqb-false, not-true}
use Rattle.round.specs.declared.entry.Category.{Category}
use Rattle.round.specs.Category.{category_of}
use Rattle.lists.specs.Lists.{first_of}
use Rattle.round.specs.Round.{Round}
use Rattle.round.specs.Sound.{Sound}
use Rattle.lists.proofs.Words.{tabulate_at}
use Rattle.lists.proofs.Counting.{clash}
use Rattle.offers.specs.Rows.{category_at}
use Rattle.offers.specs.Offers.{place_on, steps_on, step_for}
use Rattle.offers.specs.Process.{no_seat, candidate_count, institute_count, made_to, chosen, seat_by, seats_after}
use Rattle.market.proofs.Laws.{Held, Unheld, held_or_not}
use Rattle.offers.proofs.Rounds.Numbered.{number_of, number_same, number_back}
use Rattle.lists.proofs.FirstNumber.{first_only, first_none}
use Rattle.offers.proofs.Rounds.Agreed.{step_taken, taken_step}
use Rattle.offers.proofs.Rounds.Institutes.{choice_of, choice_bounded, round_market}
use Rattle.offers.proofs.Rounds.Running.{made, held, Running, one_entry_held, taken_held}

module _ (r : Round) (tried : List ℕ) where
  -- the step of candidate i at institute j
  abbrev pub step_in : ℕ → ℕ → ℕ
  step_in j i = step_for r j (made_to r tried j) i

  abbrev step_by : ℕ → ℕ → ℕ
  step_by i j = get_or (get_or (chosen r tried) j []) (place_on r j i) 0

  seat_by_lem : (i h : ℕ) → i < candidate_count r → first_of (institute_count r) (λ j. not (eqb (step_by i j) 0)) ≡ h
      → get_or (seats_after r tried) i no_seat ≡ cond (ltb h (institute_count r)) (record { institute = suc h; step = step_by i h }) no_seat
  unfolding seats_after seat_by
  seat_by_lem i h l e =
      tabulate_at (candidate_count r) (seat_by r (chosen r tried)) no_seat i l
      ∙ ap (λ h. cond (ltb h (institute_count r)) (record { institute = suc h; step = step_by i h }) no_seat) e

  step_by_lem : (i j : ℕ) → j < institute_count r → step_by i j ≡ step_in j i
  unfolding chosen step_for
  step_by_lem i j l = ap (λ (s : List ℕ). get_or s (place_on r j i) 0) (tabulate_at (institute_count r) (λ j. steps_on r j (made_to r tried j)) [] j l)

module _ {types : ℕ} {r : Round} (sound : Sound types r) {tried : List ℕ} (run : Running r tried) where
  -- a step is held under its category
  pub step_held : (i j : ℕ) → i < candidate_count r → j < institute_count r → step_in r tried j i ≢ 0
      → held r tried i (number_of j (category_at r j (step_in r tried j i))) ≡ true
  step_held i j hi hj d = sym (taken_held sound run i j _ hi hj) ∙ step_taken r j (made_to r tried j) i d

  pub held_step : (i j : ℕ) (c : Category) → i < candidate_count r → j < institute_count r → held r tried i (number_of j c) ≡ true
      → (step_in r tried j i ≢ 0) × (category_at r j (step_in r tried j i) ≡ c)
  held_step i j c hi hj t = taken_step r j (made_to r tried j) i c (taken_held sound run i j c hi hj ∙ t)

  pub seat_held_lem : (i j : ℕ) (c : Category) → i < candidate_count r → j < institute_count r → held r tried i (number_of j c) ≡ true
      → get_or (seats_after r tried) i no_seat ≡ record { institute = suc j; step = step_in r tried j i }
  seat_held_lem i j c hi hj t =
      seat_by_lem r tried i j hi (first_only (institute_count r) (λ q. not (eqb (step_by r tried i q) 0)) j hj here only)
      ∙ ap (λ b. cond b (record { institute = suc j; step = step_by r tried i j }) no_seat) (lt-ltb j (institute_count r) hj)
      ∙ ap (λ k. record { institute = suc j; step = k }) (step_by_lem r tried i j hj)
    where
      here : not (eqb (step_by r tried i j) 0) ≡ true
      here = rw (step_by_lem r tried i j hj, ne_eqb (step_in r tried j i) 0 (held_step i j c hi hj t).0)

      only : (q : ℕ) → q < institute_count r → not (eqb (step_by r tried i q) 0) ≡ true → q ≡ j
      only q hq u =
          let d : step_in r tried q i ≢ 0 = λ z. eqb-false (step_by r tried i q) 0 (not-true (eqb (step_by r tried i q) 0) u) (step_by_lem r tried i q hq ∙ z) in
          let e : ℕ = number_of q (category_at r q (step_in r tried q i)) in
          (number_same q j (category_at r q (step_in r tried q i)) c (one_entry_held sound run i hi e (number_of j c) (step_held i q hi hq d) t)).0

  pub seat_unheld : (i : ℕ) → i < candidate_count r → ((e : ℕ) → held r tried i e ≡ false) → get_or (seats_after r tried) i no_seat ≡ no_seat
  seat_unheld i hi none =
      seat_by_lem r tried i (institute_count r) hi (first_none (institute_count r) (λ q. not (eqb (step_by r tried i q) 0)) (λ q hq. rw (step_by_lem r tried i q hq) (out q hq (eqb (step_in r tried q i) 0) refl)))
      ∙ ap (λ b. cond b (record { institute = suc (institute_count r); step = step_by r tried i (institute_count r) }) no_seat) (le-ltb (institute_count r) (institute_count r) (omega arith))
    where
      out : (q : ℕ) → q < institute_count r → (b : Bool) → eqb (step_in r tried q i) 0 ≡ b → not (eqb (step_in r tried q i) 0) ≡ false
      out q hq true e = rw e
      out q hq false e = clash (step_held i q hi hq (eqb-false (step_in r tried q i) 0 e)) (none _)

-- candidate i is held, and the seat says where
pub record Seated (r : Round) (tried : List ℕ) (i : ℕ) : Type 0 where
  pub institute : ℕ
  pub category : Category
  pub inside : institute < institute_count r
  pub holds : held r tried i (number_of institute category) ≡ true
  pub number : step_in r tried institute i ≢ 0
  pub under : category_at r institute (step_in r tried institute i) ≡ category
  pub seat : get_or (seats_after r tried) i no_seat ≡ record { institute = suc institute; step = step_in r tried institute i }

-- candidate i is held nowhere
pub record Unseated (r : Round) (tried : List ℕ) (i : ℕ) : Type 0 where
  pub none : Unheld (choice_of r) (made r tried) i
  pub seat : get_or (seats_after r tried) i no_seat ≡ no_seat

pub seat_of : {types : ℕ} {r : Round} → Sound types r → {tried : List ℕ} → Running r tried → (i : ℕ) → i < candidate_count r
    → Seated r tried i ⊎ Unseated r tried i
seat_of {r = r} sound {tried} run i hi = go (held_or_not (round_market r sound) (made r tried) i)
  where
    go : Held (choice_of r) (made r tried) i ⊎ Unheld (choice_of r) (made r tried) i → Seated r tried i ⊎ Unseated r tried i
    go (inl (e, q)) =
        let hj : e / 5 < institute_count r = omega (arith, choice_bounded r (made r tried) i e q) in
        let t : held r tried i (number_of (e / 5) (category_of (e % 5))) ≡ true = ap (λ x. held r tried i x) (number_back e) ∙ q in
        inl record {
          institute = e / 5;
          category = category_of (e % 5);
          inside = hj;
          holds = t;
          number = (held_step sound run i (e / 5) (category_of (e % 5)) hi hj t).0;
          under = (held_step sound run i (e / 5) (category_of (e % 5)) hi hj t).1;
          seat = seat_held_lem sound run i (e / 5) (category_of (e % 5)) hi hj t;
        }
    go (inr none) = inr record { none = none; seat = seat_unheld sound run i hi none }
