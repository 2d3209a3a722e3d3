-- The process as it goes from sweep to sweep: turns have led to what is tried, and the tables hold the entries tried last and their steps.
use Prim.Native.Nat.{ℕ, zero, suc, ◌+◌, ◌*◌, ◌-◌, ◌^◌, ◌≤◌, ◌<◌}
use mathlib.Core.Path.{◌≡◌, refl, sym, ◌∙◌, ap, subst}
use mathlib.Core.Bool.{Bool, true, false, cond, not, ◌&&◌, and-false}
use mathlib.Core.Logic.{◌≢◌, inl, inr}
use mathlib.Core.List.{List}
use native.Mathlib.Omega.{arith}
use lib.Dec.{eqb, ltb}
use lib.ListN.{length, get_or, replicate, length-replicate}
use lib.Seq.{ext_get_or}
use borrow.Author.Tests.{ltb-true, lt-ltb, eqb-true, ne_eqb}
use Rattle.round.specs.declared.entry.Entry.{Entry}
use Rattle.lists.specs.Lists.{bit, count_of, list_sum, sum_of}
use Rattle.round.specs.Round.{Round}
use Rattle.round.specs.Sound.{Sound}
use Rattle.reader.specs.Opened.{opened_round, OpenedFile}
use Rattle.questions.specs.declared.head.Head.{Head as CodeHead}
use Rattle.reader.specs.declared.change.Change.{Change}
use Rattle.lists.proofs.Words.{and_fst, and_snd, length_tabulate, tabulate_at}
use Rattle.lists.proofs.Counting.{test, same_or, and_true, clash, count_ext, sum_of_le}
use Rattle.lists.proofs.Tabulate.{get_or_zeros}
use Rattle.offers.specs.Rows.{row_at, entry_of, same_category}
use Rattle.offers.specs.Offers.{OfferSet, place_on, step_for}
use Rattle.offers.specs.Process.{Seat, no_seat, is_none, candidate_count, institute_count, made_to, seats_after, may_offer, entry_total, tried, offers_made, seats}
use Rattle.offers.specs.Ended.{Ended}
use Rattle.offers.specs.Held.{HeldIn}
use Rattle.sweeps.specs.Sweeps.{may_try, next_entry, tried_next, asked_next, wanted_next, OffersMade, offer_to, offers_by, takes_part, ChosenAll, settled}
use Rattle.offers.proofs.Rounds.Numbered.{rows_of, row_length, same_refl}
use Rattle.offers.proofs.Rounds.Places.{merit_length}
use Rattle.offers.proofs.Rounds.Running.{Running}
use Rattle.offers.proofs.Rounds.Agreed.{step_absent}
use Rattle.offers.proofs.Rounds.Process.{start_running}
use Rattle.offers.proofs.Rounds.Counted.{entries, state_most}
use Rattle.offers.proofs.Rounds.Bounds.{list_length}
use Rattle.offers.proofs.Rounds.Last.{last_steps, seat_last, seat_untried, may_unstepped}
use Rattle.offers.proofs.Rounds.Sweeps.{Swept, none_swept, one_swept, one_passed, swept_sum, nobody_swept, made_still, last_new, last_old}
use Rattle.offers.proofs.Rounds.AnyOrder.{ended_tried}
use Rattle.offers.proofs.Known.{candidates_many, institutes_many, round_sound}
use Rattle.sweeps.proofs.Lasts.{LastIn, offers_last, offer_some}

-- what is tried, the tables, and how many offers were made
pub record Going (r : Round) (state asked wanted steps : List ℕ) (made : ℕ) : Type 0 where
  pub running : Running r state
  pub asked_many : length asked ≡ candidate_count r
  pub wanted_many : length wanted ≡ candidate_count r
  pub steps_many : length steps ≡ candidate_count r
  pub known : (i : ℕ) → i < candidate_count r → LastIn r state asked wanted i
  pub unasked : (i : ℕ) → i < candidate_count r → get_or asked i 0 ≡ 0 → get_or steps i 0 ≡ 0
  pub stepped : (i j : ℕ) → i < candidate_count r → j < institute_count r → get_or asked i 0 ≡ suc j → get_or steps i 0 ≡ step_for r j (made_to r state j) i
  pub counted : made ≡ list_sum state

-- the seat that the tables have
abbrev seat_by : List ℕ → List ℕ → ℕ → Seat
seat_by asked steps i = record { institute = cond (eqb (get_or steps i 0) 0) 0 (get_or asked i 0); step = get_or steps i 0 }

seat_none : (asked steps : List ℕ) (i : ℕ) → get_or steps i 0 ≡ 0 → no_seat ≡ seat_by asked steps i
seat_none asked steps i z = rw z

none_by : (asked steps : List ℕ) (i : ℕ) → is_none (seat_by asked steps i) ≡ eqb (get_or steps i 0) 0
none_by asked steps i = go (eqb (get_or steps i 0) 0)
  where
    go : (b : Bool) → (eqb (cond b 0 (get_or asked i 0)) 0 && b) ≡ b
    go true = refl
    go false = and-false (eqb (get_or asked i 0) 0)

seat_some : (k j : ℕ) → cond (eqb k 0) no_seat (record { institute = suc j; step = k }) ≡ record { institute = cond (eqb k 0) 0 (suc j); step = k }
seat_some k j = same_or k 0 (λ e. rw e) (λ d. rw (ne_eqb k 0 d))

one_more : (b : Bool) (x : ℕ) → x + bit b ≡ cond b (suc x) x
one_more true x = omega arith
one_more false x = omega arith

sum_zeros : (n : ℕ) → list_sum (replicate n 0) ≡ 0
sum_zeros zero = refl
sum_zeros (suc n) = omega (arith, sum_zeros n)

sum_sixteens : (k : ℕ) → sum_of k (λ i. 16) ≡ 16 * k
sum_sixteens zero = refl
sum_sixteens (suc k) = omega (arith, sum_sixteens k)

-- when everybody who may has offered, the tables have one number for each candidate
module _ {r : Round} {steps state asked wanted state' asked' wanted' fresh : List ℕ} {more : ℕ} (o : OffersMade r steps state asked wanted state' asked' wanted' fresh more) where
  pub tried_many : length state' ≡ candidate_count r
  tried_many = ap length o.tried_now ∙ length_tabulate 0 (candidate_count r) (tried_next r steps state)

  pub asks_many : length asked' ≡ candidate_count r
  asks_many = ap length o.asked_now ∙ length_tabulate 0 (candidate_count r) (asked_next r steps state asked)

  pub wants_many : length wanted' ≡ candidate_count r
  wants_many = ap length o.wanted_now ∙ length_tabulate 0 (candidate_count r) (wanted_next r steps state wanted)

-- before the first sweep
none_going : (r : Round) (n : ℕ) {wanted : List ℕ} → candidate_count r ≡ n → length wanted ≡ n
    → Going r (replicate n 0) (replicate n 0) wanted (replicate n 0) 0
none_going r n e many =
    rw (← e) (record {
      running = start_running r;
      asked_many = length-replicate (candidate_count r) 0;
      wanted_many = many ∙ sym e;
      steps_many = length-replicate (candidate_count r) 0;
      known = λ i hi. inl record { nothing = get_or_zeros (candidate_count r) i; nobody = get_or_zeros (candidate_count r) i };
      unasked = λ i hi z. get_or_zeros (candidate_count r) i;
      stepped = λ i j hi hj e. absurd (omega (arith, get_or_zeros (candidate_count r) i));
      counted = sym (sum_zeros (candidate_count r));
    })

module _ {file : List ℕ} {h : CodeHead} {change : Change} {row starts : List ℕ} (hand : OpenedFile file h change row starts) where
  abbrev r : Round
  r = opened_round file change row

  abbrev sound : Sound h.types (opened_round file change row)
  sound = round_sound hand

  pub going_start : {state asked wanted steps : List ℕ} → state ≡ replicate h.candidates 0 → asked ≡ replicate h.candidates 0
      → steps ≡ replicate h.candidates 0 → length wanted ≡ h.candidates → Going (opened_round file change row) state asked wanted steps 0
  going_start et ea es many = rw (et, ea, es) (none_going (opened_round file change row) h.candidates (candidates_many hand) many)

  -- the entries are few
  entries_few : entry_total (opened_round file change row) ≤ 8192
  entries_few =
      omega (
        arith,
        entries r,
        sum_sixteens (candidate_count r),
        sound.candidates_most,
        sum_of_le (candidate_count r) (λ p. (rows_of r p).len) (λ p. 16) (λ p m. omega (arith, row_length r p, (sound.candidate p m).row_sound.row_short)),
      )

  module _ {state asked wanted steps : List ℕ} {made : ℕ} (g : Going (opened_round file change row) state asked wanted steps made) where
    seat_is : (i : ℕ) → i < candidate_count r → get_or (seats_after r state) i no_seat ≡ seat_by asked steps i
    seat_is i hi = go (g.known i hi)
      where
        go : LastIn r state asked wanted i → get_or (seats_after r state) i no_seat ≡ seat_by asked steps i
        go (inl u) = seat_untried sound g.running i hi u.nothing ∙ seat_none asked steps i (g.unasked i hi u.nobody)
        go (inr k) =
            let s : get_or steps i 0 ≡ step_for r k.institute (made_to r state k.institute) i = g.stepped i k.institute hi k.inside k.asked_at in
            seat_last sound g.running i k.institute k.category hi k.inside (k.last k.institute k.category ∙ same_refl (entry_of k.institute k.category))
            ∙ rw (s, k.asked_at) (seat_some _ k.institute)

    may_same : (i : ℕ) → i < candidate_count r → may_try r state steps i ≡ may_offer r state (seats_after r state) i
    unfolding may_try may_offer
    may_same i hi = ap (λ b. b && ltb (get_or state i 0) (length (row_at r i))) (sym (ap is_none (seat_is i hi) ∙ none_by asked steps i))

    -- everybody who may has offered
    module _ {state' asked' wanted' fresh : List ℕ} {more : ℕ} (o : OffersMade (opened_round file change row) steps state asked wanted state' asked' wanted' fresh more) where
      sweep : (k : ℕ) → k ≤ candidate_count r → (now : List ℕ) × Swept r state k now
      sweep zero l = (state, none_swept g.running)
      sweep (suc k) l =
          let (now, s) = sweep k (omega arith) in
          test (may_offer r state (seats_after r state) k)
          (λ t. (_, one_swept sound g.running s l t))
          (λ f. (now, one_passed sound g.running s f))

      swept : Swept r state (candidate_count r) state'
      swept =
          let (now, s) = sweep (candidate_count r) (omega arith) in
          let same : now ≡ state' =
          ext_get_or 0 now state' (s.run.each ∙ sym (tried_many o))
          (λ i l.
          let hi : i < candidate_count r = omega (arith, s.run.each) in
          s.below i hi
          ∙ ap (λ b. get_or state i 0 + bit b) (sym (may_same i hi))
          ∙ one_more (may_try r state steps i) (get_or state i 0)
          ∙ sym (ap (λ (t : List ℕ). get_or t i 0) o.tried_now ∙ tabulate_at (candidate_count r) (tried_next r steps state) 0 i hi))
          in
          subst (Swept r state (candidate_count r)) same s

      more_is : more ≡ count_of (candidate_count r) (may_offer r state (seats_after r state))
      more_is = o.number ∙ count_ext (candidate_count r) _ _ may_same

      -- no more offers than entries
      going_few : made + more ≤ entry_total (opened_round file change row)
      going_few = omega (arith, g.counted, more_is, swept_sum sound g.running swept, state_most swept.run)

      pub going_small : made + more < 2 ^ 64
      going_small = omega (arith, going_few, entries_few)

      pub going_less : more ≢ 0 → entry_total (opened_round file change row) - (made + more) < entry_total (opened_round file change row) - made
      going_less d = omega (arith, going_few)

      module _ (i : ℕ) (hi : i < candidate_count r) where
        asked_is : get_or asked' i 0 ≡ asked_next r steps state asked i
        asked_is = ap (λ (t : List ℕ). get_or t i 0) o.asked_now ∙ tabulate_at (candidate_count r) (asked_next r steps state asked) 0 i hi

        wanted_is : get_or wanted' i 0 ≡ wanted_next r steps state wanted i
        wanted_is = ap (λ (t : List ℕ). get_or t i 0) o.wanted_now ∙ tabulate_at (candidate_count r) (wanted_next r steps state wanted) 0 i hi

        asked_old : may_try r state steps i ≡ false → get_or asked' i 0 ≡ get_or asked i 0
        asked_old f = asked_is ∙ rw f

        -- whoever may offers an entry of an institute of the round
        new_asked : may_try r state steps i ≡ true
            → (get_or asked' i 0 ≡ (next_entry r state i).institute) × (1 ≤ (next_entry r state i).institute) × ((next_entry r state i).institute ≤ institute_count r)
        unfolding may_try
        new_asked t =
            let short : get_or state i 0 < length (row_at r i) = ltb-true _ _ (and_snd (eqb (get_or steps i 0) 0) _ t) in
            (asked_is ∙ rw t, (sound.candidate i hi).row_sound.entry_from (get_or state i 0) short, (sound.candidate i hi).row_sound.entry_to (get_or state i 0) short)

        known_next : LastIn r state' asked' wanted' i
        known_next = test (may_try r state steps i) new old
          where
            new : may_try r state steps i ≡ true → LastIn r state' asked' wanted' i
            new t =
                let entry : Entry = next_entry r state i in
                let (asks, least, most) = new_asked t in
                let number : entry.institute ≡ suc (entry.institute - 1) = omega arith in
                inr record {
                  institute = entry.institute - 1;
                  category = entry.category;
                  inside = omega arith;
                  asked_at = asks ∙ number;
                  wanted_at = wanted_is ∙ rw t;
                  last = λ j c.
                      last_new sound g.running swept i hi (sym (may_same i hi) ∙ t) j c
                      ∙ ap (λ x. eqb x (suc j) && same_category entry.category c) number;
                }

            kept : may_try r state steps i ≡ false → LastIn r state asked wanted i → LastIn r state' asked' wanted' i
            kept f (inl u) =
                inl record {
                  nothing = swept.below i hi ∙ rw (sym (may_same i hi) ∙ f) (omega (arith, u.nothing));
                  nobody = asked_old f ∙ u.nobody;
                }
            kept f (inr k) =
                inr record {
                  institute = k.institute;
                  category = k.category;
                  inside = k.inside;
                  asked_at = asked_old f ∙ k.asked_at;
                  wanted_at = wanted_is ∙ rw f k.wanted_at;
                  last = λ j c. last_old sound g.running swept i (sym (may_same i hi) ∙ f) hi j c ∙ k.last j c;
                }

            old : may_try r state steps i ≡ false → LastIn r state' asked' wanted' i
            old f = kept f (g.known i hi)

        -- the step from before the sweep, where the last offer is now to institute j
        step_before : (j : ℕ) → j < institute_count r → get_or asked' i 0 ≡ suc j → get_or steps i 0 ≡ step_for r j (made_to r state j) i
        unfolding may_try
        step_before j hj e =
            test (may_try r state steps i)
            (λ t. eqb-true _ 0 (and_fst (eqb (get_or steps i 0) 0) _ t) ∙ sym (may_unstepped sound g.running i j hi hj (sym (may_same i hi) ∙ t)))
            (λ f. g.stepped i j hi hj (sym (asked_old f) ∙ e))

        -- an institute that got no offer gives the steps it gave
        step_still : (j : ℕ) → j < institute_count r → get_or asked' i 0 ≡ suc j → get_or fresh j 0 ≡ 0 → get_or steps i 0 ≡ step_for r j (made_to r state' j) i
        step_still j hj e z =
            step_before j hj e
            ∙ sym (ap (λ (Y : OfferSet). step_for r j Y i)
            (made_still sound g.running swept j
            (λ p hp t w.
            let at : (next_entry r state p).institute - 1 ≡ j = omega arith in
            o.fresh_new p hp (may_same p hp ∙ t) (ap (λ x. get_or fresh x 0) at ∙ z))))

      -- the steps that an institute gives from the last offers to it
      step_chosen : (i j : ℕ) → j < institute_count r → step_for r j (offers_by (offer_to (suc j) asked' wanted')) i ≡ step_for r j (made_to r state' j) i
      unfolding step_for
      step_chosen i j hj =
          ap (λ (l : List ℕ). get_or l (place_on r j i) 0)
          (last_steps sound swept.run j hj (offers_by (offer_to (suc j) asked' wanted')) (λ p hp c. offers_last (known_next p hp) j c))

      step_after : {steps' : List ℕ} → ChosenAll r asked' wanted' fresh (institute_count r) steps steps'
          → (i j : ℕ) → i < candidate_count r → j < institute_count r → get_or asked' i 0 ≡ suc j → get_or steps' i 0 ≡ step_for r j (made_to r state' j) i
      unfolding takes_part
      step_after c i j hi hj e = same_or (get_or fresh j 0) 0
          (λ z. c.kept i hi (λ q l e'. let at : q ≡ j = omega arith in rw at z) ∙ step_still i hi j hj e z)
          (λ d.
          c.chose i j hi hj e d
          ∙ test (takes_part r j (offer_to (suc j) asked' wanted') i)
          (λ t. rw t (step_chosen i j hj))
          (λ f.
          let off : ¬ (place_on r j i < merit_length r j) =
          λ l. clash (and_true _ _ (lt-ltb _ _ l) (ap not (ne_eqb (offer_to (suc j) asked' wanted' i) 0 (offer_some (known_next i hi) j e)))) f
          in
          rw f (step_before i hi j hj e ∙ step_absent r j (made_to r state j) i off ∙ sym (step_absent r j (made_to r state' j) i off))))

      -- and each institute that got an offer has chosen
      pub going_next : {steps' : List ℕ} → ChosenAll (opened_round file change row) asked' wanted' fresh h.institutes steps steps'
          → Going (opened_round file change row) state' asked' wanted' steps' (made + more)
      going_next {steps'} c' = let c : ChosenAll r asked' wanted' fresh (institute_count r) steps steps' = rw (institutes_many hand) c' in record {
        running = swept.run;
        asked_many = asks_many o;
        wanted_many = wants_many o;
        steps_many = c.many ∙ g.steps_many;
        known = known_next;
        unasked = λ i hi z.
            c.kept i hi (λ j l e. absurd (omega arith))
            ∙ test (may_try r state steps i)
            (λ t. absurd (omega (arith, (new_asked i hi t).0, (new_asked i hi t).1)))
            (λ f. g.unasked i hi (sym (asked_old i hi f) ∙ z));
        stepped = step_after c;
        counted = omega (arith, g.counted, more_is, swept_sum sound g.running swept);
      }

      -- nobody offered: the end
      module _ (z : more ≡ 0) where
        ended : Ended r state
        ended = nobody_swept sound g.running swept (sym more_is ∙ z)

        last : state ≡ tried r
        last = ended_tried sound g.running ended

        pub going_count : made ≡ offers_made (opened_round file change row)
        unfolding offers_made
        going_count = g.counted ∙ ap list_sum last

        pub going_held : HeldIn (seats (opened_round file change row)) (settled asked' steps) steps
        unfolding seats
        going_held = record {
          holders_many = length_tabulate 0 (length steps) _ ∙ g.steps_many ∙ sym (list_length r);
          steps_many = g.steps_many ∙ sym (list_length r);
          seat = λ i l.
              let hi : i < candidate_count r = omega (arith, list_length r) in
              ap (λ (s : List ℕ). get_or (seats_after r s) i no_seat) (sym last)
              ∙ seat_is i hi
              ∙ ap (λ a. record { institute = cond (eqb (get_or steps i 0) 0) 0 a; step = get_or steps i 0 }) (sym (asked_old i hi (may_same i hi ∙ ended i hi)))
              ∙ ap (λ a. record { institute = a; step = get_or steps i 0 })
              (sym (tabulate_at (length steps) (λ i. cond (eqb (get_or steps i 0) 0) 0 (get_or asked' i 0)) 0 i (omega (arith, g.steps_many))));
        }
