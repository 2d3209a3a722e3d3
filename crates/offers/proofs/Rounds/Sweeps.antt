-- A sweep: everybody who may offer offers the best untried entry, each once. It is so many turns of the process, in one order.
use mathlib.Core.Path.{◌≡◌, refl, sym, ◌∙◌, ap, fun_ext}
use mathlib.Core.Bool.{true, false}
use mathlib.Core.Logic.{◌≢◌}
use mathlib.Core.List.{List}
use Prim.Native.Nat.{ℕ, suc, ◌+◌, ◌≤◌, ◌<◌}
use native.Mathlib.Omega.{arith}
use lib.Dec.{eqb, ltb}
use lib.ListN.{length, get_or, set}
use lib.Seq.{get_or-set_same, get_or-set_other}
use borrow.Author.Tests.{ltb-true, lt-ltb, eqb-true, eq-eqb}
use Rattle.round.specs.declared.entry.Category.{Category}
use Rattle.round.specs.declared.entry.Entry.{Entry}
use Rattle.lists.specs.Lists.{bit, count_of, list_sum}
use Rattle.round.specs.Round.{Round}
use Rattle.round.specs.Places.{candidate_at, entry_at}
use Rattle.round.specs.Sound.{Sound}
use Rattle.lists.proofs.Words.{below_suc}
use Rattle.lists.proofs.Counting.{test, less_or, false_unless, bit_true, bit_false, sum_of_ext, sum_of_add}
use Rattle.offers.specs.Rows.{row_at, rank_in, entry_of, same_entry}
use Rattle.offers.specs.Process.{candidate_count, made_to, seats_after, may_offer}
use Rattle.offers.specs.Ended.{Ended}
use Rattle.offers.specs.Process.{last_to}
use Rattle.lists.proofs.SomeBelow.{same_test}
use Rattle.lists.proofs.Sums.{count_bits, count_some}
use Rattle.market.proofs.Sweep.{still_unheld}
use Rattle.offers.proofs.Rounds.Numbered.{same_is, same_refl, rank_found, rank_place, rows_of, row_length}
use Rattle.offers.proofs.Rounds.Institutes.{round_market}
use Rattle.offers.proofs.Rounds.Running.{state_of, Running}
use Rattle.offers.proofs.Rounds.Process.{MayTurn, turn_running, may_offer_lem}
use Rattle.offers.proofs.Rounds.Counted.{state_sum}

-- the first k candidates have each offered the best untried entry, if they might
pub record Swept (r : Round) (before : List ℕ) (k : ℕ) (now : List ℕ) : Type 0 where
  pub run : Running r now
  pub below : (i : ℕ) → i < k → get_or now i 0 ≡ get_or before i 0 + bit (may_offer r before (seats_after r before) i)
  pub above : (i : ℕ) → k ≤ i → get_or now i 0 ≡ get_or before i 0

pub none_swept : {r : Round} {state : List ℕ} → Running r state → Swept r state 0 state
none_swept run = record { run = run; below = λ i l. absurd (omega arith); above = λ i l. refl }

-- a sweep takes no offer back
swept_le : {r : Round} {before : List ℕ} {k : ℕ} {now : List ℕ} → Swept r before k now → (i : ℕ) → get_or before i 0 ≤ get_or now i 0
swept_le {k = k} swept i = less_or i k (λ l. omega (arith, swept.below i l)) (λ l. omega (arith, swept.above i l))

-- which entry a candidate tried last is known from how many the candidate tried
pub last_same : (r : Round) (state others : List ℕ) (i : ℕ) → get_or state i 0 ≡ get_or others i 0 → (j : ℕ) (c : Category)
    → last_to r state j i c ≡ last_to r others j i c
unfolding last_to
last_same r state others i e j c = ap (λ k. eqb (suc (rank_in (row_at r i) (entry_of j c))) k) e

module _ {types : ℕ} {r : Round} (sound : Sound types r) where
  -- where p + 1 entries have been tried, the one tried last is that at place p of the row
  last_at : (state : List ℕ) (i p : ℕ) → i < candidate_count r → p < length (row_at r i) → get_or state i 0 ≡ suc p → (j : ℕ) (c : Category)
      → last_to r state j i c ≡ same_entry (entry_at (candidate_at r i) p) (entry_of j c)
  unfolding last_to
  last_at state i p hi l e j c =
      let rank : ℕ = rank_in (row_at r i) (entry_of j c) in
      same_test (eqb (suc rank) (get_or state i 0)) (same_entry (entry_at (candidate_at r i) p) (entry_of j c))
      (λ t.
      let here : rank ≡ p = omega (arith, eqb-true (suc rank) (get_or state i 0) t) in
      let found : entry_at (candidate_at r i) p ≡ entry_of j c = sym (ap (λ k. entry_at (candidate_at r i) k) here) ∙ rank_found (row_at r i) (entry_of j c) (omega arith) in
      rw found (same_refl (entry_of j c)))
      (λ t.
      let same : entry_at (candidate_at r i) p ≡ entry_of j c = same_is (entry_at (candidate_at r i) p) (entry_of j c) t in
      let here : rank ≡ p = sym (ap (λ (x : Entry). rank_in (row_at r i) x) same) ∙ rank_place r i (sound.candidate i hi) p l in
      eq-eqb (suc rank) (get_or state i 0) (omega arith))

  module _ {before : List ℕ} (run : Running r before) where
    -- the next candidate may offer and does
    pub one_swept : {k : ℕ} {now : List ℕ} → Swept r before k now → k < candidate_count r → may_offer r before (seats_after r before) k ≡ true
        → Swept r before (suc k) (set now k (suc (get_or now k 0)))
    one_swept {k} {now} swept hk may = record {
      run = turn_running swept.run turn;
      below =
          below_suc (λ i. get_or next i 0 ≡ get_or before i 0 + bit (may_offer r before (seats_after r before) i)) k
          (λ i l. get_or-set_other now k i (suc (get_or now k 0)) 0 (λ e. omega arith) ∙ swept.below i l)
          (omega (arith, here, swept.above k (omega arith), bit_true (may_offer r before (seats_after r before) k) may));
      above = λ i l. get_or-set_other now k i (suc (get_or now k 0)) 0 (λ e. omega arith) ∙ swept.above i (omega arith);
    }
      where
        next : List ℕ
        next = set now k (suc (get_or now k 0))

        was : MayTurn r before k
        was = may_offer_lem sound run k hk may

        turn : MayTurn r now k
        turn = record {
          inside = hk;
          none = still_unheld (round_market r sound) (rows_of r) (swept_le swept) k (swept.above k (omega arith)) was.none;
          more = omega (arith, swept.above k (omega arith), was.more);
        }

        here : get_or next k 0 ≡ suc (get_or now k 0)
        here = get_or-set_same now k (suc (get_or now k 0)) 0 (omega (arith, swept.run.each))

    -- the next candidate may not offer
    pub one_passed : {k : ℕ} {now : List ℕ} → Swept r before k now → may_offer r before (seats_after r before) k ≡ false → Swept r before (suc k) now
    one_passed {k} {now} swept f = record {
      run = swept.run;
      below =
          below_suc (λ i. get_or now i 0 ≡ get_or before i 0 + bit (may_offer r before (seats_after r before) i)) k swept.below
          (omega (arith, swept.above k (omega arith), bit_false (may_offer r before (seats_after r before) k) f));
      above = λ i l. swept.above i (omega arith);
    }

    module _ {now : List ℕ} (swept : Swept r before (candidate_count r) now) where
      swept_one : (i : ℕ) → i < candidate_count r → may_offer r before (seats_after r before) i ≡ true → get_or now i 0 ≡ suc (get_or before i 0)
      swept_one i hi t = omega (arith, swept.below i hi, bit_true _ t)

      swept_none : (i : ℕ) → i < candidate_count r → may_offer r before (seats_after r before) i ≡ false → get_or now i 0 ≡ get_or before i 0
      swept_none i hi t = omega (arith, swept.below i hi, bit_false _ t)

      untried : (i : ℕ) → i < candidate_count r → may_offer r before (seats_after r before) i ≡ true → get_or before i 0 < length (row_at r i)
      untried i hi t = omega (arith, (may_offer_lem sound run i hi t).more, row_length r i)

      pub swept_sum : list_sum now ≡ list_sum before + count_of (candidate_count r) (may_offer r before (seats_after r before))
      swept_sum =
          let offered : ℕ → ℕ = λ i. bit (may_offer r before (seats_after r before) i) in
          omega (
            arith,
            state_sum swept.run,
            state_sum run,
            sum_of_ext (candidate_count r) (state_of now) (λ i. get_or before i 0 + offered i) swept.below,
            sum_of_add (candidate_count r) (state_of before) offered,
            count_bits (candidate_count r) (may_offer r before (seats_after r before)),
          )

      -- nobody offered: the process has ended
      pub nobody_swept : count_of (candidate_count r) (may_offer r before (seats_after r before)) ≡ 0 → Ended r before
      nobody_swept none i hi = false_unless _ (λ t. omega (arith, count_some (candidate_count r) (may_offer r before (seats_after r before)) i hi t))

      -- an institute to which nobody offered has the offers it had
      pub made_still : (j : ℕ)
          → ((i : ℕ) → i < candidate_count r → may_offer r before (seats_after r before) i ≡ true → (entry_at (candidate_at r i) (get_or before i 0)).institute ≢ suc j)
          → made_to r now j ≡ made_to r before j
      unfolding made_to
      made_still j elsewhere = fun_ext (λ i. fun_ext (λ c. less_or i (candidate_count r) (λ l. inside i c l) (λ l. unmoved i c (swept.above i l))))
        where
          unmoved : (i : ℕ) (c : Category) → get_or now i 0 ≡ get_or before i 0 → made_to r now j i c ≡ made_to r before j i c
          unmoved i c e = ap (λ k. ltb (rank_in (row_at r i) (entry_of j c)) k) e

          moved : (i : ℕ) (c : Category) → i < candidate_count r → may_offer r before (seats_after r before) i ≡ true → made_to r now j i c ≡ made_to r before j i c
          moved i c hi t =
              let rank : ℕ = rank_in (row_at r i) (entry_of j c) in
              let old : rank ≢ get_or before i 0 = λ e.
              elsewhere i hi t
              (ap (λ (x : Entry). x.institute) (sym (ap (λ k. entry_at (candidate_at r i) k) e) ∙ rank_found (row_at r i) (entry_of j c) (omega (arith, untried i hi t)))) in
              same_test (ltb rank (get_or now i 0)) (ltb rank (get_or before i 0))
              (λ u. lt-ltb rank (get_or before i 0) (omega (arith, swept_one i hi t, ltb-true rank (get_or now i 0) u)))
              (λ u. lt-ltb rank (get_or now i 0) (omega (arith, swept_one i hi t, ltb-true rank (get_or before i 0) u)))

          inside : (i : ℕ) (c : Category) → i < candidate_count r → made_to r now j i c ≡ made_to r before j i c
          inside i c hi = test (may_offer r before (seats_after r before) i) (moved i c hi) (λ f. unmoved i c (swept_none i hi f))

      -- who may offers the next entry, and so tried it last
      pub last_new : (i : ℕ) → i < candidate_count r → may_offer r before (seats_after r before) i ≡ true → (j : ℕ) (c : Category)
          → last_to r now j i c ≡ same_entry (entry_at (candidate_at r i) (get_or before i 0)) (entry_of j c)
      last_new i hi t = last_at now i (get_or before i 0) hi (untried i hi t) (swept_one i hi t)

      -- the entry that anybody else tried last is what it was
      pub last_old : (i : ℕ) → may_offer r before (seats_after r before) i ≡ false → i < candidate_count r → (j : ℕ) (c : Category)
          → last_to r now j i c ≡ last_to r before j i c
      last_old i f hi = last_same r now before i (swept_none i hi f)
