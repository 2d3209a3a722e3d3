-- A seat in its holder's row stands for an entry of it, and where no seat is outside its row the listed seats are those given.
use Prim.Native.Nat.{ℕ, suc, ◌-◌, ◌≤◌, ◌<◌}
use mathlib.Core.Path.{◌≡◌, ap, fun_ext}
use mathlib.Core.Bool.{Bool, true, false, cond, ◌&&◌}
use mathlib.Core.List.{List, [], ◌∷◌}
use native.Mathlib.Omega.{arith}
use native.Mathlib.Decide.{dec_lt}
use lib.Dec.{eqb, leb}
use lib.ListN.{length, get_or-eq_default}
use borrow.Author.Tests.{leb-true, ltb-true, lt-ltb, le-ltb, eqb-true, ne_eqb}
use Rattle.round.specs.declared.entry.Category.{Category}
use Rattle.round.specs.declared.entry.Entry.{Entry}
use Rattle.round.specs.Round.{Round, Candidate}
use Rattle.round.specs.Places.{step_numbers, no_candidate}
use Rattle.lists.specs.Numbers.{within}
use Rattle.lists.proofs.Words.{and_fst, and_snd}
use Rattle.lists.proofs.Counting.{test}
use Rattle.choice.proofs.Offers.{same_category_lem}
use Rattle.offers.specs.Rows.{row_at, same_entry, rank_in, entry_of, category_at}
use Rattle.offers.specs.Process.{Seat, no_seat, is_none, candidate_count, institute_count}
use Rattle.offers.specs.Standing.{is_step, seat_rank, standing}
use Rattle.offers.specs.Stable.{seat_on, seat_offers}
use Rattle.lists.proofs.SomeBelow.{same_test}
use Rattle.offers.specs.Listed.{in_row, above, listed_at}

-- candidate i's seat is in the row: its institute, from 0, and where it stands
pub record InRow (r : Round) (list : List Seat) (i : ℕ) : Type 0 where
  pub institute : ℕ
  pub inside : institute < institute_count r
  pub at : (seat_on list i).institute ≡ suc institute
  pub step : is_step r (seat_on list i) ≡ true
  pub rank : above r list i ≡ rank_in (row_at r i) (entry_of institute (category_at r institute (seat_on list i).step))
  pub short : above r list i < length (row_at r i)
  pub stands : standing r i (seat_on list i) ≡ above r list i

-- a seat that names no institute of the round or no step of it stands for no entry
pub rank_none : (r : Round) (i : ℕ) (s : Seat) → is_step r s ≡ false → seat_rank r i s ≡ length (row_at r i)
unfolding seat_rank
rank_none r i s e = rw e

-- one that names both
pub step_numbers_lem : (r : Round) (s : Seat) → is_step r s ≡ true
    → (1 ≤ s.institute) × (s.institute ≤ institute_count r) × (1 ≤ s.step) × (s.step ≤ step_numbers r (s.institute - 1))
unfolding is_step
step_numbers_lem r s t =
    let last : ℕ = step_numbers r (s.institute - 1) in
    let at : within 1 (institute_count r) s.institute ≡ true = and_fst _ (within 1 last s.step) t in
    let step : within 1 last s.step ≡ true = and_snd (within 1 (institute_count r) s.institute) _ t in (
      leb-true 1 s.institute (and_fst _ _ at),
      leb-true s.institute (institute_count r) (and_snd (leb 1 s.institute) _ at),
      leb-true 1 s.step (and_fst _ _ step),
      leb-true s.step last (and_snd (leb 1 s.step) _ step),
    )

module _ (r : Round) (list : List Seat) (i : ℕ) where
  abbrev seat : Seat
  seat = seat_on list i

  step_above : is_step r seat ≡ true → above r list i ≡ rank_in (row_at r i) (entry_of (seat.institute - 1) (category_at r (seat.institute - 1) seat.step))
  unfolding above seat_rank
  step_above s = rw s

  no_step_above : is_step r seat ≡ false → above r list i ≡ length (row_at r i)
  unfolding above
  no_step_above s = rank_none r i seat s

  pub not_none : {j : ℕ} → seat.institute ≡ suc j → is_none seat ≡ false
  not_none e = rw (ne_eqb seat.institute 0 (λ z. omega (arith, e)))

  seat_stands : is_none seat ≡ false → above r list i < length (row_at r i) → standing r i seat ≡ above r list i
  unfolding standing above
  seat_stands none l = rw (none, lt-ltb _ _ l)

  -- no seat stands below every entry
  pub none_above : is_none seat ≡ true → above r list i ≡ length (row_at r i)
  none_above none =
      test (is_step r seat)
      (λ s. absurd (omega (arith, (step_numbers_lem r seat s).0, eqb-true seat.institute 0 (and_fst (eqb seat.institute 0) _ none))))
      no_step_above

  pub none_stands : is_none seat ≡ true → standing r i seat ≡ length (row_at r i)
  unfolding standing
  none_stands none = rw none

  pub row_short : in_row r list i ≡ true → above r list i < length (row_at r i)
  unfolding in_row above
  row_short t = ltb-true _ _ t

  pub in_row_lem : in_row r list i ≡ true → InRow r list i
  in_row_lem t = test (is_step r seat) known (λ s. absurd (omega (arith, row_short t, no_step_above s)))
    where
      known : is_step r seat ≡ true → InRow r list i
      known s =
          let at : seat.institute ≡ suc (seat.institute - 1) = omega (arith, step_numbers_lem r seat s) in
          record {
            institute = seat.institute - 1;
            inside = omega (arith, step_numbers_lem r seat s);
            at = at;
            step = s;
            rank = step_above s;
            short = row_short t;
            stands = seat_stands (not_none at) (row_short t);
          }

  -- the numbers of a seat in the row: an institute of the round and a step of it
  pub row_numbers : in_row r list i ≡ true
      → (1 ≤ seat.institute) × (seat.institute ≤ institute_count r) × (1 ≤ seat.step) × (seat.step ≤ step_numbers r (seat.institute - 1))
  row_numbers t = step_numbers_lem r seat (in_row_lem t).step

  -- beyond the last candidate nothing is in a row
  pub row_beyond : candidate_count r ≤ i → in_row r list i ≡ false
  unfolding in_row
  row_beyond l =
      let none : length (row_at r i) ≡ 0 = ap (λ (c : Candidate). length c.row) (get_or-eq_default r.candidates no_candidate l) in
      le-ltb (seat_rank r i seat) (length (row_at r i)) (omega arith)

  -- a seat that stands no lower than no seat is in the row, or is none
  pub listed_in_row : is_none seat ≡ false → standing r i seat ≤ length (row_at r i) → in_row r list i ≡ true
  unfolding in_row standing
  listed_in_row none l =
      elim (dec_lt (seat_rank r i seat) (length (row_at r i))) [
        | yes m ↦ lt-ltb _ _ m
        | no m ↦ absurd (omega (arith, rw (none, le-ltb (seat_rank r i seat) (length (row_at r i)) (omega arith)) at l))
      ]

  -- a seat given by institute j is there, with the category of its step
  pub given_at : (j : ℕ) (c : Category) → seat_offers r list j i c ≡ true → (seat.institute ≡ suc j) × (is_step r seat ≡ true) × (category_at r j seat.step ≡ c)
  unfolding seat_offers
  given_at j c t =
      let rest = and_snd (eqb seat.institute (suc j)) _ t in (
        eqb-true seat.institute (suc j) (and_fst (eqb seat.institute (suc j)) _ t),
        and_fst (is_step r seat) _ rest,
        same_category_lem (category_at r j seat.step) c (and_snd (is_step r seat) _ rest),
      )

rank_within : (row : List Entry) (e : Entry) → rank_in row e ≤ length row
unfolding rank_in
rank_within [] e = omega arith
rank_within (x ∷ row) e = go (same_entry x e) (rank_within row e)
  where
    go : (b : Bool) → rank_in row e ≤ length row → cond b 0 (suc (rank_in row e)) ≤ suc (length row)
    go true l = omega arith
    go false l = omega arith

-- no more entries rank above a seat than the row has
pub above_within : (r : Round) (list : List Seat) (i : ℕ) → above r list i ≤ length (row_at r i)
unfolding above seat_rank
above_within r list i = go (is_step r (seat_on list i))
  where
    entry : Entry
    entry = entry_of ((seat_on list i).institute - 1) (category_at r ((seat_on list i).institute - 1) (seat_on list i).step)

    go : (b : Bool) → cond b (rank_in (row_at r i) entry) (length (row_at r i)) ≤ length (row_at r i)
    go true = rank_within (row_at r i) entry
    go false = omega arith

-- a seat is given to a candidate of the round
pub given_below : (r : Round) (list : List Seat) → length list ≡ candidate_count r → (i j : ℕ) (c : Category) → seat_offers r list j i c ≡ true → i < candidate_count r
given_below r list many i j c t =
    elim (dec_lt i (candidate_count r)) [
      | yes l ↦ l
      | no l ↦
          absurd
          (omega (
            arith,
            (given_at r list i j c t).0,
            ap (λ (s : Seat). s.institute) (get_or-eq_default list no_seat {n = i} (omega (arith, many))),
          ))
    ]

-- every seat is in its row
abbrev pub AllInRow : Round → List Seat → Type 0
AllInRow r list = (i : ℕ) → i < candidate_count r → is_none (seat_on list i) ≡ false → in_row r list i ≡ true

-- then the listed seats at an institute are those that it gave
pub listed_given : (r : Round) (list : List Seat) → length list ≡ candidate_count r → AllInRow r list → (j : ℕ) → listed_at r list j ≡ seat_offers r list j
unfolding listed_at
listed_given r list many rows j = fun_ext (λ i. fun_ext (λ c. same_test _ _ (λ t. and_snd (in_row r list i) _ t) (λ t. back i c t)))
  where
    back : (i : ℕ) (c : Category) → seat_offers r list j i c ≡ true → (in_row r list i && seat_offers r list j i c) ≡ true
    back i c t = rw (rows i (given_below r list many i j c t) (not_none r list i (given_at r list i j c t).0)) t
