-- Where a seat stands in its holder's row: with the entry that is held.
use mathlib.Core.Path.{◌≡◌, refl, ◌∙◌, ap}
use mathlib.Core.Bool.{true, cond}
use mathlib.Core.Logic.{◌≢◌}
use mathlib.Core.List.{List}
use Prim.Native.Nat.{ℕ, suc, ◌-◌, ◌≤◌, ◌<◌}
use native.Mathlib.Omega.{arith}
use lib.Dec.{ltb}
use lib.ListN.{length, get_or}
use borrow.Author.Tests.{lt-ltb, le-leb, ne_eqb}
use Rattle.round.specs.declared.entry.Category.{Category}
use Rattle.round.specs.Round.{Round}
use Rattle.round.specs.Sound.{Sound}
use Rattle.round.specs.Places.{step_numbers}
use Rattle.offers.specs.Rows.{row_at, rank_in, entry_of, category_at}
use Rattle.offers.specs.Process.{no_seat, institute_count, made_to, seats_after}
use Rattle.offers.specs.Standing.{is_step, seat_rank, standing}
use Rattle.market.proofs.Rows as Rows
use Rattle.market.proofs.Reached.{reached_fits}
use Rattle.offers.proofs.Rounds.Numbered.{number_of, rows_of, rows_rank, row_length}
use Rattle.offers.proofs.Rounds.Institutes.{round_market}
use Rattle.offers.proofs.Rounds.Agreed.{step_number}
use Rattle.offers.proofs.Rounds.Running.{state_of, made, Running}
use Rattle.offers.proofs.Rounds.Seats.{step_in, Seated, Unseated}

module _ (r : Round) where
  -- a seat at a step of an institute of the round
  module _ (j k : ℕ) (inside : j < institute_count r) (some : k ≢ 0) (most : k ≤ step_numbers r j) where
    pub is_step_lem : is_step r (record { institute = suc j; step = k }) ≡ true
    unfolding is_step
    is_step_lem =
        let z : suc j - 1 ≡ j = omega arith in
        rw (
          z,
          le-leb 1 (suc j) (omega arith),
          le-leb (suc j) (institute_count r) (omega arith),
          le-leb 1 k (omega arith),
          le-leb k (step_numbers r j) most,
        )

    pub standing_at : (i : ℕ) → let rank : ℕ = rank_in (row_at r i) (entry_of j (category_at r j k)) in let size : ℕ = length (row_at r i) in
        standing r i (record { institute = suc j; step = k }) ≡ cond (ltb rank size) rank (suc size)
    unfolding standing seat_rank
    standing_at i =
        let z : suc j - 1 ≡ j = omega arith in
        rw (ne_eqb (suc j) 0 (λ e. omega arith), is_step_lem, z)

  pub standing_none : (i : ℕ) → standing r i no_seat ≡ length (row_at r i)
  unfolding standing
  standing_none i = refl

module _ {types : ℕ} {r : Round} (sound : Sound types r) {tried : List ℕ} (run : Running r tried) where
  pub seated_rank : (i : ℕ) (s : Seated r tried i) → rank_in (row_at r i) (entry_of s.institute s.category) < state_of tried i
  seated_rank i s =
      let e : ℕ = number_of s.institute s.category in
      omega (
        arith,
        rows_rank r i s.institute s.category,
        Rows.tried (rows_of r) (state_of tried) i e ((round_market r sound).within (made r tried) i e s.holds),
      )

  pub standing_seated : (i : ℕ) (s : Seated r tried i)
      → standing r i (get_or (seats_after r tried) i no_seat) ≡ rank_in (row_at r i) (entry_of s.institute s.category)
  standing_seated i s =
      let j : ℕ = s.institute in
      let rank : ℕ = rank_in (row_at r i) (entry_of j s.category) in
      let size : ℕ = length (row_at r i) in
      ap (standing r i) s.seat
      ∙ standing_at r j (step_in r tried j i) s.inside s.number
      (omega (arith, step_number r j (made_to r tried j) i, sound.numbered j s.inside)) i
      ∙ ap (λ (c : Category). cond (ltb (rank_in (row_at r i) (entry_of j c)) size) (rank_in (row_at r i) (entry_of j c)) (suc size)) s.under
      ∙ ap (λ b. cond b rank (suc size)) (lt-ltb rank size (omega (arith, seated_rank i s, row_length r i, reached_fits run.reached i)))

  pub standing_unseated : (i : ℕ) → Unseated r tried i → standing r i (get_or (seats_after r tried) i no_seat) ≡ length (row_at r i)
  standing_unseated i s = ap (standing r i) s.seat ∙ standing_none r i
