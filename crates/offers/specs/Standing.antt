-- What a seat stands for, and where it stands in a row (document 01, "The unit": "A seat is an institute and a step. It stands for ..").
use Rattle.std.specs.Prelude.{ℕ, suc, ◌-◌, Bool, cond, ◌&&◌, ltb, length}
use Rattle.lists.specs.Numbers.{within}
use Rattle.round.specs.Round.{Round}
use Rattle.round.specs.Places.{step_numbers}
use Rattle.offers.specs.Rows.{row_at, rank_in, entry_of, category_at}
use Rattle.offers.specs.Process.{Seat, is_none, institute_count}

-- the seat names an institute of the round and one of its steps (document 02, Points 5 and 7): a listed one where the institutes list their own
-- steps, else one from 1 to 6, under policy 0 too
unfoldable pub is_step : Round → Seat → Bool
is_step r s = within 1 (institute_count r) s.institute && within 1 (step_numbers r (s.institute - 1)) s.step

-- the place in candidate i's row of the entry that a seat stands for; the row's length where the row has it not
unfoldable pub seat_rank : Round → ℕ → Seat → ℕ
seat_rank r i s =
    let entry = entry_of (s.institute - 1) (category_at r (s.institute - 1) s.step) in
    cond (is_step r s) (rank_in (row_at r i) entry) (length (row_at r i))

-- where a seat stands for candidate i, 0 best: a listed one by its entry, below every entry none, and below none a seat not in the row
unfoldable pub standing : Round → ℕ → Seat → ℕ
standing r i s =
    let size : ℕ = length (row_at r i) in
    cond (is_none s) size (cond (ltb (seat_rank r i s) size) (seat_rank r i s) (suc size))
