-- Where a listed seat stands in its holder's row, by the bytes of the list.
use Prim.Native.Nat.{ℕ, suc, ◌+◌, ◌*◌, ◌-◌, ◌≤◌, ◌<◌}
use mathlib.Core.Path.{◌≡◌, sym, ◌∙◌, ap}
use mathlib.Core.Bool.{Bool, true, false, not, and-false}
use mathlib.Core.List.{List}
use native.Mathlib.Omega.{arith}
use lib.Dec.{ltb}
use lib.ListN.{length}
use Rattle.round.specs.declared.entry.Category.{Category}
use Rattle.questions.specs.declared.head.Head.{Head as CodeHead}
use Rattle.reader.specs.declared.change.Change.{Change}
use Rattle.questions.specs.declared.form.Form.{Form}
use Rattle.questions.specs.Form.{seat_width}
use Rattle.lists.specs.Numbers.{within}
use Rattle.round.specs.Round.{Round}
use Rattle.round.specs.Places.{step_numbers}
use Rattle.reader.specs.Opened.{opened_round, OpenedFile}
use Rattle.lists.proofs.Words.{within_no, within_yes, tabulate_at}
use Rattle.offers.specs.Rows.{row_at, rank_in, category_at}
use Rattle.offers.specs.Process.{Seat, institute_count, no_seat, candidate_count}
use Rattle.offers.specs.Areas.{seat_in, seats_in}
use Rattle.offers.specs.Standing.{is_step, seat_rank}
use Rattle.offers.specs.Stable.{seat_on}
use Rattle.offers.proofs.Known.{candidates_few, candidates_many, institutes_many}
use Rattle.offers.specs.Listed.{in_row, above}
use Rattle.offers.specs.Listed.{list_of}
use Rattle.offers.specs.Listed.{UnderReview}
use Rattle.offers.proofs.InRow.{step_numbers_lem, rank_none}
use Rattle.offers.proofs.SeatBytes.{seat_inside}

-- the seat of candidate i is read from the bytes
pub seat_at : (form : Form) (r : Round) (list : List ℕ) (i : ℕ) → i < candidate_count r → seat_on (list_of form r list) i ≡ seat_in form list i
unfolding seats_in
seat_at form r list i l = tabulate_at (candidate_count r) (seat_in form list) no_seat i l

-- a seat at a step of an institute stands for the entry of its institute with the category of its step
step_rank : (r : Round) (i : ℕ) (s : Seat) → is_step r s ≡ true
    → seat_rank r i s ≡ rank_in (row_at r i) (record { institute = s.institute; category = category_at r (s.institute - 1) s.step })
unfolding seat_rank
step_rank r i s t =
    let number : suc (s.institute - 1) ≡ s.institute = omega (arith, step_numbers_lem r s t) in
    rw (t, number)

module _ {file : List ℕ} {h : CodeHead} {change : Change} {row starts list : List ℕ} (hand : OpenedFile file h change row starts) (at : UnderReview h list) {i : ℕ} (inside : i < h.candidates) where
  abbrev r : Round
  r = opened_round file change row

  abbrev seats : List Seat
  seats = list_of h.form r list

  -- the bytes of the seat stand in the list
  pub bytes_inside : (i < 512) × (seat_width h.form * i + seat_width h.form ≤ length list)
  bytes_inside = (omega (arith, candidates_few hand), seat_inside h.form at.size inside)

  -- both parts by themselves, the bytes in any list that is the same
  pub few_listed : i < 512
  few_listed = bytes_inside.0

  pub bytes_listed : {form : Form} {bytes : List ℕ} → form ≡ h.form → bytes ≡ list → seat_width form * i + seat_width form ≤ length bytes
  bytes_listed e d = rw (e, d) bytes_inside.1

  pub bytes_seat : seat_on seats i ≡ seat_in h.form list i
  bytes_seat = seat_at h.form r list i (omega (arith, candidates_many hand))

  -- by what the code has read of the seat's institute and tested
  module _ {number : ℕ} {a : Bool} (reads : number ≡ (seat_in h.form list i).institute) (told : a ≡ within 1 h.institutes number) where
    -- it is none of the round
    pub above_no_institute : not a ≡ true → {x : ℕ} → x ≡ length (row_at r i) → x ≡ above r seats i
    unfolding above is_step
    above_no_institute f e =
        e ∙ sym (rank_none r i (seat_on seats i) (rw (bytes_seat, institutes_many hand, within_no 1 h.institutes reads told f)))

    -- and of its step
    module _ {last step : ℕ} {b : Bool} (last-is : last ≡ step_numbers r (number - 1))
        (reads-step : step ≡ (seat_in h.form list i).step) (told-step : b ≡ within 1 last step) where
      -- it is none of the institute
      pub above_no_step : not b ≡ true → {x : ℕ} → x ≡ length (row_at r i) → x ≡ above r seats i
      unfolding above is_step
      above_no_step f e =
          e ∙ sym (rank_none r i (seat_on seats i) (rw (bytes_seat, ← reads, ← last-is, within_no 1 last reads-step told-step f) (and-false (within 1 (institute_count r) number))))

      -- both are
      pub above_step : not a ≡ false → not b ≡ false → {x : ℕ} {c : Category} → c ≡ category_at r (number - 1) step
          → x ≡ rank_in (row_at r i) (record { institute = number; category = c }) → x ≡ above r seats i
      unfolding above is_step
      above_step t u ec e =
          let named : is_step r (seat_on seats i) ≡ true =
          rw (
            bytes_seat,
            institutes_many hand,
            within_yes 1 h.institutes reads told t,
            ← reads,
            ← last-is,
            within_yes 1 last reads-step told-step u,
          ) in
          e
          ∙ rw (ec, reads, reads-step)
          (ap (λ (s : Seat). rank_in (row_at r i) (record { institute = s.institute; category = category_at r (s.institute - 1) s.step })) (sym bytes_seat))
          ∙ sym (step_rank r i (seat_on seats i) named)

  pub in_row_by : {x size : ℕ} → x ≡ above r seats i → size ≡ length (row_at r i) → ltb x size ≡ in_row r seats i
  unfolding above in_row
  in_row_by e d = rw (e, d)
