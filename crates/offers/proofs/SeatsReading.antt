-- The listed seats that are in their rows are put into the tables one after the other.
use Prim.Native.Nat.{ℕ, ◌+◌, ◌-◌, ◌^◌, ◌≤◌, ◌<◌}
use mathlib.Core.Path.{◌≡◌, sym, ◌∙◌, ap, subst}
use mathlib.Core.Bool.{Bool, true, false}
use mathlib.Core.List.{List}
use native.Mathlib.Omega.{arith}
use lib.ListN.{length, get_or, set, replicate, length-set}
use lib.Seq.{get_or-set_same, get_or-set_other}
use Rattle.round.specs.declared.entry.Category.{Category}
use Rattle.questions.specs.declared.head.Head.{Head as CodeHead}
use Rattle.reader.specs.declared.change.Change.{Change}
use Rattle.round.specs.Category.{code_of}
use Rattle.round.specs.Round.{Round}
use Rattle.round.specs.Places.{step_numbers}
use Rattle.reader.specs.Opened.{opened_round, OpenedFile}
use Rattle.lists.proofs.Counting.{clash, same_or}
use Rattle.choice.proofs.Steps.{sized}
use Rattle.lists.proofs.Tabulate.{get_or_zeros}
use Rattle.offers.specs.Rows.{category_at}
use Rattle.offers.specs.Process.{Seat, institute_count}
use Rattle.offers.specs.Areas.{seat_in}
use Rattle.offers.proofs.Known.{candidates_many, institutes_many}
use Rattle.offers.specs.Listed.{in_row}
use Rattle.offers.specs.Listed.{list_of}
use Rattle.offers.specs.Listed.{UnderReview, SeatsRead, AllRead}
use Rattle.offers.proofs.InRow.{row_numbers}
use Rattle.offers.proofs.SeatsRanked.{bytes_seat}

module _ {file : List ℕ} {h : CodeHead} {change : Change} {row starts list : List ℕ} (hand : OpenedFile file h change row starts) (at : UnderReview h list) where
  abbrev r : Round
  r = opened_round file change row

  abbrev seats : List Seat
  seats = list_of h.form r list

  pub none_read : {asked wanted : List ℕ} → asked ≡ replicate h.candidates 0 → length wanted ≡ h.candidates → SeatsRead r seats 0 asked wanted
  none_read e many = record {
    asked_many = sized h.candidates e ∙ sym (candidates_many hand);
    wanted_many = many ∙ sym (candidates_many hand);
    asked_at = λ i l. absurd (omega arith);
    wanted_at = λ i l. absurd (omega arith);
    nobody = λ i l. absurd (omega arith);
    later = λ i l. ap (λ (t : List ℕ). get_or t i 0) e ∙ get_or_zeros h.candidates i;
  }

  -- each table has a place for each candidate
  pub asked_long : {k : ℕ} {asked wanted : List ℕ} → SeatsRead r seats k asked wanted → length asked ≡ h.candidates
  asked_long s = s.asked_many ∙ candidates_many hand

  pub wanted_long : {k : ℕ} {asked wanted : List ℕ} → SeatsRead r seats k asked wanted → length wanted ≡ h.candidates
  wanted_long s = s.wanted_many ∙ candidates_many hand

  -- all candidates are passed
  pub all_read : {k : ℕ} {asked wanted : List ℕ} → SeatsRead r seats k asked wanted → k ≡ h.candidates → AllRead r h.form list asked wanted
  all_read {asked = asked} {wanted = wanted} s e = subst (λ n. SeatsRead r seats n asked wanted) (e ∙ sym (candidates_many hand)) s

  module _ {k : ℕ} (inside : k < h.candidates) {b : Bool} (told : b ≡ in_row r seats k) where
    -- the seat in the row names an institute and a step of it, as the code has read them
    module _ {number : ℕ} (reads : number ≡ (seat_in h.form list k).institute) (t : b ≡ true) where
      numbers : (1 ≤ number) × (number ≤ institute_count r) × (1 ≤ (seat_in h.form list k).step) × ((seat_in h.form list k).step ≤ step_numbers r (number - 1))
      numbers = rw (reads, ← bytes_seat hand at inside) (row_numbers r seats k (sym told ∙ t))

      pub row_institute_least : 1 ≤ number
      row_institute_least = numbers.0

      pub row_step_known : {step : ℕ} → step ≡ (seat_in h.form list k).step
          → (number - 1 < h.institutes) × (1 ≤ step) × (step ≤ step_numbers r (number - 1))
      row_step_known e = (omega (arith, numbers.0, numbers.1, institutes_many hand), rw e numbers.2, rw e numbers.3)

    module _ {asked wanted : List ℕ} (s : SeatsRead r seats k asked wanted) where
      pub one_skipped : b ≡ false → {asked' wanted' : List ℕ} → asked' ≡ asked → wanted' ≡ wanted → SeatsRead r seats (k + 1) asked' wanted'
      one_skipped f ea ew =
          rw (ea, ew)
          record {
            asked_many = s.asked_many;
            wanted_many = s.wanted_many;
            asked_at = λ i l t. same_or i k (λ e. clash (rw e at t) (sym told ∙ f)) (λ d. s.asked_at i (omega arith) t);
            wanted_at = λ i l t. same_or i k (λ e. clash (rw e at t) (sym told ∙ f)) (λ d. s.wanted_at i (omega arith) t);
            nobody = λ i l n. same_or i k (λ e. rw e (s.later k (omega arith))) (λ d. s.nobody i (omega arith) n);
            later = λ i l. s.later i (omega arith);
          }

      pub one_read : b ≡ true → {asked' wanted' : List ℕ} {number step categories : ℕ} {c : Category} → number ≡ (seat_in h.form list k).institute
          → step ≡ (seat_in h.form list k).step → c ≡ category_at r (number - 1) step → categories ≡ 2 ^ code_of c
          → asked' ≡ set asked k number → wanted' ≡ set wanted k categories → SeatsRead r seats (k + 1) asked' wanted'
      one_read t {number = number} {categories = categories} en ep ec es ea ew =
          let in-asked : k < length asked = omega (arith, asked_long s) in
          let in-wanted : k < length wanted = omega (arith, wanted_long s) in
          rw (ea, ew)
          record {
            asked_many = length-set asked k number ∙ s.asked_many;
            wanted_many = length-set wanted k categories ∙ s.wanted_many;
            asked_at = λ i l u. same_or i k
                (λ e. rw (e, bytes_seat hand at inside) (get_or-set_same asked k number 0 in-asked ∙ en))
                (λ d. get_or-set_other asked k i number 0 d ∙ s.asked_at i (omega arith) u);
            wanted_at = λ i l u. same_or i k
                (λ e. rw (e, bytes_seat hand at inside, ← en, ← ep) (get_or-set_same wanted k categories 0 in-wanted ∙ es ∙ ap (λ (x : Category). 2 ^ code_of x) ec))
                (λ d. get_or-set_other wanted k i categories 0 d ∙ s.wanted_at i (omega arith) u);
            nobody = λ i l n. same_or i k
                (λ e. clash (sym told ∙ t) (rw e at n))
                (λ d. get_or-set_other asked k i number 0 d ∙ s.nobody i (omega arith) n);
            later = λ i l. get_or-set_other asked k i number 0 (λ e. omega arith) ∙ s.later i (omega arith);
          }
