-- Two files alike in all but one row: the same head, and rounds that differ in that row only.
use Prim.Native.Nat.{ℕ, ◌<◌}
use mathlib.Core.Path.{◌≡◌, sym, ap, ap₂, ◌∙◌, subst⁻¹}
use mathlib.Core.Logic.{◌≢◌}
use mathlib.Core.List.{List}
use native.Mathlib.Omega.{arith}
use lib.ListN.{get_or}
use lib.Seq.{get_or-take, ext_get_or}
use Rattle.questions.specs.Records.{Head, head_in, head_of, start_of, body_of, institute_record, candidate_record, merit_record, record_count}
use Rattle.questions.specs.Reading.{candidate_in, institute_from, round_of}
use Rattle.round.specs.Places.{candidate_at, institute_at, no_institute}
use Rattle.reader.proofs.Sound.{candidate_at_lem, institute_at_lem, length_candidates, length_institutes}
use Rattle.offers.specs.Process.{candidate_count}
use Rattle.offers.proofs.Rounds.TruthfulRound.{AlikeBut}
use Rattle.allotment.specs.Truthful.{Alike}
use Rattle.allotment.proofs.Files.Bodies.{same_body, same_form}

module _ (file other : List ℕ) (i : ℕ) (alike : Alike file other i) where
  bodies : (k : ℕ) → k < record_count (head_of file) → k ≢ candidate_record (head_of file) i → body_of file k ≡ body_of other k
  bodies k l d = same_body file other k (alike.records k l d)

  same_head : head_of file ≡ head_of other
  unfolding start_of
  same_head =
      ap₂ head_in (same_form file other (alike.records 0 (omega arith) (λ e. omega arith))) (bodies 0 (omega arith) (λ e. omega arith))

  other_institute : (j : ℕ) → j < (head_of file).institutes
      → institute_at (round_of other) j ≡ institute_from (head_of file) (body_of other (institute_record (head_of file) j)) (body_of other (merit_record (head_of file) j))
  other_institute =
      subst⁻¹ (λ (h : Head). (j : ℕ) → j < h.institutes → institute_at (round_of other) j ≡ institute_from h (body_of other (institute_record h j)) (body_of other (merit_record h j)))
      same_head (institute_at_lem other)

  institute_same : (j : ℕ) → j < (head_of file).institutes → institute_at (round_of file) j ≡ institute_at (round_of other) j
  institute_same j l =
      let h : Head = head_of file in
      let own : body_of file (institute_record h j) ≡ body_of other (institute_record h j) = bodies (institute_record h j) (omega arith) (λ e. omega arith) in
      let list : body_of file (merit_record h j) ≡ body_of other (merit_record h j) = bodies (merit_record h j) (omega arith) (λ e. omega (arith, alike.candidate)) in
      institute_at_lem file j l
      ∙ (ap (λ (b : List ℕ). institute_from h b (body_of file (merit_record h j))) own
      ∙ (ap (λ (b : List ℕ). institute_from h (body_of other (institute_record h j)) b) list ∙ sym (other_institute j l)))

  same_institutes : (round_of file).institutes ≡ (round_of other).institutes
  same_institutes =
      ext_get_or no_institute _ _
      (length_institutes file ∙ (ap (λ (h : Head). h.institutes) same_head ∙ sym (length_institutes other)))
      (λ j l. institute_same j (omega (arith, length_institutes file)))

  pub same_count : candidate_count (round_of file) ≡ candidate_count (round_of other)
  same_count = length_candidates file ∙ (ap (λ (h : Head). h.candidates) same_head ∙ sym (length_candidates other))

  -- the candidate whose row may differ is one of the round
  pub inside : i < candidate_count (round_of file)
  inside = rw (length_candidates file) alike.candidate

  other_candidate : (k : ℕ) → k < (head_of file).candidates → candidate_at (round_of other) k ≡ candidate_in (head_of file).form (body_of other (candidate_record (head_of file) k))
  other_candidate =
      subst⁻¹ (λ (h : Head). (k : ℕ) → k < h.candidates → candidate_at (round_of other) k ≡ candidate_in h.form (body_of other (candidate_record h k)))
      same_head (candidate_at_lem other)

  same_candidate : (k : ℕ) → k < candidate_count (round_of file) → k ≢ i → candidate_at (round_of file) k ≡ candidate_at (round_of other) k
  same_candidate k l d =
      let m : k < (head_of file).candidates = omega (arith, length_candidates file) in
      candidate_at_lem file k m
      ∙ (ap (candidate_in (head_of file).form) (bodies (candidate_record (head_of file) k) (omega arith) (λ e. d (omega arith))) ∙ sym (other_candidate k m))

  same_marks : (candidate_at (round_of file) i).marks ≡ (candidate_at (round_of other) i).marks
  unfolding candidate_in
  same_marks =
      let k : ℕ = candidate_record (head_of file) i in
      rw (candidate_at_lem file i alike.candidate, other_candidate i alike.candidate)
      (sym (get_or-take 2 (body_of file k) 1 0 (omega arith))
      ∙ (ap (λ (s : List ℕ). get_or s 1 0) alike.codeAndMarks ∙ get_or-take 2 (body_of other k) 1 0 (omega arith)))

  -- both rounds are alike but for that row
  pub alike_rounds : AlikeBut (round_of file) (round_of other) i
  alike_rounds = record {
    institutes = same_institutes;
    number = same_count;
    others = same_candidate;
    marks = same_marks;
  }
