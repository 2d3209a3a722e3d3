-- A file that passes, with other bytes in place of those of one candidate's row that pass the questions about a row: it passes too, and means the
-- round with that row (document 02, Point 8).
use Prim.Native.Nat.{ℕ, zero, suc, ◌+◌, ◌*◌, ◌-◌, ◌^◌, ◌<◌, ◌≤◌}
use mathlib.Core.Path.{◌≡◌, refl, sym, ap, ap₂, ◌∙◌}
use mathlib.Core.Bool.{◌&&◌}
use mathlib.Core.List.{List, ◌∷◌}
use native.Mathlib.Omega.{arith}
use native.Mathlib.Decide.{dec_lt}
use native.Mathlib.Nat.{add-zero, add-suc}
use lib.Dec.{leb}
use lib.ListN.{length, get_or, set, take, drop, length-drop, length-set}
use lib.Seq.{length-sets, get_or-take, get_or-drop, get_or-set_same, get_or-set_other, ext_get_or}
use Rattle.questions.specs.declared.form.Form.{Form}
use Rattle.round.specs.Category.{code_of, category_of}
use Rattle.lists.specs.Lists.{tabulate}
use Rattle.round.specs.Round.{Candidate, Round}
use Rattle.round.specs.Places.{candidate_at, no_candidate}
use Rattle.questions.specs.Records.{Head, length_at, body_at, next_at, start_of, body_of, form_of, head_in, head_of, own_steps, due_after, institute_record, candidate_record, merit_record}
use Rattle.lists.specs.Numbers.{word}
use Rattle.questions.specs.Questions.{asked, first_no, row_questions, row_bytes, candidate_questions, kind_questions, questions_at}
use Rattle.questions.specs.Refusal.{passes, verdict_from, verdict}
use Rattle.questions.specs.Reading.{row_in, candidate_in, institute_from, round_of}
use Rattle.round.specs.Changed.{row_for, with_row}
use Rattle.reader.specs.Replaced.{replaced}
use Rattle.reader.specs.Opened.{LawfulRow}
use Rattle.lists.proofs.Words.{length_tabulate, tabulate_at}
use Rattle.lists.proofs.Joined.{sets_outside, sets_inside, sets_part}
use Rattle.questions.proofs.Passed.{yes as first-yes, walked, ended, walks, due_candidate, passed}
use Rattle.questions.proofs.Answers.{LeadYes, lead_yes, yes_lead, body_whole, length_candidate, candidate_yes}
use Rattle.round.proofs.Codes.{code_category}
use Rattle.reader.proofs.Sound.{candidate_at_lem, length_candidates, length_institutes}
use Rattle.reader.proofs.Changed.{by_equal}
use Rattle.reader.proofs.Listed.{tabulate_same}

-- no record starts in front of one before it
starts_rise : (file : List ℕ) (k l : ℕ) → k ≤ l → start_of file k ≤ start_of file l
unfolding start_of
starts_rise file k l m = let e : k + (l - k) ≡ l = omega arith in rw e at (go (l - k))
  where
    go : (n : ℕ) → start_of file k ≤ start_of file (k + n)
    go zero = rw add-zero (omega arith)
    go (suc n) = rw add-suc (omega (arith, go n))

-- a list with another value at one place
tabulate_set : {A : Type 0} (n i : ℕ) (f g : ℕ → A) (d x : A) → i < n → ((k : ℕ) → k < n → (k ≡ i → ⊥) → f k ≡ g k) → f i ≡ x → tabulate n f ≡ set (tabulate n g) i x
tabulate_set n i f g d x l same here = ext_get_or d (tabulate n f) (set (tabulate n g) i x) (simp (length-set, length_tabulate)) each
  where
    each : (k : ℕ) → k < length (tabulate n f) → get_or (tabulate n f) k d ≡ get_or (set (tabulate n g) i x) k d
    each k m =
        let inside : k < n = omega (arith, length_tabulate 0 n f) in
        tabulate_at n f d k inside
        ∙ by_equal k i (λ (e : k ≡ i). rw e (here ∙ sym (get_or-set_same (tabulate n g) i x d (omega (arith, length_tabulate 0 n g)))))
        (λ o. same k inside o ∙ sym (get_or-set_other (tabulate n g) i k x d o ∙ tabulate_at n g d k inside))

-- a candidate's body with another row
module _ (form : Form) (body other row : List ℕ) (code : get_or other 0 0 ≡ get_or body 0 0) (marks : get_or other 1 0 ≡ get_or body 1 0) (behind : row_bytes other ≡ row) where
  other_candidate : candidate_in form other ≡ row_for (candidate_in form body) (row_in form row)
  unfolding candidate_in
  other_candidate = λ t. record { category = category_of (code t); marks = marks t; row = row_in form (behind t) }

  other_asked : (h : Head) → first_no (candidate_questions h body) ≡ 0 → first_no (row_questions h.form h.institutes (get_or body 0 0) row) ≡ 0 → first_no (candidate_questions h other) ≡ 0
  other_asked h before passing =
      (λ t. first_no (asked 8 (leb (code t) 4 && leb (suc (marks t)) (2 ^ h.types)) ∷ row_questions h.form h.institutes (code t) (behind t)))
      ∙ rw (first-yes 7 (leb (get_or body 0 0) 4 && leb (suc (get_or body 1 0)) (2 ^ h.types)) _ before).0 passing

-- the round of a file, by its head
abbrev round_by : List ℕ → Head → Round
round_by file h = record {
  candidates = tabulate h.candidates (λ i. candidate_in h.form (body_of file (candidate_record h i)));
  institutes = tabulate h.institutes (λ j. institute_from h (body_of file (institute_record h j)) (body_of file (merit_record h j)));
  steps_listed = own_steps h;
}

module _ (file : List ℕ) (i : ℕ) (row : List ℕ) (accepted : verdict file ≡ passes) (there : i < (head_of file).candidates)
    (long : length row ≡ length (row_bytes (body_of file (candidate_record (head_of file) i))))
    (passing : first_no (row_questions (form_of file) (head_of file).institutes (get_or (body_of file (candidate_record (head_of file) i)) 0 0) row) ≡ 0) where
  abbrev h : Head
  h = head_of file

  abbrev c : ℕ
  c = candidate_record h i

  abbrev start : ℕ
  start = start_of file c

  abbrev other : List ℕ
  other = replaced file i row

  lead : LeadYes file h 3 start
  lead = lead_yes file h 3 start ((passed file accepted).candidate_yes i there)

  row_long : 2 + length row ≡ length_at file start
  row_long = omega (arith, long, length-drop 2 (body_of file c), lead.body_length, (length_candidate h (length_at file start) lead.allowed).least)

  -- the bytes of the row stand in the file, behind the records before it and in front of those after it
  row_inside : start + 6 + length row ≤ length file
  row_inside = omega (arith, row_long, lead.body_there)

  before : (k : ℕ) → k < c → start_of file (suc k) ≤ start
  before k l = starts_rise file (suc k) c l

  after : (k : ℕ) → c < k → start + 6 + length row ≤ start_of file k
  unfolding start_of
  after k l = omega (arith, starts_rise file (suc c) k l, row_long)

  pub replaced_length : length (replaced file i row) ≡ length file
  unfolding replaced
  replaced_length = length-sets file (start + 6) row

  byte_outside : (x : ℕ) → (start + 6 ≤ x → start + 6 + length row ≤ x) → get_or other x 0 ≡ get_or file x 0
  unfolding replaced
  byte_outside x out = sets_outside file (start + 6) row x out

  -- the lead bytes of every record are the same
  word_kept : (x : ℕ) → (start + 6 < x + 2 → start + 6 + length row ≤ x) → word other x ≡ word file x
  word_kept x out =
      ap₂ (λ (a b : ℕ). a + 256 * b) (byte_outside x (λ l. omega (arith, out (omega arith)))) (byte_outside (suc x) (λ l. omega (arith, out (omega arith))))

  lead_kept : (k x : ℕ) → x ≤ 2 → word other (start_of file k + x) ≡ word file (start_of file k + x)
  lead_kept k x few = elim (dec_lt c k) [
    | yes l ↦ word_kept (start_of file k + x) (λ m. omega (arith, after k l))
    | no l ↦ word_kept (start_of file k + x) (λ m. omega (arith, starts_rise file k c (omega arith)))
  ]

  length_kept : (k : ℕ) → length_at other (start_of file k) ≡ length_at file (start_of file k)
  length_kept k = rw add-zero at (lead_kept k 0 (omega arith))

  pub replaced_start : (k : ℕ) → start_of (replaced file i row) k ≡ start_of file k
  unfolding start_of
  replaced_start zero = refl
  replaced_start (suc k) = ap (next_at other) (replaced_start k) ∙ ap (λ (n : ℕ). start_of file k + 4 + n) (length_kept k)

  -- the body of every other record
  body_kept : (k : ℕ) → (k ≡ c → ⊥) → body_at other (start_of file k) ≡ body_at file (start_of file k)
  unfolding replaced start_of
  body_kept k o =
      ap (λ (n : ℕ). take n (drop (start_of file k + 4) other)) (length_kept k)
      ∙ sets_part file (start + 6) row (start_of file k + 4) (length_at file (start_of file k)) apart
    where
      apart : start + 6 < start_of file k + 4 + length_at file (start_of file k) → start + 6 + length row ≤ start_of file k + 4
      apart m = elim (dec_lt c k) [
        | yes l ↦ omega (arith, after k l)
        | no l ↦ let n : k < c = omega arith in omega (arith, before k n)
      ]

  pub replaced_form : form_of (replaced file i row) ≡ form_of file
  unfolding form_of start_of
  replaced_form = rw (replaced_length, lead_kept 0 2 (omega arith))

  pub replaced_head : head_of (replaced file i row) ≡ head_of file
  unfolding start_of
  replaced_head = ap₂ head_in replaced_form (body_kept 0 (λ e. omega arith))

  -- the candidate's own record: code and marks are the same, and the row is the new one
  byte_kept : (x : ℕ) → x < 2 → get_or (body_at other start) x 0 ≡ get_or (body_at file start) x 0
  byte_kept x l =
      let m : x < length_at other start = omega (arith, length_kept c, row_long) in
      let n : x < length_at file start = omega (arith, row_long) in
      get_or-take (length_at other start) (drop (start + 4) other) x 0 m
      ∙ (get_or-drop (start + 4) other x 0
      ∙ (byte_outside (start + 4 + x) (λ o. omega arith)
      ∙ sym (get_or-take (length_at file start) (drop (start + 4) file) x 0 n ∙ get_or-drop (start + 4) file x 0)))

  body_long : length (body_at other start) ≡ 2 + length row
  body_long =
      let fits : start + 4 + length_at other start ≤ length other = omega (arith, length_kept c, lead.body_there, replaced_length) in
      omega (arith, body_whole other start fits, length_kept c, row_long)

  row_there : row_bytes (body_at other start) ≡ row
  unfolding replaced
  row_there = ext_get_or 0 (row_bytes (body_at other start)) row row_length each
    where
      row_length : length (row_bytes (body_at other start)) ≡ length row
      row_length = omega (arith, length-drop 2 (body_at other start), body_long)

      each : (x : ℕ) → x < length (row_bytes (body_at other start)) → get_or (row_bytes (body_at other start)) x 0 ≡ get_or row x 0
      each x l =
          let m : 2 + x < length_at other start = omega (arith, row_length, length_kept c, row_long) in
          let e : start + 4 + (2 + x) ≡ start + 6 + x = omega arith in
          get_or-drop 2 (body_at other start) x 0
          ∙ (get_or-take (length_at other start) (drop (start + 4) other) (2 + x) 0 m
          ∙ (get_or-drop (start + 4) other (2 + x) 0
          ∙ (ap (λ (n : ℕ). get_or other n 0) e ∙ sets_inside file (start + 6) row x row_inside (omega (arith, row_length)))))

  -- every question of every record is answered yes where it was
  body_yes : (k kind : ℕ) → (k ≡ c → kind ≡ 3) → first_no (kind_questions h kind (body_of file k)) ≡ 0 → first_no (kind_questions h kind (body_at other (start_of file k))) ≡ 0
  body_yes k kind due asked =
      by_equal k c
      (λ (e : k ≡ c). rw (due e, e) (other_asked (form_of file) (body_of file c) (body_at other start) row (byte_kept 0 (omega arith)) (byte_kept 1 (omega arith)) row_there h lead.body_yes passing))
      (λ o. rw (body_kept k o) asked)

  record_yes : (k kind : ℕ) → (k ≡ c → kind ≡ 3) → first_no (questions_at file h kind (start_of file k)) ≡ 0 → first_no (questions_at other h kind (start_of file k)) ≡ 0
  record_yes k kind due asked =
      let y = lead_yes file h kind (start_of file k) asked in
      let inside : start_of file k + 4 + length_at other (start_of file k) ≤ length other = omega (arith, replaced_length, length_kept k, y.body_there) in
      yes_lead other h kind (start_of file k)
      (record {
        lead_there = omega (arith, replaced_length, y.lead_there);
        kind_due_is = lead_kept k 2 (omega arith) ∙ y.kind_due_is;
        allowed = rw (length_kept k) y.allowed;
        body_there = inside;
        body_length = body_whole other (start_of file k) inside;
        body_yes = body_yes k kind due y.body_yes;
      })

  -- the candidate's record is due with kind 3
  due_here : (k : ℕ) → k ≡ c → get_or (1 ∷ due_after h) k 0 ≡ 3
  due_here k e = let d : k ≡ suc (h.institutes + i) = omega arith in rw d (due_candidate h i there)

  file_passes : verdict_from file h (1 ∷ due_after h) (start_of file 0) ≡ passes
  unfolding verdict verdict_from start_of
  file_passes = accepted

  other_passes : verdict_from other h (1 ∷ due_after h) 0 ≡ passes
  unfolding start_of
  other_passes = walks other h (1 ∷ due_after h) 0 each ends
    where
      each : (k : ℕ) → k < length (1 ∷ due_after h) → first_no (questions_at other h (get_or (1 ∷ due_after h) k 0) (start_of other (0 + k))) ≡ 0
      each k l =
          rw (replaced_start (0 + k))
          (record_yes (0 + k) (get_or (1 ∷ due_after h) k 0) (λ e. due_here k (omega arith)) (walked file h (1 ∷ due_after h) 0 file_passes k l))

      ends : start_of other (0 + length (1 ∷ due_after h)) ≡ length other
      ends = replaced_start (0 + length (1 ∷ due_after h)) ∙ (ended file h (1 ∷ due_after h) 0 file_passes ∙ sym replaced_length)

  pub replaced_passes : verdict (replaced file i row) ≡ passes
  unfolding verdict verdict_from
  replaced_passes = ap (λ (h : Head). verdict_from other h (1 ∷ due_after h) 0) replaced_head ∙ other_passes

  -- the bodies of the records, each where it starts
  body_same : (k : ℕ) → (k ≡ c → ⊥) → body_of other k ≡ body_of file k
  body_same k o = ap (body_at other) (replaced_start k) ∙ body_kept k o

  candidate_new : candidate_in (form_of file) (body_of other c) ≡ row_for (candidate_at (round_of file) i) (row_in (form_of file) row)
  candidate_new =
      rw (candidate_at_lem file i there)
      (ap (λ (n : ℕ). candidate_in (form_of file) (body_at other n)) (replaced_start c)
      ∙ other_candidate (form_of file) (body_of file c) (body_at other start) row (byte_kept 0 (omega arith)) (byte_kept 1 (omega arith)) row_there)

  pub replaced_round : round_of (replaced file i row) ≡ with_row (round_of file) i (row_in (form_of file) row)
  unfolding round_of with_row
  replaced_round = ap (round_by other) replaced_head ∙ (λ t. record { candidates = candidates t; institutes = institutes t; steps_listed = own_steps h })
    where
      candidates : (round_by other h).candidates ≡ (with_row (round_of file) i (row_in (form_of file) row)).candidates
      candidates =
          tabulate_set h.candidates i (λ k. candidate_in (form_of file) (body_of other (candidate_record h k))) (λ k. candidate_in (form_of file) (body_of file (candidate_record h k))) no_candidate _ there
          (λ k l o. ap (candidate_in (form_of file)) (body_same (candidate_record h k) (λ e. o (omega arith)))) candidate_new

      institutes : (round_by other h).institutes ≡ (round_of file).institutes
      institutes =
          tabulate_same h.institutes _ _
          (λ j l. ap₂ (institute_from h) (body_same (institute_record h j) (λ e. omega arith)) (body_same (merit_record h j) (λ e. omega arith)))

-- a lawful new row, as long as the one that the file has: the file with it means the round with that row
module _ (file : List ℕ) (accepted : verdict file ≡ passes) (i : ℕ) (row : List ℕ) (lawful : LawfulRow (form_of file) (round_of file) i row)
    (long : length row ≡ length (row_bytes (body_of file (candidate_record (head_of file) i)))) where
  inside : i < (head_of file).candidates
  inside = omega (arith, lawful.candidate, length_candidates file)

  own_code : code_of (candidate_at (round_of file) i).category ≡ get_or (body_of file (candidate_record (head_of file) i)) 0 0
  unfolding candidate_in
  own_code =
      let lead = lead_yes file (head_of file) 3 (start_of file (candidate_record (head_of file) i)) ((passed file accepted).candidate_yes i inside) in
      ap (λ (c : Candidate). code_of c.category) (candidate_at_lem file i inside)
      ∙ code_category (get_or (body_of file (candidate_record (head_of file) i)) 0 0)
      (candidate_yes (head_of file) (body_of file (candidate_record (head_of file) i)) lead.body_yes).own_code

  row_passes : first_no (row_questions (form_of file) (head_of file).institutes (get_or (body_of file (candidate_record (head_of file) i)) 0 0) row) ≡ 0
  row_passes = rw (← own_code, ← length_institutes file) lawful.passing

  pub lawful_passes : verdict (replaced file i row) ≡ passes
  lawful_passes = replaced_passes file i row accepted inside long row_passes

  pub lawful_round : round_of (replaced file i row) ≡ with_row (round_of file) i (row_in (form_of file) row)
  lawful_round = replaced_round file i row accepted inside long row_passes
