-- A file that passes under policy 0 or 1, with the steps of its institutes written as lists under policy 2 (document 02, Point 7), passes too, and means
-- the same candidates and the same institutes.
use Prim.Native.Nat.{ℕ, suc, ◌+◌, ◌*◌, ◌<◌, ◌≤◌}
use mathlib.Core.Path.{◌≡◌, refl, sym, ap, ap₂, ◌∙◌}
use mathlib.Core.Bool.{Bool, true, false, cond, ◌&&◌}
use mathlib.Core.List.{List, [], ◌∷◌, ◌++◌, append_assoc, append-nil}
use native.Mathlib.Omega.{arith}
use native.Mathlib.Nat.{add-zero}
use borrow.Author.Tests.{leb-true, le-leb, eqb-true, eq-eqb, ne_eqb}
use lib.Dec.{leb, eqb}
use lib.ListN.{length, get_or, take, drop, replicate, length-append, take-append-drop, get_or-append}
use lib.Seq.{get_or-take, get_or-append-add, length-take-le}
use Rattle.questions.specs.declared.form.Form.{Form}
use Rattle.questions.specs.declared.form.Form.TheVariants.{Narrow, Wide}
use Rattle.questions.specs.Form.{form_kind, institutes_most}
use Rattle.lists.specs.Lists.{tabulate, joined}
use Rattle.questions.specs.Records.{Head, length_at, body_at, next_at, start_of, body_of, form_of, head_in, head_of, own_steps, due_after, institute_record, candidate_record, merit_record}
use Rattle.lists.specs.Numbers.{word}
use Rattle.questions.specs.Questions.{asked, head_questions, first_no, length_allowed, kind_questions, questions_at, merit_count, merit_in}
use Rattle.lists.specs.Numbers.{within}
use Rattle.questions.specs.Reading.{steps_in, candidate_in, institute_from, round_of}
use Rattle.questions.specs.Refusal.{passes, verdict_from, verdict}
use Rattle.reader.specs.Rewritten.{short_record, list_head, list_body, as_lists}
use Rattle.lists.proofs.Words.{and_fst, and_snd, both_yes}
use Rattle.questions.proofs.Passed.{judged_yes, yes, Passed, passed}
use Rattle.questions.proofs.Answers.{LeadYes, lead_yes}
use Rattle.reader.proofs.Behind.{short_kind, records_behind, passes_by_itself, short_body, short_then, short_passes, run_body, run_then, run_passes, passes_inside, passes_after, other_head}
use Rattle.reader.proofs.Listed.{with_policy, tabulate_same, AsList, as_list}
use Rattle.reader.proofs.Bytes.{Bytes, bytes_none, bytes_more, bytes_append, bytes_take, bytes_drop, bytes_joined, bytes_short, bytes_list, list_short}

-- the head's body with policy 2
module _ (form : Form) (body : List ℕ) (long : length body ≡ 8) where
  six : length (take 6 body) ≡ 6
  six = length-take-le 6 body (omega arith)

  length_head : length (list_head body) ≡ 8
  length_head = omega (arith, length-append (take 6 body) (2 ∷ 0 ∷ []), six)

  byte_kept : (i : ℕ) → i < 6 → get_or (list_head body) i 0 ≡ get_or body i 0
  byte_kept i l = get_or-append (take 6 body) (2 ∷ 0 ∷ []) 0 i (omega (arith, six)) ∙ get_or-take 6 body i 0 l

  word_kept : (i : ℕ) → suc i < 6 → word (list_head body) i ≡ word body i
  word_kept i l = ap₂ (λ (x y : ℕ). x + 256 * y) (byte_kept i (omega arith)) (byte_kept (suc i) l)

  policy_two : word (list_head body) 6 ≡ 2
  policy_two = ap₂ (λ (x y : ℕ). x + 256 * y) (byte 0 6 (omega arith)) (byte 1 7 (omega arith))
    where
      byte : (x i : ℕ) → i ≡ 6 + x → get_or (list_head body) i 0 ≡ get_or (2 ∷ 0 ∷ []) x 0
      byte x i e = ap (λ (i : ℕ). get_or (list_head body) i 0) (e ∙ ap (λ (n : ℕ). n + x) (sym six)) ∙ get_or-append-add (take 6 body) (2 ∷ 0 ∷ []) x 0

  head_two : head_in form (list_head body) ≡ with_policy 2 (head_in form body)
  head_two = λ i. record {
    form = form;
    candidates = word_kept 0 (omega arith) i;
    institutes = word_kept 2 (omega arith) i;
    types = word_kept 4 (omega arith) i;
    policy = policy_two i;
  }

  -- 5 is answered yes where it was
  module _ (all_yes : first_no (head_questions form body) ≡ 0) where
    abbrev numbers : Bool
    numbers = leb (word body 4) 8 && leb (word body 6) 2

    fifth : within 1 512 (word body 0) && (within 1 (institutes_most form) (word body 2) && numbers) ≡ true
    fifth = (yes 4 (within 1 512 (word body 0) && (within 1 (institutes_most form) (word body 2) && numbers)) 0 all_yes).0

    fifth_institutes : within 1 (institutes_most form) (word body 2) && numbers ≡ true
    fifth_institutes = and_snd (within 1 512 (word body 0)) (within 1 (institutes_most form) (word body 2) && numbers) fifth

    fifth_types : leb (word body 4) 8 ≡ true
    fifth_types = and_fst (leb (word body 4) 8) (leb (word body 6) 2) (and_snd (within 1 (institutes_most form) (word body 2)) numbers fifth_institutes)

    head_answered : first_no (head_questions form (list_head body)) ≡ 0
    head_answered =
        let all : within 1 512 (word body 0) && (within 1 (institutes_most form) (word body 2) && (leb (word body 4) 8 && true)) ≡ true =
        both_yes (and_fst (within 1 512 (word body 0)) (within 1 (institutes_most form) (word body 2) && numbers) fifth)
        (both_yes (and_fst (within 1 (institutes_most form) (word body 2)) numbers fifth_institutes) (both_yes fifth_types refl)) in
        (λ i. first_no (asked 5 (within 1 512 (head_two i).candidates && (within 1 (institutes_most form) (head_two i).institutes && (leb (head_two i).types 8 && leb (head_two i).policy 2))) ∷ []))
        ∙ (λ i. first_no (asked 5 (all i) ∷ []))

-- the form of a file that starts with a short record of the head's kind
form_short : (form : Form) (body rest : List ℕ) → form_of (short_record (form_kind form 1) body ++ rest) ≡ form
unfolding form_of
form_short form body rest =
    let long : leb 4 (length (short_record (form_kind form 1) body ++ rest)) ≡ true = le-leb 4 (length (short_record (form_kind form 1) body ++ rest)) (omega arith) in
    (λ i. cond (long i) (cond (eqb (short_kind (form_kind form 1) body rest i) 5) Wide Narrow) Narrow) ∙ go form
  where
    go : (form : Form) → cond (eqb (form_kind form 1) 5) Wide Narrow ≡ form
    go Narrow = refl
    go Wide = refl

kind_few : (form : Form) → form_kind form 1 < 256
kind_few Narrow = omega arith
kind_few Wide = omega arith

module _ (file : List ℕ) (lawful : verdict file ≡ passes) (policy-few : (head_of file).policy ≤ 1) where
  abbrev h : Head
  h = head_of file

  abbrev h₂ : Head
  h₂ = with_policy 2 h

  own : own_steps h ≡ false
  own = ne_eqb h.policy 2 (λ e. omega arith)

  all_passed : Passed file
  all_passed = passed file lawful

  head_read : LeadYes file h 1 0
  head_read = lead_yes file h 1 0 all_passed.head_yes

  head_long : length (body_at file 0) ≡ 8
  head_long = head_read.body_length ∙ eqb-true (length_at file 0) 8 head_read.allowed

  -- the steps of each institute as a list
  institute_list : (j : ℕ) → j < h.institutes → AsList h (body_of file (institute_record h j))
  institute_list j l =
      let asked-yes = all_passed.institute_yes j l in
      let found = lead_yes file h 2 (start_of file (institute_record h j)) asked-yes in
      let len : length_at file (start_of file (institute_record h j)) ≡ 10 + 10 * h.types = eqb-true _ _ (rw own at found.allowed) in
      as_list h (body_of file (institute_record h j)) policy-few (found.body_length ∙ len) found.body_yes

  -- the part of the file that stays as it is
  abbrev from : ℕ
  from = start_of file (candidate_record h 0)

  abbrev kept : List ℕ
  kept = drop from file

  abbrev kinds : List ℕ
  kinds = replicate h.candidates 3 ++ replicate h.institutes 4

  from_passes : verdict_from file h kinds from ≡ passes
  unfolding verdict start_of
  from_passes =
      let both = judged_yes (first_no (questions_at file h 1 0)) 0 (verdict_from file h (due_after h) (next_at file 0)) lawful in
      rw add-zero (passes_after file h 2 kinds 1 h.institutes both.1)

  split : take from file ++ kept ≡ file
  split = take-append-drop from file

  from_length : length (take from file) ≡ from
  from_length = length-take-le from file (passes_inside file h kinds from from_passes)

  -- the questions of candidates and merit lists do not turn on the policy
  other_policy : verdict_from kept h kinds 0 ≡ verdict_from kept h₂ kinds 0
  unfolding questions_at verdict_from
  other_policy = other_head kept h h₂ 3 (replicate h.institutes 4) (λ s. refl) lists h.candidates 0
    where
      lists : (s : ℕ) → verdict_from kept h (replicate h.institutes 4) s ≡ verdict_from kept h₂ (replicate h.institutes 4) s
      lists s =
          ap (λ (l : List ℕ). verdict_from kept h l s) (sym (append-nil (replicate h.institutes 4)))
          ∙ (other_head kept h h₂ 4 [] (λ s. refl) (λ s. refl) h.institutes s
          ∙ ap (λ (l : List ℕ). verdict_from kept h₂ l s) (append-nil (replicate h.institutes 4)))

  kept_passes : verdict_from kept h₂ kinds 0 ≡ passes
  kept_passes =
      sym other_policy
      ∙ passes_by_itself (take from file) kept h kinds (ap₂ (λ (l : List ℕ) (s : ℕ). verdict_from l h kinds s) split from_length ∙ from_passes)

  kept_records : (k : ℕ) → body_of file (1 + (h.institutes + k)) ≡ body_of kept k
  kept_records k =
      let here : start_of (take from file ++ kept) (candidate_record h 0) ≡ length (take from file) = ap (λ (l : List ℕ). start_of l (candidate_record h 0)) split ∙ sym from_length in
      let e : 1 + (h.institutes + k) ≡ candidate_record h 0 + k = omega arith in
      ap₂ body_of (sym split) e ∙ records_behind (take from file) kept (candidate_record h 0) here k

  -- the parts that are written anew
  abbrev body₂ : ℕ → List ℕ
  body₂ j = list_body h (body_of file (institute_record h j))

  abbrev rest₂ : List ℕ
  rest₂ = joined (tabulate h.institutes (λ j. short_record 7 (body₂ j))) ++ kept

  abbrev kind₁ : ℕ
  kind₁ = form_kind (form_of file) 1

  abbrev file₂ : List ℕ
  file₂ = short_record kind₁ (list_head (body_at file 0)) ++ rest₂

  written : as_lists file ≡ file₂
  unfolding as_lists start_of
  written = append_assoc (short_record kind₁ (list_head (body_at file 0))) (joined (tabulate h.institutes (λ j. short_record 7 (body₂ j)))) kept

  head₂ : head_of file₂ ≡ h₂
  head₂ = ap₂ head_in (form_short (form_of file) (list_head (body_at file 0)) rest₂) (short_body kind₁ (list_head (body_at file 0)) rest₂) ∙ head_two (form_of file) (body_at file 0) head_long

  rest_passes : verdict_from rest₂ h₂ (due_after h₂) 0 ≡ passes
  rest_passes = run_passes 7 body₂ kept h₂ 2 kinds 0 h.institutes refl each kept_passes
    where
      each : (k : ℕ) → 0 ≤ k → k < 0 + h.institutes → (length_allowed h₂ 2 (length (body₂ k)) ≡ true) × (first_no (kind_questions h₂ 2 (body₂ k)) ≡ 0)
      each k l m = let found = institute_list k (omega arith) in (found.allowed_list, found.answered_list)

  file_passes : verdict_from file₂ h₂ (1 ∷ due_after h₂) 0 ≡ passes
  file_passes =
      short_passes kind₁ (list_head (body_at file 0)) rest₂ h₂ 1 (due_after h₂) refl
      (eq-eqb (length (list_head (body_at file 0))) 8 (length_head (form_of file) (body_at file 0) head_long))
      (head_answered (form_of file) (body_at file 0) head_long head_read.body_yes) rest_passes

  -- the file with its steps written as lists passes
  pub lists_pass : verdict (as_lists file) ≡ passes
  unfolding verdict verdict_from
  lists_pass = ap verdict written ∙ (ap (λ (H : Head). verdict_from file₂ H (1 ∷ due_after H) 0) head₂ ∙ file_passes)

  -- it has the form and the head of the file, but policy 2
  pub lists_form : form_of (as_lists file) ≡ form_of file
  lists_form = ap form_of written ∙ form_short (form_of file) (list_head (body_at file 0)) rest₂

  pub lists_head : head_of (as_lists file) ≡ with_policy 2 (head_of file)
  lists_head = ap head_of written ∙ head₂

  -- the bodies of its candidates and merit lists are those of the file, and those of its institutes the lists
  body_after : (k : ℕ) → body_of (as_lists file) (1 + k) ≡ body_of rest₂ k
  body_after k =
      let e : 1 + k ≡ suc k = omega arith in
      ap₂ body_of written e ∙ short_then kind₁ (list_head (body_at file 0)) rest₂ k

  same_body : (k : ℕ) → body_of (as_lists file) (1 + (h.institutes + k)) ≡ body_of file (1 + (h.institutes + k))
  same_body k = body_after (h.institutes + k) ∙ (run_then 7 body₂ kept 0 h.institutes k ∙ sym (kept_records k))

  list_body_lem : (j : ℕ) → j < h.institutes → body_of (as_lists file) (1 + j) ≡ body₂ j
  list_body_lem j l =
      let e : 0 + j ≡ j = omega arith in
      body_after j ∙ (run_body 7 body₂ kept 0 h.institutes j l ∙ ap body₂ e)

  -- it means the candidates of the file
  pub lists_candidates : (round_of (as_lists file)).candidates ≡ (round_of file).candidates
  unfolding round_of
  lists_candidates =
      ap (λ (H : Head). tabulate H.candidates (λ i. candidate_in H.form (body_of (as_lists file) (candidate_record H i)))) lists_head
      ∙ tabulate_same h.candidates _ _ (λ i l. ap (candidate_in h.form) (same_body i))

  -- it means the institutes of the file
  pub lists_institutes : (round_of (as_lists file)).institutes ≡ (round_of file).institutes
  unfolding round_of institute_from
  lists_institutes =
      ap (λ (H : Head). tabulate H.institutes (λ j. institute_from H (body_of (as_lists file) (institute_record H j)) (body_of (as_lists file) (merit_record H j)))) lists_head
      ∙ tabulate_same h.institutes _ _ same
    where
      same : (j : ℕ) → j < h.institutes
          → institute_from h₂ (body_of (as_lists file) (institute_record h j)) (body_of (as_lists file) (merit_record h j))
          ≡ institute_from h (body_of file (institute_record h j)) (body_of file (merit_record h j))
      same j l =
          let steps : steps_in h₂ (body_of (as_lists file) (institute_record h j)) ≡ steps_in h (body_of file (institute_record h j)) =
          ap (steps_in h₂) (list_body_lem j l) ∙ (institute_list j l).steps_list in
          let list : body_of (as_lists file) (merit_record h j) ≡ body_of file (merit_record h j) = same_body (h.candidates + j) in
          λ i. record { steps = steps i; merit = tabulate (merit_count (list i)) (merit_in (list i)) }

  -- it has bytes where the file has
  pub lists_bytes : Bytes file → Bytes (as_lists file)
  lists_bytes b =
      rw written
      (bytes_append (short_record kind₁ (list_head (body_at file 0))) rest₂ front
      (bytes_append (joined (tabulate h.institutes (λ j. short_record 7 (body₂ j)))) kept (bytes_joined 0 h.institutes (λ j. short_record 7 (body₂ j)) lists) (bytes_drop from file b)))
    where
      few : h.types ≤ 8
      few = leb-true h.types 8 (fifth_types (form_of file) (body_at file 0) head_long head_read.body_yes)

      body_bytes : (start : ℕ) → Bytes (body_at file start)
      body_bytes start = bytes_take (length_at file start) (drop (start + 4) file) (bytes_drop (start + 4) file b)

      front : Bytes (short_record kind₁ (list_head (body_at file 0)))
      front =
          bytes_short kind₁ (list_head (body_at file 0)) (kind_few (form_of file)) (omega (arith, length_head (form_of file) (body_at file 0) head_long))
          (bytes_append (take 6 (body_at file 0)) (2 ∷ 0 ∷ []) (bytes_take 6 (body_at file 0) (body_bytes 0)) (bytes_more 2 (0 ∷ []) (omega arith) (bytes_more 0 [] (omega arith) bytes_none)))

      lists : (j : ℕ) → j < 0 + h.institutes → Bytes (short_record 7 (body₂ j))
      lists j l =
          bytes_short 7 (body₂ j) (omega arith) (list_short h (length (body₂ j)) few (institute_list j (omega arith)).allowed_list)
          (bytes_list h policy-few (body_of file (institute_record h j)) (body_bytes (start_of file (institute_record h j))))
