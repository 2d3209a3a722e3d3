-- The longest lawful narrow file has 60,172 bytes, the longest wide one 1,299,660, and one byte more of any file decides its verdict.
use Prim.Native.Nat.{ℕ, zero, suc, ◌+◌, ◌*◌, ◌<◌, ◌≤◌}
use mathlib.Core.Path.{◌≡◌, refl, sym, ap, ap₂, ◌∙◌}
use mathlib.Core.Bool.{Bool, true, false, cond, ◌&&◌}
use mathlib.Core.List.{List, [], ◌∷◌, ◌++◌, append-nil}
use native.Mathlib.Omega.{arith}
use native.Mathlib.Nat.{mul-le-mul, mul-le-mul_right}
use borrow.Author.Tests.{leb-true, leb-false, le-leb, ne_eqb, eqb-true}
use lib.Dec.{leb, eqb}
use lib.ListN.{length, take, drop, replicate, length-take}
use lib.Seq.{get_or-take, take-take, take_all}
use Rattle.questions.specs.declared.form.Form.{Form}
use Rattle.questions.specs.declared.form.Form.TheVariants.{Narrow, Wide}
use Rattle.questions.specs.Form.{institutes_most, entry_width}
use Rattle.questions.specs.Records.{Head, form_of, head_in, head_of, due_after, kind_at, length_at, body_at, next_at, kind_due}
use Rattle.lists.specs.Numbers.{word}
use Rattle.questions.specs.Steps.{step_width}
use Rattle.questions.specs.Questions.{even, row_allowed, institute_allowed, first_no, questions_at, kind_questions, length_allowed}
use Rattle.questions.specs.Refusal.{Verdict, passes, refused, verdict_from, verdict}
use Rattle.questions.specs.Read.{InRange}
use Rattle.lists.proofs.Words.{and_fst}
use Rattle.questions.proofs.Steps.{width_most}
use Rattle.questions.proofs.Passed.{judged_yes, ending_yes}
use Rattle.questions.proofs.Answers as answers
use Rattle.reader.proofs.Rest.{head_questions_lem}

-- the bytes of the longest lawful file
abbrev pub file_most : Form → ℕ
file_most Narrow = 60172
file_most Wide = 1299660

most_least : (form : Form) → 12 ≤ file_most form
most_least Narrow = omega arith
most_least Wide = omega arith

-- the greatest body length that the table allows for a kind
abbrev most : Head → ℕ → ℕ
most h kind = cond (eqb kind 1) 8 (cond (eqb kind 2) (12 * step_width h) (cond (eqb kind 3) (2 + 16 * entry_width h.form) (2 * h.candidates)))

allowed_most : (h : Head) (kind len : ℕ) → length_allowed h kind len ≡ true → len ≤ most h kind
allowed_most h kind len = go (eqb kind 1) (eqb kind 2) (eqb kind 3)
  where
    go : (a b c : Bool)
        → cond a (eqb len 8) (cond b (institute_allowed h len) (cond c (row_allowed h.form len) (leb len (2 * h.candidates) && even len))) ≡ true
        → len ≤ cond a 8 (cond b (12 * step_width h) (cond c (2 + 16 * entry_width h.form) (2 * h.candidates)))
    go true b c e = omega (arith, eqb-true len 8 e)
    go false true c e = let fits = answers.length_institute h len e in omega (arith, fits.by_width, mul-le-mul_right (step_width h) fits.most)
    go false false true e = (answers.length_candidate h len e).most
    go false false false e = leb-true len (2 * h.candidates) (and_fst (leb len (2 * h.candidates)) (even len) e)

-- the most bytes that records of these kinds take
abbrev total : Head → List ℕ → ℕ
total h [] = 0
total h (kind ∷ kinds) = 4 + most h kind + total h kinds

total_run : (h : Head) (n kind : ℕ) (kinds : List ℕ) → total h (replicate n kind ++ kinds) ≡ n * (4 + most h kind) + total h kinds
total_run h zero kind kinds = omega arith
total_run h (suc n) kind kinds = omega (arith, total_run h n kind kinds)

-- the records after the head, and the 12 bytes of the head, by the numbers of the round and the bytes of a step
by_numbers : (form : Form) (n m w : ℕ) → n ≤ 512 → m ≤ institutes_most form → w ≤ 20
    → 12 + (m * (4 + 12 * w) + (n * (4 + (2 + 16 * entry_width form)) + m * (4 + 2 * n))) ≤ file_most form
by_numbers form n m w few some l = go form some
  where
    by_steps : 4 + 12 * w ≤ 244
    by_steps = omega arith

    by_candidates : 4 + 2 * n ≤ 1028
    by_candidates = omega arith

    go : (form : Form) → m ≤ institutes_most form
        → 12 + (m * (4 + 12 * w) + (n * (4 + (2 + 16 * entry_width form)) + m * (4 + 2 * n))) ≤ file_most form
    go Narrow some = omega (arith, mul-le-mul some by_steps, mul-le-mul some by_candidates)
    go Wide some = omega (arith, mul-le-mul some by_steps, mul-le-mul some by_candidates)

total_due : (h : Head) → InRange h → 12 + total h (due_after h) ≤ file_most h.form
total_due h y =
    let n : ℕ = h.candidates in
    let m : ℕ = h.institutes in
    let lists : total h (replicate m 4) ≡ m * (4 + 2 * n) + 0 = rw append-nil at (total_run h m 4 []) in
    omega (
      arith,
      total_run h m 2 (replicate n 3 ++ replicate m 4),
      total_run h n 3 (replicate m 4),
      lists,
      by_numbers h.form n m (step_width h) y.candidates_most y.institutes_most_is (width_most h y.types_most),
    )

module _ (file : List ℕ) where
  -- a record whose questions are answered yes is no longer than its kind allows
  next_most : (h : Head) (kind start : ℕ) → first_no (questions_at file h kind start) ≡ 0 → next_at file start ≤ start + (4 + most h kind)
  next_most h kind start e = omega (arith, allowed_most h kind (length_at file start) (answers.lead_yes file h kind start e).allowed)

  longest_from : (h : Head) (kinds : List ℕ) (start : ℕ) → verdict_from file h kinds start ≡ passes → length file ≤ start + total h kinds
  unfolding verdict_from
  longest_from h [] start e = omega (arith, ending_yes file start e)
  longest_from h (kind ∷ kinds) start e =
      let both = judged_yes (first_no (questions_at file h kind start)) start (verdict_from file h kinds (next_at file start)) e in
      omega (arith, longest_from h kinds (next_at file start) both.1, next_most h kind start both.0)

-- a file that passes is no longer than the longest of its form
pub longest : (file : List ℕ) → verdict file ≡ passes → length file ≤ file_most (form_of file)
unfolding verdict
longest file e =
    let h : Head = head_of file in
    let both = judged_yes (first_no (questions_at file h 1 0)) 0 (verdict_from file h (due_after h) (next_at file 0)) e in
    let lead = answers.lead_yes file h 1 0 both.0 in
    omega (
      arith,
      longest_from file h (due_after h) (next_at file 0) both.1,
      next_most file h 1 0 both.0,
      total_due h (answers.head_yes (form_of file) (body_at file 0) lead.body_yes),
    )

-- a part of a file that lies within its first bytes
part_take : (a n most : ℕ) (l : List ℕ) → a + n ≤ most → take n (drop a (take most l)) ≡ take n (drop a l)
part_take zero n most l h = take-take n most l (omega arith)
part_take (suc a) n zero l h = absurd (omega arith)
part_take (suc a) n (suc most) [] h = refl
part_take (suc a) n (suc most) (x ∷ l) h = part_take a n most l (omega arith)

-- the first question answered no of four and the rest
abbrev five : Bool → Bool → Bool → Bool → ℕ → ℕ
five a b c d rest = cond a (cond b (cond c (cond d rest 4) 3) 2) 1

-- a file, and its first bytes, so many that the head is among them
module _ (file : List ℕ) (cut : ℕ) (enough : 12 < cut) (long : cut ≤ length file) where
  length_cut : length (take cut file) ≡ cut
  length_cut = omega (arith, length-take cut file)

  same_word : (i : ℕ) → i + 2 ≤ cut → word (take cut file) i ≡ word file i
  same_word i l = ap₂ (λ (x y : ℕ). x + 256 * y) (get_or-take cut file i 0 (omega arith)) (get_or-take cut file (suc i) 0 (omega arith))

  module _ (h : Head) (kind start : ℕ) (room : start + (4 + most h kind) < cut) where
    same_length : length_at (take cut file) start ≡ length_at file start
    same_length = same_word start (omega arith)

    same_kind : kind_at (take cut file) start ≡ kind_at file start
    same_kind = same_word (start + 2) (omega arith)

    same_next : next_at (take cut file) start ≡ next_at file start
    same_next = ap (λ (n : ℕ). start + 4 + n) same_length

    same_body : length_at file start ≤ most h kind → body_at (take cut file) start ≡ body_at file start
    same_body l = rw same_length (part_take (start + 4) (length_at file start) cut file (omega arith))

    fourth : (len n : ℕ) → len ≤ most h kind → cut ≤ n → leb (start + 4 + len) n ≡ true
    fourth len n l m = le-leb (start + 4 + len) n (omega arith)

    -- the questions have the same answers
    same_questions : first_no (questions_at (take cut file) h kind start) ≡ first_no (questions_at file h kind start)
    unfolding questions_at
    same_questions = go (length_allowed h kind (length_at file start)) refl
      where
        first : leb (start + 4) (length (take cut file)) ≡ leb (start + 4) (length file)
        first = le-leb (start + 4) (length (take cut file)) (omega (arith, length_cut)) ∙ sym (le-leb (start + 4) (length file) (omega arith))

        second : eqb (kind_at (take cut file) start) (kind_due h kind) ≡ eqb (kind_at file start) (kind_due h kind)
        second = ap (λ (n : ℕ). eqb n (kind_due h kind)) same_kind

        third : length_allowed h kind (length_at (take cut file) start) ≡ length_allowed h kind (length_at file start)
        third = ap (length_allowed h kind) same_length

        go : (b : Bool) → length_allowed h kind (length_at file start) ≡ b
            → five (leb (start + 4) (length (take cut file))) (eqb (kind_at (take cut file) start) (kind_due h kind)) (length_allowed h kind (length_at (take cut file) start))
            (leb (next_at (take cut file) start) (length (take cut file))) (first_no (kind_questions h kind (body_at (take cut file) start)))
            ≡ five (leb (start + 4) (length file)) (eqb (kind_at file start) (kind_due h kind)) (length_allowed h kind (length_at file start))
            (leb (next_at file start) (length file)) (first_no (kind_questions h kind (body_at file start)))
        go true e =
            let l : length_at file start ≤ most h kind = allowed_most h kind (length_at file start) e in
            let l' : length_at (take cut file) start ≤ most h kind = omega (arith, same_length) in
            rw (first, second, third, same_body l, fourth (length_at (take cut file) start) (length (take cut file)) l' (omega (arith, length_cut)), fourth (length_at file start) (length file) l long)
        go false e = rw (first, second, third, e)

  -- the verdict on the rest, where each record has room
  same_from : (h : Head) (kinds : List ℕ) (start : ℕ) → start + total h kinds < cut → verdict_from (take cut file) h kinds start ≡ verdict_from file h kinds start
  unfolding verdict_from
  same_from h [] start room =
      let short : start ≡ length (take cut file) → ⊥ = λ e. omega (arith, length_cut) in
      let shorter : start ≡ length file → ⊥ = λ e. omega arith in
      rw (ne_eqb start (length (take cut file)) short, ne_eqb start (length file) shorter)
  same_from h (kind ∷ kinds) start room =
      let here : start + (4 + most h kind) < cut = omega arith in
      let q = same_questions h kind start here in
      let n = same_next h kind start here in
      rw (q, n) (go (first_no (questions_at file h kind start)) refl (λ l. same_from h kinds (next_at file start) (omega arith)))
    where
      go : (m : ℕ) → first_no (questions_at file h kind start) ≡ m
          → (next_at file start ≤ start + (4 + most h kind) → verdict_from (take cut file) h kinds (next_at file start) ≡ verdict_from file h kinds (next_at file start))
          → cond (eqb (first_no (questions_at file h kind start)) 0) (verdict_from (take cut file) h kinds (next_at file start)) (refused (first_no (questions_at file h kind start)) start)
          ≡ cond (eqb (first_no (questions_at file h kind start)) 0) (verdict_from file h kinds (next_at file start)) (refused (first_no (questions_at file h kind start)) start)
      go zero e ih = rw (ih (next_most file h kind start e))
      go (suc m) e ih = rw (ne_eqb (first_no (questions_at file h kind start)) 0 (λ z. omega arith))

  cut_form : form_of (take cut file) ≡ form_of file
  unfolding form_of
  cut_form =
      let there : leb 4 (length file) ≡ true = le-leb 4 (length file) (omega arith) in
      let kept : leb 4 (length (take cut file)) ≡ true = le-leb 4 (length (take cut file)) (omega (arith, length_cut)) in
      rw (there, kept, same_word 2 (omega arith))

  no_head : Head
  no_head = record { form = form_of file; candidates = 1; institutes = 1; types = 0; policy = 0 }

  head_same : first_no (questions_at (take cut file) (head_of (take cut file)) 1 0) ≡ first_no (questions_at file (head_of file) 1 0)
  unfolding no_head
  head_same =
      sym (ap first_no (head_questions_lem (take cut file) no_head (sym cut_form)))
      ∙ (same_questions no_head 1 0 (omega arith) ∙ ap first_no (head_questions_lem file no_head refl))

  same_long : (InRange (head_of file) → 12 + total (head_of file) (due_after (head_of file)) < cut) → verdict (take cut file) ≡ verdict file
  unfolding verdict
  same_long room = rw head_same (go (first_no (questions_at file (head_of file) 1 0)) refl)
    where
      go : (m : ℕ) → first_no (questions_at file (head_of file) 1 0) ≡ m
          → cond (eqb (first_no (questions_at file (head_of file) 1 0)) 0)
          (verdict_from (take cut file) (head_of (take cut file)) (due_after (head_of (take cut file))) (next_at (take cut file) 0))
          (refused (first_no (questions_at file (head_of file) 1 0)) 0)
          ≡ cond (eqb (first_no (questions_at file (head_of file) 1 0)) 0) (verdict_from file (head_of file) (due_after (head_of file)) (next_at file 0))
          (refused (first_no (questions_at file (head_of file) 1 0)) 0)
      go zero e =
          let lead = answers.lead_yes file (head_of file) 1 0 e in
          let eight : length_at file 0 ≤ 8 = omega (arith, answers.length_head (head_of file) (length_at file 0) lead.allowed) in
          let same : head_of (take cut file) ≡ head_of file = ap₂ head_in cut_form (same_body no_head 1 0 (omega arith) eight) in
          let fits = room (answers.head_yes (form_of file) (body_at file 0) lead.body_yes) in
          ap (λ (v : Verdict). cond (eqb (first_no (questions_at file (head_of file) 1 0)) 0) v (refused (first_no (questions_at file (head_of file) 1 0)) 0))
          (ap₂ (λ (h : Head) (n : ℕ). verdict_from (take cut file) h (due_after h) n) same (same_next no_head 1 0 (omega arith))
          ∙ same_from (head_of file) (due_after (head_of file)) (next_at file 0) (omega (arith, next_most file (head_of file) 1 0 e, fits)))
      go (suc m) e = rw (ne_eqb (first_no (questions_at file (head_of file) 1 0)) 0 (λ z. omega arith))

-- the first bytes of a file that decide its verdict: one more than the longest lawful file of its form has
pub prefix : (file : List ℕ) → verdict (take (suc (file_most (form_of file))) file) ≡ verdict file
prefix file = go (leb size (length file)) refl
  where
    size : ℕ
    size = suc (file_most (form_of file))

    go : (b : Bool) → leb size (length file) ≡ b → verdict (take size file) ≡ verdict file
    go true e =
        same_long file size (omega (arith, most_least (form_of file))) (leb-true size (length file) e)
        (λ y. omega (arith, total_due (head_of file) y))
    go false e = let short : length file ≤ size = omega (arith, leb-false size (length file) e) in ap verdict (take_all size file short)

-- the form stands in the first bytes
form_cut : (cut : ℕ) (file : List ℕ) → 12 < cut → form_of (take cut file) ≡ form_of file
form_cut cut file enough = go (leb cut (length file)) refl
  where
    go : (b : Bool) → leb cut (length file) ≡ b → form_of (take cut file) ≡ form_of file
    go true e = cut_form file cut enough (leb-true cut (length file) e)
    go false e = let short : length file ≤ cut = omega (arith, leb-false cut (length file) e) in ap form_of (take_all cut file short)

-- a file whose first bytes, as many, pass has no more
pub whole : (file : List ℕ) → verdict (take (suc (file_most (form_of file))) file) ≡ passes → take (suc (file_most (form_of file))) file ≡ file
whole file e =
    let size : ℕ = suc (file_most (form_of file)) in
    let same : file_most (form_of (take size file)) ≡ file_most (form_of file) = ap file_most (form_cut size file (omega (arith, most_least (form_of file)))) in
    let short : length file ≤ size = omega (arith, same, longest (take size file) e, length-take size file) in
    take_all size file short
