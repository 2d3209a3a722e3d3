-- What a file that is not refused has been asked: every question of each of its records was answered yes, and the file
-- ends with the last one.
use Prim.Native.Nat.{ℕ, zero, suc, ◌+◌, ◌<◌}
use mathlib.Core.Path.{◌≡◌, refl, sym, ap, ◌∙◌}
use mathlib.Core.Bool.{Bool, true, false, cond}
use mathlib.Core.List.{List, [], ◌∷◌, ◌++◌}
use native.Mathlib.Omega.{arith}
use native.Mathlib.Nat.{add-zero}
use borrow.Author.Tests.{eqb-true, eq-eqb, ne_eqb}
use lib.Dec.{eqb}
use lib.ListN.{length, get_or, replicate, length-append, length-replicate, get_or-replicate, get_or-append}
use lib.Seq.{get_or-append-add}
use Rattle.questions.specs.Records.{Head, head_of, due_after, next_at, start_of, institute_record, candidate_record, merit_record, behind_head, record_count}
use Rattle.questions.specs.Questions.{first_no, questions_at}
use Rattle.questions.specs.Refusal.{Verdict, passes, refused, ending, verdict_from, verdict}

-- a refusal is no pass
refusal : {A : Type 0} {n at : ℕ} → refused n at ≡ passes → A
refusal {A} {n} {at} e = let z : ◌≡◌ {A = ℕ} 0 1 = cc in absurd (omega arith)

pub judged_yes : (no at : ℕ) (rest : Verdict) → cond (eqb no 0) rest (refused no at) ≡ passes → (no ≡ 0) × (rest ≡ passes)
judged_yes zero at rest e = (refl, e)
judged_yes (suc n) at rest e = refusal (rw (ne_eqb (suc n) 0 (λ z. omega arith)) at e)

pub ending_yes : (file : List ℕ) (at : ℕ) → ending file at ≡ passes → at ≡ length file
ending_yes file at e = go (eqb at (length file)) refl
  where
    go : (b : Bool) → eqb at (length file) ≡ b → at ≡ length file
    go true q = eqb-true at (length file) q
    go false q = refusal (rw q at e)

-- the first of some questions was answered yes, and so were the rest
pub yes : (n : ℕ) (b : Bool) (rest : ℕ) → cond b rest (suc n) ≡ 0 → (b ≡ true) × (rest ≡ 0)
yes n true rest e = (refl, e)
yes n false rest e = absurd (omega arith)

module _ (file : List ℕ) where
  -- the records from number a on
  pub walked : (h : Head) (kinds : List ℕ) (a : ℕ) → verdict_from file h kinds (start_of file a) ≡ passes
      → (k : ℕ) → k < length kinds → first_no (questions_at file h (get_or kinds k 0) (start_of file (a + k))) ≡ 0
  unfolding verdict_from start_of
  walked h [] a e k l = absurd (omega arith)
  walked h (kind ∷ kinds) a e zero l =
      rw add-zero (judged_yes (first_no (questions_at file h kind (start_of file a))) _ _ e).0
  walked h (kind ∷ kinds) a e (suc k) l =
      let q : a + suc k ≡ suc a + k = omega arith in
      rw q (walked h kinds (suc a) (judged_yes (first_no (questions_at file h kind (start_of file a))) _ _ e).1 k (omega arith))

  pub ended : (h : Head) (kinds : List ℕ) (a : ℕ) → verdict_from file h kinds (start_of file a) ≡ passes → start_of file (a + length kinds) ≡ length file
  unfolding verdict_from start_of
  ended h [] a e = rw add-zero (ending_yes file (start_of file a) e)
  ended h (kind ∷ kinds) a e =
      let q : a + suc (length kinds) ≡ suc a + length kinds = omega arith in
      rw q (ended h kinds (suc a) (judged_yes (first_no (questions_at file h kind (start_of file a))) _ _ e).1)

  -- records of which all that holds pass
  pub walks : (h : Head) (kinds : List ℕ) (a : ℕ)
      → ((k : ℕ) → k < length kinds → first_no (questions_at file h (get_or kinds k 0) (start_of file (a + k))) ≡ 0)
      → start_of file (a + length kinds) ≡ length file → verdict_from file h kinds (start_of file a) ≡ passes
  unfolding verdict_from start_of
  walks h [] a each ends = rw (eq-eqb (start_of file a) (length file) (rw add-zero at ends))
  walks h (kind ∷ kinds) a each ends =
      let e : (k : ℕ) → a + suc k ≡ suc a + k = λ k. omega arith in
      rw (rw add-zero at (each 0 (omega arith))) (walks h kinds (suc a) (λ k l. rw (e k) at (each (suc k) (omega arith))) (rw (e (length kinds)) at ends))

-- where the kinds that are due stand
module _ (h : Head) where
  due_institute : (j : ℕ) → j < h.institutes → get_or (due_after h) j 0 ≡ 2
  due_institute j l =
      get_or-append (replicate h.institutes 2) _ 0 j (rw length-replicate l) ∙ get_or-replicate h.institutes j 2 0 l

  pub due_candidate : (i : ℕ) → i < h.candidates → get_or (due_after h) (h.institutes + i) 0 ≡ 3
  due_candidate i l =
      ap (λ (k : ℕ). get_or (due_after h) (k + i) 0) (sym (length-replicate h.institutes 2))
      ∙ (get_or-append-add (replicate h.institutes 2) _ i 0
      ∙ (get_or-append (replicate h.candidates 3) _ 0 i (rw length-replicate l) ∙ get_or-replicate h.candidates i 3 0 l))

  due_merit : (j : ℕ) → j < h.institutes → get_or (due_after h) (h.institutes + (h.candidates + j)) 0 ≡ 4
  due_merit j l =
      ap (λ (k : ℕ). get_or (due_after h) (k + (h.candidates + j)) 0) (sym (length-replicate h.institutes 2))
      ∙ (get_or-append-add (replicate h.institutes 2) _ (h.candidates + j) 0
      ∙ (ap (λ (k : ℕ). get_or (replicate h.candidates 3 ++ replicate h.institutes 4) (k + j) 0) (sym (length-replicate h.candidates 3))
      ∙ (get_or-append-add (replicate h.candidates 3) _ j 0 ∙ get_or-replicate h.institutes j 4 0 l)))

  length_due : length (due_after h) ≡ h.institutes + (h.candidates + h.institutes)
  length_due = simp (length-append, length-replicate)

-- every question of every record was answered yes
pub record Passed (file : List ℕ) : Type 0 where
  pub head_yes : first_no (questions_at file (head_of file) 1 0) ≡ 0
  pub institute_yes : (j : ℕ) → j < (head_of file).institutes → first_no (questions_at file (head_of file) 2 (start_of file (institute_record (head_of file) j))) ≡ 0
  pub candidate_yes : (i : ℕ) → i < (head_of file).candidates → first_no (questions_at file (head_of file) 3 (start_of file (candidate_record (head_of file) i))) ≡ 0
  pub merit_yes : (j : ℕ) → j < (head_of file).institutes → first_no (questions_at file (head_of file) 4 (start_of file (merit_record (head_of file) j))) ≡ 0
  -- the record with a number behind the head, from 0
  pub record_yes : (k : ℕ) → k < behind_head (head_of file) → first_no (questions_at file (head_of file) (get_or (due_after (head_of file)) k 0) (start_of file (1 + k))) ≡ 0
  pub ends : start_of file (record_count (head_of file)) ≡ length file

pub passed : (file : List ℕ) → verdict file ≡ passes → Passed file
unfolding verdict start_of
passed file e =
    let h : Head = head_of file in
    let both = judged_yes (first_no (questions_at file h 1 0)) 0 (verdict_from file h (due_after h) (next_at file 0)) e in
    let at : (k : ℕ) → k < length (due_after h) → first_no (questions_at file h (get_or (due_after h) k 0) (start_of file (1 + k))) ≡ 0 = walked file h (due_after h) 1 both.1 in
    record {
      head_yes = both.0;
      institute_yes = λ j l. rw (due_institute h j l) at (at j (omega (arith, length_due h)));
      candidate_yes = λ i l. rw (due_candidate h i l) at (at (h.institutes + i) (omega (arith, length_due h)));
      merit_yes = λ j l. rw (due_merit h j l) at (at (h.institutes + (h.candidates + j)) (omega (arith, length_due h)));
      record_yes = λ k l. at k (omega (arith, length_due h));
      ends = rw (length_due h) at (ended file h (due_after h) 1 both.1);
    }
