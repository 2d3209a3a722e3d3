-- What stands behind some bytes of a file is read as it is read by itself; and a record that is written in front of others.
use Prim.Native.Nat.{ℕ, zero, suc, ◌+◌, ◌*◌, ◌<◌, ◌≤◌}
use mathlib.Core.Path.{◌≡◌, refl, sym, ap, ap₂, ◌∙◌}
use mathlib.Core.Bool.{Bool, true, false, cond}
use mathlib.Core.List.{List, [], ◌∷◌, ◌++◌, append_assoc}
use native.Mathlib.Omega.{arith}
use native.Mathlib.Nat.{add-zero, add-suc, add_assoc}
use borrow.Author.Tests.{leb-true, leb-false, le-leb, lt-leb, eqb-true, eqb-false, eq-eqb, ne_eqb}
use lib.Dec.{leb, eqb}
use lib.ListN.{length, get_or, take, drop, replicate, length-append}
use lib.Seq.{get_or-append-add, drop-append-add, take-append_seam}
use Rattle.lists.specs.Lists.{tabulate_from, joined}
use Rattle.questions.specs.Records.{Head, kind_at, length_at, body_at, next_at, start_of, body_of, kind_due}
use Rattle.lists.specs.Numbers.{word}
use Rattle.questions.specs.Questions.{Question, asked, first_no, length_allowed, kind_questions, questions_at}
use Rattle.questions.specs.Refusal.{Verdict, passes, refused, verdict_from}
use Rattle.reader.specs.Rewritten.{short_record}
use Rattle.questions.proofs.Passed.{judged_yes, ending_yes}

-- tests of two numbers that are both greater by a third
leb_add : (n a b : ℕ) → leb (n + a) (n + b) ≡ leb a b
leb_add n a b = go (leb a b) refl
  where
    go : (t : Bool) → leb a b ≡ t → leb (n + a) (n + b) ≡ leb a b
    go true e = le-leb (n + a) (n + b) (omega (arith, leb-true a b e)) ∙ sym e
    go false e = lt-leb (n + a) (n + b) (omega (arith, leb-false a b e)) ∙ sym e

eqb_add : (n a b : ℕ) → eqb (n + a) (n + b) ≡ eqb a b
eqb_add n a b = go (eqb a b) refl
  where
    go : (t : Bool) → eqb a b ≡ t → eqb (n + a) (n + b) ≡ eqb a b
    go true e = eq-eqb (n + a) (n + b) (omega (arith, eqb-true a b e)) ∙ sym e
    go false e = ne_eqb (n + a) (n + b) (λ q. eqb-false a b e (omega arith)) ∙ sym e

-- the verdict, with the byte of a refusal counted from further in front
moved : ℕ → Verdict → Verdict
moved n passes = passes
moved n (refused number at) = refused number (n + at)

moved_passes : (n : ℕ) (v : Verdict) → moved n v ≡ passes → v ≡ passes
unfolding moved
moved_passes n passes e = refl
moved_passes n (refused number at) e = let z : ◌≡◌ {A = ℕ} 0 1 = cc in absurd (omega arith)

moved_cond : (n : ℕ) (t : Bool) (v : Verdict) (number at : ℕ) → cond t (moved n v) (refused number (n + at)) ≡ moved n (cond t v (refused number at))
unfolding moved
moved_cond n true v number at = refl
moved_cond n false v number at = refl

-- the questions of a record by what they ask of its lead bytes, and its body
abbrev asks : Head → ℕ → Bool → ℕ → ℕ → Bool → List ℕ → List Question
asks h due led kind len inside body =
    asked 1 led ∷ asked 2 (eqb kind (kind_due h due)) ∷ asked 3 (length_allowed h due len) ∷ asked 4 inside ∷ kind_questions h due body

module _ (pre rest : List ℕ) where
  word_behind : (i : ℕ) → word (pre ++ rest) (length pre + i) ≡ word rest i
  word_behind i =
      ap₂ (λ (x y : ℕ). x + 256 * y) (get_or-append-add pre rest i 0)
      (ap (λ (n : ℕ). get_or (pre ++ rest) n 0) (sym (add-suc (length pre) i)) ∙ get_or-append-add pre rest (suc i) 0)

  kind_behind : (s : ℕ) → kind_at (pre ++ rest) (length pre + s) ≡ kind_at rest s
  kind_behind s = ap (word (pre ++ rest)) (add_assoc (length pre) s 2) ∙ word_behind (s + 2)

  next_behind : (s : ℕ) → next_at (pre ++ rest) (length pre + s) ≡ length pre + next_at rest s
  next_behind s = omega (arith, word_behind s)

  body_behind : (s : ℕ) → body_at (pre ++ rest) (length pre + s) ≡ body_at rest s
  body_behind s =
      ap₂ take (word_behind s) (ap (λ (n : ℕ). drop n (pre ++ rest)) (add_assoc (length pre) s 4) ∙ drop-append-add pre rest (s + 4))

  inside_behind : {a : ℕ} (b : ℕ) → a ≡ length pre + b → leb a (length (pre ++ rest)) ≡ leb b (length rest)
  inside_behind {a} b e = ap₂ leb e (length-append pre rest) ∙ leb_add (length pre) b (length rest)

  -- the questions of a record are those of the record behind the bytes
  questions_behind : (h : Head) (kind s : ℕ) → questions_at (pre ++ rest) h kind (length pre + s) ≡ questions_at rest h kind s
  unfolding questions_at
  questions_behind h kind s =
      λ i. asks h kind (inside_behind (s + 4) (add_assoc (length pre) s 4) i) (kind_behind s i) (word_behind s i) (inside_behind (next_at rest s) (next_behind s) i) (body_behind s i)

  -- the verdict on records is that on the records behind the bytes
  verdict_behind : (h : Head) (kinds : List ℕ) (s : ℕ) → verdict_from (pre ++ rest) h kinds (length pre + s) ≡ moved (length pre) (verdict_from rest h kinds s)
  unfolding verdict_from moved
  verdict_behind h [] s =
      rw (length-append, eqb_add (length pre) s (length rest)) (moved_cond (length pre) (eqb s (length rest)) passes 13 s)
  verdict_behind h (kind ∷ kinds) s =
      rw (questions_behind h kind s, next_behind s, verdict_behind h kinds (next_at rest s))
      (moved_cond (length pre) (eqb (first_no (questions_at rest h kind s)) 0) (verdict_from rest h kinds (next_at rest s)) (first_no (questions_at rest h kind s)) s)

  start_behind : (a : ℕ) → start_of (pre ++ rest) a ≡ length pre → (k : ℕ) → start_of (pre ++ rest) (a + k) ≡ length pre + start_of rest k
  unfolding start_of
  start_behind a e zero = ap (start_of (pre ++ rest)) (add-zero a) ∙ omega arith
  start_behind a e (suc k) =
      ap (start_of (pre ++ rest)) (add-suc a k) ∙ (ap (next_at (pre ++ rest)) (start_behind a e k) ∙ next_behind (start_of rest k))

  -- the bodies of the records from some number on are those of the file that starts there
  pub records_behind : (a : ℕ) → start_of (pre ++ rest) a ≡ length pre → (k : ℕ) → body_of (pre ++ rest) (a + k) ≡ body_of rest k
  records_behind a e k = ap (body_at (pre ++ rest)) (start_behind a e k) ∙ body_behind (start_of rest k)

  -- records pass behind the bytes where they pass by themselves, and the other way round
  pub passes_behind : (h : Head) (kinds : List ℕ) → verdict_from rest h kinds 0 ≡ passes → verdict_from (pre ++ rest) h kinds (length pre) ≡ passes
  unfolding moved
  passes_behind h kinds e =
      ap (verdict_from (pre ++ rest) h kinds) (sym (add-zero (length pre))) ∙ (verdict_behind h kinds 0 ∙ ap (moved (length pre)) e)

  pub passes_by_itself : (h : Head) (kinds : List ℕ) → verdict_from (pre ++ rest) h kinds (length pre) ≡ passes → verdict_from rest h kinds 0 ≡ passes
  passes_by_itself h kinds e =
      moved_passes (length pre) (verdict_from rest h kinds 0)
      (sym (verdict_behind h kinds 0) ∙ (ap (verdict_from (pre ++ rest) h kinds) (add-zero (length pre)) ∙ e))

-- a short record, and others behind it
module _ (kind : ℕ) (body rest : List ℕ) where
  short_length : length_at (short_record kind body ++ rest) 0 ≡ length body
  short_length = omega arith

  pub short_kind : kind_at (short_record kind body ++ rest) 0 ≡ kind
  short_kind = omega arith

  pub short_body : body_at (short_record kind body ++ rest) 0 ≡ body
  short_body = rw short_length (take-append_seam body rest)

  pub short_next : next_at (short_record kind body ++ rest) 0 ≡ length (short_record kind body)
  short_next = omega (arith, short_length)

  -- the records behind a short one are those of the rest
  pub short_then : (k : ℕ) → body_of (short_record kind body ++ rest) (suc k) ≡ body_of rest k
  unfolding start_of
  short_then k =
      let one : suc k ≡ 1 + k = omega arith in
      ap (body_of (short_record kind body ++ rest)) one ∙ records_behind (short_record kind body) rest 1 short_next k

  -- a short record of the due kind and an allowed length is asked the questions of its body
  pub short_questions : (h : Head) (due : ℕ) → kind ≡ kind_due h due → length_allowed h due (length body) ≡ true
      → first_no (questions_at (short_record kind body ++ rest) h due 0) ≡ first_no (kind_questions h due body)
  unfolding questions_at
  short_questions h due e allowed =
      let led : leb (0 + 4) (length (short_record kind body ++ rest)) ≡ true = le-leb (0 + 4) (length (short_record kind body ++ rest)) (omega arith) in
      let inside : leb (next_at (short_record kind body ++ rest) 0) (length (short_record kind body ++ rest)) ≡ true =
      le-leb (next_at (short_record kind body ++ rest) 0) (length (short_record kind body ++ rest)) (omega (arith, short_next, length-append body rest)) in
      (λ i. first_no (asks h due (led i) (short_kind i) (short_length i) (inside i) (short_body i))) ∙ rw (eq-eqb kind (kind_due h due) e, allowed)

  -- a short record whose questions are answered yes passes, and with it the rest
  pub short_passes : (h : Head) (due : ℕ) (kinds : List ℕ) → kind ≡ kind_due h due → length_allowed h due (length body) ≡ true
      → first_no (kind_questions h due body) ≡ 0 → verdict_from rest h kinds 0 ≡ passes → verdict_from (short_record kind body ++ rest) h (due ∷ kinds) 0 ≡ passes
  unfolding verdict_from
  short_passes h due kinds e allowed asked on = rw (short_questions h due e allowed, asked, short_next) (passes_behind (short_record kind body) rest h kinds on)

-- short records, one after the other, and others behind them
module _ (kind : ℕ) (f : ℕ → List ℕ) (rest : List ℕ) where
  abbrev run : ℕ → ℕ → List ℕ
  run s n = joined (tabulate_from s n (λ j. short_record kind (f j)))

  run_more : (s n : ℕ) → run s (suc n) ++ rest ≡ short_record kind (f s) ++ (run (suc s) n ++ rest)
  run_more s n = append_assoc (short_record kind (f s)) (run (suc s) n) rest

  pub run_body : (s n k : ℕ) → k < n → body_of (run s n ++ rest) k ≡ f (s + k)
  unfolding start_of
  run_body s zero k l = absurd (omega arith)
  run_body s (suc n) zero l =
      ap (λ (file : List ℕ). body_of file 0) (run_more s n) ∙ (short_body kind (f s) (run (suc s) n ++ rest) ∙ ap f (sym (add-zero s)))
  run_body s (suc n) (suc k) l =
      let e : suc s + k ≡ s + suc k = omega arith in
      ap (λ (file : List ℕ). body_of file (suc k)) (run_more s n)
      ∙ (short_then kind (f s) (run (suc s) n ++ rest) k ∙ (run_body (suc s) n k (omega arith) ∙ ap f e))

  pub run_then : (s n k : ℕ) → body_of (run s n ++ rest) (n + k) ≡ body_of rest k
  run_then s zero k = let e : 0 + k ≡ k = omega arith in rw e
  run_then s (suc n) k =
      let e : suc n + k ≡ suc (n + k) = omega arith in
      ap₂ body_of (run_more s n) e ∙ (short_then kind (f s) (run (suc s) n ++ rest) (n + k) ∙ run_then (suc s) n k)

  pub run_passes : (h : Head) (due : ℕ) (kinds : List ℕ) (s n : ℕ) → kind ≡ kind_due h due
      → ((k : ℕ) → s ≤ k → k < s + n → (length_allowed h due (length (f k)) ≡ true) × (first_no (kind_questions h due (f k)) ≡ 0))
      → verdict_from rest h kinds 0 ≡ passes → verdict_from (run s n ++ rest) h (replicate n due ++ kinds) 0 ≡ passes
  run_passes h due kinds s zero e lawful on = on
  run_passes h due kinds s (suc n) e lawful on =
      rw (run_more s n)
      (short_passes kind (f s) (run (suc s) n ++ rest) h due (replicate n due ++ kinds) e (lawful s (omega arith) (omega arith)).0 (lawful s (omega arith) (omega arith)).1
      (run_passes h due kinds (suc s) n e (λ k l m. lawful k (omega arith) (omega arith)) on))

-- where records pass from a byte on, it is in the file
pub passes_inside : (file : List ℕ) (h : Head) (kinds : List ℕ) (s : ℕ) → verdict_from file h kinds s ≡ passes → s ≤ length file
unfolding verdict_from
passes_inside file h [] s e = omega (arith, ending_yes file s e)
passes_inside file h (kind ∷ kinds) s e =
    omega (arith, passes_inside file h kinds (next_at file s) (judged_yes (first_no (questions_at file h kind s)) s (verdict_from file h kinds (next_at file s)) e).1)

-- behind some records of one kind the others pass
pub passes_after : (file : List ℕ) (h : Head) (kind : ℕ) (kinds : List ℕ) (a n : ℕ) → verdict_from file h (replicate n kind ++ kinds) (start_of file a) ≡ passes
    → verdict_from file h kinds (start_of file (a + n)) ≡ passes
unfolding verdict_from start_of
passes_after file h kind kinds a zero e = rw add-zero e
passes_after file h kind kinds a (suc n) e =
    let q : a + suc n ≡ suc a + n = omega arith in
    rw q
    (passes_after file h kind kinds (suc a) n (judged_yes (first_no (questions_at file h kind (start_of file a))) (start_of file a) (verdict_from file h (replicate n kind ++ kinds) (next_at file (start_of file a))) e).1)

-- the verdict does not turn on the head where the questions of no record do
pub other_head : (file : List ℕ) (h h' : Head) (kind : ℕ) (kinds : List ℕ) → ((s : ℕ) → questions_at file h kind s ≡ questions_at file h' kind s)
    → ((s : ℕ) → verdict_from file h kinds s ≡ verdict_from file h' kinds s)
    → (n s : ℕ) → verdict_from file h (replicate n kind ++ kinds) s ≡ verdict_from file h' (replicate n kind ++ kinds) s
unfolding verdict_from
other_head file h h' kind kinds same on zero s = on s
other_head file h h' kind kinds same on (suc n) s = rw (same s, other_head file h h' kind kinds same on n (next_at file s))
