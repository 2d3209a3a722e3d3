-- The record that is due at a byte, when its lead bytes and its length are as due, and what its questions come to.
use Prim.Native.Nat.{ℕ, ◌+◌, ◌-◌, ◌≤◌}
use mathlib.Core.Path.{◌≡◌, refl, sym, ap, ◌∙◌}
use mathlib.Core.Bool.{Bool, true, false, cond}
use mathlib.Core.List.{List, [], ◌∷◌, ◌++◌}
use native.Mathlib.Omega.{arith}
use Rattle.std.specs.Prelude.{Result, Ok, Err}
use borrow.Author.Tests.{leb-true}
use lib.Dec.{leb, eqb}
use lib.ListN.{length, take, drop}
use Rattle.questions.specs.declared.question.Question.{Question as Asked}
use Rattle.questions.specs.declared.question.Question.TheVariants.{Lead, Kind, Length, Body, Head as HeadAsked, Positions, Reserved, Marks, Entries, SameEntries, Places, SamePlaces, End, Areas, List as ListAsked, Input, Categories, Receivers}
use Rattle.questions.specs.Numbered.{number_of, number_in}
use Rattle.questions.specs.Records.{Head, kind_at, length_at, body_at, next_at, kind_due}
use Rattle.questions.specs.Questions.{Question, first_no, lead_questions, kind_questions, questions_at, length_allowed}
use Rattle.reader.specs.Parts.{RecordFound}
use Rattle.questions.proofs.Passed.{yes}
use Rattle.questions.proofs.Answers.{body_whole}

-- no question has the number 0
pub some_number : (asked : Asked) → number_of asked ≡ 0 → ⊥
some_number Lead e = omega arith
some_number Kind e = omega arith
some_number Length e = omega arith
some_number Body e = omega arith
some_number HeadAsked e = omega arith
some_number Positions e = omega arith
some_number Reserved e = omega arith
some_number Marks e = omega arith
some_number Entries e = omega arith
some_number SameEntries e = omega arith
some_number Places e = omega arith
some_number SamePlaces e = omega arith
some_number End e = omega arith
some_number Areas e = omega arith
some_number ListAsked e = omega arith
some_number Input e = omega arith
some_number Categories e = omega arith
some_number Receivers e = omega arith

-- a record that is found is not refused
pub refused_found : {A B E : Type 0} {end : A} {e : E} → Ok end ≡ Err e → B
refused_found e = let z : ◌≡◌ {A = ℕ} 0 1 = cc in absurd (omega arith)

-- a question answered no stays the first when more are put
first_more : (qs rs : List Question) → (first_no qs ≡ 0 → ⊥) → first_no (qs ++ rs) ≡ first_no qs
first_more [] rs n = absurd (n refl)
first_more (q ∷ qs) rs n = go q.answer (first_more qs rs) n
  where
    go : (b : Bool) → ((first_no qs ≡ 0 → ⊥) → first_no (qs ++ rs) ≡ first_no qs) → (cond b (first_no qs) q.number ≡ 0 → ⊥)
        → cond b (first_no (qs ++ rs)) q.number ≡ cond b (first_no qs) q.number
    go true ih n = ih n
    go false ih n = refl

-- questions 1 to 4 answered yes
four_yes : (a b c d : Bool) (rest : ℕ) → cond a (cond b (cond c (cond d rest 4) 3) 2) 1 ≡ 0 → (a ≡ true) × (b ≡ true) × (c ≡ true) × (d ≡ true)
four_yes a b c d rest e =
    let p = yes 0 a (cond b (cond c (cond d rest 4) 3) 2) e in
    let q = yes 1 b (cond c (cond d rest 4) 3) p.1 in
    let r = yes 2 c (cond d rest 4) q.1 in
    (p.0, q.0, r.0, (yes 3 d rest r.1).0)

module _ (file : List ℕ) (h : Head) (kind start : ℕ) where
  -- questions 1 to 4 were answered yes
  pub record Found (end : ℕ) : Type 0 where
    pub lead_yes : first_no (lead_questions file h kind start) ≡ 0
    pub there : start + 4 ≤ length file
    pub allowed : length_allowed h kind (length_at file start) ≡ true
    pub ends : end ≡ next_at file start
    pub whole : end ≤ length file

  lead_found : first_no (lead_questions file h kind start) ≡ 0 → Found (next_at file start)
  lead_found e =
      let q = four_yes (leb (start + 4) (length file)) (eqb (kind_at file start) (kind_due h kind)) (length_allowed h kind (length_at file start)) (leb (next_at file start) (length file)) 0 e in
      record { lead_yes = e; there = leb-true _ _ q.0; allowed = q.2; ends = refl; whole = leb-true _ _ q.3 }

  -- what comes after them decides
  lead_then : first_no (lead_questions file h kind start) ≡ 0
      → first_no (questions_at file h kind start) ≡ first_no (kind_questions h kind (body_at file start))
  unfolding questions_at
  lead_then e =
      let q = four_yes (leb (start + 4) (length file)) (eqb (kind_at file start) (kind_due h kind)) (length_allowed h kind (length_at file start)) (leb (next_at file start) (length file)) 0 e in
      rw (q.0, q.1, q.2, q.3)

  module _ {r : Result ℕ Asked} (got : RecordFound (first_no (lead_questions file h kind start)) (next_at file start) r) where
    pub found : {end : ℕ} → r ≡ Ok end → Found end
    found {end} e = rw (got.found end e) (lead_found (sym got.answer ∙ ap number_in e))

    pub found_inside : {end : ℕ} → r ≡ Ok end → end ≤ length file
    found_inside e = (found e).whole

    -- a refusal by the first four is one by all
    pub found_refused : {asked : Asked} → r ≡ Err asked → RecordFound (first_no (questions_at file h kind start)) (next_at file start) (Err asked)
    unfolding questions_at
    found_refused {asked} e =
        let answer : number_of asked ≡ first_no (lead_questions file h kind start) = sym (ap number_in e) ∙ got.answer in
        record {
          answer =
              answer
              ∙ sym (first_more (lead_questions file h kind start) (kind_questions h kind (body_at file start)) (λ z. some_number asked (answer ∙ z)));
          found = λ end z. refused_found (sym z);
        }

  module _ {end : ℕ} (f : Found end) where
    -- the part of the file behind the lead bytes is the body
    the_body : take (end - (start + 4)) (drop (start + 4) file) ≡ body_at file start
    the_body =
        let e : end - (start + 4) ≡ length_at file start = omega (arith, f.ends) in
        ap (λ (n : ℕ). take n (drop (start + 4) file)) e

    pub body_allowed : length_allowed h kind (length (take (end - (start + 4)) (drop (start + 4) file))) ≡ true
    body_allowed =
        ap (λ (s : List ℕ). length_allowed h kind (length s)) the_body
        ∙ (ap (length_allowed h kind) (body_whole file start (omega (arith, f.ends, f.whole))) ∙ f.allowed)

    module _ {A : Type 0} (r : Result A Asked) (e : number_in r ≡ first_no (kind_questions h kind (take (end - (start + 4)) (drop (start + 4) file)))) where
      all_number : number_in r ≡ first_no (questions_at file h kind start)
      all_number = e ∙ ap (λ (s : List ℕ). first_no (kind_questions h kind s)) the_body ∙ sym (lead_then f.lead_yes)

      pub record_found : {what : A} → r ≡ Ok what → RecordFound (first_no (questions_at file h kind start)) (next_at file start) (Ok end)
      record_found z = record { answer = sym (ap number_in z) ∙ all_number; found = λ n q. let s : n ≡ end = cc in s ∙ f.ends }

      pub record_refused : {asked : Asked} → r ≡ Err asked → RecordFound (first_no (questions_at file h kind start)) (next_at file start) (Err asked)
      record_refused z = record { answer = sym (ap number_in z) ∙ all_number; found = λ n q. refused_found (sym q) }
