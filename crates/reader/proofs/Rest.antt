-- What the records after the head come to, put together from the three kinds in a row; and the whole file.
use Prim.Native.Nat.{ℕ, ◌+◌, ◌-◌, ◌≤◌}
use mathlib.Core.Path.{◌≡◌, sym, ap, ap₂, ◌∙◌}
use mathlib.Core.Bool.{cond}
use mathlib.Core.List.{List, [], ◌++◌, append-nil}
use native.Mathlib.Omega.{arith}
use native.Mathlib.Nat.{zero-add}
use Rattle.std.specs.Prelude.{Result, Ok, Err}
use borrow.Author.Tests.{eq-eqb, ne_eqb}
use lib.Dec.{eqb}
use lib.ListN.{length, take, drop, replicate}
use Rattle.questions.specs.declared.head.Head.{Head as CodeHead}
use Rattle.questions.specs.declared.form.Form.{Form}
use Rattle.questions.specs.declared.question.Question.TheVariants.{End}
use Rattle.questions.specs.Numbered.{number_of}
use Rattle.questions.specs.Records.{Head, form_of, head_in, head_of, due_after, length_at, body_at, next_at, start_of}
use Rattle.questions.specs.Questions.{first_no, questions_at}
use Rattle.questions.specs.Refusal.{Verdict, passes, refused, verdict_from, verdict}
use Rattle.questions.specs.Read.{as_head, InRange}
use Rattle.reader.specs.declared.refusal.Refusal.{Refusal}
use Rattle.reader.specs.Parts.{RecordRead, onward, StartsTo, RunRead}
use Rattle.reader.specs.Outcome.{RestRead, RoundRead}
use Rattle.questions.proofs.Answers as answers
use Rattle.reader.proofs.Found.{refused_found}
use Rattle.reader.proofs.Run.{judged}

-- what goes on from a result, by the result
onward_is : {r s : Result ℕ Refusal} {v : Verdict} (rest : ℕ → Verdict) → r ≡ s → onward r rest ≡ v → onward s rest ≡ v
onward_is rest e d = ap (λ (p : Result ℕ Refusal). onward p rest) (sym e) ∙ d

module _ (file : List ℕ) (k : CodeHead) (from : ℕ) where
  lists : List ℕ
  lists = replicate k.institutes 4

  rows : List ℕ
  rows = replicate k.candidates 3 ++ lists

  rest_refused : {f : Refusal} (s : List ℕ) → refused (number_of f.question) f.offset ≡ verdict_from file (as_head k) (due_after (as_head k)) from
      → RestRead file (as_head k) from (Err f) s
  rest_refused s d = record { answer = d; head = λ j q. refused_found (sym q); table = λ j q. refused_found (sym q) }

  module _ {r₁ : Result ℕ Refusal} {s₀ s₁ : List ℕ} (R₁ : RunRead file (as_head k) 2 0 k.institutes from s₀ r₁ s₁) where
    module _ {e₁ : ℕ} (l₁ : r₁ ≡ Ok e₁) {r₂ : Result ℕ Refusal} {s₂ : List ℕ} (R₂ : RunRead file (as_head k) 3 k.institutes k.candidates e₁ s₁ r₂ s₂) where
      rows_verdict : onward r₂ (verdict_from file (as_head k) lists) ≡ verdict_from file (as_head k) (due_after (as_head k)) from
      unfolding rows lists
      rows_verdict = R₂.part.verdict_of_is lists ∙ onward_is (verdict_from file (as_head k) rows) l₁ (R₁.part.verdict_of_is rows)

      module _ {e₂ : ℕ} (l₂ : r₂ ≡ Ok e₂) {r₃ : Result ℕ Refusal} {s₃ : List ℕ} (R₃ : RunRead file (as_head k) 4 (k.institutes + k.candidates) k.institutes e₂ s₂ r₃ s₃) where
        lists_verdict : onward r₃ (verdict_from file (as_head k) []) ≡ verdict_from file (as_head k) (due_after (as_head k)) from
        unfolding lists
        lists_verdict =
            R₃.part.verdict_of_is []
            ∙ (ap (λ (s : List ℕ). verdict_from file (as_head k) s e₂) (append-nil lists) ∙ onward_is (verdict_from file (as_head k) lists) l₂ rows_verdict)

        pub lists_refused : {f : Refusal} (s : List ℕ) → r₃ ≡ Err f → RestRead file (as_head k) from (Err f) s
        lists_refused s d = rest_refused s (onward_is (verdict_from file (as_head k) []) d lists_verdict)

        module _ {e₃ : ℕ} (l₃ : r₃ ≡ Ok e₃) where
          end_verdict : cond (eqb e₃ (length file)) passes (refused 13 e₃) ≡ verdict_from file (as_head k) (due_after (as_head k)) from
          unfolding verdict_from
          end_verdict = onward_is (verdict_from file (as_head k) []) l₃ lists_verdict

          -- 13
          pub more_refused : (s : List ℕ) → (e₃ ≡ length file → ⊥) → RestRead file (as_head k) from (Err (record { question = End; offset = e₃ })) s
          more_refused s d = rest_refused s (rw (ne_eqb e₃ (length file) d) at end_verdict)

          pub rest_read : e₃ ≡ length file → RestRead file (as_head k) from (Ok k) s₃
          rest_read d = record {
            answer = rw (eq-eqb e₃ (length file) d) at end_verdict;
            head = λ j q. let s : j ≡ k = cc in ap as_head s;
            table = λ j q s.
                let first : StartsTo file k.institutes s₁ = rw zero-add at (R₁.told e₁ l₁ s none_told) in
                rw assoc at (lists_told (rows_told first (R₁.part.ends 1 e₁ s l₁)) (R₁.part.ends 1 e₁ s l₁));
          }
            where
              assoc : k.institutes + k.candidates + k.institutes ≡ k.institutes + (k.candidates + k.institutes)
              assoc = omega arith

              both : (a b : ℕ) → 1 + a + b ≡ 1 + (a + b)
              both a b = omega arith

              none_told : StartsTo file 0 s₀
              none_told = record { room = omega arith; starts_at = λ i l. absurd (omega arith) }

              rows_told : StartsTo file k.institutes s₁ → e₁ ≡ start_of file (1 + k.institutes) → StartsTo file (k.institutes + k.candidates) s₂
              rows_told t e = R₂.told e₂ l₂ e t

              lists_told : StartsTo file (k.institutes + k.candidates) s₂ → e₁ ≡ start_of file (1 + k.institutes) → StartsTo file (k.institutes + k.candidates + k.institutes) s₃
              lists_told t e = R₃.told e₃ l₃ (R₂.part.ends (1 + k.institutes) e₂ e l₂ ∙ ap (start_of file) (both k.institutes k.candidates)) t

-- the questions of the head need no more of a head than the form of the file
pub head_questions_lem : (file : List ℕ) (h : Head) → h.form ≡ form_of file → questions_at file h 1 0 ≡ questions_at file (head_of file) 1 0
unfolding questions_at
head_questions_lem file h e = rw e

module _ (file : List ℕ) {r₀ : Result ℕ Refusal} (h₀ : CodeHead) {form : Form} (f : form ≡ form_of file) (formed : h₀.form ≡ form) (got : RecordRead (first_no (questions_at file (as_head h₀) 1 0)) 0 (next_at file 0) r₀) where
  head_got : RecordRead (first_no (questions_at file (head_of file) 1 0)) 0 (next_at file 0) r₀
  head_got = rw (head_questions_lem file (as_head h₀) (formed ∙ f)) at got

  head_verdict : onward r₀ (verdict_from file (head_of file) (due_after (head_of file))) ≡ verdict file
  unfolding verdict
  head_verdict = judged (verdict_from file (head_of file) (due_after (head_of file))) head_got

  pub round_refused : {f : Refusal} (s : List ℕ) → r₀ ≡ Err f → RoundRead file (Err f) s
  round_refused s d = record {
    answer = onward_is (verdict_from file (head_of file) (due_after (head_of file))) d head_verdict;
    head = λ j q. refused_found (sym q);
    table = λ j q. refused_found (sym q);
  }

  module _ {end : ℕ} (l : r₀ ≡ Ok end) where
    head_zero : (first_no (questions_at file (head_of file) 1 0) ≡ 0) × (end ≡ next_at file 0)
    head_zero = head_got.found end l

    lead : answers.LeadYes file (head_of file) 1 0
    lead = answers.lead_yes file (head_of file) 1 0 head_zero.0

    head_length : length_at file 0 ≡ 8
    head_length = answers.length_head (head_of file) (length_at file 0) lead.allowed

    head_end : end ≡ 12
    head_end = omega (arith, head_zero.1, head_length)

    pub head_low : end ≤ 12
    head_low = omega (arith, head_end)

    pub head_inside : end ≤ length file
    head_inside = omega (arith, head_zero.1, lead.body_there)

    head_body : take (end - 4) (drop 4 file) ≡ body_at file 0
    head_body =
        let e : end - 4 ≡ length_at file 0 = omega (arith, head_end, head_length) in
        ap (λ (n : ℕ). take n (drop 4 file)) e

    pub head_room : 8 ≤ length (take (end - 4) (drop 4 file))
    head_room = rw head_body (omega (arith, lead.body_length, head_length))

    module _ {k : CodeHead} (e : as_head k ≡ head_in form (take (end - 4) (drop 4 file))) where
      same_head : as_head k ≡ head_of file
      same_head = e ∙ ap₂ head_in f head_body

      pub head_range : InRange (as_head k)
      head_range = rw same_head (answers.head_yes (form_of file) (body_at file 0) lead.body_yes)

      pub round_read : {r : Result CodeHead Refusal} {s : List ℕ} → RestRead file (as_head k) end r s → RoundRead file r s
      unfolding start_of
      round_read {r} {s} R' =
          let R : RestRead file (head_of file) end r s = rw same_head at R' in
          record {
            answer = R.answer ∙ onward_is (verdict_from file (head_of file) (due_after (head_of file))) l head_verdict;
            head = R.head;
            table = λ j q. R.table j q head_zero.1;
          }
