-- What the reader of a round file answers (document 01, "The questions, in order"), and the table that it fills.
use Rattle.std.specs.Prelude.{ℕ, ◌≡◌, List, Result, Ok, Err}
use Rattle.questions.specs.declared.head.Head.{Head as CodeHead}
use Rattle.questions.specs.Numbered.{number_of}
use Rattle.reader.specs.declared.refusal.Refusal.{Refusal}
use Rattle.questions.specs.Records.{Head, head_of, due_after, start_of, behind_head}
use Rattle.questions.specs.Refusal.{Verdict, passes, refused, verdict_from, verdict}
use Rattle.reader.specs.Parts.{StartsTo}
use Rattle.questions.specs.Read.{as_head}

-- the verdict that an answer stands for
abbrev pub verdict_of : Result CodeHead Refusal → Verdict
verdict_of (Ok h) = passes
verdict_of (Err f) = refused (number_of f.question) f.offset

-- where each record behind the head starts
abbrev pub Starts : List ℕ → List ℕ → Type 0
Starts file table = StartsTo file (behind_head (head_of file)) table

-- what reading the records after the head comes to, from a byte on, with the table of their starts
pub record RestRead (file : List ℕ) (h : Head) (from : ℕ) (r : Result CodeHead Refusal) (starts : List ℕ) : Type 0 where
  pub answer : verdict_of r ≡ verdict_from file h (due_after h) from
  pub head : (k : CodeHead) → r ≡ Ok k → as_head k ≡ h
  pub table : (k : CodeHead) → r ≡ Ok k → from ≡ start_of file 1 → StartsTo file (behind_head h) starts

-- what reading a file comes to, with the table. What a refusal leaves in the table is free: it is the caller's own, and a refused file has no round
pub record RoundRead (file : List ℕ) (r : Result CodeHead Refusal) (starts : List ℕ) : Type 0 where
  pub answer : verdict_of r ≡ verdict file
  pub head : (h : CodeHead) → r ≡ Ok h → as_head h ≡ head_of file
  pub table : (h : CodeHead) → r ≡ Ok h → Starts file starts
