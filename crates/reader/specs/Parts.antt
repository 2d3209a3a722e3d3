-- What the reader's answers about some records stand for (document 01, "The questions, in order").
use Rattle.std.specs.Prelude.{Result, Ok, Err, ℕ, ◌+◌, ◌*◌, ◌≤◌, ◌<◌, ◌≡◌, List, ◌++◌, length, get_or, replicate}
use Rattle.questions.specs.declared.question.Question.{Question}
use Rattle.questions.specs.Numbered.{number_of, number_in}
use Rattle.reader.specs.declared.refusal.Refusal.{Refusal}
use Rattle.questions.specs.Records.{Head, start_of}
use Rattle.questions.specs.Refusal.{Verdict, refused, verdict_from}

-- by the number of the first question of a record that is answered no, 0 for none: the byte behind the record, or the question
pub record RecordFound (number end : ℕ) (r : Result ℕ Question) : Type 0 where
  pub answer : number_in r ≡ number
  pub found : (e : ℕ) → r ≡ Ok e → e ≡ end

-- the same, with the byte of a refusal
pub record RecordRead (number start end : ℕ) (r : Result ℕ Refusal) : Type 0 where
  pub refused_at : (f : Refusal) → r ≡ Err f → (number_of f.question ≡ number) × (f.offset ≡ start)
  pub found : (e : ℕ) → r ≡ Ok e → (number ≡ 0) × (e ≡ end)

-- the verdict, where what follows lawful records has one by its first byte
abbrev pub onward : Result ℕ Refusal → (ℕ → Verdict) → Verdict
onward (Ok end) rest = rest end
onward (Err f) rest = refused (number_of f.question) f.offset

-- what the records of a kind come to, so many from a byte on
pub record RunPart (file : List ℕ) (h : Head) (kind count from : ℕ) (r : Result ℕ Refusal) : Type 0 where
  -- the verdict goes on from the answer, whatever is due after these records
  pub verdict_of_is : (kinds : List ℕ) → onward r (verdict_from file h kinds) ≡ verdict_from file h (replicate count kind ++ kinds) from
  pub inside : (end : ℕ) → r ≡ Ok end → end ≤ length file
  -- where record number a starts at the byte `from`
  pub ends : (a end : ℕ) → from ≡ start_of file a → r ≡ Ok end → end ≡ start_of file (a + count)

-- a table has where each of so many records behind the head starts, one after the other
pub record StartsTo (file : List ℕ) (count : ℕ) (table : List ℕ) : Type 0 where
  pub room : count ≤ length table
  pub starts_at : (k : ℕ) → k < count → get_or table k 0 ≡ start_of file (1 + k)

-- the same, with the table of starts as it was and is: it has those of the records before these, and then of these too
pub record RunRead (file : List ℕ) (h : Head) (kind first count from : ℕ) (before : List ℕ) (r : Result ℕ Refusal) (starts : List ℕ) : Type 0 where
  pub part : RunPart file h kind count from r
  pub low : (end : ℕ) → r ≡ Ok end → end ≤ 1028 * (1 + (first + count))
  pub told : (end : ℕ) → r ≡ Ok end → from ≡ start_of file (1 + first) → StartsTo file first before → StartsTo file (first + count) starts
