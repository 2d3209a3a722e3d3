-- A file with another row for a candidate, as long as the one it has (document 02, Point 8).
use Rattle.std.specs.Prelude.{ℕ, ◌+◌, List}
use Rattle.std.proofs.lemmas.List.Edits.{sets}
use Rattle.questions.specs.Records.{head_of, start_of, candidate_record}

-- the file with other bytes in place of those of candidate i's row, which stand behind four lead bytes, code and marks
unfoldable pub replaced : List ℕ → ℕ → List ℕ → List ℕ
replaced file i row = sets file (start_of file (candidate_record (head_of file) i) + 6) row
