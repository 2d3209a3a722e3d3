-- The round that a file means (document 01, "Round file"; document 02, Points 6 and 7), and the steps of each policy ("One institute chooses"). What a
-- lawful file means differs between the two forms in how an entry is read, and in nothing else.
use Rattle.std.specs.Prelude.{ℕ, cond, List, [], ◌∷◌, ◌++◌, eqb, get_or, replicate}
use Rattle.round.specs.declared.entry.Category.TheVariants.{Open}
use Rattle.round.specs.declared.entry.Entry.{Entry}
use Rattle.questions.specs.declared.form.Form.{Form}
use Rattle.round.specs.Category.{category_of}
use Rattle.lists.specs.Lists.{tabulate}
use Rattle.round.specs.Round.{StepRule, Institute, Candidate, Round}
use Rattle.questions.specs.Records.{Head, head_of, body_of, own_steps, institute_record, candidate_record, merit_record}
use Rattle.questions.specs.Steps.{step_count, positions_in, reserved_in, step_code, receiver_in}
use Rattle.questions.specs.Questions.{entry_count, institute_in, code_in, row_bytes, merit_count, merit_in}

-- step k, from 0, in an institute's body
unfoldable pub step_in : Head → List ℕ → ℕ → StepRule
step_in h body k = record {
  category = category_of (step_code h body k);
  own = positions_in h body k;
  reserved = tabulate h.types (reserved_in h body k);
  receiver = receiver_in h body k;
}

-- step 6: open entries, as many positions as it is handed, none reserved
unfoldable pub dereserved : ℕ → StepRule
dereserved types = record { category = Open; own = 0; reserved = replicate types 0; receiver = 0 }

-- the steps of an institute: those in its body, and under policy 1 step 6 behind them
unfoldable pub steps_in : Head → List ℕ → List StepRule
steps_in h body = tabulate (step_count h body) (step_in h body) ++ cond (eqb h.policy 1) (dereserved h.types ∷ []) []

-- the entry at a place of the bytes of a row, from 0
unfoldable pub entry_in : Form → List ℕ → ℕ → Entry
entry_in form row k = record { institute = institute_in form row k; category = category_of (code_in form row k) }

-- the row that bytes stand for
unfoldable pub row_in : Form → List ℕ → List Entry
row_in form row = tabulate (entry_count form row) (entry_in form row)

unfoldable pub candidate_in : Form → List ℕ → Candidate
candidate_in form body = record { category = category_of (get_or body 0 0); marks = get_or body 1 0; row = row_in form (row_bytes body) }

-- an institute, by its body and that of its merit list
unfoldable pub institute_from : Head → List ℕ → List ℕ → Institute
institute_from h body list = record {
  steps = steps_in h body;
  merit = tabulate (merit_count list) (merit_in list);
}

unfoldable pub round_of : List ℕ → Round
round_of file =
    let h : Head = head_of file in
    record {
      candidates = tabulate h.candidates (λ i. candidate_in h.form (body_of file (candidate_record h i)));
      institutes = tabulate h.institutes (λ j. institute_from h (body_of file (institute_record h j)) (body_of file (merit_record h j)));
      steps_listed = own_steps h;
    }
