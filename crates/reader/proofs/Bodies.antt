-- What the bytes of the file and of the new row have of the opened round.
use Prim.Native.Nat.{ℕ, ◌+◌, ◌-◌, ◌<◌, ◌≤◌}
use mathlib.Core.Path.{◌≡◌, refl, sym, ap, ap₂, ◌∙◌}
use mathlib.Core.Bool.{Bool, true, false}
use mathlib.Core.List.{List}
use Rattle.std.specs.Prelude.{Result, Ok}
use native.Mathlib.Omega.{arith}
use mir.Syntax.{w8}
use mir.Val.{Fits}
use lib.ListN.{length, get_or, take, drop}
use Rattle.questions.specs.declared.head.Head.{Head as CodeHead}
use Rattle.questions.specs.declared.form.Form.{Form}
use Rattle.reader.specs.declared.change.Change.{Change}
use Rattle.round.specs.declared.entry.Category.{Category}
use Rattle.round.specs.declared.entry.Entry.{Entry}
use Rattle.round.specs.Category.{category_of}
use Rattle.questions.specs.Form.{institutes_most}
use Rattle.lists.specs.Lists.{tabulate}
use Rattle.questions.specs.Records.{Head, form_of, head_of, length_at, start_of, body_of, own_steps, due_after, candidate_record, behind_head}
use Rattle.questions.specs.Steps.{step_count, step_code}
use Rattle.questions.specs.Questions.{entry_count, merit_count, merit_in}
use Rattle.questions.specs.Refusal.{passes, verdict}
use Rattle.round.specs.Round.{StepRule, Candidate, Institute, Round}
use Rattle.questions.specs.Reading.{steps_in, entry_in, row_in, candidate_in, institute_from, round_of}
use Rattle.round.specs.Places.{candidate_at, institute_at, merit_at, step_at, step_numbers, no_entry, no_step}
use Rattle.round.specs.Sound.{Sound}
use Rattle.questions.specs.Read.{as_head, InRange}
use Rattle.reader.specs.declared.change.Change.TheVariants.{Nothing}
use Rattle.reader.specs.declared.refusal.Refusal.{Refusal}
use Rattle.reader.specs.Outcome.{verdict_of, Starts, RoundRead}
use Rattle.reader.specs.Opened.{opened_round, replaces, stood, OpenedFile}
use Rattle.reader.specs.Access.{StepsRead}
use Rattle.lists.proofs.Words.{rest_whole, length_tabulate, tabulate_at}
use Rattle.questions.proofs.Passed.{passed}
use Rattle.questions.proofs.Answers as answers
use Rattle.reader.proofs.Sound.{row_length, listed_length, listed_category, numbered_category, candidate_at_lem, institute_at_lem, listed_round, length_candidates, length_institutes, head_fits, sound}
use Rattle.reader.proofs.Changed as changed

-- the bytes of a candidate's row
abbrev pub RowRead : Round → Form → ℕ → List ℕ → Type 0
RowRead r form i bytes = row_in form bytes ≡ (candidate_at r i).row

-- the record behind the head with a number, from 0
module _ {file starts : List ℕ} {k : ℕ} (accepted : verdict file ≡ passes) (table : Starts file starts) (below : k < behind_head (head_of file)) where
  lead : answers.LeadYes file (head_of file) (get_or (due_after (head_of file)) k 0) (start_of file (1 + k))
  lead = answers.lead_yes file (head_of file) (get_or (due_after (head_of file)) k 0) (start_of file (1 + k)) ((passed file accepted).record_yes k below)

  module _ {at : ℕ} (read : at ≡ get_or starts k 0) where
    starts_there : at ≡ start_of file (1 + k)
    starts_there = read ∙ table.starts_at k below

    pub body_there : at + 4 + length_at file at ≤ length file
    body_there = rw starts_there lead.body_there

module _ {file : List ℕ} {h : CodeHead} {change : Change} {row starts : List ℕ} (hand : OpenedFile file h change row starts) where
  candidates_same : h.candidates ≡ (head_of file).candidates
  candidates_same = ap (λ (h : Head). h.candidates) hand.head

  institutes_same : h.institutes ≡ (head_of file).institutes
  institutes_same = ap (λ (h : Head). h.institutes) hand.head

  form_same : h.form ≡ form_of file
  form_same = ap (λ (h : Head). h.form) hand.head

  -- as many candidates and institutes as the file
  pub opened_candidates : length (opened_round file change row).candidates ≡ h.candidates
  unfolding opened_round
  opened_candidates = changed.candidates_kept (form_of file) row (round_of file) change ∙ length_candidates file ∙ sym candidates_same

  pub opened_institutes : length (opened_round file change row).institutes ≡ h.institutes
  unfolding opened_round
  opened_institutes = changed.institutes_kept (form_of file) row (round_of file) change ∙ length_institutes file ∙ sym institutes_same

  pub opened_sound : Sound h.types (opened_round file change row)
  unfolding opened_round
  opened_sound =
      rw (ap (λ (h : Head). h.types) hand.head)
      (changed.sound_changed (form_of file) row (round_of file) change hand.lawful (sound file hand.accepted))

  pub opened_listed : (opened_round file change row).steps_listed ≡ own_steps (as_head h)
  unfolding opened_round
  opened_listed =
      changed.listed_kept (form_of file) row (round_of file) change ∙ listed_round file ∙ sym (ap (λ (h : Head). own_steps h) hand.head)

  -- no more institutes than a file of the form may have
  pub institutes_fit : h.institutes ≤ institutes_most h.form
  institutes_fit =
      let range : InRange (as_head h) = rw hand.head (head_fits file (passed file hand.accepted)) in
      range.institutes_most_is

  -- the records of a candidate, an institute and a merit list
  module _ {i : ℕ} (inside : i < h.candidates) where
    below : i < (head_of file).candidates
    below = omega (arith, candidates_same)

    module _ {body : List ℕ} (read : body ≡ body_of file (1 + (h.institutes + i))) where
      is_body : body ≡ body_of file (candidate_record (head_of file) i)
      is_body = read ∙ ap (λ (m : ℕ). body_of file (1 + (m + i))) institutes_same

      is_candidate : candidate_in (form_of file) body ≡ candidate_at (round_of file) i
      is_candidate = ap (candidate_in (form_of file)) is_body ∙ sym (candidate_at_lem file i below)

      pub body_long : 2 ≤ length body
      body_long =
          let l = answers.lead_yes file (head_of file) 3 (start_of file (candidate_record (head_of file) i)) ((passed file hand.accepted).candidate_yes i below) in
          omega (arith, ap length is_body, l.body_length, (answers.length_candidate (head_of file) (length_at file (start_of file (candidate_record (head_of file) i))) l.allowed).least)

      pub marks_read : get_or body 1 0 ≡ (candidate_at (opened_round file change row) i).marks
      unfolding opened_round candidate_in
      marks_read =
          ap (λ (c : Candidate). c.marks) is_candidate ∙ sym (changed.marks_kept (form_of file) row (round_of file) change i hand.lawful)

      pub row_in_body : {b : Bool} → b ≡ replaces change i → b ≡ false → RowRead (opened_round file change row) h.form i (take (length body - 2) (drop 2 body))
      unfolding opened_round candidate_in
      row_in_body e f =
          ap₂ row_in form_same (rest_whole body)
          ∙ ap (λ (c : Candidate). c.row) is_candidate
          ∙ sym (changed.row_kept (form_of file) row (round_of file) change i (sym e ∙ f))

    pub row_instead : {b : Bool} → b ≡ replaces change i → b ≡ true → RowRead (opened_round file change row) h.form i row
    unfolding opened_round
    row_instead e f =
        ap (λ (form : Form). row_in form row) form_same ∙ sym (changed.row_changed (form_of file) row (round_of file) change i hand.lawful (sym e ∙ f))

  module _ {j : ℕ} (inside : j < h.institutes) where
    listed : j < (head_of file).institutes
    listed = omega (arith, institutes_same)

    -- a merit list's body
    module _ {body : List ℕ} (read : body ≡ body_of file (1 + (h.institutes + (h.candidates + j)))) where
      is_list : tabulate (merit_count body) (merit_in body) ≡ (institute_at (round_of file) j).merit
      unfolding institute_from
      is_list =
          ap (λ (b : List ℕ). tabulate (merit_count b) (merit_in b)) (read ∙ ap₂ (λ (m n : ℕ). body_of file (1 + (m + (n + j)))) institutes_same candidates_same)
          ∙ sym (ap (λ (o : Institute). o.merit) (institute_at_lem file j listed))

      list_many : length (institute_at (round_of file) j).merit ≡ merit_count body
      list_many = sym (ap length is_list) ∙ length_tabulate 0 (merit_count body) (merit_in body)

      pub list_length : length (institute_at (opened_round file change row) j).merit ≡ merit_count body
      unfolding opened_round
      list_length = changed.merit_length_kept (form_of file) row (round_of file) change hand.lawful j ∙ list_many

      module _ {p : ℕ} (within : p < length (institute_at (opened_round file change row) j).merit) {q : ℕ} (stands : q ≡ stood change j p) where
        place_inside : p < length (institute_at (round_of file) j).merit
        place_inside = omega (arith, list_length, list_many)

        stood_inside : q < length (institute_at (round_of file) j).merit
        stood_inside = rw stands (changed.stood_inside (form_of file) row (round_of file) change hand.lawful j p place_inside)

        pub list_inside : q < merit_count body
        list_inside = omega (arith, list_many, stood_inside)

        pub list_place : {number : ℕ} → number ≡ merit_in body q → number ≡ merit_at (institute_at (opened_round file change row) j) p
        unfolding opened_round
        list_place e =
            e
            ∙ sym (tabulate_at (merit_count body) (merit_in body) 0 q list_inside)
            ∙ ap (λ (s : List ℕ). get_or s q 0) is_list
            ∙ ap (merit_at (institute_at (round_of file) j)) stands
            ∙ sym (changed.merit_changed (form_of file) row (round_of file) change hand.lawful j p place_inside)

    -- an institute's body
    pub institute_read : {body : List ℕ} → body ≡ body_of file (1 + j) → StepsRead (opened_round file change row) h j body
    unfolding opened_round institute_from
    institute_read {body} e =
        let l = answers.lead_yes file (head_of file) 2 (start_of file (1 + j)) ((passed file hand.accepted).institute_yes j listed) in
        let long = answers.institute_body (head_of file) body (head_fits file (passed file hand.accepted)).types_most (rw (ap length e ∙ l.body_length) l.allowed) in
        record {
          steps_of =
              ap₂ (λ (h : Head) (b : List ℕ). steps_in h b) hand.head e
              ∙ sym (ap (λ (o : Institute). o.steps) (institute_at_lem file j listed))
              ∙ sym (changed.steps_kept (form_of file) row (round_of file) change hand.lawful j);
          lawful = rw hand.head (answers.steps_lawful (head_of file) body long (answers.institute_yes (head_of file) body (rw e l.body_yes)).listed);
        }

    -- the numbers of the steps, by the flag that code has found: those of the body where institutes list their own, else six
    module _ {b : Bool} (flag : b ≡ own_steps (as_head h)) where
      pub six_numbers : b ≡ false → 6 ≡ step_numbers (opened_round file change row) j
      six_numbers off = rw (opened_listed ∙ sym flag ∙ off)

      pub six_fits : {step : ℕ} → b ≡ false → step ≤ step_numbers (opened_round file change row) j → Fits w8 (step - 1)
      six_fits off m = omega (arith, six_numbers off)

      -- a step of document 01 has the category of its number
      pub six_category : {c : Category} {code step : ℕ} → b ≡ false → c ≡ category_of code → code ≡ step - 1 → 1 ≤ step → step ≤ step_numbers (opened_round file change row) j
          → c ≡ (step_at (institute_at (opened_round file change row) j) (step - 1)).category
      six_category {c} {code} {step} off e d l m =
          e ∙ ap category_of d
          ∙ sym (numbered_category (as_head h) (body_of file (1 + j)) (sym flag ∙ off) (step - 1) (omega (arith, six_numbers off)))
          ∙ ap (λ (l : List StepRule). (get_or l (step - 1) no_step).category) (institute_read refl).steps_of

      module _ {body : List ℕ} (read : StepsRead (opened_round file change row) h j body) (own : b ≡ true) where
        listed_numbers : step_numbers (opened_round file change row) j ≡ length (institute_at (opened_round file change row) j).steps
        listed_numbers = rw (opened_listed ∙ sym flag ∙ own)

        pub own_numbers : {count : ℕ} → count ≡ step_count (as_head h) body → count ≡ step_numbers (opened_round file change row) j
        own_numbers e = e ∙ sym (listed_length (as_head h) body (sym flag ∙ own)) ∙ ap length read.steps_of ∙ sym listed_numbers

        pub own_inside : {step : ℕ} → 1 ≤ step → step ≤ step_numbers (opened_round file change row) j → step - 1 < step_count (as_head h) body
        own_inside l m = omega (arith, own_numbers {count = step_count (as_head h) body} refl)

        -- a listed step has the category of its code
        pub own_category : {c : Category} {code step : ℕ} → c ≡ category_of code → code ≡ step_code (as_head h) body (step - 1) → 1 ≤ step
            → step ≤ step_numbers (opened_round file change row) j → c ≡ (step_at (institute_at (opened_round file change row) j) (step - 1)).category
        own_category {c} {code} {step} e d l m =
            e ∙ ap category_of d
            ∙ sym (listed_category (as_head h) body (step - 1) (own_inside l m))
            ∙ ap (λ (l : List StepRule). (get_or l (step - 1) no_step).category) read.steps_of

-- a file that was read is at hand, unchanged
pub at_hand : {file starts : List ℕ} {got : Result CodeHead Refusal} → RoundRead file got starts → {h : CodeHead} → got ≡ Ok h → (row : List ℕ) → OpenedFile file h Nothing row starts
at_hand asked {h} told row = record {
  accepted = sym asked.answer ∙ ap verdict_of told;
  head = asked.head h told;
  table = asked.table h told;
  lawful = omega arith;
}

-- and its round is the file's
pub own_round : (file row : List ℕ) → opened_round file Nothing row ≡ round_of file
unfolding opened_round
own_round file row = refl

-- the entries of the bytes of a row
module _ (form : Form) (bytes : List ℕ) {row : List Entry} (read : row_in form bytes ≡ row) where
  row_many : length row ≡ entry_count form bytes
  row_many = sym (ap length read) ∙ row_length form bytes

  pub row_count : {count : ℕ} → count ≡ entry_count form bytes → count ≡ length row
  row_count e = e ∙ sym row_many

  pub row_inside : {k : ℕ} → k < length row → k < entry_count form bytes
  row_inside l = omega (arith, row_many)

  pub entry_read : (k : ℕ) {entry : Entry} → k < length row → entry ≡ entry_in form bytes k → entry ≡ get_or row k no_entry
  unfolding row_in
  entry_read k l e =
      e ∙ sym (tabulate_at (entry_count form bytes) (entry_in form bytes) no_entry k (row_inside l)) ∙ ap (λ (s : List Entry). get_or s k no_entry) read
