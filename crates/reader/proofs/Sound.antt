-- The round of a file that is not refused is sound.
use Prim.Native.Nat.{ℕ, zero, suc, ◌+◌, ◌*◌, ◌<◌, ◌≤◌}
use mathlib.Core.Path.{◌≡◌, refl, sym, ap, ◌∙◌, subst⁻¹}
use mathlib.Core.Bool.{Bool, true, false, cond}
use mathlib.Core.Logic.{inl, inr, ⊎_elim}
use mathlib.Core.List.{List, [], ◌∷◌, ◌++◌}
use native.Mathlib.Omega.{arith}
use native.Mathlib.Decide.{dec_lt}
use lib.Dec.{eqb}
use lib.ListN.{length, get_or, replicate, length-append, length-replicate, length-drop, get_or-append}
use lib.Seq.{get_or-append-add}
use borrow.Author.Tests.{eqb-true, ne_eqb}
use Rattle.round.specs.declared.entry.Category.TheVariants.{Open}
use Rattle.round.specs.declared.entry.Entry.{Entry}
use Rattle.questions.specs.declared.form.Form.{Form}
use Rattle.round.specs.Category.{code_of, category_of}
use Rattle.questions.specs.Form.{entry_width}
use Rattle.lists.specs.Lists.{tabulate, bit, list_sum, sum_of}
use Rattle.questions.specs.Records.{Head, form_of, head_of, length_at, body_at, body_of, start_of, own_steps, institute_record, candidate_record, merit_record}
use Rattle.questions.specs.Steps.{step_count, positions_in, reserved_in, step_code}
use Rattle.questions.specs.Questions.{entry_count, institute_in, code_in, row_bytes, merit_count, merit_in}
use Rattle.questions.specs.Refusal.{passes, verdict}
use Rattle.round.specs.Round.{StepRule}
use Rattle.questions.specs.Reading.{step_in, dereserved, steps_in, entry_in, row_in, candidate_in, institute_from, round_of}
use Rattle.round.specs.Places.{candidate_at, institute_at, step_numbers, merit_at, no_entry, no_candidate, no_institute, no_step}
use Rattle.questions.specs.Read.{InRange, InstituteBody}
use Rattle.round.specs.Sound.{SoundRow, SoundCandidate, SoundInstitute, Sound}
use Rattle.questions.proofs.Steps.{five_steps, code_no}
use Rattle.lists.proofs.Words.{length_tabulate, tabulate_at, sum_tabulate}
use Rattle.questions.proofs.Forms.{institutes_few, entries_few}
use Rattle.questions.proofs.Passed.{Passed, passed}
use Rattle.questions.proofs.Answers
use Rattle.round.proofs.Codes.{code_category}

-- a number that is no code has the open category, and so has what stands beyond the fifth step
no_code : (code : ℕ) → 5 ≤ code → Open ≡ category_of code
no_code code l = rw (ne_eqb code 1 (λ e. omega arith), ne_eqb code 2 (λ e. omega arith), ne_eqb code 3 (λ e. omega arith), ne_eqb code 4 (λ e. omega arith))

bit_few : (b : Bool) → bit b ≤ 1
bit_few true = omega arith
bit_few false = omega arith

-- as many entries as the bytes of a row have
pub row_length : (form : Form) (row : List ℕ) → length (row_in form row) ≡ entry_count form row
unfolding row_in
row_length form row = length_tabulate 0 (entry_count form row) (entry_in form row)

-- the steps in a body, and behind them a sixth or none
module _ (h : Head) (body : List ℕ) where
  steps_by : Bool → List StepRule
  steps_by b = tabulate (step_count h body) (step_in h body) ++ cond b (dereserved h.types ∷ []) []

  steps_by_lem : steps_in h body ≡ steps_by (eqb h.policy 1)
  unfolding steps_in steps_by
  steps_by_lem = refl

  in_body : length (tabulate (step_count h body) (step_in h body)) ≡ step_count h body
  in_body = length_tabulate 0 (step_count h body) (step_in h body)

  steps_length : (b : Bool) → length (steps_by b) ≡ step_count h body + bit b
  unfolding steps_by
  steps_length true = omega (arith, length-append (tabulate (step_count h body) (step_in h body)) (dereserved h.types ∷ []), in_body)
  steps_length false = omega (arith, length-append (tabulate (step_count h body) (step_in h body)) [], in_body)

  step_at_lem : (b : Bool) (s : ℕ) → s < step_count h body → get_or (steps_by b) s no_step ≡ step_in h body s
  unfolding steps_by
  step_at_lem b s l =
      get_or-append (tabulate (step_count h body) (step_in h body)) _ no_step s (omega (arith, in_body))
      ∙ tabulate_at (step_count h body) (step_in h body) no_step s l

  step_behind : (b : Bool) (s : ℕ) → s ≡ step_count h body → get_or (steps_by b) s no_step ≡ cond b (dereserved h.types) no_step
  unfolding steps_by
  step_behind b s e =
      let at : s ≡ length (tabulate (step_count h body) (step_in h body)) + 0 = omega (arith, in_body) in
      ap (λ (s : ℕ). get_or (steps_by b) s no_step) at ∙ get_or-append-add (tabulate (step_count h body) (step_in h body)) (cond b (dereserved h.types ∷ []) []) 0 no_step ∙ last b
    where
      last : (b : Bool) → get_or (cond b (dereserved h.types ∷ []) []) 0 no_step ≡ cond b (dereserved h.types) no_step
      last true = refl
      last false = refl

  steps_number : length (steps_in h body) ≡ step_count h body + bit (eqb h.policy 1)
  steps_number = ap length steps_by_lem ∙ steps_length (eqb h.policy 1)

  -- where they are not listed, five, and a sixth under policy 1
  six_steps : own_steps h ≡ false → length (steps_in h body) ≤ 6
  six_steps e = omega (arith, steps_number, five_steps h body e, bit_few (eqb h.policy 1))

  -- of an institute that lists its own steps the body has them all
  pub listed_length : own_steps h ≡ true → length (steps_in h body) ≡ step_count h body
  listed_length own =
      let none : bit (eqb h.policy 1) ≡ 0 = ap (λ (p : ℕ). bit (eqb p 1)) (eqb-true h.policy 2 own) in
      omega (arith, steps_number, none)

  -- a step in the body has the category of its code
  pub listed_category : (s : ℕ) → s < step_count h body → (get_or (steps_in h body) s no_step).category ≡ category_of (step_code h body s)
  unfolding step_in
  listed_category s l = ap (λ (rule : StepRule). rule.category) (ap (λ (l : List StepRule). get_or l s no_step) steps_by_lem ∙ step_at_lem (eqb h.policy 1) s l)

  -- where the body has the steps of codes 0 to 4, a sixth has the open category, and so has what stands beyond the fifth
  behind_open : (b : Bool) → (cond b (dereserved h.types) no_step).category ≡ Open
  unfolding dereserved
  behind_open true = refl
  behind_open false = refl

  pub numbered_category : own_steps h ≡ false → (s : ℕ) → s < 6 → (get_or (steps_in h body) s no_step).category ≡ category_of s
  numbered_category own s l = elim (dec_lt s 5) [
    | yes m ↦ listed_category s (omega (arith, five_steps h body own)) ∙ ap category_of (sym (code_no h {r = false} (sym own) body s refl))
    | no m ↦
        ap (λ (l : List StepRule). (get_or l s no_step).category) steps_by_lem
        ∙ ap (λ (rule : StepRule). rule.category) (step_behind (eqb h.policy 1) s (omega (arith, five_steps h body own)))
        ∙ behind_open (eqb h.policy 1)
        ∙ no_code s (omega arith)
  ]

-- the bytes of a row, by the candidate's own code
module _ (form : Form) (institutes own : ℕ) (row : List ℕ) (y : Answers.RowYes form institutes own row) (known : own ≤ 4) where
  entry_at : (k : ℕ) → k < entry_count form row → get_or (row_in form row) k no_entry ≡ entry_in form row k
  unfolding row_in
  entry_at k l = tabulate_at (entry_count form row) (entry_in form row) no_entry k l

  code_small : (k : ℕ) → k < entry_count form row → code_in form row k ≤ 4
  code_small k l = ⊎_elim (λ (e : code_in form row k ≡ 0). omega arith) (λ (e : code_in form row k ≡ own). omega arith) (y.entry_own k l)

  same_entry_lem : (k l : ℕ) → k < entry_count form row → l < entry_count form row → entry_in form row k ≡ entry_in form row l → (institute_in form row k ≡ institute_in form row l) × (code_in form row k ≡ code_in form row l)
  unfolding entry_in
  same_entry_lem k l kl ll e = (
    ap (λ (x : Entry). x.institute) e,
    sym (code_category (code_in form row k) (code_small k kl)) ∙ (ap (λ (x : Entry). code_of x.category) e ∙ code_category (code_in form row l) (code_small l ll)),
  )

  differ : (k l : ℕ) → k < entry_count form row → l < entry_count form row → entry_in form row k ≡ entry_in form row l → k ≡ l
  differ k l kl ll e =
      let s = same_entry_lem k l kl ll e in
      let no_less : ¬ (k < l) = λ m. y.entries_differ k l m ll s.0 s.1 in
      let no_more : ¬ (l < k) = λ m. y.entries_differ l k m kl (sym s.0) (sym s.1) in
      omega arith

  pub sound_row : length row ≤ 16 * entry_width form → SoundRow institutes (category_of own) (row_in form row)
  unfolding entry_in
  sound_row short = record {
    row_short = omega (arith, row_length form row, entries_few form row short);
    entry_from = λ k l. let m : k < entry_count form row = omega (arith, row_length form row) in rw (entry_at k m) (y.entry_from k m);
    entry_to = λ k l. let m : k < entry_count form row = omega (arith, row_length form row) in rw (entry_at k m) (y.entry_to k m);
    entry_own = λ k l.
        let m : k < entry_count form row = omega (arith, row_length form row) in
        rw (entry_at k m) (⊎_elim (λ (e : code_in form row k ≡ 0). inl (ap category_of e)) (λ (e : code_in form row k ≡ own). inr (ap category_of e)) (y.entry_own k m));
    entries_differ = λ k l kl ll e.
        let m : k < entry_count form row = omega (arith, row_length form row) in
        let n : l < entry_count form row = omega (arith, row_length form row) in
        differ k l m n (sym (entry_at k m) ∙ (e ∙ entry_at l n));
  }

-- a candidate's body
module _ (form : Form) (institutes types : ℕ) (body : List ℕ) (y : Answers.CandidateYes form institutes types body) (short : length body ≤ 2 + 16 * entry_width form) where
  sound_candidate : SoundCandidate institutes types (candidate_in form body)
  unfolding candidate_in
  sound_candidate = record {
    marks_held = y.marks_held;
    row_sound = sound_row form institutes (get_or body 0 0) (row_bytes body) y.row_lawful y.own_code (omega (arith, length-drop 2 body));
  }

-- an institute's body and that of its merit list
module _ (h : Head) (body list : List ℕ) (long : InstituteBody h body) (y : Answers.InstituteYes h body) (z : Answers.MeritYes h.candidates list) where
  merit_length_lem : length (institute_from h body list).merit ≡ merit_count list
  unfolding institute_from
  merit_length_lem = length_tabulate 0 (merit_count list) (merit_in list)

  merit_at_lem : (p : ℕ) → p < merit_count list → merit_at (institute_from h body list) p ≡ merit_in list p
  unfolding institute_from
  merit_at_lem p l = tabulate_at (merit_count list) (merit_in list) 0 p l

  differs : (p q : ℕ) → p < merit_count list → q < merit_count list → merit_in list p ≡ merit_in list q → p ≡ q
  differs p q pl ql e =
      let no_less : ¬ (p < q) = λ m. z.merit_differs p q m ql e in
      let no_more : ¬ (q < p) = λ m. z.merit_differs q p m pl (sym e) in
      omega arith

  sum_none : (n : ℕ) → list_sum (replicate n 0) ≡ 0
  sum_none zero = refl
  sum_none (suc n) = omega (arith, sum_none n)

  Good : StepRule → Type 0
  Good rule = (length rule.reserved ≡ h.types) × (list_sum rule.reserved ≤ rule.own)

  good_listed : (s : ℕ) → s < step_count h body → Good (step_in h body s)
  unfolding Good step_in
  good_listed s l = (length_tabulate 0 h.types (reserved_in h body s), rw (sum_tabulate h.types (reserved_in h body s)) (y.reserved_within s l))

  good_sixth : Good (dereserved h.types)
  unfolding Good dereserved
  good_sixth = (length-replicate h.types 0, omega (arith, sum_none h.types))

  good_step : (b : Bool) (s : ℕ) → s < length (steps_by h body b) → Good (get_or (steps_by h body b) s no_step)
  good_step b s l = elim (dec_lt s (step_count h body)) [
    | yes m ↦ subst⁻¹ Good (step_at_lem h body b s m) (good_listed s m)
    | no m ↦ last b (omega (arith, steps_length h body b, bit_few b)) (omega (arith, steps_length h body b))
  ]
    where
      last : (b : Bool) → s ≡ step_count h body → s < step_count h body + bit b → Good (get_or (steps_by h body b) s no_step)
      last true e l = subst⁻¹ Good (step_behind h body true s e) good_sixth
      last false e l = absurd (omega arith)

  -- the positions of the first n steps
  first_positions : (b : Bool) (n : ℕ) → n ≤ step_count h body → sum_of n (λ s. (get_or (steps_by h body b) s no_step).own) ≡ sum_of n (positions_in h body)
  unfolding step_in
  first_positions b zero l = refl
  first_positions b (suc n) l =
      omega (arith, ap (λ (rule : StepRule). rule.own) (step_at_lem h body b n (omega arith)), first_positions b n (omega arith))

  all_positions : (b : Bool) → sum_of (length (steps_by h body b)) (λ s. (get_or (steps_by h body b) s no_step).own) ≡ sum_of (step_count h body) (positions_in h body)
  unfolding dereserved
  all_positions true =
      let more : length (steps_by h body true) ≡ suc (step_count h body) = omega (arith, steps_length h body true) in
      ap (λ (n : ℕ). sum_of n (λ s. (get_or (steps_by h body true) s no_step).own)) more
      ∙ let none = ap (λ (rule : StepRule). rule.own) (step_behind h body true (step_count h body) refl) in
      omega (arith, none, first_positions true (step_count h body) (omega arith))
  all_positions false =
      let same : length (steps_by h body false) ≡ step_count h body = omega (arith, steps_length h body false) in
      ap (λ (n : ℕ). sum_of n (λ s. (get_or (steps_by h body false) s no_step).own)) same ∙ first_positions false (step_count h body) (omega arith)

  twelve_steps : length (steps_in h body) ≤ 12
  twelve_steps = go (own_steps h) refl
    where
      go : (own : Bool) → own_steps h ≡ own → length (steps_in h body) ≤ 12
      go true e = omega (arith, listed_length h body e, long.steps_most)
      go false e = omega (arith, six_steps h body e)

  institute_steps : (institute_from h body list).steps ≡ steps_by h body (eqb h.policy 1)
  unfolding institute_from
  institute_steps = steps_by_lem h body

  sound_institute : SoundInstitute h.candidates h.types (institute_from h body list)
  unfolding Good institute_from
  sound_institute =
      let b : Bool = eqb h.policy 1 in
      record {
        positions_few = rw institute_steps (rw (all_positions b) y.positions_few);
        steps_most = twelve_steps;
        reserved_types = λ s. rw institute_steps (λ l. (good_step b s l).0);
        reserved_within = λ s. rw institute_steps (λ l. (good_step b s l).1);
        merit_from = λ p l. let m : p < merit_count list = omega (arith, merit_length_lem) in rw (merit_at_lem p m) (z.merit_from p m);
        merit_to = λ p l. let m : p < merit_count list = omega (arith, merit_length_lem) in rw (merit_at_lem p m) (z.merit_to p m);
        merit_differs = λ p q pl ql e.
            let m : p < merit_count list = omega (arith, merit_length_lem) in
            let n : q < merit_count list = omega (arith, merit_length_lem) in
            differs p q m n (sym (merit_at_lem p m) ∙ (e ∙ merit_at_lem q n));
      }

module _ (file : List ℕ) where
  pub candidate_at_lem : (i : ℕ) → i < (head_of file).candidates → candidate_at (round_of file) i ≡ candidate_in (head_of file).form (body_of file (candidate_record (head_of file) i))
  unfolding round_of
  candidate_at_lem i l = tabulate_at (head_of file).candidates (λ i. candidate_in (head_of file).form (body_of file (candidate_record (head_of file) i))) no_candidate i l

  pub institute_at_lem : (j : ℕ) → j < (head_of file).institutes
      → institute_at (round_of file) j ≡ institute_from (head_of file) (body_of file (institute_record (head_of file) j)) (body_of file (merit_record (head_of file) j))
  unfolding round_of
  institute_at_lem j l =
      tabulate_at (head_of file).institutes (λ j. institute_from (head_of file) (body_of file (institute_record (head_of file) j)) (body_of file (merit_record (head_of file) j))) no_institute j l

  pub listed_round : (round_of file).steps_listed ≡ own_steps (head_of file)
  unfolding round_of
  listed_round = refl

  pub length_candidates : length (round_of file).candidates ≡ (head_of file).candidates
  unfolding round_of
  length_candidates = length_tabulate 0 (head_of file).candidates (λ i. candidate_in (head_of file).form (body_of file (candidate_record (head_of file) i)))

  pub length_institutes : length (round_of file).institutes ≡ (head_of file).institutes
  unfolding round_of
  length_institutes =
      length_tabulate 0 (head_of file).institutes (λ j. institute_from (head_of file) (body_of file (institute_record (head_of file) j)) (body_of file (merit_record (head_of file) j)))

  module _ (p : Passed file) where
    pub head_fits : InRange (head_of file)
    head_fits = Answers.head_yes (form_of file) (body_at file 0) (Answers.lead_yes file (head_of file) 1 0 p.head_yes).body_yes

    candidate_sound : (i : ℕ) → i < (head_of file).candidates → SoundCandidate (head_of file).institutes (head_of file).types (candidate_at (round_of file) i)
    candidate_sound i l =
        let lead = Answers.lead_yes file (head_of file) 3 (start_of file (candidate_record (head_of file) i)) (p.candidate_yes i l) in
        let len : ℕ = length_at file (start_of file (candidate_record (head_of file) i)) in
        let short : len ≤ 2 + 16 * entry_width (head_of file).form = (Answers.length_candidate (head_of file) len lead.allowed).most in
        rw (candidate_at_lem i l) (sound_candidate (head_of file).form (head_of file).institutes (head_of file).types _ (Answers.candidate_yes (head_of file) _ lead.body_yes) (rw lead.body_length short))

    institute_sound : (j : ℕ) → j < (head_of file).institutes → SoundInstitute (head_of file).candidates (head_of file).types (institute_at (round_of file) j)
    institute_sound j l =
        let lead = Answers.lead_yes file (head_of file) 2 (start_of file (institute_record (head_of file) j)) (p.institute_yes j l) in
        let list = Answers.lead_yes file (head_of file) 4 (start_of file (merit_record (head_of file) j)) (p.merit_yes j l) in
        let long = Answers.institute_body (head_of file) (body_of file (institute_record (head_of file) j)) head_fits.types_most (rw lead.body_length lead.allowed) in
        rw (institute_at_lem j l) (sound_institute (head_of file) _ _ long (Answers.institute_yes (head_of file) _ lead.body_yes) (Answers.merit_yes (head_of file) _ list.body_yes))

    numbered_steps : (j : ℕ) → j < (head_of file).institutes → length (institute_at (round_of file) j).steps ≤ step_numbers (round_of file) j
    unfolding institute_from
    numbered_steps j l = go (round_of file).steps_listed refl
      where
        go : (listed : Bool) → (round_of file).steps_listed ≡ listed → length (institute_at (round_of file) j).steps ≤ cond listed (length (institute_at (round_of file) j).steps) 6
        go true e = omega arith
        go false e = rw (institute_at_lem j l) (six_steps (head_of file) _ (sym listed_round ∙ e))

-- the round of a file that is not refused is sound
pub sound : (file : List ℕ) → verdict file ≡ passes → Sound (head_of file).types (round_of file)
sound file e =
    let p = passed file e in
    let y = head_fits file p in
    record {
      types_most = y.types_most;
      candidates_least = rw (length_candidates file) y.candidates_least;
      candidates_most = rw (length_candidates file) y.candidates_most;
      institutes_least = rw (length_institutes file) y.institutes_least;
      institutes_most_is = rw (length_institutes file) (omega (arith, y.institutes_most_is, institutes_few (form_of file)));
      candidate = λ i. rw (length_candidates file, length_institutes file) (λ l. candidate_sound file p i l);
      institute = λ j. rw (length_institutes file, length_candidates file) (λ l. institute_sound file p j l);
      numbered = λ j. rw (length_institutes file) (λ l. numbered_steps file p j l);
    }
