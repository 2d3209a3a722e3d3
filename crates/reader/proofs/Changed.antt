-- Rounds with another row for a candidate, or with a candidate raised on a merit list: what stands at their places, and that they are sound.
use Prim.Native.Nat.{ℕ, suc, ◌+◌, ◌-◌, ◌<◌, ◌≤◌}
use mathlib.Core.Path.{◌≡◌, refl, sym, ap, ◌∙◌, subst⁻¹}
use mathlib.Core.Bool.{Bool, true, false, cond}
use mathlib.Core.List.{List}
use native.Mathlib.Omega.{arith}
use native.Mathlib.Decide.{dec_lt}
use borrow.Author.Tests.{eqb-true, eqb-false, eq-eqb, ne_eqb, le-leb, lt-leb}
use lib.Dec.{eqb}
use lib.ListN.{length, length-set}
use lib.Seq.{get_or-set_same, get_or-set_other}
use Rattle.round.specs.declared.entry.Category.{Category}
use Rattle.round.specs.declared.entry.Category.TheVariants.{Open, SC, ST, OBC, EWS}
use Rattle.round.specs.declared.entry.Entry.{Entry}
use Rattle.questions.specs.declared.form.Form.{Form}
use Rattle.reader.specs.declared.change.Change.{Change}
use Rattle.reader.specs.declared.change.Change.TheVariants.{Nothing, Row, Rise}
use Rattle.round.specs.Category.{code_of}
use Rattle.round.specs.Round.{Institute, Candidate, Round}
use Rattle.round.specs.Places.{candidate_at, institute_at, merit_at, no_candidate, no_institute}
use Rattle.questions.specs.Reading.{row_in}
use Rattle.round.specs.Sound.{SoundRow, SoundCandidate, SoundInstitute, Sound}
use Rattle.round.specs.Changed.{row_for, with_row, stood_at, raised_at, raised}
use Rattle.reader.specs.Opened.{changed, replaces, stood, Rises, LawfulChange}
use Rattle.lists.proofs.Words.{length_tabulate, tabulate_at}
use Rattle.questions.proofs.Answers
use Rattle.reader.proofs.Sound.{sound_row}
use Rattle.round.proofs.Codes.{category_code}

pub code_few : (c : Category) → code_of c ≤ 4
code_few Open = omega arith
code_few SC = omega arith
code_few ST = omega arith
code_few OBC = omega arith
code_few EWS = omega arith

-- what holds of a number by its being another or not
pub by_equal : {A : Type 0} (k i : ℕ) → (k ≡ i → A) → ((k ≡ i → ⊥) → A) → A
by_equal {A} k i here elsewhere = go (eqb k i) refl
  where
    go : (b : Bool) → eqb k i ≡ b → A
    go true e = here (eqb-true k i e)
    go false e = elsewhere (eqb-false k i e)

module _ (r : Round) (i : ℕ) (row : List Entry) where
  pub row_candidates : length (with_row r i row).candidates ≡ length r.candidates
  unfolding with_row
  row_candidates = length-set r.candidates i (row_for (candidate_at r i) row)

  pub row_institutes : (with_row r i row).institutes ≡ r.institutes
  unfolding with_row
  row_institutes = refl

  pub row_listed : (with_row r i row).steps_listed ≡ r.steps_listed
  unfolding with_row
  row_listed = refl

  pub row_here : i < length r.candidates → candidate_at (with_row r i row) i ≡ row_for (candidate_at r i) row
  unfolding with_row
  row_here l = get_or-set_same r.candidates i (row_for (candidate_at r i) row) no_candidate l

  pub row_elsewhere : (k : ℕ) → (k ≡ i → ⊥) → candidate_at (with_row r i row) k ≡ candidate_at r k
  unfolding with_row
  row_elsewhere k n = get_or-set_other r.candidates i k (row_for (candidate_at r i) row) no_candidate n

  -- what holds of the candidate with the other row, and of every other candidate
  at_candidate : (P : Candidate → Type 0) (k : ℕ) → i < length r.candidates → (k ≡ i → P (row_for (candidate_at r i) row)) → ((k ≡ i → ⊥) → P (candidate_at r k)) → P (candidate_at (with_row r i row) k)
  at_candidate P k l here elsewhere =
      by_equal k i (λ (e : k ≡ i). rw e (subst⁻¹ P (row_here l) (here e))) (λ n. subst⁻¹ P (row_elsewhere k n) (elsewhere n))

  pub sound_with_row : {types : ℕ} → Sound types r → i < length r.candidates → SoundRow (length r.institutes) (candidate_at r i).category row → Sound types (with_row r i row)
  unfolding with_row
  sound_with_row {types} s l y = record {
    types_most = s.types_most;
    candidates_least = rw row_candidates s.candidates_least;
    candidates_most = rw row_candidates s.candidates_most;
    institutes_least = s.institutes_least;
    institutes_most_is = s.institutes_most_is;
    candidate = λ k m.
        at_candidate (SoundCandidate (length r.institutes) types) k l
        (λ e. record { marks_held = (s.candidate i l).marks_held; row_sound = y })
        (λ n. s.candidate k (omega (arith, row_candidates)));
    institute = λ k m. rw row_candidates (s.institute k m);
    numbered = s.numbered;
  }

-- where the one at a place stood: at the place, if raised; one place higher, if passed; else at the same
data Standing (place by q s : ℕ) : Type 0 where
  risen : q ≡ place - by → s ≡ place → Standing place by q s
  passed : place - by < q → q ≤ place → suc s ≡ q → Standing place by q s
  kept : 1 ≤ (q - place) + (place - by - q) → s ≡ q → Standing place by q s

standing : (place by q : ℕ) → Standing place by q (stood_at place by q)
unfolding stood_at
standing place by q = elim (dec_lt q (place - by)) [
  | yes l ↦ rw (ne_eqb q (place - by) (λ e. omega arith), lt-leb (suc (place - by)) q (omega arith)) (kept (omega arith) refl)
  | no l ↦ elim (dec_lt place q) [
    | yes m ↦
        rw (ne_eqb q (place - by) (λ e. omega arith), le-leb (suc (place - by)) q (omega arith), lt-leb q place (omega arith)) (kept (omega arith) refl)
    | no m ↦
        by_equal q (place - by) (λ (e : q ≡ place - by). rw (eq-eqb q (place - by) e) (risen e refl))
        (λ n. rw (ne_eqb q (place - by) n, le-leb (suc (place - by)) q (omega arith), le-leb q place (omega arith)) (passed (omega arith) (omega arith) (omega arith)))
  ]
]

-- a place of the list
pub stood_within : (place by q : ℕ) {n : ℕ} → place < n → q < n → stood_at place by q < n
stood_within place by q {n} l m = go (standing place by q)
  where
    go : {s : ℕ} → Standing place by q s → s < n
    go (risen e f) = omega arith
    go (passed a b f) = omega arith
    go (kept a f) = omega arith

-- different places stay different
pub stood_injective : (place by p q : ℕ) → stood_at place by p ≡ stood_at place by q → p ≡ q
stood_injective place by p q same = go (standing place by p) (standing place by q) same
  where
    go : {s t : ℕ} → Standing place by p s → Standing place by q t → s ≡ t → p ≡ q
    go (risen e f) (risen g h) same = omega arith
    go (risen e f) (passed a b h) same = omega arith
    go (risen e f) (kept a h) same = omega arith
    go (passed a b f) (risen g h) same = omega arith
    go (passed a b f) (passed c d h) same = omega arith
    go (passed a b f) (kept c h) same = omega arith
    go (kept a f) (risen g h) same = omega arith
    go (kept a f) (passed c d h) same = omega arith
    go (kept a f) (kept c h) same = omega arith

-- an institute with one raised on its merit list
module _ (o : Institute) (place by : ℕ) where
  raised_length : length (raised_at o place by).merit ≡ length o.merit
  raised_length = length_tabulate 0 (length o.merit) (λ q. merit_at o (stood_at place by q))

  raised_merit : (q : ℕ) → q < length o.merit → merit_at (raised_at o place by) q ≡ merit_at o (stood_at place by q)
  raised_merit q l = tabulate_at (length o.merit) (λ q. merit_at o (stood_at place by q)) 0 q l

  raised_sound : {candidates types : ℕ} → SoundInstitute candidates types o → place < length o.merit → SoundInstitute candidates types (raised_at o place by)
  raised_sound {candidates} {types} s there =
      let inside : (q : ℕ) → q < length (raised_at o place by).merit → q < length o.merit = λ q. rw raised_length (λ l. l) in
      let before : (q : ℕ) → q < length o.merit → stood_at place by q < length o.merit = λ q l. stood_within place by q there l in
      record {
        positions_few = s.positions_few;
        steps_most = s.steps_most;
        reserved_types = s.reserved_types;
        reserved_within = s.reserved_within;
        merit_from = λ q l. rw (raised_merit q (inside q l)) (s.merit_from _ (before q (inside q l)));
        merit_to = λ q l. rw (raised_merit q (inside q l)) (s.merit_to _ (before q (inside q l)));
        merit_differs = λ p q l m e.
            let same = sym (raised_merit p (inside p l)) ∙ (e ∙ raised_merit q (inside q m)) in
            stood_injective place by p q (s.merit_differs _ _ (before p (inside p l)) (before q (inside q m)) same);
      }

module _ (r : Round) (j place by : ℕ) where
  pub rise_candidates : (raised r j place by).candidates ≡ r.candidates
  unfolding raised
  rise_candidates = refl

  pub rise_institutes : length (raised r j place by).institutes ≡ length r.institutes
  unfolding raised
  rise_institutes = length-set r.institutes j (raised_at (institute_at r j) place by)

  pub rise_listed : (raised r j place by).steps_listed ≡ r.steps_listed
  unfolding raised
  rise_listed = refl

  pub rise_here : j < length r.institutes → institute_at (raised r j place by) j ≡ raised_at (institute_at r j) place by
  unfolding raised
  rise_here l = get_or-set_same r.institutes j (raised_at (institute_at r j) place by) no_institute l

  pub rise_elsewhere : (k : ℕ) → (k ≡ j → ⊥) → institute_at (raised r j place by) k ≡ institute_at r k
  unfolding raised
  rise_elsewhere k n = get_or-set_other r.institutes j k (raised_at (institute_at r j) place by) no_institute n

  -- what holds of the institute with the rise, and of every other institute
  at_institute : (P : ℕ → Institute → Type 0) (k : ℕ) → j < length r.institutes → P j (raised_at (institute_at r j) place by) → ((k ≡ j → ⊥) → P k (institute_at r k)) → P k (institute_at (raised r j place by) k)
  at_institute P k l here elsewhere =
      by_equal k j (λ (e : k ≡ j). rw e (subst⁻¹ (P j) (rise_here l) here)) (λ n. subst⁻¹ (P k) (rise_elsewhere k n) (elsewhere n))

  pub rise_steps : j < length r.institutes → (k : ℕ) → (institute_at (raised r j place by) k).steps ≡ (institute_at r k).steps
  rise_steps l k = at_institute (λ k o. o.steps ≡ (institute_at r k).steps) k l refl (λ n. refl)

  pub rise_merit_length : j < length r.institutes → (k : ℕ) → length (institute_at (raised r j place by) k).merit ≡ length (institute_at r k).merit
  rise_merit_length l k =
      at_institute (λ k o. length o.merit ≡ length (institute_at r k).merit) k l (raised_length (institute_at r j) place by) (λ n. refl)

  pub rise_merit : j < length r.institutes → (k q : ℕ) → q < length (institute_at r k).merit
      → merit_at (institute_at (raised r j place by) k) q ≡ merit_at (institute_at r k) (cond (eqb k j) (stood_at place by q) q)
  rise_merit l k q =
      at_institute (λ k o. q < length (institute_at r k).merit → merit_at o q ≡ merit_at (institute_at r k) (cond (eqb k j) (stood_at place by q) q)) k l
      (λ m. rw (eq-eqb j j refl) (raised_merit (institute_at r j) place by q m))
      (λ n m. rw (ne_eqb k j n))

  pub sound_raised : {types : ℕ} → Sound types r → j < length r.institutes → place < length (institute_at r j).merit → Sound types (raised r j place by)
  unfolding raised
  sound_raised {types} s l there = record {
    types_most = s.types_most;
    candidates_least = s.candidates_least;
    candidates_most = s.candidates_most;
    institutes_least = rw rise_institutes s.institutes_least;
    institutes_most_is = rw rise_institutes s.institutes_most_is;
    candidate = λ i m. rw rise_institutes (s.candidate i m);
    institute = λ k m.
        at_institute (λ k. SoundInstitute (length r.candidates) types) k l
        (raised_sound (institute_at r j) place by (s.institute j l) there)
        (λ n. s.institute k (omega (arith, rise_institutes)));
    numbered = λ k m. rw (rise_steps l k) (s.numbered k (omega (arith, rise_institutes)));
  }

no_change : {A : Type 0} → false ≡ true → A
no_change {A} e = let z : ◌≡◌ {A = ℕ} 0 1 = cc in absurd (omega arith)

-- the round with a change
module _ (form : Form) (row : List ℕ) (r : Round) where
  pub candidates_kept : (c : Change) → length (changed c form row r).candidates ≡ length r.candidates
  candidates_kept Nothing = refl
  candidates_kept (Row i) = row_candidates r i (row_in form row)
  candidates_kept (Rise j place by) = ap length (rise_candidates r j place by)

  pub institutes_kept : (c : Change) → length (changed c form row r).institutes ≡ length r.institutes
  institutes_kept Nothing = refl
  institutes_kept (Row i) = ap length (row_institutes r i (row_in form row))
  institutes_kept (Rise j place by) = rise_institutes r j place by

  pub listed_kept : (c : Change) → (changed c form row r).steps_listed ≡ r.steps_listed
  listed_kept Nothing = refl
  listed_kept (Row i) = row_listed r i (row_in form row)
  listed_kept (Rise j place by) = rise_listed r j place by

  pub marks_kept : (c : Change) (i : ℕ) → LawfulChange c form row r → (candidate_at (changed c form row r) i).marks ≡ (candidate_at r i).marks
  unfolding raised
  marks_kept Nothing i w = refl
  marks_kept (Row k) i w = at_candidate r k (row_in form row) (λ c. c.marks ≡ (candidate_at r i).marks) i w.candidate (λ e. rw e) (λ n. refl)
  marks_kept (Rise j place by) i w = refl

  pub row_changed : (c : Change) (i : ℕ) → LawfulChange c form row r → replaces c i ≡ true → (candidate_at (changed c form row r) i).row ≡ row_in form row
  row_changed Nothing i w e = no_change e
  row_changed (Row k) i w e = rw (eqb-true i k e) (ap (λ (c : Candidate). c.row) (row_here r k (row_in form row) w.candidate))
  row_changed (Rise j place by) i w e = no_change e

  pub row_kept : (c : Change) (i : ℕ) → replaces c i ≡ false → (candidate_at (changed c form row r) i).row ≡ (candidate_at r i).row
  unfolding raised
  row_kept Nothing i e = refl
  row_kept (Row k) i e = ap (λ (c : Candidate). c.row) (row_elsewhere r k (row_in form row) i (eqb-false i k e))
  row_kept (Rise j place by) i e = refl

  pub steps_kept : (c : Change) → LawfulChange c form row r → (j : ℕ) → (institute_at (changed c form row r) j).steps ≡ (institute_at r j).steps
  unfolding with_row
  steps_kept Nothing w j = refl
  steps_kept (Row i) w j = refl
  steps_kept (Rise k place by) w j = rise_steps r k place by w.institute j

  pub merit_length_kept : (c : Change) → LawfulChange c form row r → (j : ℕ) → length (institute_at (changed c form row r) j).merit ≡ length (institute_at r j).merit
  unfolding with_row
  merit_length_kept Nothing w j = refl
  merit_length_kept (Row i) w j = refl
  merit_length_kept (Rise k place by) w j = rise_merit_length r k place by w.institute j

  pub merit_changed : (c : Change) → LawfulChange c form row r → (j q : ℕ) → q < length (institute_at r j).merit → merit_at (institute_at (changed c form row r) j) q ≡ merit_at (institute_at r j) (stood c j q)
  unfolding with_row
  merit_changed Nothing w j q l = refl
  merit_changed (Row i) w j q l = refl
  merit_changed (Rise k place by) w j q l = rise_merit r k place by w.institute j q l

  pub stood_inside : (c : Change) → LawfulChange c form row r → (j q : ℕ) → q < length (institute_at r j).merit → stood c j q < length (institute_at r j).merit
  stood_inside Nothing w j q l = l
  stood_inside (Row i) w j q l = l
  stood_inside (Rise k place by) w j q l =
      by_equal j k
      (λ (e : j ≡ k). rw (eq-eqb j k e) (stood_within place by q (rw e w.listed) l))
      (λ n. rw (ne_eqb j k n) l)

  pub rises : (c : Change) → LawfulChange c form row r → Rises c
  rises Nothing w = w
  rises (Row i) w = omega arith
  rises (Rise j place by) w = w.rises

  pub sound_changed : {types : ℕ} (c : Change) → LawfulChange c form row r → Sound types r → Sound types (changed c form row r)
  sound_changed Nothing w s = s
  sound_changed (Row i) w s =
      let own : Category = (candidate_at r i).category in
      let y = Answers.row_yes form (length r.institutes) (code_of own) row w.passing in
      let sound = sound_row form (length r.institutes) (code_of own) row y (code_few own) w.short in
      sound_with_row r i (row_in form row) s w.candidate (rw category_code at sound)
  sound_changed (Rise j place by) w s = sound_raised r j place by s w.institute w.listed
