-- What it says of a record that its questions were answered yes, as facts.
use Prim.Native.Nat.{ℕ, ◌+◌, ◌*◌, ◌-◌, ◌/◌, ◌%◌, ◌^◌, ◌<◌, ◌≤◌}
use mathlib.Core.Path.{◌≡◌, refl, sym, ap, ◌∙◌}
use mathlib.Core.Bool.{Bool, true, false, cond, ◌&&◌, ◌||◌}
use mathlib.Core.Logic.{◌⊎◌, inl, inr, ⊎_elim}
use mathlib.Core.List.{List, []}
use native.Mathlib.Omega.{arith}
use native.Mathlib.Nat.{div-add-mod'}
use borrow.Author.Tests.{leb-true, eqb-true, eqb-false, le-leb, eq-eqb}
use lib.Dec.{leb, eqb}
use lib.ListN.{length, get_or, drop, length-take, length-drop}
use Rattle.questions.specs.declared.form.Form.{Form}
use Rattle.questions.specs.Form.{institutes_most, entry_width}
use Rattle.lists.specs.Lists.{sum_of}
use Rattle.questions.specs.Records.{Head, head_in, kind_at, length_at, body_at, own_steps, kind_due}
use Rattle.questions.specs.Steps.{step_width, step_count, positions_in, reserved_in, step_code, receiver_in}
use Rattle.lists.specs.Numbers.{within}
use Rattle.questions.specs.Questions.{institute_allowed, length_allowed, first_no, questions_at, kind_questions, head_questions, list_questions, institute_questions, row_questions, row_bytes, candidate_questions, merit_questions, entry_count, institute_in, code_in, merit_count, merit_in}
use Rattle.questions.specs.Read.{InRange, InstituteBody, LawfulSteps}
use Rattle.std.proofs.lemmas.Bool.{or_cases}
use Rattle.lists.proofs.Words.{and_fst, and_snd, and_no, all_at, apart_at}
use Rattle.questions.proofs.Passed.{yes}

pub within_from : (low high x : ℕ) → within low high x ≡ true → low ≤ x
within_from low high x e = leb-true low x (and_fst _ _ e)

pub within_to : (low high x : ℕ) → within low high x ≡ true → x ≤ high
within_to low high x e = leb-true x high (and_snd (leb low x) _ e)

-- 1 to 4
pub record LeadYes (file : List ℕ) (h : Head) (kind start : ℕ) : Type 0 where
  pub lead_there : start + 4 ≤ length file
  pub kind_due_is : kind_at file start ≡ kind_due h kind
  pub allowed : length_allowed h kind (length_at file start) ≡ true
  pub body_there : start + 4 + length_at file start ≤ length file
  pub body_length : length (body_at file start) ≡ length_at file start
  pub body_yes : first_no (kind_questions h kind (body_at file start)) ≡ 0

pub body_whole : (file : List ℕ) (start : ℕ) → start + 4 + length_at file start ≤ length file → length (body_at file start) ≡ length_at file start
body_whole file start l =
    omega (arith, length-take (length_at file start) (drop (start + 4) file), length-drop (start + 4) file)

pub lead_yes : (file : List ℕ) (h : Head) (kind start : ℕ) → first_no (questions_at file h kind start) ≡ 0 → LeadYes file h kind start
unfolding questions_at
lead_yes file h kind start e =
    let a = yes 0 _ _ e in
    let b = yes 1 _ _ a.1 in
    let c = yes 2 _ _ b.1 in
    let d = yes 3 _ _ c.1 in
    let there = leb-true _ _ d.0 in
    record {
      lead_there = leb-true _ _ a.0;
      kind_due_is = eqb-true _ _ b.0;
      allowed = c.0;
      body_there = there;
      body_length = body_whole file start there;
      body_yes = d.1;
    }

-- a record of which that holds has every question answered yes
pub yes_lead : (file : List ℕ) (h : Head) (kind start : ℕ) → LeadYes file h kind start → first_no (questions_at file h kind start) ≡ 0
unfolding questions_at
yes_lead file h kind start y =
    rw (
      le-leb (start + 4) (length file) y.lead_there,
      eq-eqb (kind_at file start) (kind_due h kind) y.kind_due_is,
      y.allowed,
      le-leb (start + 4 + length_at file start) (length file) y.body_there,
    )
    y.body_yes

-- 5
pub head_yes : (form : Form) (body : List ℕ) → first_no (head_questions form body) ≡ 0 → InRange (head_in form body)
head_yes form body e =
    let h = head_in form body in
    let a = (yes 4 _ _ e).0 in
    let b = and_snd (within 1 512 h.candidates) _ a in
    let c = and_snd (within 1 (institutes_most form) h.institutes) _ b in
    record {
      candidates_least = within_from 1 512 h.candidates (and_fst _ _ a);
      candidates_most = within_to 1 512 h.candidates (and_fst _ _ a);
      institutes_least = within_from 1 (institutes_most form) h.institutes (and_fst _ _ b);
      institutes_most_is = within_to 1 (institutes_most form) h.institutes (and_fst _ _ b);
      types_most = leb-true _ _ (and_fst _ _ c);
      policy_most = leb-true _ _ (and_snd (leb h.types 8) _ c);
    }

-- 17 and 18
pub record ListYes (h : Head) (body : List ℕ) : Type 0 where
  pub code_known : (k : ℕ) → k < step_count h body → step_code h body k ≤ 4
  pub receiver_later : (k : ℕ) → k < step_count h body
      → (receiver_in h body k ≡ 0) ⊎ ((k + 2 ≤ receiver_in h body k) × (receiver_in h body k ≤ step_count h body))

pub list_yes : (h : Head) (body : List ℕ) → first_no (list_questions h body) ≡ 0 → ListYes h body
list_yes h body e =
    let steps : ℕ = step_count h body in
    let receiver : ℕ → ℕ = receiver_in h body in
    let later : ℕ → Bool = λ k. eqb (receiver k) 0 || within (k + 2) steps (receiver k) in
    let a = yes 16 _ _ e in
    let b = yes 17 _ _ a.1 in
    record {
      code_known = λ k l. leb-true _ _ (all_at steps (λ k. leb (step_code h body k) 4) a.0 k l);
      receiver_later = λ k l.
          ⊎_elim (λ e. inl (eqb-true _ _ e)) (λ e. inr (within_from (k + 2) steps (receiver k) e, within_to (k + 2) steps (receiver k) e))
          (or_cases (eqb (receiver k) 0) _ (all_at steps later b.0 k l));
    }

-- 6 and 7, and of an institute that lists its own steps 17 and 18
pub record InstituteYes (h : Head) (body : List ℕ) : Type 0 where
  pub positions_few : sum_of (step_count h body) (positions_in h body) ≤ 1024
  pub reserved_within : (k : ℕ) → k < step_count h body → sum_of h.types (reserved_in h body k) ≤ positions_in h body k
  pub listed : own_steps h ≡ true → ListYes h body

pub institute_yes : (h : Head) (body : List ℕ) → first_no (institute_questions h body) ≡ 0 → InstituteYes h body
institute_yes h body e =
    let a = yes 5 _ _ e in
    let b = yes 6 _ _ a.1 in
    record {
      positions_few = leb-true _ _ a.0;
      reserved_within = λ k l. leb-true _ _ (all_at (step_count h body) (λ k. leb (sum_of h.types (reserved_in h body k)) (positions_in h body k)) b.0 k l);
      listed = λ own. list_yes h body (sym (ap (λ (own : Bool). first_no (cond own (list_questions h body) [])) own) ∙ b.1);
    }

-- 9 and 10
pub record RowYes (form : Form) (institutes own : ℕ) (row : List ℕ) : Type 0 where
  pub entry_from : (k : ℕ) → k < entry_count form row → 1 ≤ institute_in form row k
  pub entry_to : (k : ℕ) → k < entry_count form row → institute_in form row k ≤ institutes
  pub entry_own : (k : ℕ) → k < entry_count form row → (code_in form row k ≡ 0) ⊎ (code_in form row k ≡ own)
  pub entries_differ : (k l : ℕ) → k < l → l < entry_count form row → institute_in form row k ≡ institute_in form row l → code_in form row k ≡ code_in form row l → ⊥

pub row_yes : (form : Form) (institutes own : ℕ) (row : List ℕ) → first_no (row_questions form institutes own row) ≡ 0 → RowYes form institutes own row
row_yes form institutes own row e =
    let entries : ℕ = entry_count form row in
    let institute : ℕ → ℕ = institute_in form row in
    let code : ℕ → ℕ = code_in form row in
    let lawful : ℕ → Bool = λ k. within 1 institutes (institute k) && (eqb (code k) 0 || eqb (code k) own) in
    let same : ℕ → ℕ → Bool = λ k l. eqb (institute k) (institute l) && eqb (code k) (code l) in
    let b = yes 8 _ _ e in
    let c = yes 9 _ _ b.1 in
    let each : (k : ℕ) → k < entries → lawful k ≡ true = all_at entries lawful b.0 in
    record {
      entry_from = λ k l. within_from 1 institutes (institute k) (and_fst _ _ (each k l));
      entry_to = λ k l. within_to 1 institutes (institute k) (and_fst _ _ (each k l));
      entry_own = λ k l. ⊎_elim (λ e. inl (eqb-true _ _ e)) (λ e. inr (eqb-true _ _ e)) (or_cases (eqb (code k) 0) _ (and_snd (within 1 institutes (institute k)) _ (each k l)));
      entries_differ = λ k l kl ll i j.
          eqb-false (code k) (code l) (and_no (eqb (institute k) (institute l)) _ (apart_at entries same c.0 k l kl ll) (eq-eqb _ _ i)) j;
    }

-- 8, and those of the row
pub record CandidateYes (form : Form) (institutes types : ℕ) (body : List ℕ) : Type 0 where
  pub own_code : get_or body 0 0 ≤ 4
  pub marks_held : get_or body 1 0 < 2 ^ types
  pub row_lawful : RowYes form institutes (get_or body 0 0) (row_bytes body)

pub candidate_yes : (h : Head) (body : List ℕ) → first_no (candidate_questions h body) ≡ 0 → CandidateYes h.form h.institutes h.types body
candidate_yes h body e =
    let a = yes 7 _ _ e in
    record {
      own_code = leb-true _ _ (and_fst _ _ a.0);
      marks_held = leb-true _ _ (and_snd (leb (get_or body 0 0) 4) _ a.0);
      row_lawful = row_yes h.form h.institutes (get_or body 0 0) (row_bytes body) a.1;
    }

-- 11 and 12
pub record MeritYes (candidates : ℕ) (body : List ℕ) : Type 0 where
  pub merit_from : (p : ℕ) → p < merit_count body → 1 ≤ merit_in body p
  pub merit_to : (p : ℕ) → p < merit_count body → merit_in body p ≤ candidates
  pub merit_differs : (p q : ℕ) → p < q → q < merit_count body → merit_in body p ≡ merit_in body q → ⊥

pub merit_yes : (h : Head) (body : List ℕ) → first_no (merit_questions h body) ≡ 0 → MeritYes h.candidates body
merit_yes h body e =
    let a = yes 10 _ _ e in
    let b = yes 11 _ _ a.1 in
    let each : (p : ℕ) → p < merit_count body → within 1 h.candidates (merit_in body p) ≡ true =
    all_at (merit_count body) (λ p. within 1 h.candidates (merit_in body p)) a.0 in
    record {
      merit_from = λ p l. within_from 1 h.candidates (merit_in body p) (each p l);
      merit_to = λ p l. within_to 1 h.candidates (merit_in body p) (each p l);
      merit_differs = λ p q l m e.
          eqb-false (merit_in body p) (merit_in body q) (apart_at (merit_count body) (λ p q. eqb (merit_in body p) (merit_in body q)) b.0 p q l m) e;
    }

-- the body lengths that 3 allows
pub length_head : (h : Head) (len : ℕ) → length_allowed h 1 len ≡ true → len ≡ 8
length_head h len e = eqb-true len 8 e

-- at most 12 whole steps
pub record LengthInstitute (h : Head) (len : ℕ) : Type 0 where
  pub most : cond (own_steps h) (len / step_width h) 5 ≤ 12
  pub by_width : len ≡ cond (own_steps h) (len / step_width h) 5 * step_width h

abbrev width_by : Bool → ℕ → ℕ
width_by own types = cond own 2 0 + (2 + 2 * types)

pub length_institute : (h : Head) (len : ℕ) → institute_allowed h len ≡ true → LengthInstitute h len
length_institute h len e = let both = go (own_steps h) e in record { most = both.0; by_width = both.1 }
  where
    whole : (w : ℕ) → len % w ≡ 0 → len ≡ len / w * w
    whole w z = omega (arith, div-add-mod' len w)

    go : (own : Bool)
        → cond own (within 1 12 (len / width_by own h.types) && eqb (len % width_by own h.types) 0) (eqb len (10 + 10 * h.types)) ≡ true
        → (cond own (len / width_by own h.types) 5 ≤ 12) × (len ≡ cond own (len / width_by own h.types) 5 * width_by own h.types)
    go true e =
        let w : ℕ = 2 + (2 + 2 * h.types) in
        (within_to 1 12 (len / w) (and_fst _ _ e), whole w (eqb-true (len % w) 0 (and_snd (within 1 12 (len / w)) _ e)))
    go false e = (omega arith, omega (arith, eqb-true len (10 + 10 * h.types) e))

pub record LengthCandidate (form : Form) (len : ℕ) : Type 0 where
  pub least : 2 ≤ len
  pub most : len ≤ 2 + 16 * entry_width form
  pub by_width : (len - 2) % entry_width form ≡ 0

pub length_candidate : (h : Head) (len : ℕ) → length_allowed h 3 len ≡ true → LengthCandidate h.form len
length_candidate h len e =
    let width : ℕ = entry_width h.form in
    let a = and_fst (within 2 (2 + 16 * width) len) (eqb ((len - 2) % width) 0) e in
    record {
      least = within_from 2 (2 + 16 * width) len a;
      most = within_to 2 (2 + 16 * width) len a;
      by_width = eqb-true ((len - 2) % width) 0 (and_snd (within 2 (2 + 16 * width) len) _ e);
    }

-- a body of an allowed length is of whole steps
pub institute_body : (h : Head) (body : List ℕ) → h.types ≤ 8 → institute_allowed h (length body) ≡ true → InstituteBody h body
institute_body h body l e =
    let fits = length_institute h (length body) e in
    record { types_most = l; steps_most = fits.most; long = fits.by_width }

-- the steps of an institute of which 17 and 18, where they are asked, are answered yes
pub steps_lawful : (h : Head) (body : List ℕ) → InstituteBody h body → (own_steps h ≡ true → ListYes h body) → LawfulSteps h body
steps_lawful h body long listed = record { long = long; coded = coded (own_steps h) refl; handed_on = handed_on (own_steps h) refl }
  where
    coded : (own : Bool) → own_steps h ≡ own → (k : ℕ) → k < step_count h body → step_code h body k < 5
    coded true e k l = omega (arith, (listed e).code_known k l)
    coded false e k l = rw e (rw e at l)

    sixth : (b : Bool) → cond b 6 0 ≤ 12
    sixth true = omega arith
    sixth false = omega arith

    handed_on : (own : Bool) → own_steps h ≡ own → (k : ℕ) → k < step_count h body → receiver_in h body k ≤ 12
    handed_on true e k l =
        ⊎_elim (λ (z : receiver_in h body k ≡ 0). omega arith)
        (λ (z : (k + 2 ≤ receiver_in h body k) × (receiver_in h body k ≤ step_count h body)). omega (arith, z.1, long.steps_most))
        ((listed e).receiver_later k l)
    handed_on false e k l = rw e (sixth (eqb h.policy 1 && eqb k 3))
