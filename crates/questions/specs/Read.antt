-- The reader's values in the words of the definitions, and what its parts are called with.
use Rattle.std.specs.Prelude.{ℕ, suc, ◌*◌, ◌^◌, ◌≤◌, ◌<◌, Bool, ◌&&◌, ◌||◌, List, leb, eqb, length, get_or, ◌≡◌}
use Rattle.questions.specs.declared.head as code
use Rattle.questions.specs.Records.{Head}
use Rattle.questions.specs.declared.form.Form.{Form}
use Rattle.questions.specs.Form.{institutes_most}
use Rattle.questions.specs.Steps.{step_width, step_count, step_code, receiver_in}
use Rattle.lists.specs.Numbers.{within}
use Rattle.questions.specs.Questions.{institute_in, code_in}

-- the form and the numbers of a head that was read
abbrev pub as_head : code.Head.Head → Head
as_head h = record { form = h.form; candidates = h.candidates; institutes = h.institutes; types = h.types; policy = h.policy }

-- the numbers of a head are in range
pub record InRange (h : Head) : Type 0 where
  pub candidates_least : 1 ≤ h.candidates
  pub candidates_most : h.candidates ≤ 512
  pub institutes_least : 1 ≤ h.institutes
  pub institutes_most_is : h.institutes ≤ institutes_most h.form
  pub types_most : h.types ≤ 8
  pub policy_most : h.policy ≤ 2

-- a body of at most 12 whole steps; that it has one is for question 3
pub record InstituteBody (h : Head) (body : List ℕ) : Type 0 where
  pub types_most : h.types ≤ 8
  pub steps_most : step_count h body ≤ 12
  pub long : length body ≡ step_count h body * step_width h

-- the steps in it have a category each, and hand their vacancies to nobody or to one of 12 steps
pub record LawfulSteps (h : Head) (body : List ℕ) : Type 0 where
  pub long : InstituteBody h body
  pub coded : (k : ℕ) → k < step_count h body → step_code h body k < 5
  pub handed_on : (k : ℕ) → k < step_count h body → receiver_in h body k ≤ 12

-- what question 8 asks, 9 of one entry, and 10 of two
abbrev pub marks_in : ℕ → List ℕ → Bool
marks_in types body = leb (get_or body 0 0) 4 && leb (suc (get_or body 1 0)) (2 ^ types)

abbrev pub lawful_in : Form → ℕ → ℕ → List ℕ → ℕ → Bool
lawful_in form institutes own row k =
    within 1 institutes (institute_in form row k)
    && (eqb (code_in form row k) 0 || eqb (code_in form row k) own)

abbrev pub same_in : Form → List ℕ → ℕ → ℕ → Bool
same_in form row k l = eqb (institute_in form row k) (institute_in form row l) && eqb (code_in form row k) (code_in form row l)
