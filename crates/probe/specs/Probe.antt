-- What the probes give.
use Rattle.std.specs.Prelude.{ℕ, ◌≡◌, Bool, cond, ◌&&◌, List, [], leb, eqb, length, set}
use Rattle.questions.specs.declared.form.Form.TheVariants.{Narrow}
use Rattle.questions.specs.Records.{Head, own_steps}
use Rattle.questions.specs.Questions.{institute_allowed, list_questions, first_no}
use Rattle.questions.specs.Refusal.{Verdict, passes, refused}
use Rattle.questions.specs.Reading.{steps_in}
use Rattle.placing.specs.Offers.{offered_by}
use Rattle.choice.specs.Choice.{choose}
use Rattle.choice.specs.Account.{account, types_in}

-- two numbers become the number of the refusal and its byte, or 0 and 0 where there is none
abbrev pub verdict_in : List ℕ → Verdict → List ℕ
verdict_in numbers passes = set (set numbers 0 0) 1 0
verdict_in numbers (refused number offset) = set (set numbers 0 number) 1 offset

-- a head with so many types and a policy
abbrev pub head_with : ℕ → ℕ → Head
head_with types policy = record { form = Narrow; candidates = 1; institutes = 1; types = types; policy = policy }

-- at most 8 types, a policy that there is, and an institute's body of an allowed length; where it lists its own steps, 17 and 18 are answered yes
abbrev pub body_fits : Head → List ℕ → Bool
body_fits h body =
    leb h.types 8
    && (leb h.policy 2 && (institute_allowed h (length body) && eqb (first_no (cond (own_steps h) (list_questions h body) [])) 0))

-- at most 512 places, and as many offers, steps and types used
abbrev pub places_fit : ℕ → ℕ → ℕ → ℕ → Bool
places_fit places offers steps used = leb places 512 && (eqb offers places && (eqb steps places && eqb used places))

abbrev pub fitting : Head → List ℕ → ℕ → ℕ → ℕ → ℕ → Bool
fitting h body places offers steps used = body_fits h body && places_fit places offers steps used

-- the steps at the places and the types used: those of the choice, or, where body and lengths do not fit, what stood there
pub record Chosen (body : List ℕ) (types policy : ℕ) (marks offers steps₀ used₀ steps used : List ℕ) : Type 0 where
  pub steps_now : steps
      ≡ cond (fitting (head_with types policy) body (length marks) (length offers) (length steps₀) (length used₀))
      (choose marks (offered_by offers) (steps_in (head_with types policy) body)) steps₀
  pub used_now : used
      ≡ cond (fitting (head_with types policy) body (length marks) (length offers) (length steps₀) (length used₀))
      (types_in (length marks) (account marks (offered_by offers) (steps_in (head_with types policy) body))) used₀
