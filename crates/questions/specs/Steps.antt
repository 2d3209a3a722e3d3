-- The steps in an institute's body (document 01, "Round file"; document 02, Point 7): under policies 0 and 1 those of codes 0 to 4, each with its
-- positions; under policy 2 the steps that the institute lists, each led by the byte of its category and that of the step that gets its vacancies.
use Rattle.std.specs.Prelude.{ℕ, suc, ◌+◌, ◌*◌, ◌/◌, cond, ◌&&◌, List, eqb, length, get_or}
use Rattle.questions.specs.Records.{Head, own_steps}
use Rattle.lists.specs.Numbers.{word}

-- the bytes that lead a step: category and receiver under policy 2, else none
abbrev pub step_lead : Head → ℕ
step_lead h = cond (own_steps h) 2 0

-- the bytes of a step: these, its positions, and those of them reserved for types 1 to L
abbrev pub step_width : Head → ℕ
step_width h = step_lead h + (2 + 2 * h.types)

-- the number of steps in a body
abbrev pub step_count : Head → List ℕ → ℕ
step_count h body = cond (own_steps h) (length body / step_width h) 5

-- the positions of step k, from 0, and those of them reserved for type t, from 0
abbrev pub positions_in : Head → List ℕ → ℕ → ℕ
positions_in h body k = word body (k * step_width h + step_lead h)

abbrev pub reserved_in : Head → List ℕ → ℕ → ℕ → ℕ
reserved_in h body k t = word body (k * step_width h + step_lead h + 2 * suc t)

-- the code of its category
abbrev pub step_code : Head → List ℕ → ℕ → ℕ
step_code h body k = cond (own_steps h) (get_or body (k * step_width h) 0) k

-- the number of the step that gets its vacancies, 0 for none: under policy 1 step 4 hands them to step 6, and under policy 0 no step hands any on
abbrev pub receiver_in : Head → List ℕ → ℕ → ℕ
receiver_in h body k = cond (own_steps h) (get_or body (suc (k * step_width h)) 0) (cond (eqb h.policy 1 && eqb k 3) 6 0)
