-- The account of an institute's choice as numbers.
use Rattle.std.specs.Prelude.{ℕ, suc, ◌-◌, ◌≤◌, ◌≡◌, cond, List, eqb, get_or, length, map, All}
use Rattle.lists.specs.Lists.{tabulate, count_of}
use Rattle.choice.specs.declared.step.Numbers.{Numbers}
use Rattle.choice.specs.Account.{StepAccount, took_for_use, took_by_merit, account_of, closing_place}

-- how many a step took for use, and how many by merit
abbrev pub number_for_use : StepAccount → ℕ
number_for_use step = count_of (length step.for_use) (took_for_use step)

abbrev pub number_by_merit : StepAccount → ℕ
number_by_merit step = count_of (length step.by_merit) (took_by_merit step)

-- the numbers of a step's account: its positions, how many it took for use and how many by merit, what it left vacant, and its closing place
unfoldable pub numbers_of : StepAccount → Numbers
numbers_of step = record {
  positions = step.positions;
  used = number_for_use step;
  merit = number_by_merit step;
  vacant = step.vacant;
  closing = closing_place step;
}

-- the numbers of a step that did nothing
abbrev pub nothing_noted : Numbers
nothing_noted = record { positions = 0; used = 0; merit = 0; vacant = 0; closing = 0 }

-- the numbers of the first twelve steps of an account; beyond the last step they are 0
unfoldable pub noted_of : List StepAccount → List Numbers
noted_of steps = tabulate 12 (λ k. numbers_of (account_of steps (suc k)))

-- of a place among the gathered, from 1, the place that it has; 0 of 0
abbrev pub place_from : List ℕ → ℕ → ℕ
place_from places c = cond (eqb c 0) 0 (suc (get_or places (c - 1) 0))

-- the closing places of such an account are at most n
abbrev pub ClosingsFew : ℕ → List Numbers → Type 0
ClosingsFew n noted = All (λ numbers. numbers.closing ≤ n) noted

-- the numbers of a step among the gathered, with the place of its closing place
abbrev pub with_place : List ℕ → Numbers → Numbers
with_place places numbers = record {
  positions = numbers.positions;
  used = numbers.used;
  merit = numbers.merit;
  vacant = numbers.vacant;
  closing = place_from places numbers.closing;
}

-- an account of the gathered, and the same with the places of its closing places
abbrev pub Placed : List ℕ → List Numbers → List Numbers → Type 0
Placed places before after = after ≡ map (with_place places) before
