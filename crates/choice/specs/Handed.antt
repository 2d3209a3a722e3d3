-- What is done, as the code keeps it: the step of each place, a table of what was handed to each step, and the types of those taken for use.
use Rattle.std.specs.Prelude.{ℕ, ◌+◌, ◌*◌, ◌^◌, ◌≤◌, ◌≡◌, List, length, get_or}
use Rattle.choice.specs.Choice.{Progress}
use Rattle.choice.specs.Account.{StepAccount, took_for_use}
use Rattle.choice.specs.Fill.{typed}

abbrev pub done_by : List ℕ → List ℕ → Progress
done_by given handed = record { given = given; handed = λ j. get_or handed j 0 }

-- the types used, with those of the n places that the step took for use
abbrev pub types_with : ℕ → StepAccount → List ℕ → List ℕ
types_with n step used = typed n step.types (took_for_use step) used

-- a table for nobody and steps 1 to 12, with numbers so small after k steps that no sum wraps
pub record Handing (k : ℕ) (handed : List ℕ) : Type 0 where
  pub sized : length handed ≡ 13
  pub low : (j : ℕ) → get_or handed j 0 + 65535 ≤ 65535 * 2 ^ k
