-- Laws of what any call comes to: of a file that was refused, of one that was read, and of the work area.
use Prim.Native.Nat.{ℕ, ◌*◌}
use mathlib.Core.Path.{◌≡◌, refl, sym}
use mathlib.Core.Bool.{Bool, true, false}
use mathlib.Core.List.{List, ◌++◌}
use Rattle.std.specs.Prelude.{Err}
use lib.ListN.{length, drop, replicate, length-replicate}
use Rattle.reader.specs.declared.refusal.Refusal.{Refusal}
use Rattle.questions.specs.Numbered.{number_of}
use Rattle.round.specs.Round.{Round}
use Rattle.questions.specs.Refusal as verdicts
use Rattle.questions.specs.Refusal.{Verdict, passes, verdict}
use Rattle.reader.specs.Outcome.{RoundRead}
use Rattle.reader.specs.Calls.{Outcome, said, on_file, asks, work_by}

module _ {A : Type 0} where
  -- what is said is said of a file that passes
  pub said_passes : (v : Verdict) {rest : Outcome A} {what : A} → on_file v rest ≡ said what → (v ≡ passes) × (rest ≡ said what)
  said_passes verdicts.passes e = (refl, e)
  said_passes (verdicts.refused number offset) e = (cc, cc)

  -- and every question of the call's own is answered yes
  pub asks_yes : (number : ℕ) (answer : Bool) {rest : Outcome A} {what : A} → asks number answer rest ≡ said what → (answer ≡ true) × (rest ≡ said what)
  asks_yes number true e = (refl, e)
  asks_yes number false e = (cc, cc)

  -- the cleared bytes, as code has cleared them
  pub work_by_lem : {outcome : Outcome A} {what : A} (r : Round) (work : List ℕ) {n : ℕ} {now : List ℕ} → outcome ≡ said what → length r.candidates ≡ n
      → now ≡ replicate (8 * n) 0 ++ drop (8 * n) work → now ≡ work_by outcome r work
  work_by_lem r work e f d = rw (e, f, length-replicate) d

-- a file that was asked about is refused, with the number and the byte that code hands up
pub read_refused : {file starts : List ℕ} {f : Refusal} → RoundRead file (Err f) starts → verdict file ≡ verdicts.refused (number_of f.question) f.offset
read_refused read = sym read.answer
