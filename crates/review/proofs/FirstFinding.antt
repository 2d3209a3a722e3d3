-- A wrong seat is found first, and where none is wrong the entries decide.
use Prim.Native.Nat.{ℕ, ◌+◌}
use mathlib.Core.Path.{◌≡◌, ◌∙◌, ap}
use mathlib.Core.List.{List}
use native.Mathlib.Omega.{arith}
use native.Mathlib.Numerals.{add-one}
use lib.ListN.{length}
use Rattle.std.specs.Prelude.{Some, None}
use borrow.Author.Tests.{lt-ltb, le-ltb}
use Rattle.questions.specs.declared.form.Form.{Form}
use Rattle.lists.specs.Lists.{first_of}
use Rattle.round.specs.Round.{Round}
use Rattle.offers.specs.Process.{candidate_count}
use Rattle.review.specs.Finding.{Finding, wrong_seat, wrong, entry_finding, finding}
use Rattle.offers.specs.Listed.{list_of}
use Rattle.offers.specs.Listed.{AllRead}
use Rattle.review.specs.Search.{FirstOf}
use Rattle.review.specs.Tables.{StepsGiven, wrong_by}
use Rattle.review.proofs.WrongSeats.{first_wrong_by}

-- the first wrong seat by the tables
module _ (r : Round) (form : Form) (list : List ℕ) {asked wanted steps : List ℕ}
    (read : AllRead r form list asked wanted) (steps_given : StepsGiven r asked wanted steps) where
  by_tables : first_of (length asked) (wrong_by form list asked steps) ≡ first_of (candidate_count r) (wrong r (list_of form r list))
  by_tables = ap (λ (n : ℕ). first_of n (wrong_by form list asked steps)) read.asked_many ∙ first_wrong_by r form list read steps_given

  -- it is that of candidate i
  pub wrong_found : {i : ℕ} → FirstOf (Some i) (length asked) (wrong_by form list asked steps) → wrong_seat (i + 1) ≡ finding r (list_of form r list)
  unfolding finding
  wrong_found {i} (l, first) = rw (← by_tables, ← first, lt-ltb i (candidate_count r) (omega (arith, read.asked_many)), add-one)

  -- there is none
  pub none_wrong : FirstOf None (length asked) (wrong_by form list asked steps) → {what : Finding} → what ≡ entry_finding r (list_of form r list)
      → what ≡ finding r (list_of form r list)
  unfolding finding
  none_wrong none e = rw (← by_tables, none, le-ltb (length asked) (candidate_count r) (omega (arith, read.asked_many))) e
