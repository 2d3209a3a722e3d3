-- Rounds that differ from another by one candidate's row, or by one candidate's place on one merit list (document 02, Points 8 and 12).
use Rattle.std.specs.Prelude.{ℕ, suc, ◌-◌, cond, List, eqb, length, set}
use Rattle.round.specs.declared.entry.Entry.{Entry}
use Rattle.lists.specs.Lists.{tabulate}
use Rattle.lists.specs.Numbers.{within}
use Rattle.round.specs.Round.{Institute, Candidate, Round}
use Rattle.round.specs.Places.{candidate_at, institute_at, merit_at}

-- a candidate with another row
abbrev pub row_for : Candidate → List Entry → Candidate
row_for c row = record { category = c.category; marks = c.marks; row = row }

-- the round with another row for candidate i, from 0
unfoldable pub with_row : Round → ℕ → List Entry → Round
with_row r i row = record {
  candidates = set r.candidates i (row_for (candidate_at r i) row);
  institutes = r.institutes;
  steps_listed = r.steps_listed;
}

-- where, before the one at a place was raised by so many places, the one stood who is at place q: the raised one at the place, each of those passed one
-- place higher, and everybody else at q
unfoldable pub stood_at : ℕ → ℕ → ℕ → ℕ
stood_at place by q = cond (eqb q (place - by)) place (cond (within (suc (place - by)) place q) (q - 1) q)

-- an institute with the one at a place of its merit list raised by so many places
abbrev pub raised_at : Institute → ℕ → ℕ → Institute
raised_at o place by = record { steps = o.steps; merit = tabulate (length o.merit) (λ q. merit_at o (stood_at place by q)) }

-- the round with the candidate at a place of institute j's merit list, both from 0, raised by so many places
unfoldable pub raised : Round → ℕ → ℕ → ℕ → Round
raised r j place by = record {
  candidates = r.candidates;
  institutes = set r.institutes j (raised_at (institute_at r j) place by);
  steps_listed = r.steps_listed;
}
