-- What a review finds on the entries of the rows, as the code has read them: which would be chosen, and the first that would.
use Prim.Native.Nat.{ℕ, ◌+◌, ◌-◌, ◌≤◌, ◌<◌}
use mathlib.Core.Path.{◌≡◌, refl, ◌∙◌, ap}
use mathlib.Core.Bool.{Bool, true, not, ◌&&◌}
use mathlib.Core.List.{List}
use native.Mathlib.Omega.{arith}
use native.Mathlib.Numerals.{add-one}
use lib.Dec.{eqb}
use lib.ListN.{length}
use Rattle.std.specs.Prelude.{Some, None}
use borrow.Author.Tests.{lt-ltb, le-ltb}
use Rattle.round.specs.declared.entry.Entry.{Entry}
use Rattle.questions.specs.declared.head.Head.{Head as CodeHead}
use Rattle.reader.specs.declared.change.Change.{Change}
use Rattle.lists.specs.Lists.{first_of}
use Rattle.round.specs.Places.{candidate_at, entry_at, step_numbers}
use Rattle.round.specs.Round.{Round}
use Rattle.round.specs.Sound.{SoundRow}
use Rattle.reader.specs.Opened.{opened_round, OpenedFile}
use Rattle.offers.specs.Offers.{OfferSet, step_for, taken_from}
use Rattle.offers.specs.Process.{Seat, candidate_count, institute_count}
use Rattle.offers.specs.Rows.{row_at, same_category, category_at}
use Rattle.offers.proofs.Rounds.Agreed.{step_number}
use Rattle.review.specs.Finding.{passes, better_entry, would_take, best, better, entry_finding}
use Rattle.offers.specs.Listed.{above}
use Rattle.offers.specs.Listed.{SeatsRead}
use Rattle.review.specs.Search.{BestEntry}
use Rattle.review.specs.Tables.{offers_with}
use Rattle.offers.proofs.Known.{candidates_many, institutes_many, round_sound}
use Rattle.offers.proofs.InRow.{above_within}
use Rattle.offers.proofs.FirstFound.{PassedOver, found, none_found}
use Rattle.review.proofs.EntryAdded.{offers_added}

-- tables that are as they were
pub read_still : {r : Round} {seats : List Seat} {asked₀ wanted₀ asked wanted : List ℕ} → SeatsRead r seats (candidate_count r) asked₀ wanted₀
    → asked ≡ asked₀ → wanted ≡ wanted₀ → SeatsRead r seats (candidate_count r) asked wanted
read_still read e d = rw (e, d) read

-- the entry at place k of candidate i's row would be chosen
abbrev pub takes_at : Round → List Seat → ℕ → ℕ → Bool
takes_at r seats i k = would_take r seats i (entry_at (candidate_at r i) k)

-- of the entry at place k of candidate i's row, as the code has read it
module _ {file : List ℕ} {h : CodeHead} {change : Change} {row starts : List ℕ} (hand : OpenedFile file h change row starts)
    {i k : ℕ} {entry : Entry} (inside : i < h.candidates) (within : k < length (row_at (opened_round file change row) i))
    (reads : entry ≡ entry_at (candidate_at (opened_round file change row) i) k) where
  abbrev r : Round
  r = opened_round file change row

  sound_row : SoundRow (institute_count r) (candidate_at r i).category (row_at r i)
  sound_row = ((round_sound hand).candidate i (omega (arith, candidates_many hand))).row_sound

  pub institute_least : 1 ≤ entry.institute
  institute_least = rw reads (sound_row.entry_from k within)

  institute_most : entry.institute ≤ institute_count r
  institute_most = rw reads (sound_row.entry_to k within)

  pub institute_inside : entry.institute - 1 < h.institutes
  institute_inside = omega (arith, institute_least, institute_most, institutes_many hand)

  -- the step that is given where it is added has a number
  pub step_numbered : (Y : OfferSet) {step number : ℕ} → step ≡ step_for r (entry.institute - 1) Y i → number ≡ step → number ≤ step_numbers r (entry.institute - 1)
  step_numbered Y s n =
      let j : ℕ = entry.institute - 1 in
      let below : j < institute_count r = omega (arith, institute_inside, institutes_many hand) in
      omega (arith, s, n, step_number r j Y i, (round_sound hand).numbered j below)

  -- by that step, whether it would be chosen
  pub would_be_taken : {seats : List Seat} {asked wanted : List ℕ} → SeatsRead r seats (candidate_count r) asked wanted → {step number : ℕ} {result : Bool}
      → step ≡ step_for r (entry.institute - 1) (offers_with (entry.institute - 1) i entry.category asked wanted) i → number ≡ step
      → result ≡ (not (eqb number 0) && same_category (category_at r (entry.institute - 1) number) entry.category) → result ≡ takes_at r seats i k
  unfolding would_take taken_from
  would_be_taken {seats} read {result = result} s n t = here ∙ ap (would_take r seats i) reads
    where
      here : result ≡ would_take r seats i entry
      here = t ∙ rw (n, s, offers_added read i (omega (arith, candidates_many hand)) (entry.institute - 1) entry.category)

-- of the entries above candidate i's seat, of which the code has counted so many, none of the first k would be chosen
module _ (r : Round) (seats : List Seat) (i : ℕ) {size k : ℕ} (all : size ≡ above r seats i) (over : PassedOver (takes_at r seats i) k) where
  -- the next one stands in the row
  pub place_fits : k < size → k < length (row_at r i)
  place_fits l = omega (arith, all, above_within r seats i)

  -- it would be chosen: it is the best
  pub best_found : {entry : Entry} {b : Bool} → k < size → b ≡ takes_at r seats i k → b ≡ true → entry ≡ entry_at (candidate_at r i) k
      → BestEntry r seats i (Some entry)
  unfolding best better
  best_found l e t reads =
      let here : k ≡ first_of (above r seats i) (takes_at r seats i) = found (takes_at r seats i) over (omega (arith, all)) e t in
      (rw (← here) (lt-ltb k (above r seats i) (omega (arith, all))), rw (← here) reads)

  -- there is no next one
  pub none_better : size ≤ k → BestEntry r seats i None
  unfolding best better
  none_better l =
      let none : above r seats i ≡ first_of (above r seats i) (takes_at r seats i) = none_found (takes_at r seats i) over (omega (arith, all)) in
      rw (← none) (le-ltb (above r seats i) (above r seats i) (omega arith))

-- no entry above the seats of the first i candidates would be chosen
module _ (r : Round) (seats : List Seat) {i : ℕ} (over : PassedOver (better r seats) i) where
  -- one above the next would: it is what is found
  pub entry_found_lem : {entry : Entry} → i < candidate_count r → BestEntry r seats i (Some entry) → better_entry (i + 1) entry ≡ entry_finding r seats
  unfolding entry_finding
  entry_found_lem inside is =
      let here : i ≡ first_of (candidate_count r) (better r seats) = found (better r seats) over inside refl is.0 in
      rw (← here, lt-ltb i (candidate_count r) inside, add-one, is.1)

  -- there is no further candidate
  pub nothing_found : candidate_count r ≤ i → passes ≡ entry_finding r seats
  unfolding entry_finding
  nothing_found end =
      let none : candidate_count r ≡ first_of (candidate_count r) (better r seats) = none_found (better r seats) over end in
      rw (← none, le-ltb (candidate_count r) (candidate_count r) (omega arith))
