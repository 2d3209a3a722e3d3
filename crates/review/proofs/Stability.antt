-- A list passes exactly where it is stable, and the list of the process passes.
use Prim.Native.Nat.{ℕ, ◌<◌}
use mathlib.Core.Path.{◌≡◌, refl}
use mathlib.Core.Bool.{Bool, true, false, cond}
use mathlib.Core.List.{List}
use native.Mathlib.Omega.{arith}
use lib.Dec.{ltb}
use lib.ListN.{length}
use borrow.Author.Tests.{ltb-false, le-ltb}
use Rattle.lists.specs.Lists.{first_of}
use Rattle.round.specs.Round.{Round}
use Rattle.round.specs.declared.entry.Entry.{Entry}
use Rattle.round.specs.Sound.{Sound}
use Rattle.lists.proofs.Counting.{clash}
use Rattle.lists.proofs.FirstNumber.{first_before, first_none}
use Rattle.offers.specs.Process.{Seat, candidate_count, seats}
use Rattle.offers.specs.Stable.{Stable}
use Rattle.offers.proofs.Rounds.Bounds.{list_length}
use Rattle.offers.proofs.Rounds.StableRound.{round_stable}
use Rattle.review.specs.Finding.{Finding, passes, wrong_seat, better_entry, wrong, better, entry_finding, finding}
use Rattle.review.proofs.NobodyWrong.{NobodyWrong, all_listed, all_kept, nobody_wrong}
use Rattle.review.proofs.NothingBetter.{NothingBetter, nothing_better}
use Rattle.review.proofs.Unblocked.{unblocked}

-- a finding that passes does not name anybody
none_else : (b : Bool) (named otherwise : Finding) → (named ≡ passes → true ≡ false) → cond b named otherwise ≡ passes → (b ≡ false) × (otherwise ≡ passes)
none_else true named otherwise some e = clash refl (some e)
none_else false named otherwise some e = (refl, e)

names_seat : {candidate : ℕ} → wrong_seat candidate ≡ passes → true ≡ false
names_seat e = cc

names_entry : {candidate : ℕ} {entry : Entry} → better_entry candidate entry ≡ passes → true ≡ false
names_entry e = cc

-- where a first number is not found, none passes the test
none_found : (n : ℕ) (f : ℕ → Bool) → ltb (first_of n f) n ≡ false → (i : ℕ) → i < n → f i ≡ false
none_found n f e i l = first_before n f i (omega (arith, ltb-false (first_of n f) n e))

not_found : (n : ℕ) (f : ℕ → Bool) → ((i : ℕ) → i < n → f i ≡ false) → ltb (first_of n f) n ≡ false
not_found n f none = le-ltb (first_of n f) n (omega (arith, first_none n f none))

module _ (r : Round) (list : List Seat) where
  pub none_named : finding r list ≡ passes → NobodyWrong r list × NothingBetter r list
  unfolding finding entry_finding
  none_named e =
      let n : ℕ = candidate_count r in
      let (right, rest) = none_else (ltb (first_of n (wrong r list)) n) _ _ names_seat e in
      let (nothing, _) = none_else (ltb (first_of n (better r list)) n) _ _ names_entry rest in
      (none_found n (wrong r list) right, none_found n (better r list) nothing)

  pub nobody_named : NobodyWrong r list → NothingBetter r list → finding r list ≡ passes
  unfolding finding entry_finding
  nobody_named right nothing =
      rw (not_found (candidate_count r) (wrong r list) right, not_found (candidate_count r) (better r list) nothing)

module _ {types : ℕ} {r : Round} (sound : Sound types r) (list : List Seat) (many : length list ≡ candidate_count r) where
  pub passes_stable : finding r list ≡ passes → Stable r list
  passes_stable e =
      let (right, nothing) = none_named r list e in
      record {
        listed = all_listed r list many right;
        kept = all_kept r list many right;
        unblocked = unblocked sound list many right nothing;
      }

  pub stable_passes : Stable r list → finding r list ≡ passes
  stable_passes s =
      let right = nobody_wrong r list many s.listed s.kept in
      nobody_named r list right (nothing_better sound list many right s.unblocked)

-- the list of the process
pub own_passes : {types : ℕ} {r : Round} → Sound types r → finding r (seats r) ≡ passes
own_passes {r = r} sound = stable_passes sound (seats r) (list_length r) (round_stable sound)
