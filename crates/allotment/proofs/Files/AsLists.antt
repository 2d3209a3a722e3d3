-- The steps of policies 0 and 1, written as lists, seat everyone alike.
use Prim.Native.Nat.{ℕ, zero, suc, ◌-◌, ◌≤◌}
use mathlib.Core.Path.{◌≡◌, refl, sym, ap, ◌∙◌}
use mathlib.Core.Bool.{Bool, true, false}
use mathlib.Core.List.{List, [], ◌∷◌, ◌++◌}
use native.Mathlib.Omega.{arith}
use native.Mathlib.Decide.{dec_lt}
use borrow.Author.Tests.{ne_eqb}
use lib.ListN.{length, replicate, get_or-eq_default}
use Rattle.round.specs.declared.entry.Category.{Category}
use Rattle.lists.specs.Lists.{tabulate, greatest_of}
use Rattle.round.specs.Round.{StepRule, Round}
use Rattle.questions.specs.Records.{Head, head_of, own_steps}
use Rattle.questions.specs.Refusal.{passes, verdict}
use Rattle.questions.specs.Reading.{round_of}
use Rattle.round.specs.Places.{institute_at, no_institute}
use Rattle.reader.specs.Rewritten.{as_lists}
use Rattle.round.specs.Sound.{Sound}
use Rattle.reader.proofs.Sound.{sound, listed_round}
use Rattle.reader.proofs.Rewritten.{lists_pass, lists_form, lists_head, lists_candidates, lists_institutes}
use Rattle.choice.specs.Choice.{Progress, advance, nothing_done}
use Rattle.choice.specs.Account.{StepAccount, account_from, account_of, closing_place, account}
use Rattle.offers.specs.Offers.{marks_on, at_places, account_on}
use Rattle.offers.specs.Process.{institute_count, made_to, tried, account_at_end}
use Rattle.offers.proofs.Rounds.SameInstitutes.{SameProcess, same_process}
use Rattle.allotment.specs.Areas.{closing_count, places_to}
use Rattle.allotment.specs.Rewritten.{SeatedAlike, AlikeAsLists}

-- a step that the rules have not has seated nobody
account_beyond : (marks : List ℕ) (offered : ℕ → Category → Bool) (rules : List StepRule) (i k : ℕ) (done : Progress) → length rules ≤ k
    → closing_place (account_of (account_from marks offered i rules done) (suc k)) ≡ 0
unfolding account_from closing_place greatest_of
account_beyond marks offered [] i k done l = refl
account_beyond marks offered (rule ∷ rules) i zero done l = absurd (omega arith)
account_beyond marks offered (rule ∷ rules) i (suc k) done l =
    let at : suc (suc k) - 1 ≡ suc (suc k - 1) = omega arith in rw at (account_beyond marks offered rules (suc i) k (advance marks offered i rule done) (omega arith))

-- under policies 0 and 1 an institute has at most six steps
module _ (r : Round) {types : ℕ} (sound : Sound types r) (unlisted : r.steps_listed ≡ false) (j : ℕ) where
  few_steps : length (institute_at r j).steps ≤ 6
  few_steps = elim (dec_lt j (institute_count r)) [
    | yes l ↦ rw unlisted at (sound.numbered j l)
    | no l ↦
        let none : institute_at r j ≡ no_institute = get_or-eq_default r.institutes no_institute (omega arith) in
        rw none (omega arith)
  ]

  -- so no step beyond the sixth has seated anybody
  none_beyond : (k : ℕ) → 6 ≤ k → closing_place (account_of (account_at_end r j) (suc k)) ≡ 0
  unfolding account_at_end account_on account
  none_beyond k l = account_beyond (marks_on r j) (at_places r j (made_to r (tried r) j)) (institute_at r j).steps 1 k (nothing_done _ _) (omega (arith, few_steps))

  -- twelve closing places are the six, and 0 six times
  twelve_six : places_to 12 r j ≡ places_to 6 r j ++ replicate 6 0
  unfolding places_to
  twelve_six = rw (none_beyond 6 (omega arith), none_beyond 7 (omega arith), none_beyond 8 (omega arith), none_beyond 9 (omega arith), none_beyond 10 (omega arith), none_beyond 11 (omega arith))

-- the number of closing places depends on whether the institutes list their own steps, and on nothing else that the rounds differ in
alike : (r other : Round) {types : ℕ} → Sound types r → r.steps_listed ≡ false → other.steps_listed ≡ true → SameProcess r other → SeatedAlike r other
unfolding places_to closing_count
alike r other sound unlisted listed same = record {
  offers = same.offers;
  seats_alike = same.list;
  types = same.types;
  closing = λ j.
      ap (λ (b : Bool). places_to (closing_count b) other j) listed
      ∙ ap (λ (steps : List StepAccount). tabulate 12 (λ k. closing_place (account_of steps (suc k)))) (same.accounts j)
      ∙ twelve_six r sound unlisted j
      ∙ sym (ap (λ (b : Bool). places_to (closing_count b) r j ++ replicate 6 0) unlisted);
}

pub alike_as_lists : (file : List ℕ) → verdict file ≡ passes → (head_of file).policy ≤ 1 → AlikeAsLists file
alike_as_lists file e l =
    let candidates = lists_candidates file e l in
    let institutes = lists_institutes file e l in
    let unlisted = listed_round file ∙ ne_eqb (head_of file).policy 2 (λ z. omega arith) in
    let listed = listed_round (as_lists file) ∙ ap (λ (h : Head). own_steps h) (lists_head file e l) in
    record {
      passing = lists_pass file e l;
      form = lists_form file e l;
      candidates = candidates;
      institutes = institutes;
      alike = alike (round_of file) (round_of (as_lists file)) (sound file e) unlisted listed (same_process (round_of file) (round_of (as_lists file)) (sym candidates) (sym institutes));
    }
