-- What the account says of a place: the type used is that of the step that the choice gives it. What it says of all: the closing place of a step.
use Prim.Native.Nat.{ℕ, zero, suc, ◌+◌, ◌-◌, ◌≤◌, ◌<◌}
use mathlib.Core.Path.{◌≡◌, refl, sym, ◌∙◌}
use mathlib.Core.Bool.{Bool, true, false, cond, ◌||◌, true≢false}
use mathlib.Core.Logic.{◌≢◌}
use mathlib.Core.List.{List, [], ◌∷◌}
use native.Mathlib.Omega.{arith}
use lib.ListN.{length, get_or, get_or-eq_default}
use borrow.Author.Tests.{eqb-true}
use Rattle.round.specs.Round.{StepRule}
use Rattle.lists.specs.Lists.{greatest_of}
use Rattle.lists.proofs.Words.{and_snd, length_tabulate, tabulate_at}
use Rattle.choice.specs.Step.{taken_by_merit}
use Rattle.choice.specs.Choice.{Progress, considers, positions_at, taken_at, advance, advance_all, nothing_done, choose}
use Rattle.choice.specs.Account.{StepAccount, took_for_use, took_by_merit, type_used, account_of, account_at, account_from, account, closing_place, used_in, type_in}
use Rattle.lists.proofs.Counting.{clash, test, same_or, false_unless}
use Rattle.lists.proofs.Last.{last_few}
use Rattle.choice.proofs.Offers.{Offers}
use Rattle.lists.proofs.Tabulate.{get_or_zeros}
use Rattle.choice.proofs.Filling.{use_taken}
use Rattle.choice.proofs.Taking.{takes, types_taken, taken_considered, untaken_untyped}

-- where no step takes a place for use it has no type
pub type_none : (steps : List StepAccount) (p : ℕ) → used_in steps p ≡ false → type_in steps p ≡ 0
unfolding used_in type_in
type_none [] p e = refl
type_none (step ∷ steps) p e = go (took_for_use step p) e (type_none steps p)
  where
    go : (b : Bool) → (b || used_in steps p) ≡ false → (used_in steps p ≡ false → type_in steps p ≡ 0) → cond b (type_used step p) (type_in steps p) ≡ 0
    go true z rest = absurd (true≢false z)
    go false z rest = rest z

-- at a place
module _ (marks : List ℕ) (Y : Offers) (p : ℕ) (inside : p < length marks) where
  -- the step that it has
  abbrev given : Progress → ℕ
  given done = get_or done.given p 0

  -- step k, from what is done
  module _ (k : ℕ) (rule : StepRule) (done : Progress) where
    given_next : given (advance marks Y k rule done) ≡ cond (taken_at marks Y k rule done p) k (given done)
    unfolding advance
    given_next = tabulate_at (length marks) _ 0 p inside

    for_use_taken : took_for_use (account_at marks Y k rule done) p ≡ true → taken_at marks Y k rule done p ≡ true
    unfolding account_at taken_at
    for_use_taken t = use_taken rule.reserved marks _ _ p (sym (tabulate_at (length marks) _ false p inside) ∙ t)

    -- a place that the step does not take for use has no type of it
    used_none : took_for_use (account_at marks Y k rule done) p ≡ false → type_used (account_at marks Y k rule done) p ≡ 0
    unfolding account_at takes types_taken
    used_none t = untaken_untyped rule marks _ p (sym (tabulate_at (length marks) _ false p inside) ∙ t)

    -- a place with a step is taken at no other
    not_again : given done ≢ 0 → taken_at marks Y k rule done p ≡ false
    unfolding taken_at considers
    not_again some = false_unless _ (λ t. some (eqb-true _ 0 (and_snd (Y p rule.category) _ (taken_considered rule.reserved marks _ _ p t))))

  -- a place with a step keeps it, and no later step takes it for use
  kept : (rules : List StepRule) (k : ℕ) (done : Progress) → given done ≢ 0
      → (given (advance_all marks Y k rules done) ≡ given done) × (used_in (account_from marks Y k rules done) p ≡ false)
  unfolding advance_all account_from used_in
  kept [] k done some = (refl, refl)
  kept (rule ∷ rules) k done some =
      let out = not_again k rule done some in
      let same : given (advance marks Y k rule done) ≡ given done = given_next k rule done ∙ rw out in
      let later = kept rules (suc k) (advance marks Y k rule done) (λ z. some (sym same ∙ z)) in
      (later.0 ∙ same, rw (false_unless _ (λ t. clash (for_use_taken k rule done t) out)) later.1)

  -- whom a step takes for use no later one does
  pub used_once : (rule : StepRule) (rules : List StepRule) (k : ℕ) (done : Progress) → 0 < k → took_for_use (account_at marks Y k rule done) p ≡ true
      → used_in (account_from marks Y (suc k) rules (advance marks Y k rule done)) p ≡ false
  used_once rule rules k done pos t =
      let now : given (advance marks Y k rule done) ≡ k = given_next k rule done ∙ rw (for_use_taken k rule done t) in
      (kept rules (suc k) (advance marks Y k rule done) (λ z. omega arith)).1

  -- the steps from k on give no smaller number
  comes : (rules : List StepRule) (k m : ℕ) (done : Progress) → m < k → given (advance_all marks Y k rules done) ≡ m → given done ≡ m
  unfolding advance_all
  comes [] k m done less e = e
  comes (rule ∷ rules) k m done less e =
      go (taken_at marks Y k rule done p) (sym (given_next k rule done) ∙ comes rules (suc k) m (advance marks Y k rule done) (omega arith) e)
    where
      go : (b : Bool) → cond b k (given done) ≡ m → given done ≡ m
      go true z = absurd (omega arith)
      go false z = z

  type_from : (rules : List StepRule) (k i m : ℕ) (done : Progress) → m ≡ k + i → 0 < k → given done < k → given (advance_all marks Y k rules done) ≡ m
      → type_in (account_from marks Y k rules done) p ≡ type_used (account_of (account_from marks Y k rules done) (suc i)) p
  unfolding advance_all account_from type_in
  type_from [] k i m done e pos low at = absurd (omega arith)
  type_from (rule ∷ rules) k zero m done e pos low at =
      let next = advance marks Y k rule done in
      test (took_for_use (account_at marks Y k rule done) p)
      (λ u. rw u)
      (λ u.
      test (taken_at marks Y k rule done p)
      (λ t.
      let now : given next ≡ k = given_next k rule done ∙ rw t in
      let later = kept rules (suc k) next (λ z. omega arith) in
      rw u (type_none (account_from marks Y (suc k) rules next) p later.1 ∙ sym (used_none k rule done u)))
      (λ t.
      let same : given next ≡ given done = given_next k rule done ∙ rw t in
      absurd (omega (arith, comes rules (suc k) m next (omega arith) at))))
  type_from (rule ∷ rules) k (suc i) m done e pos low at =
      let next = advance marks Y k rule done in
      let there : suc (suc i) - 1 ≡ suc (suc i - 1) = omega arith in
      test (took_for_use (account_at marks Y k rule done) p)
      (λ u.
      let now : given next ≡ k = given_next k rule done ∙ rw (for_use_taken k rule done u) in
      absurd (omega (arith, (kept rules (suc k) next (λ z. omega arith)).0)))
      (λ u. rw (there, u) (type_from rules (suc k) i m next (omega arith) (omega arith) (rw (given_next k rule done) (less (taken_at marks Y k rule done p))) at))
    where
      less : (b : Bool) → cond b k (given done) < suc k
      less true = omega arith
      less false = omega arith

-- the type of a place is the one that its step used
pub type_of : (marks : List ℕ) (Y : Offers) (rules : List StepRule) (p k : ℕ) → p < length marks → get_or (choose marks Y rules) p 0 ≡ suc k
    → type_in (account marks Y rules) p ≡ type_used (account_of (account marks Y rules) (suc k)) p
unfolding account choose nothing_done
type_of marks Y rules p k l e = type_from marks Y p l rules 1 k (suc k) (nothing_done marks Y) (omega arith) (omega arith) (omega (arith, get_or_zeros (length marks) p)) e

merits_long : (marks : List ℕ) (Y : Offers) (rules : List StepRule) (k i : ℕ) (done : Progress) → length (account_of (account_from marks Y k rules done) (suc i)).by_merit ≤ length marks
unfolding account_from account_at
merits_long marks Y [] k i done = omega arith
merits_long marks Y (rule ∷ rules) k zero done = omega (arith, length_tabulate 0 (length marks) (taken_by_merit rule.reserved marks (considers marks Y rule done) (positions_at marks Y k rule done)))
merits_long marks Y (rule ∷ rules) k (suc i) done =
    let at : suc (suc i) - 1 ≡ suc (suc i - 1) = omega arith in rw at (merits_long marks Y rules (suc k) i (advance marks Y k rule done))

-- an account speaks of the places only
pub merit_long : (marks : List ℕ) (Y : Offers) (rules : List StepRule) (k : ℕ) → length (account_of (account marks Y rules) (suc k)).by_merit ≤ length marks
unfolding account
merit_long marks Y rules k = merits_long marks Y rules 1 k (nothing_done marks Y)

module _ (step : StepAccount) where
  -- a place, from 1, that the step took by merit; else 0
  abbrev pub merit_place : ℕ → ℕ
  merit_place p = cond (took_by_merit step p) (suc p) 0

  -- the largest among the first n places is one of them
  pub largest_few : (n : ℕ) → greatest_of n merit_place ≤ n
  largest_few = last_few (took_by_merit step)

  -- the closing place is the largest of any number of places that has all of the account
  pub closing_largest : (n : ℕ) → length step.by_merit ≤ n → closing_place step ≡ greatest_of n merit_place
  unfolding closing_place greatest_of
  closing_largest zero l = let e : length step.by_merit ≡ 0 = omega arith in rw e
  closing_largest (suc n) l = same_or (length step.by_merit) (suc n) (λ e. rw e)
      (λ d.
      let none : took_by_merit step n ≡ false = get_or-eq_default step.by_merit false (omega arith) in
      closing_largest n (omega arith) ∙ rw none (omega arith))
