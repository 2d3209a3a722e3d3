-- The numbers of a step, and the account of them after so many steps.
use Prim.Native.Nat.{ℕ, zero, suc, ◌+◌, ◌-◌, ◌≤◌, ◌<◌}
use mathlib.Core.Path.{◌≡◌, refl, sym, ap, ◌∙◌}
use mathlib.Core.Bool.{Bool, false}
use mathlib.Core.List.{List, [], map}
use native.Mathlib.Omega.{arith}
use lib.ListN.{length, get_or, set, take, replicate, length-set, length-replicate, length-map, get_or-replicate}
use lib.Seq.{get_or-set_same, get_or-set_other, get_or-take, ext_get_or, length-take-le}
use Rattle.std.proofs.lemmas.List.{get_or-map}
use Rattle.lists.specs.Lists.{tabulate, tabulate_from, count_of, greatest_of}
use Rattle.round.specs.Round.{StepRule}
use Rattle.lists.proofs.Words.{length_tabulate, tabulate_at}
use Rattle.choice.specs.declared.step.Numbers.{Numbers}
use Rattle.matching.specs.ForUse.{taken_for_use}
use Rattle.choice.specs.Step.{taken_by_merit}
use Rattle.choice.specs.Choice.{Progress, considers, positions_at, taken_at, vacant_at}
use Rattle.choice.specs.Account.{StepAccount, account_of, account_at, account, closing_place}
use Rattle.lists.specs.Lists.{last_of}
use Rattle.choice.specs.Fill.{step_numbers}
use Rattle.choice.specs.Noted.{ClosingsFew, Placed, with_place, numbers_of, noted_of}
use Rattle.lists.proofs.Counting.{less_or, same_or, count_ext}
use Rattle.choice.proofs.Offers.{Offers}
use Rattle.lists.proofs.Last.{last_ext}
use Rattle.choice.proofs.Accounts.{merit_long, largest_few, closing_largest}

-- how many of the places of a list are in the set that it stands for, and the largest of them
module _ (n : ℕ) (X : ℕ → Bool) where
  pub count_listed : count_of (length (tabulate n X)) (λ p. get_or (tabulate n X) p false) ≡ count_of n X
  count_listed = rw (length_tabulate 0 n X) (count_ext n _ X (λ p l. tabulate_at n X false p l))

  pub last_listed : last_of (length (tabulate n X)) (λ p. get_or (tabulate n X) p false) ≡ last_of n X
  last_listed = rw (length_tabulate 0 n X) (last_ext n _ X (λ p l. tabulate_at n X false p l))

-- the numbers of a step's account are those of the step
pub numbers_at : (marks : List ℕ) (Y : Offers) (k : ℕ) (rule : StepRule) (done : Progress)
    → numbers_of (account_at marks Y k rule done) ≡ step_numbers rule.reserved marks (considers marks Y rule done) (positions_at marks Y k rule done)
unfolding numbers_of account_at vacant_at taken_at closing_place
numbers_at marks Y k rule done =
    let n = length marks in
    let H : ℕ → Bool = taken_for_use rule.reserved marks (considers marks Y rule done) in
    let M : ℕ → Bool = taken_by_merit rule.reserved marks (considers marks Y rule done) (positions_at marks Y k rule done) in
    rw (count_listed n H, count_listed n M, last_listed n M)

map_from : {A B : Type 0} (f : A → B) (s n : ℕ) (g : ℕ → A) → map f (tabulate_from s n g) ≡ tabulate_from s n (λ k. f (g k))
map_from f s zero g = refl
map_from f s (suc n) g = rw (map_from f (suc s) n g)

-- what is made of the values of a function
pub map_tabulate : {A B : Type 0} (f : A → B) (n : ℕ) (g : ℕ → A) → map f (tabulate n g) ≡ tabulate n (λ k. f (g k))
map_tabulate f n g = map_from f 0 n g

-- what is made of the first n of a list
pub map_front : {A B : Type 0} (f : A → B) (l : List A) (d : A) (n : ℕ) → n ≤ length l → map f (take n l) ≡ tabulate n (λ k. f (get_or l k d))
map_front f l d n few =
    let long : length (take n l) ≡ n = length-take-le n l few in
    ext_get_or (f d) _ _ (length-map (take n l) f ∙ long ∙ sym (length_tabulate 0 n (λ k. f (get_or l k d))))
    (λ k b.
    let low : k < n = omega (arith, length-map (take n l) f, long) in
    get_or-map f (take n l) k d (f d) (omega (arith, long))
    ∙ ap f (get_or-take n l k d low)
    ∙ sym (tabulate_at n (λ k. f (get_or l k d)) (f d) k low))

-- the account of a step that did nothing, and its numbers
abbrev pub idle : StepAccount
idle = record { positions = 0; for_use = []; by_merit = []; types = []; vacant = 0 }

abbrev pub none : Numbers
none = record { positions = 0; used = 0; merit = 0; vacant = 0; closing = 0 }

idle_numbers : numbers_of idle ≡ none
unfolding numbers_of closing_place greatest_of
idle_numbers = refl

module _ (steps : List StepAccount) where
  -- the numbers of step k, from 0
  abbrev numbers_at_step : ℕ → Numbers
  numbers_at_step k = numbers_of (account_of steps (suc k))

  pub noted_at : (k : ℕ) (d : Numbers) → k < 12 → get_or (noted_of steps) k d ≡ numbers_at_step k
  unfolding noted_of
  noted_at k d l = tabulate_at 12 numbers_at_step d k l

  pub noted_long : length (noted_of steps) ≡ 12
  unfolding noted_of
  noted_long = length_tabulate 0 12 numbers_at_step

  -- the numbers of the first k steps are noted, the others are none
  pub record NotedTo (k : ℕ) (noted : List Numbers) : Type 0 where
    pub sized : length noted ≡ 12
    pub here : (j : ℕ) → j < k → get_or noted j none ≡ numbers_at_step j
    pub later : (j : ℕ) → k ≤ j → j < 12 → get_or noted j none ≡ none

  pub none_noted : NotedTo 0 (replicate 12 none)
  none_noted = record {
    sized = length-replicate 12 none;
    here = λ j l. absurd (omega arith);
    later = λ j l m. get_or-replicate 12 j none none m;
  }

  pub one_noted : {k : ℕ} {noted : List Numbers} {x : Numbers} → k < 12 → NotedTo k noted → x ≡ numbers_at_step k → NotedTo (suc k) (set noted k x)
  one_noted {k} {noted} {x} l n e = record {
    sized = length-set noted k x ∙ n.sized;
    here = λ j b.
        same_or j k (λ z. rw z (get_or-set_same noted k x none (omega (arith, n.sized)) ∙ e))
        (λ z. get_or-set_other noted k j x none z ∙ n.here j (omega arith));
    later = λ j b m. get_or-set_other noted k j x none (λ z. omega arith) ∙ n.later j (omega arith) m;
  }

  pub all_noted : {k : ℕ} {noted : List Numbers} → NotedTo k noted → ((i : ℕ) → account_of steps (suc (k + i)) ≡ idle) → noted ≡ noted_of steps
  all_noted {k} {noted} n beyond =
      ext_get_or none noted (noted_of steps) (n.sized ∙ sym noted_long)
      (λ j l.
      let m : j < 12 = omega (arith, n.sized) in
      less_or j k (λ b. n.here j b)
      (λ b.
      let at : j ≡ k + (j - k) = omega arith in
      n.later j b m ∙ sym (ap (λ (i : ℕ). numbers_at_step i) at ∙ ap numbers_of (beyond (j - k)) ∙ idle_numbers))
      ∙ sym (noted_at j none m))

-- a closing place is one of the places
pub noted_few : (marks : List ℕ) (Y : Offers) (rules : List StepRule) → ClosingsFew (length marks) (noted_of (account marks Y rules))
unfolding numbers_of
noted_few marks Y rules k d l =
    let step : StepAccount = account_of (account marks Y rules) (suc k) in
    let m : k < 12 = omega (arith, noted_long (account marks Y rules)) in
    omega (
      arith,
      ap (λ (x : Numbers). x.closing) (noted_at (account marks Y rules) k d m),
      closing_largest step (length marks) (merit_long marks Y rules k),
      largest_few step (length marks),
    )

-- the closing places of the first k steps are put in
pub record PlacedTo (places : List ℕ) (before : List Numbers) (k : ℕ) (after : List Numbers) : Type 0 where
  pub sized : length after ≡ length before
  pub here : (j : ℕ) → j < k → get_or after j none ≡ with_place places (get_or before j none)
  pub later : (j : ℕ) → k ≤ j → get_or after j none ≡ get_or before j none

pub all_placed : {places : List ℕ} {before : List Numbers} {k : ℕ} {after : List Numbers} → PlacedTo places before k after → length before ≤ k → Placed places before after
all_placed {places} {before} {k} {after} s l =
    ext_get_or none after (map (with_place places) before) (s.sized ∙ sym (length-map before (with_place places)))
    (λ j b.
    let m : j < length before = omega (arith, s.sized) in
    s.here j (omega arith) ∙ sym (get_or-map (with_place places) before j none none m))
