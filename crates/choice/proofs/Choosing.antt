-- One step after the other: what the code keeps after a step is what the definition has done.
use Prim.Native.Nat.{ℕ, suc, ◌+◌, ◌-◌, ◌≤◌, ◌<◌}
use mathlib.Core.Path.{◌≡◌, refl, sym, ap, ◌∙◌, fun_ext}
use mathlib.Core.Bool.{Bool, true, false, cond, ◌||◌}
use mathlib.Core.List.{List, [], ◌∷◌}
use native.Mathlib.Omega.{arith}
use native.Mathlib.Numerals.{add-one}
use native.Mathlib.Nat.{add-zero, zero-add, pow-succ'}
use lib.Dec.{eqb}
use lib.ListN.{length, get_or, take, drop, set, length-set, replicate, length-replicate}
use lib.Seq.{get_or-set_same, get_or-set_other, ext_get_or, drop-cons}
use Rattle.std.proofs.lemmas.List.{drop_all}
use borrow.Author.Tests.{eq-eqb, ne_eqb}
use Rattle.round.specs.Category.{code_of}
use Rattle.round.specs.declared.entry.Category.TheVariants.{Open}
use Rattle.round.specs.declared.rule.Rule.{Rule}
use Rattle.round.specs.Rules.{rule_of, rules_in}
use Rattle.lists.proofs.Words.{length_tabulate, tabulate_at}
use Rattle.matching.specs.ForUse.{taken_for_use}
use Rattle.choice.specs.declared.step.Numbers.{Numbers}
use Rattle.choice.specs.Choice.{Progress, considers, positions_at, taken_at, vacant_at, advance, advance_all, nothing_done, choose}
use Rattle.choice.specs.Account.{StepAccount, took_for_use, type_used, account_of, account_at, account_from, account, used_in, type_in, types_in}
use Rattle.placing.specs.Offers.{offered_by, considers_by, Places}
use Rattle.choice.specs.Fill.{step_given, step_vacant, step_types, step_numbers}
use Rattle.choice.specs.Handed.{done_by, types_with, Handing}
use Rattle.choice.specs.Noted.{numbers_of, noted_of}
use Rattle.lists.proofs.Counting.{same_or}
use Rattle.lists.proofs.Tabulate.{tabulate_cong, get_or_zeros}
use Rattle.choice.proofs.Accounts.{type_none, used_once}
use Rattle.choice.proofs.Noted.{none, numbers_at, NotedTo, none_noted, one_noted, all_noted}

-- what was handed grows at the receiver alone
handed_grows : (handed : List ℕ) (receiver vacant : ℕ) → receiver < length handed → (j : ℕ)
    → get_or (set handed receiver (get_or handed receiver 0 + vacant)) j 0 ≡ get_or handed j 0 + cond (eqb j receiver) vacant 0
handed_grows handed receiver vacant l j =
    same_or j receiver (λ s. rw (s, get_or-set_same handed receiver (get_or handed receiver 0 + vacant) 0 l, eq-eqb receiver receiver refl))
    (λ n. get_or-set_other handed receiver j _ 0 n ∙ rw (ne_eqb j receiver n) (sym (add-zero (get_or handed j 0))))

done_same : (done : Progress) (given handed : List ℕ) → given ≡ done.given → ((j : ℕ) → get_or handed j 0 ≡ done.handed j) → done_by given handed ≡ done
done_same done given handed e h =
    ap (λ (l : List ℕ). record { given = l; handed = λ j. get_or handed j 0 }) e
    ∙ ap (λ (f : ℕ → ℕ). record { given = done.given; handed = f }) (fun_ext h)

-- a step's rule, and what stands before the step
module _ (types k : ℕ) (rule : Rule) {handed : List ℕ} (t : (types ≤ 8) × (k < 12) × (rule.receiver ≤ 12) × (rule.positions ≤ 65535)) (h : Handing k handed) where
  receiver_low : rule.receiver < length handed
  receiver_low = omega (arith, t.2, h.sized)

  abbrev positions : ℕ
  positions = rule.positions + get_or handed (k + 1) 0

  -- what the step leaves vacant
  vacant_is : (marks offers given : List ℕ) {numbers : Numbers}
      → numbers ≡ step_numbers (take types rule.reserved) marks (considers_by offers given (code_of rule.category)) positions
      → numbers.vacant ≡ step_vacant (take types rule.reserved) marks (considers_by offers given (code_of rule.category)) positions
  vacant_is marks offers given e = ap (λ (x : Numbers). x.vacant) e

  -- what is handed to each step after this one
  abbrev handing_on : ℕ → List ℕ
  handing_on vacant = set handed rule.receiver (get_or handed rule.receiver 0 + vacant)

  -- no number wraps
  still_low : (vacant : ℕ) → vacant ≤ positions → Handing (suc k) (handing_on vacant)
  still_low vacant le = record {
    sized = simp length-set h.sized;
    low = λ j.
        rw (handed_grows handed rule.receiver vacant receiver_low j)
        (omega (arith, pow-succ' 2 k, h.low j, h.low (k + 1), t.3, at_most (eqb j rule.receiver)));
  }
    where
      at_most : (b : Bool) → cond b vacant 0 ≤ vacant
      at_most true = omega arith
      at_most false = omega arith

  -- a step of the code is a step of the definition
  pub step_advances : (first : Bool) (marks offers given used : List ℕ) {given' used' : List ℕ} {numbers : Numbers}
      → (given' ≡ step_given (k + 1) (take types rule.reserved) marks (considers_by offers given (code_of rule.category)) positions given)
      × (numbers ≡ step_numbers (take types rule.reserved) marks (considers_by offers given (code_of rule.category)) positions)
      × (first ≡ true → used' ≡ step_types (take types rule.reserved) marks (considers_by offers given (code_of rule.category)) used)
      → (done_by given' (handing_on numbers.vacant) ≡ advance marks (offered_by offers) (suc k) (rule_of types rule) (done_by given handed)) × Handing (suc k) (handing_on numbers.vacant)
      × (first ≡ true → used' ≡ types_with (length marks) (account_at marks (offered_by offers) (suc k) (rule_of types rule) (done_by given handed)) used)
      × (numbers ≡ numbers_of (account_at marks (offered_by offers) (suc k) (rule_of types rule) (done_by given handed)))
  unfolding advance vacant_at taken_at positions_at considers account_at
  step_advances first marks offers given used {given'} {used'} {numbers} s = (
    done_same (advance marks (offered_by offers) (suc k) (rule_of types rule) (done_by given handed)) given' (handing_on numbers.vacant)
        (rw add-one at s.0)
        (λ j. handed_grows handed rule.receiver numbers.vacant receiver_low j ∙ rw (rw add-one at (vacant_is marks offers given s.1))),
    still_low numbers.vacant (omega (arith, vacant_is marks offers given s.1)),
    λ t.
        s.2 t
        ∙ tabulate_cong (length marks) _ _ (λ p l. rw (tabulate_at (length marks) (taken_for_use (rule_of types rule).reserved marks (considers_by offers given (code_of rule.category))) false p l)),
    (rw add-one at s.1) ∙ sym (numbers_at marks (offered_by offers) (suc k) (rule_of types rule) (done_by given handed)),
  )

-- the type of a place after these steps, where it was u before them
abbrev type_after : List StepAccount → ℕ → ℕ → ℕ
type_after steps p u = cond (used_in steps p) (type_in steps p) u

-- after k steps the rest of the rules leads to what all of them lead to from nothing done, and uses the types that all of them do but for those
-- used so far; their account is the rest of the account of all, and the steps before are noted where numbers are asked for
pub record Stepping (marks offers : List ℕ) (rules : List Rule) (types : ℕ) (first told : Bool) (k : ℕ) (steps used handed : List ℕ) (noted : List Numbers) : Type 0 where
  pub places : Places marks offers steps used
  pub handing : Handing k handed
  pub rest : advance_all marks (offered_by offers) (suc k) (rules_in types (drop k rules)) (done_by steps handed)
      ≡ advance_all marks (offered_by offers) 1 (rules_in types rules) (nothing_done marks (offered_by offers))
  pub rest_typed : first ≡ true → (p : ℕ) → p < length marks
      → type_after (account_from marks (offered_by offers) (suc k) (rules_in types (drop k rules)) (done_by steps handed)) p (get_or used p 0)
      ≡ type_in (account marks (offered_by offers) (rules_in types rules)) p
  pub rest_account : (i : ℕ) → account_of (account marks (offered_by offers) (rules_in types rules)) (suc (k + i))
      ≡ account_of (account_from marks (offered_by offers) (suc k) (rules_in types (drop k rules)) (done_by steps handed)) (suc i)
  pub noted_so_far : told ≡ true → NotedTo (account marks (offered_by offers) (rules_in types rules)) k noted

same_places : {marks offers steps steps' used used' : List ℕ} → Places marks offers steps used → length steps' ≡ length steps → length used' ≡ length used → Places marks offers steps' used'
same_places p len long = record { few = p.few; offers_each = p.offers_each; steps_each = len ∙ p.steps_each; used_each = long ∙ p.used_each }

-- whom a step takes for use no later one does
typed_on : (b later : Bool) (u now then : ℕ) → (b ≡ true → later ≡ false) → cond later then (cond b now u) ≡ cond (b || later) (cond b now then) u
typed_on true later u now then once = rw (once refl)
typed_on false later u now then once = refl

typed_none : (used : Bool) (x : ℕ) → (used ≡ false → x ≡ 0) → cond used x 0 ≡ x
typed_none true x zero = refl
typed_none false x zero = sym (zero refl)

-- what stands beyond the last rule
abbrev pub no_rule : Rule
no_rule = record { category = Open; receiver = 0; positions = 0; reserved = [] }

-- the rest of the rules begins with rule k
rest_more : (types k : ℕ) (rules : List Rule) → k < length rules
    → rules_in types (drop k rules) ≡ rule_of types (get_or rules k no_rule) ∷ rules_in types (drop (suc k) rules)
rest_more types k rules l = ap (rules_in types) (drop-cons rules k no_rule l)

module _ {marks offers : List ℕ} {rules : List Rule} {types : ℕ} {first told : Bool} where
  pub set_out : {steps₀ used₀ steps used : List ℕ} {noted : List Numbers} → Places marks offers steps₀ used₀ → steps ≡ replicate (length steps₀) 0 → used ≡ replicate (length used₀) 0
      → (told ≡ true → noted ≡ replicate 12 none) → Stepping marks offers rules types first told 0 steps used (replicate 13 0) noted
  unfolding nothing_done account
  set_out {steps₀} {used₀} {steps} {used} places clear wipe fresh =
      let whole = account marks (offered_by offers) (rules_in types rules) in
      let start : done_by steps (replicate 13 0) ≡ nothing_done marks (offered_by offers) =
      done_same (nothing_done marks (offered_by offers)) steps (replicate 13 0) (rw (clear, places.steps_each)) (λ j. get_or_zeros 13 j) in
      record {
        places = same_places places (ap length clear ∙ length-replicate (length steps₀) 0) (ap length wipe ∙ length-replicate (length used₀) 0);
        handing = record { sized = refl; low = λ j. rw (get_or_zeros 13 j) (omega arith) };
        rest = rw start;
        rest_typed = λ f p l. rw (start, wipe, get_or_zeros (length used₀) p) (typed_none (used_in whole p) (type_in whole p) (type_none whole p));
        rest_account = λ i. rw (start, zero-add);
        noted_so_far = λ t. rw (fresh t) (none_noted whole);
      }

  pub go_on : {k : ℕ} {steps used handed steps' used' handed' : List ℕ} {noted noted' : List Numbers} {numbers : Numbers} → k < length rules → k < 12
      → Stepping marks offers rules types first told k steps used handed noted → length steps' ≡ length steps → length used' ≡ length used
      → (done_by steps' handed' ≡ advance marks (offered_by offers) (suc k) (rule_of types (get_or rules k no_rule)) (done_by steps handed)) × Handing (suc k) handed'
      × (first ≡ true → used' ≡ types_with (length marks) (account_at marks (offered_by offers) (suc k) (rule_of types (get_or rules k no_rule)) (done_by steps handed)) used)
      × (numbers ≡ numbers_of (account_at marks (offered_by offers) (suc k) (rule_of types (get_or rules k no_rule)) (done_by steps handed)))
      → (told ≡ true → noted' ≡ set noted k numbers) → Stepping marks offers rules types first told (k + 1) steps' used' handed' noted'
  unfolding advance_all account_from used_in type_in
  go_on {k} {steps} {used} {handed} {steps'} {used'} {handed'} {noted} l few g len long s put =
      let rule = rule_of types (get_or rules k no_rule) in
      let more : rules_in types (drop k rules) ≡ rule ∷ rules_in types (drop (suc k) rules) = rest_more types k rules l in
      let whole = account marks (offered_by offers) (rules_in types rules) in
      let step = account_at marks (offered_by offers) (suc k) rule (done_by steps handed) in
      let later = account_from marks (offered_by offers) (suc (suc k)) (rules_in types (drop (suc k) rules)) (advance marks (offered_by offers) (suc k) rule (done_by steps handed)) in
      let here : account_of whole (suc k) ≡ step = ap (λ (i : ℕ). account_of whole (suc i)) (sym (add-zero k)) ∙ rw more at (g.rest_account 0) in
      rw add-one
      record {
        places = same_places g.places len long;
        handing = s.1;
        rest = rw s.0 (rw more at g.rest);
        rest_typed = λ f p l.
            rw (s.0, s.2 f, tabulate_at (length marks) (λ q. cond (took_for_use step q) (type_used step q) (get_or used q 0)) 0 p l)
            (typed_on (took_for_use step p) (used_in later p) (get_or used p 0) (type_used step p) (type_in later p)
            (used_once marks (offered_by offers) p l rule (rules_in types (drop (suc k) rules)) (suc k) (done_by steps handed) (omega arith))
            ∙ (rw more at (g.rest_typed f p l)));
        rest_account = λ i.
            let at : suc k + i ≡ k + suc i = omega arith in
            let second : suc (suc i) - 1 ≡ suc (suc i - 1) = omega arith in
            rw (at, s.0) (rw (more, second) at (g.rest_account (suc i)));
        noted_so_far = λ t. rw (put t) (one_noted whole few (g.noted_so_far t) (s.3 ∙ sym (ap numbers_of here)));
      }

  pub arrive : {k : ℕ} {steps used handed : List ℕ} {noted : List Numbers} → length rules ≤ k → Stepping marks offers rules types first told k steps used handed noted
      → (steps ≡ choose marks (offered_by offers) (rules_in types rules))
      × (first ≡ true → used ≡ types_in (length marks) (account marks (offered_by offers) (rules_in types rules)))
      × (told ≡ true → noted ≡ noted_of (account marks (offered_by offers) (rules_in types rules)))
  unfolding choose advance_all account_from used_in types_in
  arrive {k} l g =
      let over : drop k rules ≡ [] = drop_all k rules l in (
        ap (λ (done : Progress). done.given) (rw over at g.rest),
        λ f.
            ext_get_or 0 _ _ (g.places.used_each ∙ sym (length_tabulate 0 (length marks) _))
            (λ p l.
            let inside : p < length marks = omega (arith, g.places.used_each) in
            (rw over at (g.rest_typed f p inside)) ∙ sym (tabulate_at (length marks) _ 0 p inside)),
        λ t. all_noted (account marks (offered_by offers) (rules_in types rules)) (g.noted_so_far t) (λ i. rw over at (g.rest_account i)),
      )
