-- The completion of an institute's choice: a place taken under one entry keeps its other entry in play. It has the laws
-- that the choice itself lacks: more offers keep out what was kept out, and take no fewer.
use Prim.Native.Nat.{ℕ, zero, suc, ◌+◌, ◌-◌, ◌≤◌, ◌<◌, min}
use mathlib.Core.Path.{◌≡◌, refl, sym, ◌∙◌, ap}
use mathlib.Core.Bool.{Bool, true, false, cond, not, ◌&&◌, ◌||◌, and-true}
use mathlib.Core.List.{List, [], ◌∷◌}
use native.Mathlib.Omega.{arith}
use lib.Dec.{eqb, ltb}
use lib.ListN.{length, get_or}
use borrow.Author.Tests.{ltb-true, eqb-true, ne_eqb}
use Rattle.round.specs.declared.entry.Category.{Category}
use Rattle.round.specs.declared.entry.Category.TheVariants.{Open, SC, ST, OBC, EWS}
use Rattle.round.specs.Round.{StepRule}
use Rattle.lists.specs.Lists.{tabulate, count_of, list_sum}
use Rattle.lists.proofs.Words.{and_fst, and_snd}
use Rattle.choice.specs.Step.{remaining, taken_by_merit, taken}
use Rattle.choice.specs.Choice.{Progress, nothing_done}
use Rattle.lists.proofs.Counting.{clash, true_unless, count_ext, count_le}
use Rattle.lists.proofs.Tabulate.{tabulate_cong}
use Rattle.lists.proofs.Sets.{left_if_out, out_if_left, count_split}
use Rattle.choice.proofs.Offers.{Offers, Within, WithinBelow, same, same_category_lem, offers_in, offers_split, same_by_offers, cut_offers, cut_in}
use Rattle.choice.proofs.Filling.{filled, filled_stays, filled_count}
use Rattle.choice.proofs.Taking.{takes, takes_most, LawfulStep, LawfulFor, one_to_one, taking_rule, taken_considered}

-- each step's reserved positions are positions of its own
abbrev pub Lawful : List StepRule → Type 0
Lawful [] = Unit {0}
Lawful (rule ∷ rules) = (list_sum rule.reserved ≤ rule.own) × Lawful rules

pub lawful_for : (marks : List ℕ) (rules : List StepRule) → Lawful rules → LawfulFor marks rules
lawful_for marks [] lawful = tt
lawful_for marks (rule ∷ rules) lawful = (one_to_one marks rule lawful.0, lawful_for marks rules lawful.1)

-- what is done when step k too has taken the places of T, of its positions
abbrev pub progress : ℕ → ℕ → ℕ → ℕ → (ℕ → Bool) → Progress → Progress
progress n k positions receiver T done = record {
  given = tabulate n (λ p. cond (T p) k (get_or done.given p 0));
  handed = λ j. done.handed j + cond (eqb j receiver) (positions - count_of n T) 0;
}

-- what a step leaves depends on whom it takes of the places
pub progress_below : (n k positions receiver : ℕ) (done : Progress) (T T' : ℕ → Bool) → ((p : ℕ) → p < n → T p ≡ T' p) → progress n k positions receiver T done ≡ progress n k positions receiver T' done
progress_below n k positions receiver done T T' alike =
    let given = tabulate_cong n (λ p. cond (T p) k (get_or done.given p 0)) (λ p. cond (T' p) k (get_or done.given p 0)) (λ p l. ap (λ (b : Bool). cond b k (get_or done.given p 0)) (alike p l)) in
    let number = count_ext n T T' alike in
    λ i. record { given = given i; handed = λ j. done.handed j + cond (eqb j receiver) (positions - number i) 0 }

-- what the steps done so far leave: the offers not taken, and the steps and vacancies as the choice keeps them
pub record Completing : Type 0 where
  pub left : Offers
  pub done : Progress

module _ (marks : List ℕ) where
  unfoldable pub positions_in : ℕ → StepRule → Completing → ℕ
  positions_in k rule now = rule.own + now.done.handed k

  -- the places whose offer of its category step k takes
  unfoldable pub taken_in : ℕ → StepRule → Completing → ℕ → Bool
  taken_in k rule now = taken rule.reserved marks (λ p. now.left p rule.category) (positions_in k rule now)

  unfoldable pub vacant_in : ℕ → StepRule → Completing → ℕ
  vacant_in k rule now = positions_in k rule now - count_of (length marks) (taken_in k rule now)

  -- step k is done too
  unfoldable pub complete : ℕ → StepRule → Completing → Completing
  complete k rule now = record {
    left = λ p c. now.left p c && not (same c rule.category && taken_in k rule now p);
    done = progress (length marks) k (positions_in k rule now) rule.receiver (taken_in k rule now) now.done;
  }

  unfoldable pub complete_all : ℕ → List StepRule → Completing → Completing
  complete_all k [] now = now
  complete_all k (rule ∷ rules) now = complete_all (suc k) rules (complete k rule now)

  unfoldable pub all_left : Offers → Completing
  all_left offered = record { left = offered; done = nothing_done marks offered }

  -- the offers taken in all
  unfoldable pub completion : List StepRule → Offers → Offers
  completion rules offered p c = offered p c && not ((complete_all 1 rules (all_left offered)).left p c)

unfoldable pub total_taken : List ℕ → List StepRule → Offers → ℕ
total_taken marks rules offered = offers_in (length marks) (completion marks rules offered)

pub completion_within : (marks : List ℕ) (rules : List StepRule) (Y : Offers) (p : ℕ) (c : Category) → completion marks rules Y p c ≡ true → Y p c ≡ true
unfolding completion
completion_within marks rules Y p c = and_fst (Y p c) _

-- an offer left at the end was left all the time
pub left_before : (marks : List ℕ) (rules : List StepRule) (k : ℕ) (now : Completing) (p : ℕ) (c : Category) → (complete_all marks k rules now).left p c ≡ true → now.left p c ≡ true
unfolding complete_all complete
left_before marks [] k now p c e = e
left_before marks (rule ∷ rules) k now p c e = and_fst (now.left p c) _ (left_before marks rules (suc k) (complete marks k rule now) p c e)

stays_left : (l s t l' t' : Bool) → (l ≡ true → l' ≡ true) → (l ≡ true → s ≡ true → t ≡ false → t' ≡ false) → (l && not (s && t)) ≡ true → (l' && not (s && t')) ≡ true
stays_left true true true l' t' f g e = clash e refl
stays_left true true false l' t' f g e = rw (f refl, g refl refl refl)
stays_left true false t l' t' f g e = rw (f refl)
stays_left false s t l' t' f g e = clash e refl

cond_mono : (b : Bool) (v v' : ℕ) → v' ≤ v → cond b v' 0 ≤ cond b v 0
cond_mono true v v' h = h
cond_mono false v v' h = omega arith

-- a part of the set leaves it, or nothing does
count_leaving : (n : ℕ) (X T : ℕ → Bool) (b : Bool) → (b ≡ true → (p : ℕ) → p < n → T p ≡ true → X p ≡ true) → count_of n (λ p. X p && not (b && T p)) + cond b (count_of n T) 0 ≡ count_of n X
count_leaving n X T true s = omega (arith, count_split n X T (s refl))
count_leaving n X T false s = omega (arith, count_ext n (λ p. X p && true) X (λ p l. and-true (X p)))

one_category : (c : Category) (t : ℕ) → cond (same Open c) t 0 + cond (same SC c) t 0 + cond (same ST c) t 0 + cond (same OBC c) t 0 + cond (same EWS c) t 0 ≡ t
one_category Open t = omega arith
one_category SC t = omega arith
one_category ST t = omega arith
one_category OBC t = omega arith
one_category EWS t = omega arith

-- the sum of h k, h (k + 1), .., m in all
abbrev sum_from : ℕ → ℕ → (ℕ → ℕ) → ℕ
sum_from k zero h = 0
sum_from k (suc m) h = h k + sum_from (suc k) m h

-- r is one of the m numbers from k
abbrev among : ℕ → ℕ → ℕ → Bool
among k zero r = false
among k (suc m) r = eqb k r || among (suc k) m r

not_among : (k m r : ℕ) → r < k → among k m r ≡ false
not_among k zero r l = refl
not_among k (suc m) r l = rw (ne_eqb k r (omega arith), not_among (suc k) m r (omega arith))

-- a number added at r counts where r is among those summed
sum_handed : (k m : ℕ) (h : ℕ → ℕ) (r v : ℕ) → sum_from k m (λ j. h j + cond (eqb j r) v 0) ≡ sum_from k m h + cond (among k m r) v 0
sum_handed k zero h r v = omega arith
sum_handed k (suc m) h r v = go (eqb k r) refl (sum_handed (suc k) m h r v)
  where
    go : (b : Bool) → eqb k r ≡ b → sum_from (suc k) m (λ j. h j + cond (eqb j r) v 0) ≡ sum_from (suc k) m h + cond (among (suc k) m r) v 0 → sum_from k (suc m) (λ j. h j + cond (eqb j r) v 0) ≡ sum_from k (suc m) h + cond (among k (suc m) r) v 0
    go true e ih =
        let past : among (suc k) m r ≡ false = not_among (suc k) m r (omega (arith, eqb-true)) in
        rw e (omega (arith, rw past at ih))
    go false e ih = rw e (omega arith)

cond_between : (b : Bool) (v v' : ℕ) → v' ≤ v → cond b v 0 + v' ≤ cond b v' 0 + v
cond_between true v v' h = omega arith
cond_between false v v' h = omega arith

module _ (marks : List ℕ) where
  -- what a step takes leaves
  step_offers : (k : ℕ) (rule : StepRule) (now : Completing) → offers_in (length marks) (complete marks k rule now).left + count_of (length marks) (taken_in marks k rule now) ≡ offers_in (length marks) now.left
  unfolding offers_in complete taken_in
  step_offers k rule now =
      let c = rule.category in
      let T = taken_in marks k rule now in
      let part : (d : Category) → count_of (length marks) (λ p. now.left p d && not (same d c && T p)) + cond (same d c) (count_of (length marks) T) 0 ≡ count_of (length marks) (λ p. now.left p d) =
      λ d. count_leaving (length marks) (λ p. now.left p d) T (same d c)
      (λ s p l t.
      let e : d ≡ c = same_category_lem d c s in
      rw e (taken_considered rule.reserved marks (λ r. now.left r c) _ p t)) in
      omega (arith, part Open, part SC, part ST, part OBC, part EWS, one_category c (count_of (length marks) T))

  -- one step, from fewer offers and more positions and from more offers and fewer positions
  module _ (k : ℕ) (rule : StepRule) (lawful : LawfulStep marks rule) (now now' : Completing)
      (fewer : Within now.left now'.left)
      (more : (j : ℕ) → now'.done.handed j ≤ now.done.handed j) where
    step_stays : (p : ℕ) (c : Category) → (complete marks k rule now).left p c ≡ true → (complete marks k rule now').left p c ≡ true
    unfolding complete taken_in positions_in taken taken_by_merit remaining filled takes
    step_stays p c =
        stays_left (now.left p c) (same c rule.category) (taken_in marks k rule now p) (now'.left p c) (taken_in marks k rule now' p)
        (fewer p c)
        (λ l s.
        let e : c ≡ rule.category = same_category_lem c rule.category s in
        let x : now.left p rule.category ≡ true = cc in
        let less : rule.own + now'.done.handed k ≤ rule.own + now.done.handed k = omega (arith, more k) in
        filled_stays (length marks) (takes_most rule) (takes rule marks) (taking_rule rule marks lawful.fit) _ _ less
        (λ r. now.left r rule.category)
        (λ r. now'.left r rule.category)
        (λ r. fewer r rule.category) p x)

    step_count_lem : (at : Completing) → count_of (length marks) (taken_in marks k rule at) ≡ min (positions_in marks k rule at) (count_of (length marks) (λ p. at.left p rule.category))
    unfolding taken_in positions_in taken taken_by_merit remaining filled takes
    step_count_lem at =
        let fits : takes_most rule ≤ rule.own + at.done.handed k = omega (arith, lawful.own) in
        filled_count (length marks) (takes_most rule) (takes rule marks) (taking_rule rule marks lawful.fit) _ fits (λ p. at.left p rule.category)

    step_positions : (at : Completing) → vacant_in marks k rule at + count_of (length marks) (taken_in marks k rule at) ≡ rule.own + at.done.handed k
    unfolding vacant_in positions_in
    step_positions at = omega (arith, step_count_lem at)

    step_vacant_lem : vacant_in marks k rule now' ≤ vacant_in marks k rule now
    unfolding vacant_in positions_in
    step_vacant_lem =
        omega (
          arith,
          more k,
          step_count_lem now,
          step_count_lem now',
          count_le (length marks) (λ p. now.left p rule.category) (λ p. now'.left p rule.category) (λ p l. fewer p rule.category),
        )

    step_handed : (j : ℕ) → (complete marks k rule now').done.handed j ≤ (complete marks k rule now).done.handed j
    unfolding complete vacant_in
    step_handed j = omega (arith, more j, cond_mono (eqb j rule.receiver) _ _ step_vacant_lem)

    -- what step k takes more is made up for by what it hands on more
    all_take_one : (rules : List StepRule) (last last' : ℕ) → offers_in (length marks) (complete marks k rule now).left + last' + sum_from (suc k) (length rules) (complete marks k rule now').done.handed ≤ offers_in (length marks) (complete marks k rule now').left + last + sum_from (suc k) (length rules) (complete marks k rule now).done.handed → offers_in (length marks) now.left + last' + sum_from k (suc (length rules)) now'.done.handed ≤ offers_in (length marks) now'.left + last + sum_from k (suc (length rules)) now.done.handed
    unfolding complete vacant_in
    all_take_one rules last last' ih =
        let r = rule.receiver in
        let v = vacant_in marks k rule now in
        let v' = vacant_in marks k rule now' in
        omega (
          arith,
          ih,
          step_offers k rule now,
          step_offers k rule now',
          step_positions now,
          step_positions now',
          sum_handed (suc k) (length rules) now.done.handed r v,
          sum_handed (suc k) (length rules) now'.done.handed r v',
          cond_between (among (suc k) (length rules) r) v v' step_vacant_lem,
        )

  all_stay : (rules : List StepRule) → LawfulFor marks rules → (k : ℕ) (now now' : Completing) → Within now.left now'.left → ((j : ℕ) → now'.done.handed j ≤ now.done.handed j) → (p : ℕ) (c : Category) → (complete_all marks k rules now).left p c ≡ true → (complete_all marks k rules now').left p c ≡ true
  unfolding complete_all
  all_stay [] lawful k now now' fewer more = fewer
  all_stay (rule ∷ rules) lawful k now now' fewer more =
      all_stay rules lawful.1 (suc k) (complete marks k rule now) (complete marks k rule now')
      (step_stays k rule lawful.0 now now' fewer more)
      (step_handed k rule lawful.0 now now' fewer more)

  -- what is not taken from some offers is not taken from more
  pub completion_stays : (rules : List StepRule) → Lawful rules → (Y Y' : Offers) → Within Y Y' → (p : ℕ) (c : Category) → Y p c ≡ true → completion marks rules Y p c ≡ false → completion marks rules Y' p c ≡ false
  unfolding completion all_left nothing_done
  completion_stays rules lawful Y Y' fewer p c y out =
      out_if_left (Y' p c) _
      (all_stay rules (lawful_for marks rules lawful) 1 (all_left marks Y) (all_left marks Y') fewer (λ j. omega arith) p c
      (left_if_out (Y p c) _ y out))

  -- with fewer offers and more positions handed, the steps to come take more only by what they were handed more
  all_take : (rules : List StepRule) → LawfulFor marks rules → (k : ℕ) (now now' : Completing) → Within now.left now'.left → ((j : ℕ) → now'.done.handed j ≤ now.done.handed j) → offers_in (length marks) now.left + offers_in (length marks) (complete_all marks k rules now').left + sum_from k (length rules) now'.done.handed ≤ offers_in (length marks) now'.left + offers_in (length marks) (complete_all marks k rules now).left + sum_from k (length rules) now.done.handed
  unfolding complete_all
  all_take [] lawful k now now' fewer more = omega arith
  all_take (rule ∷ rules) lawful k now now' fewer more =
      all_take_one k rule lawful.0 now now' fewer more rules _ _
      (all_take rules lawful.1 (suc k) (complete marks k rule now) (complete marks k rule now')
      (step_stays k rule lawful.0 now now' fewer more)
      (step_handed k rule lawful.0 now now' fewer more))

  -- more offers take no fewer
  pub completion_grows : (rules : List StepRule) → Lawful rules → (Y Y' : Offers) → Within Y Y' → total_taken marks rules Y ≤ total_taken marks rules Y'
  unfolding total_taken completion all_left nothing_done
  completion_grows rules lawful Y Y' fewer =
      omega (
        arith,
        all_take rules (lawful_for marks rules lawful) 1 (all_left marks Y) (all_left marks Y') fewer (λ j. omega arith),
        offers_split (length marks) Y (complete_all marks 1 rules (all_left marks Y)).left (left_before marks rules 1 (all_left marks Y)),
        offers_split (length marks) Y' (complete_all marks 1 rules (all_left marks Y')).left (left_before marks rules 1 (all_left marks Y')),
      )

  module _ (rules : List StepRule) (lawful : Lawful rules) where
    same_within : (Y Y' : Offers) → Within Y Y' → WithinBelow (length marks) (completion marks rules Y') Y → (p : ℕ) → p < length marks → (c : Category) → completion marks rules Y p c ≡ completion marks rules Y' p c
    unfolding total_taken
    same_within Y Y' s held p l c =
        sym
        (same_by_offers (length marks) (completion marks rules Y') (completion marks rules Y)
        (λ r m d t. true_unless _ (λ f. clash t (completion_stays rules lawful Y Y' s r d (held r m d t) f)))
        (completion_grows rules lawful Y Y' s)
        p l c)

    cut_same : (Y : Offers) (p : ℕ) → p < length marks → (c : Category) → completion marks rules (cut_offers (length marks) Y) p c ≡ completion marks rules Y p c
    cut_same Y = same_within (cut_offers (length marks) Y) Y (λ p c o. and_snd (ltb p (length marks)) (Y p c) o) (λ p l c t. cut_in (length marks) Y p l c (completion_within marks rules Y p c t))

    -- offers that are not taken may be left out
    pub completion_irrelevant : (Y Y' : Offers) → WithinBelow (length marks) Y Y' → WithinBelow (length marks) (completion marks rules Y') Y → (p : ℕ) → p < length marks → (c : Category) → completion marks rules Y p c ≡ completion marks rules Y' p c
    completion_irrelevant Y Y' s held p l c =
        sym (cut_same Y p l c)
        ∙ same_within (cut_offers (length marks) Y) (cut_offers (length marks) Y')
        (λ r d o.
        let m : r < length marks = ltb-true r (length marks) (and_fst (ltb r (length marks)) (Y r d) o) in
        cut_in (length marks) Y' r m d (s r m d (and_snd (ltb r (length marks)) (Y r d) o)))
        (λ r m d t. cut_in (length marks) Y r m d (held r m d (sym (cut_same Y' r m d) ∙ t)))
        p l c
        ∙ cut_same Y' p l c
