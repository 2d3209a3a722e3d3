-- Where the completion takes at most one offer of each place, the choice takes the same offers; and any two sets of
-- offers, one within the other and both with what the completion takes of the larger, get the same steps and the same account.
use Prim.Native.Nat.{ℕ, suc, ◌+◌, ◌-◌, ◌≤◌, ◌<◌}
use mathlib.Core.Path.{◌≡◌, refl, sym, ◌∙◌, ap}
use mathlib.Core.Bool.{Bool, true, false, cond, not, ◌&&◌, and-false, and-not_self}
use mathlib.Core.List.{List, [], ◌∷◌}
use mathlib.Core.Logic.{◌≢◌}
use native.Mathlib.Omega.{arith}
use lib.Dec.{eqb}
use lib.ListN.{length, get_or, get_or-replicate}
use borrow.Author.Tests.{not-true, eqb-true, eqb-false}
use Rattle.round.specs.declared.entry.Category.{Category}
use Rattle.round.specs.Round.{StepRule}
use Rattle.lists.specs.Lists.{tabulate}
use Rattle.lists.proofs.Words.{and_fst, and_snd, tabulate_at}
use Rattle.matching.specs.ForUse.{taken_for_use}
use Rattle.matching.specs.FirstPlacing.{types_of}
use Rattle.choice.specs.Step.{remaining, taken_by_merit, taken}
use Rattle.choice.specs.Choice.{Progress, considers, positions_at, taken_at, vacant_at, advance, advance_all, nothing_done, choose}
use Rattle.choice.specs.Account.{StepAccount, account_at, account_from, account}
use Rattle.lists.proofs.Counting.{clash, false_unless, count_ext}
use Rattle.lists.proofs.Tabulate.{tabulate_cong}
use Rattle.lists.proofs.Sets.{left_if_out}
use Rattle.choice.proofs.Filling.{filled, irrelevant, filled_irrelevant, use_taken, merit_is}
use Rattle.choice.proofs.Taking.{takes, types_taken, takes_most, LawfulStep, LawfulFor, taking_rule, taken_considered, types_taken_same}
use Rattle.choice.proofs.Completion.{Lawful, lawful_for, progress_below, Completing, positions_in, taken_in, vacant_in, complete, complete_all, all_left, completion, left_before, completion_within}
use Rattle.choice.proofs.Offers.{Offers, WithinBelow, Alone, same, same_self, same_category_lem}
use Rattle.choice.proofs.Chosen.{taken_under, under_none}

-- the steps noted are those under which the offers of Y that are gone were taken
record Agrees (n : ℕ) (under : ℕ → Category → Bool) (Y : Offers) (now : Completing) : Type 0 where
  within : (p : ℕ) → p < n → (c : Category) → now.left p c ≡ true → Y p c ≡ true
  noted : (p : ℕ) → p < n → (c : Category) → under (get_or now.done.given p 0) c ≡ (Y p c && not (now.left p c))
  some : (p : ℕ) → p < n → get_or now.done.given p 0 ≢ 0 → (c : Category) × (under (get_or now.done.given p 0) c ≡ true)

gone_taken : (l s t : Bool) → s ≡ true → t ≡ true → (l && not (s && t)) ≡ false
gone_taken l s t e f = rw (e, f) (and-false l)

noted_taken : (s y l : Bool) → (s ≡ true → y ≡ true) → (s ≡ false → (y && not l) ≡ false) → s ≡ (y && not (l && not (s && true)))
noted_taken true y true f g = rw (f refl)
noted_taken true y false f g = rw (f refl)
noted_taken false y true f g = sym (g refl)
noted_taken false y false f g = sym (g refl)

noted_other : (s y l : Bool) → (y && not l) ≡ (y && not (l && not (s && false)))
noted_other true y true = refl
noted_other false y true = refl
noted_other s y false = refl

-- the account of a step of the completion, and of the steps of these rules, numbered from k
module _ (marks : List ℕ) where
  abbrev account_in : ℕ → StepRule → Completing → StepAccount
  account_in k rule now = record {
    positions = positions_in marks k rule now;
    for_use = tabulate (length marks) (taken_for_use rule.reserved marks (λ p. now.left p rule.category));
    by_merit = tabulate (length marks) (taken_by_merit rule.reserved marks (λ p. now.left p rule.category) (positions_in marks k rule now));
    types = types_of rule.reserved marks (taken_for_use rule.reserved marks (λ p. now.left p rule.category));
    vacant = vacant_in marks k rule now;
  }

  accounts_in : ℕ → List StepRule → Completing → List StepAccount
  accounts_in k [] now = []
  accounts_in k (rule ∷ rules) now = account_in k rule now ∷ accounts_in (suc k) rules (complete marks k rule now)

module _ (marks : List ℕ)
    (under : ℕ → Category → Bool) (none : (c : Category) → under 0 c ≡ false)
    (Y Y' Z : Offers)
    (fewer : WithinBelow (length marks) Y Y')
    (held : WithinBelow (length marks) Z Y)
    (alone : Alone (length marks) Z) where
  module _ (k : ℕ) (rule : StepRule) (lawful : LawfulStep marks rule) (now : Completing)
      (agrees : Agrees (length marks) under Y' now)
      (ends : (p : ℕ) → p < length marks → (c : Category) → Y' p c ≡ true → (complete marks k rule now).left p c ≡ false → Z p c ≡ true) where
    taken_left : (p : ℕ) → taken_in marks k rule now p ≡ true → now.left p rule.category ≡ true
    unfolding taken_in
    taken_left p t = taken_considered rule.reserved marks (λ r. now.left r rule.category) _ p t

    taken_kept : (p : ℕ) → p < length marks → taken_in marks k rule now p ≡ true → Z p rule.category ≡ true
    unfolding complete
    taken_kept p l t = ends p l rule.category (agrees.within p l _ (taken_left p t)) (gone_taken (now.left p rule.category) (same rule.category rule.category) (taken_in marks k rule now p) (same_self rule.category) t)

    gone_kept : (p : ℕ) → p < length marks → (c : Category) → (Y' p c && not (now.left p c)) ≡ true → Z p c ≡ true
    unfolding complete
    gone_kept p l c e =
        let gone : now.left p c ≡ false = not-true (now.left p c) (and_snd (Y' p c) (not (now.left p c)) e) in
        ends p l c (and_fst (Y' p c) (not (now.left p c)) e) (rw gone)

    -- whoever is taken here was not taken before
    taken_new : (p : ℕ) → p < length marks → taken_in marks k rule now p ≡ true → get_or now.done.given p 0 ≡ 0
    taken_new p l t = go (eqb (get_or now.done.given p 0) 0) refl
      where
        go : (b : Bool) → eqb (get_or now.done.given p 0) 0 ≡ b → get_or now.done.given p 0 ≡ 0
        go true e = eqb-true _ _ e
        go false e =
            let one = agrees.some p l (eqb-false _ _ e) in
            let gone : (Y' p one.0 && not (now.left p one.0)) ≡ true = sym (agrees.noted p l one.0) ∙ one.1 in
            let same-one : one.0 ≡ rule.category = alone p l _ _ (gone_kept p l one.0 gone) (taken_kept p l t) in
            clash (ap (λ (c : Category). now.left p c) same-one ∙ taken_left p t) (not-true (now.left p one.0) (and_snd (Y' p one.0) (not (now.left p one.0)) gone))

    -- the places that the step considers have their offer left, and those taken of what is left are considered
    considered_left : (p : ℕ) → p < length marks → considers marks Y rule now.done p ≡ true → now.left p rule.category ≡ true
    unfolding considers
    considered_left p l x =
        let c = rule.category in
        left_if_out (Y' p c) (now.left p c) (fewer p l c (and_fst (Y p c) _ x)) (sym (agrees.noted p l c) ∙ ap (λ (g : ℕ). under g c) (eqb-true _ _ (and_snd (Y p c) _ x)) ∙ none c)

    taken_still : (p : ℕ) → p < length marks → taken_in marks k rule now p ≡ true → considers marks Y rule now.done p ≡ true
    unfolding considers
    taken_still p l t = rw (held p l rule.category (taken_kept p l t), taken_new p l t)

    step_same : (p : ℕ) → p < length marks → taken_at marks Y k rule now.done p ≡ taken_in marks k rule now p
    unfolding taken_at taken_in positions_at positions_in taken taken_by_merit remaining filled takes
    step_same =
        let fits : takes_most rule ≤ rule.own + now.done.handed k = omega (arith, lawful.own) in
        filled_irrelevant (length marks) (takes_most rule) (takes rule marks) (taking_rule rule marks lawful.fit) _ fits (considers marks Y rule now.done) (λ p. now.left p rule.category) considered_left taken_still

    use_same : (p : ℕ) → p < length marks → takes rule marks (considers marks Y rule now.done) p ≡ takes rule marks (λ p. now.left p rule.category) p
    unfolding taken_in takes
    use_same =
        irrelevant (length marks) (takes_most rule) (takes rule marks) (taking_rule rule marks lawful.fit) (considers marks Y rule now.done) (λ p. now.left p rule.category) considered_left
        (λ p l t. taken_still p l (use_taken rule.reserved marks _ (positions_in marks k rule now) p t))

    merit_same : (p : ℕ) → p < length marks
        → taken_by_merit rule.reserved marks (considers marks Y rule now.done) (positions_at marks Y k rule now.done) p
        ≡ taken_by_merit rule.reserved marks (λ p. now.left p rule.category) (positions_in marks k rule now) p
    unfolding taken_at taken_in takes
    merit_same p l =
        merit_is rule.reserved marks _ _ p
        ∙ rw (step_same p l, use_same p l)
        (sym (merit_is rule.reserved marks (λ p. now.left p rule.category) (positions_in marks k rule now) p))

    step_account : account_at marks Y k rule now.done ≡ account_in marks k rule now
    unfolding account_at vacant_at vacant_in positions_at positions_in takes types_taken
    step_account =
        let for_use_is = tabulate_cong (length marks) _ _ use_same in
        let by_merit_is = tabulate_cong (length marks) _ _ merit_same in
        let types_same = types_taken_same rule marks _ _ use_same in
        let number = count_ext (length marks) (taken_at marks Y k rule now.done) (taken_in marks k rule now) step_same in
        λ i. record { positions = rule.own + now.done.handed k; for_use = for_use_is i; by_merit = by_merit_is i; types = types_same i; vacant = rule.own + now.done.handed k - number i }

    step_done : advance marks Y k rule now.done ≡ (complete marks k rule now).done
    unfolding advance vacant_at positions_at positions_in complete
    step_done = progress_below (length marks) k (rule.own + now.done.handed k) rule.receiver now.done _ _ step_same

    given_then : (p : ℕ) → p < length marks → get_or (complete marks k rule now).done.given p 0 ≡ cond (taken_in marks k rule now p) k (get_or now.done.given p 0)
    unfolding complete
    given_then p l = tabulate_at (length marks) (λ q. cond (taken_in marks k rule now q) k (get_or now.done.given q 0)) 0 p l

    step_agrees : ((c : Category) → under k c ≡ same c rule.category) → Agrees (length marks) under Y' (complete marks k rule now)
    unfolding complete
    step_agrees number = record {
      within = λ p l c e. agrees.within p l c (and_fst (now.left p c) _ e);
      noted = λ p l c. rw (given_then p l) (noted_then p l c (taken_in marks k rule now p) refl);
      some = λ p l ne. rw (given_then p l) (some_then p l (taken_in marks k rule now p) refl (λ z. ne (given_then p l ∙ z)));
    }
      where
        noted_then : (p : ℕ) → p < length marks → (c : Category) (b : Bool) → taken_in marks k rule now p ≡ b → under (cond b k (get_or now.done.given p 0)) c ≡ (Y' p c && not (now.left p c && not (same c rule.category && b)))
        noted_then p l c true t =
            number c
            ∙ noted_taken (same c rule.category) (Y' p c) (now.left p c)
            (λ s. rw (same_category_lem c rule.category s) (agrees.within p l rule.category (taken_left p t)))
            (λ s. sym (agrees.noted p l c) ∙ ap (λ (g : ℕ). under g c) (taken_new p l t) ∙ none c)
        noted_then p l c false t = agrees.noted p l c ∙ noted_other (same c rule.category) (Y' p c) (now.left p c)

        some_then : (p : ℕ) → p < length marks → (b : Bool) → taken_in marks k rule now p ≡ b → cond b k (get_or now.done.given p 0) ≢ 0 → (c : Category) × (under (cond b k (get_or now.done.given p 0)) c ≡ true)
        some_then p l true t ne = (rule.category, number rule.category ∙ same_self rule.category)
        some_then p l false t ne = agrees.some p l ne

  -- down the steps, numbered from k
  all_agree : (rules : List StepRule) → LawfulFor marks rules → (k : ℕ) (now : Completing) → Agrees (length marks) under Y' now → ((p : ℕ) → p < length marks → (c : Category) → Y' p c ≡ true → (complete_all marks k rules now).left p c ≡ false → Z p c ≡ true) → ((i j : ℕ) → j ≡ k + i → (c : Category) → under j c ≡ taken_under rules (suc i) c) → (advance_all marks Y k rules now.done ≡ (complete_all marks k rules now).done) × Agrees (length marks) under Y' (complete_all marks k rules now) × (account_from marks Y k rules now.done ≡ accounts_in marks k rules now)
  unfolding advance_all complete_all account_from accounts_in
  all_agree [] lawful k now agrees ends number = (refl, agrees, refl)
  all_agree (rule ∷ rules) lawful k now agrees ends number =
      let next = complete marks k rule now in
      let soon : (p : ℕ) → p < length marks → (c : Category) → Y' p c ≡ true → next.left p c ≡ false → Z p c ≡ true =
      λ p l c y out. ends p l c y (false_unless _ (λ t. clash (left_before marks rules (suc k) next p c t) out)) in
      let later = all_agree rules lawful.1 (suc k) next (step_agrees k rule lawful.0 now agrees soon (λ c. number 0 k (omega arith) c)) ends (λ i j e c. number (suc i) j (omega arith) c) in
      let done = step_done k rule lawful.0 now agrees soon in
      (rw done later.0, later.1, rw (step_account k rule lawful.0 now agrees soon, done, later.2))

module _ (marks : List ℕ) (rules : List StepRule) (lawful : Lawful rules) where
  between : (Y Y' : Offers) → WithinBelow (length marks) Y Y' → WithinBelow (length marks) (completion marks rules Y') Y → Alone (length marks) (completion marks rules Y') → (advance_all marks Y 1 rules (nothing_done marks Y') ≡ (complete_all marks 1 rules (all_left marks Y')).done) × Agrees (length marks) (taken_under rules) Y' (complete_all marks 1 rules (all_left marks Y')) × (account_from marks Y 1 rules (nothing_done marks Y') ≡ accounts_in marks 1 rules (all_left marks Y'))
  unfolding completion all_left nothing_done
  between Y Y' fewer held alone =
      all_agree marks (taken_under rules) (under_none rules) Y Y' (completion marks rules Y') fewer held alone rules (lawful_for marks rules lawful) 1 (all_left marks Y')
      record {
        within = λ p l c e. e;
        noted = λ p l c. ap (λ (g : ℕ). taken_under rules g c) (get_or-replicate (length marks) p 0 0 l) ∙ under_none rules c ∙ sym (and-not_self (Y' p c));
        some = λ p l ne. absurd (ne (get_or-replicate (length marks) p 0 0 l));
      }
      (λ p l c y out. rw (y, out))
      (λ i j e c. let f : j ≡ suc i = omega arith in ap (λ (g : ℕ). taken_under rules g c) f)

  -- the choice takes what the completion takes
  pub agreement : (Y : Offers) → Alone (length marks) (completion marks rules Y) → (p : ℕ) → p < length marks → (c : Category) → taken_under rules (get_or (choose marks Y rules) p 0) c ≡ completion marks rules Y p c
  unfolding completion choose
  agreement Y alone p l c =
      let both = between Y Y (λ r m d y. y) (λ r m d. completion_within marks rules Y r d) alone in
      ap (λ (done : Progress). taken_under rules (get_or done.given p 0) c) both.0 ∙ both.1.noted p l c

  -- offers between those taken and those offered get the same steps
  pub same_steps : (Y Y' : Offers) → WithinBelow (length marks) Y Y' → WithinBelow (length marks) (completion marks rules Y') Y → Alone (length marks) (completion marks rules Y') → choose marks Y rules ≡ choose marks Y' rules
  unfolding choose nothing_done
  same_steps Y Y' fewer held alone =
      ap (λ (done : Progress). done.given) ((between Y Y' fewer held alone).0 ∙ sym (between Y' Y' (λ r m d y. y) (λ r m d. completion_within marks rules Y' r d) alone).0)

  -- and the same account
  pub same_account : (Y Y' : Offers) → WithinBelow (length marks) Y Y' → WithinBelow (length marks) (completion marks rules Y') Y → Alone (length marks) (completion marks rules Y') → account marks Y rules ≡ account marks Y' rules
  unfolding account nothing_done
  same_account Y Y' fewer held alone =
      (between Y Y' fewer held alone).2 ∙ sym (between Y' Y' (λ r m d y. y) (λ r m d. completion_within marks rules Y' r d) alone).2
