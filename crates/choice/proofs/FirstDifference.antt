-- Where more offers change a choice, one of the new offers is taken however many of the other new ones are made with it.
use Prim.Native.Nat.{ℕ, suc, ◌+◌, ◌≤◌, ◌<◌}
use mathlib.Core.Path.{◌≡◌, refl, sym, ◌∙◌, ap}
use mathlib.Core.Bool.{Bool, true, false, cond, not, ◌&&◌}
use mathlib.Core.Logic.{◌≢◌, ◌⊎◌, inl, inr}
use mathlib.Core.List.{List, [], ◌∷◌}
use native.Mathlib.Omega.{arith}
use lib.Dec.{eqb}
use lib.ListN.{length, get_or}
use borrow.Author.Tests.{eqb-true, not-true}
use Rattle.round.specs.declared.entry.Category.{Category}
use Rattle.round.specs.Round.{StepRule}
use Rattle.lists.specs.Lists.{first_of}
use Rattle.lists.proofs.Words.{and_fst, and_snd, tabulate_at}
use Rattle.choice.specs.Choice.{Progress, considers, positions_at, taken_at, vacant_at, advance, advance_all, nothing_done, choose}
use Rattle.lists.proofs.Counting.{less_or, and_true, clash, true_unless, false_unless}
use Rattle.lists.proofs.FirstNumber.{first_passes, first_before}
use Rattle.lists.proofs.Sets.{left_if_out}
use Rattle.choice.specs.Step.{remaining, taken_by_merit, taken}
use Rattle.choice.proofs.Taking.{takes, takes_most, LawfulStep, LawfulFor, taking_rule, taken_considered}
use Rattle.choice.proofs.Filling.{filled, filled_stays, filled_irrelevant}
use Rattle.choice.proofs.Offers.{Offers, Within, same_self}
use Rattle.choice.proofs.Completion.{Lawful, lawful_for, progress_below}
use Rattle.choice.proofs.Chosen.{taken_under}

-- an offer of W outside X that is taken from whatever offers of W are added to those of X, itself among them
pub record NewlyTaken (marks : List ℕ) (rules : List StepRule) (X W : Offers) : Type 0 where
  pub place : ℕ
  pub category : Category
  pub inside : place < length marks
  pub wanted : W place category ≡ true
  pub outside : X place category ≡ false
  pub takes : (Y : Offers) → Within X Y → Within Y W → Y place category ≡ true
      → taken_under rules (get_or (choose marks Y rules) place 0) category ≡ true

-- the same of the steps that an end of the choice gives, where under says which step takes under which category
record NewlyGiven (n : ℕ) (under : ℕ → Category → Bool) (end : Offers → Progress) (X W : Offers) : Type 0 where
  place : ℕ
  category : Category
  inside : place < n
  wanted : W place category ≡ true
  outside : X place category ≡ false
  takes : (Y : Offers) → Within X Y → Within Y W → Y place category ≡ true
      → under (get_or (end Y).given place 0) category ≡ true

module _ (marks : List ℕ) (Y : Offers) where
  given_then : (k : ℕ) (rule : StepRule) (done : Progress) (p : ℕ) → p < length marks
      → get_or (advance marks Y k rule done).given p 0 ≡ cond (taken_at marks Y k rule done p) k (get_or done.given p 0)
  unfolding advance
  given_then k rule done p l = tabulate_at (length marks) (λ q. cond (taken_at marks Y k rule done q) k (get_or done.given q 0)) 0 p l

  is_considered : (k : ℕ) (rule : StepRule) (done : Progress) (p : ℕ) → taken_at marks Y k rule done p ≡ true → considers marks Y rule done p ≡ true
  unfolding taken_at
  is_considered k rule done p = taken_considered rule.reserved marks (considers marks Y rule done) _ p

  -- a step takes who has none
  taken_new : (k : ℕ) (rule : StepRule) (done : Progress) (p : ℕ) → taken_at marks Y k rule done p ≡ true → get_or done.given p 0 ≡ 0
  unfolding considers
  taken_new k rule done p t = eqb-true _ _ (and_snd (Y p rule.category) _ (is_considered k rule done p t))

  -- who has a step keeps it
  step_kept : (k : ℕ) (rule : StepRule) (done : Progress) (p : ℕ) → p < length marks → get_or done.given p 0 ≢ 0
      → get_or (advance marks Y k rule done).given p 0 ≡ get_or done.given p 0
  step_kept k rule done p l some =
      let out : taken_at marks Y k rule done p ≡ false = false_unless _ (λ t. some (taken_new k rule done p t)) in
      given_then k rule done p l ∙ rw out

  all_kept : (rules : List StepRule) (k : ℕ) (done : Progress) (p : ℕ) → p < length marks → get_or done.given p 0 ≢ 0
      → get_or (advance_all marks Y k rules done).given p 0 ≡ get_or done.given p 0
  unfolding advance_all
  all_kept [] k done p l some = refl
  all_kept (rule ∷ rules) k done p l some =
      let now = step_kept k rule done p l some in
      all_kept rules (suc k) (advance marks Y k rule done) p l (λ z. some (sym now ∙ z)) ∙ now

module _ (marks : List ℕ) (X W : Offers) (fewer : Within X W) where
  -- one step
  module _ (k : ℕ) (rule : StepRule) (lawful : LawfulStep marks rule) (done : Progress) where
    considers_more : (Y Y' : Offers) → Within Y Y' → (p : ℕ) → considers marks Y rule done p ≡ true → considers marks Y' rule done p ≡ true
    unfolding considers
    considers_more Y Y' less p x =
        and_true (Y' p rule.category) _ (less p rule.category (and_fst (Y p rule.category) _ x)) (and_snd (Y p rule.category) _ x)

    -- offers of W from which the step considers all whom it takes from W
    step_same : (Y : Offers) → Within Y W → ((p : ℕ) → p < length marks → taken_at marks W k rule done p ≡ true → considers marks Y rule done p ≡ true)
        → advance marks Y k rule done ≡ advance marks W k rule done
    unfolding advance vacant_at positions_at taken_at taken taken_by_merit remaining filled takes
    step_same Y less held =
        let fits : takes_most rule ≤ rule.own + done.handed k = omega (arith, lawful.own) in
        progress_below (length marks) k (rule.own + done.handed k) rule.receiver done _ _
        (filled_irrelevant (length marks) (takes_most rule) (takes rule marks) (taking_rule rule marks lawful.fit) _ fits (considers marks Y rule done) (considers marks W rule done)
        (λ p l. considers_more Y W less p)
        held)

    -- whom the step takes from W it takes from any offers of W from which it considers them
    step_takes : (Y : Offers) → Within Y W → (p : ℕ) → taken_at marks W k rule done p ≡ true → considers marks Y rule done p ≡ true
        → taken_at marks Y k rule done p ≡ true
    unfolding taken_at positions_at taken taken_by_merit remaining filled takes
    step_takes Y less p t x =
        true_unless _
        (λ out.
        clash t
        (filled_stays (length marks) (takes_most rule) (takes rule marks) (taking_rule rule marks lawful.fit) _ _ (omega arith) (considers marks Y rule done) (considers marks W rule done)
        (considers_more Y W less) p x out))

    -- whom the step takes from W and does not consider from X
    module _ (p : ℕ) (inside : p < length marks) (t : taken_at marks W k rule done p ≡ true) (out : considers marks X rule done p ≡ false) where
      now_wanted : W p rule.category ≡ true
      unfolding considers
      now_wanted = and_fst (W p rule.category) _ (is_considered marks W k rule done p t)

      now_free : eqb (get_or done.given p 0) 0 ≡ true
      unfolding considers
      now_free = and_snd (W p rule.category) _ (is_considered marks W k rule done p t)

      now_outside : X p rule.category ≡ false
      unfolding considers
      now_outside = false_unless _ (λ x. clash (and_true (X p rule.category) _ x now_free) out)

      now_takes : (Y : Offers) → Within Y W → Y p rule.category ≡ true → taken_at marks Y k rule done p ≡ true
      unfolding considers
      now_takes Y less v = step_takes Y less p t (and_true (Y p rule.category) _ v now_free)

      newly_now : (under : ℕ → Category → Bool) → under k rule.category ≡ true → k ≢ 0 → (rules : List StepRule)
          → NewlyGiven (length marks) under (λ Y. advance_all marks Y k (rule ∷ rules) done) X W
      unfolding advance_all
      newly_now under here some rules = record {
        place = p;
        category = rule.category;
        inside = inside;
        wanted = now_wanted;
        outside = now_outside;
        takes = λ Y more less v.
            let now : get_or (advance marks Y k rule done).given p 0 ≡ k = given_then marks Y k rule done p inside ∙ rw (now_takes Y less v) in
            let then = all_kept marks Y rules (suc k) (advance marks Y k rule done) p inside (λ z. some (sym now ∙ z)) in
            ap (λ (g : ℕ). under g rule.category) (then ∙ now) ∙ here;
      }

    -- where the step considers from X all whom it takes from W
    module _ (held : (p : ℕ) → p < length marks → taken_at marks W k rule done p ≡ true → considers marks X rule done p ≡ true) where
      newly_later : (under : ℕ → Category → Bool) (rules : List StepRule)
          → NewlyGiven (length marks) under (λ Y. advance_all marks Y (suc k) rules (advance marks W k rule done)) X W
          → NewlyGiven (length marks) under (λ Y. advance_all marks Y k (rule ∷ rules) done) X W
      unfolding advance_all
      newly_later under rules later = record {
        place = later.place;
        category = later.category;
        inside = later.inside;
        wanted = later.wanted;
        outside = later.outside;
        takes = λ Y more less v.
            ap (λ (now : Progress). under (get_or (advance_all marks Y (suc k) rules now).given later.place 0) later.category)
            (step_same Y less (λ p l t. considers_more X Y more p (held p l t)))
            ∙ later.takes Y more less v;
      }

      same_or_later : (under : ℕ → Category → Bool) (rules : List StepRule)
          → (advance_all marks X (suc k) rules (advance marks W k rule done) ≡ advance_all marks W (suc k) rules (advance marks W k rule done))
          ⊎ NewlyGiven (length marks) under (λ Y. advance_all marks Y (suc k) rules (advance marks W k rule done)) X W
          → (advance_all marks X k (rule ∷ rules) done ≡ advance_all marks W k (rule ∷ rules) done)
          ⊎ NewlyGiven (length marks) under (λ Y. advance_all marks Y k (rule ∷ rules) done) X W
      unfolding advance_all
      same_or_later under rules (inl e) = inl (rw (step_same X fewer held) e)
      same_or_later under rules (inr later) = inr (newly_later under rules later)

  -- down the steps, numbered from k
  all_differ : (under : ℕ → Category → Bool) (rules : List StepRule) → LawfulFor marks rules → (k : ℕ) → k ≢ 0 → (done : Progress)
      → ((i j : ℕ) → j ≡ k + i → (c : Category) → under j c ≡ taken_under rules (suc i) c)
      → (advance_all marks X k rules done ≡ advance_all marks W k rules done)
      ⊎ NewlyGiven (length marks) under (λ Y. advance_all marks Y k rules done) X W
  all_differ under [] lawful k some done number = unfold advance_all in inl refl
  all_differ under (rule ∷ rules) lawful k some done number =
      let new : ℕ → Bool = λ p. taken_at marks W k rule done p && not (considers marks X rule done p) in
      let n : ℕ = length marks in
      less_or (first_of n new) n
      (λ l.
      let at : new (first_of n new) ≡ true = first_passes n new l in
      inr
      (newly_now k rule lawful.0 done (first_of n new) l
      (and_fst (taken_at marks W k rule done (first_of n new)) _ at)
      (not-true (considers marks X rule done (first_of n new)) (and_snd (taken_at marks W k rule done (first_of n new)) _ at))
      under
      (number 0 k (omega arith) rule.category ∙ same_self rule.category)
      some
      rules))
      (λ most.
      same_or_later k rule lawful.0 done
      (λ p l t. left_if_out (taken_at marks W k rule done p) (considers marks X rule done p) t (first_before n new p (omega arith)))
      under
      rules
      (all_differ under rules lawful.1 (suc k) (λ z. omega arith) (advance marks W k rule done) (λ i j e c. number (suc i) j (omega arith) c)))

  -- the choices are the same, or some offer of W outside X is newly taken
  pub first_difference : (rules : List StepRule) → Lawful rules → (choose marks X rules ≡ choose marks W rules) ⊎ NewlyTaken marks rules X W
  unfolding choose nothing_done
  first_difference rules lawful =
      go
      (all_differ (taken_under rules) rules (lawful_for marks rules lawful) 1 (λ z. omega arith) (nothing_done marks X)
      (λ i j e c. let f : j ≡ suc i = omega arith in ap (λ (g : ℕ). taken_under rules g c) f))
    where
      go : (advance_all marks X 1 rules (nothing_done marks X) ≡ advance_all marks W 1 rules (nothing_done marks X))
          ⊎ NewlyGiven (length marks) (taken_under rules) (λ Y. advance_all marks Y 1 rules (nothing_done marks X)) X W
          → (choose marks X rules ≡ choose marks W rules) ⊎ NewlyTaken marks rules X W
      go (inl e) = inl (ap (λ (done : Progress). done.given) e)
      go (inr new) = inr record {
        place = new.place;
        category = new.category;
        inside = new.inside;
        wanted = new.wanted;
        outside = new.outside;
        takes = new.takes;
      }
