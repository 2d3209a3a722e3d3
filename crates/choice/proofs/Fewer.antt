-- Places without an offer do not matter: the choice among the gathered places with an offer is the choice among all.
use Prim.Native.Nat.{ℕ, zero, suc, ◌-◌, ◌≤◌, ◌<◌}
use mathlib.Core.Path.{◌≡◌, refl, sym, ap, ◌∙◌}
use mathlib.Core.Bool.{Bool, true, false}
use mathlib.Core.List.{List, [], ◌∷◌}
use native.Mathlib.Omega.{arith}
use lib.ListN.{length, get_or}
use borrow.Author.Tests.{ne_eqb}
use Rattle.round.specs.declared.entry.Category.{Category}
use Rattle.round.specs.Round.{StepRule}
use Rattle.lists.specs.Lists.{count_of, greatest_of}
use Rattle.lists.proofs.Words.{tabulate_at}
use Rattle.matching.specs.ForUse.{taken_before, taken_for_use}
use Rattle.choice.specs.Step.{remaining, taken_by_merit, taken}
use Rattle.matching.specs.FirstPlacing.{types_of}
use Rattle.choice.proofs.Taking.{takes, types_taken}
use Rattle.choice.specs.Choice.{Progress, considers, positions_at, taken_at, vacant_at, advance, advance_all, nothing_done, choose}
use Rattle.choice.specs.Account.{StepAccount, took_for_use, type_used, account_of, account_at, account_from, account, closing_place, type_in}
use Rattle.lists.specs.Lists.{last_of}
use Rattle.choice.specs.Noted.{number_for_use, number_by_merit, numbers_of, noted_of, place_from, with_place, Placed}
use Rattle.choice.specs.declared.step.Numbers.{Numbers}
use Rattle.lists.specs.Gathers.{Gathers, gathered}
use Rattle.lists.proofs.Counting.{test}
use Rattle.choice.proofs.Offers.{Offers}
use Rattle.lists.proofs.Tabulate.{get_or_zeros, tabulate_cong}
use Rattle.lists.proofs.Gathered.{number_below}
use Rattle.lists.proofs.Last.{last_in, last_out}
use Rattle.choice.proofs.Noted.{count_listed, last_listed, idle, map_tabulate}
use Rattle.matching.proofs.Types.{types_at_lem}

-- X' says of the gathered what X says of the places below n, and nothing else is in X
pub record SameAmong (G : ℕ → Bool) (n : ℕ) (X X' : ℕ → Bool) : Type 0 where
  pub inside : (p : ℕ) → p < n → G p ≡ true → X' (count_of p G) ≡ X p
  pub outside : (p : ℕ) → p < n → G p ≡ false → X p ≡ false

-- a step has the same numbers among the gathered, and its closing place is the place of the one there
pub record SameNumbers (places : List ℕ) (step step' : StepAccount) : Type 0 where
  pub positions : step.positions ≡ step'.positions
  pub for_use_is : number_for_use step ≡ number_for_use step'
  pub by_merit_is : number_by_merit step ≡ number_by_merit step'
  pub vacant : step.vacant ≡ step'.vacant
  pub closing : closing_place step ≡ place_from places (closing_place step')

idle_same : (places : List ℕ) → SameNumbers places idle idle
unfolding closing_place greatest_of
idle_same places = record { positions = refl; for_use_is = refl; by_merit_is = refl; vacant = refl; closing = refl }

-- its numbers are those there, with that place
numbers_same : {places : List ℕ} {step step' : StepAccount} → SameNumbers places step step' → with_place places (numbers_of step') ≡ numbers_of step
unfolding numbers_of
numbers_same s = rw (s.closing, s.positions, s.for_use_is, s.by_merit_is, s.vacant)

module _ (G : ℕ → Bool) (n : ℕ) where
  next_in : (p : ℕ) → G p ≡ true → count_of (suc p) G ≡ suc (count_of p G)
  next_in p g = rw g (omega arith)

  next_out : (p : ℕ) → G p ≡ false → count_of (suc p) G ≡ count_of p G
  next_out p g = rw g (omega arith)

  same_count : (X X' : ℕ → Bool) → SameAmong G n X X' → (p : ℕ) → p ≤ n → count_of (count_of p G) X' ≡ count_of p X
  same_count X X' s zero l = refl
  same_count X X' s (suc p) l =
      test (G p)
      (λ g. rw (next_in p g, s.inside p (omega arith) g, same_count X X' s p (omega arith)))
      (λ g. rw (next_out p g, s.outside p (omega arith) g, same_count X X' s p (omega arith)) (omega arith))

  same_size : (marks marks' : List ℕ) → length marks ≡ n → length marks' ≡ count_of n G → (X X' : ℕ → Bool) → SameAmong G n X X'
      → count_of (length marks') X' ≡ count_of (length marks) X
  same_size marks marks' whole few X X' s = rw (few, whole) (same_count X X' s n (omega arith))

  -- the largest place of a set is that of the largest gathered
  same_last : (places : List ℕ) → Gathers G n (λ p. p) places → (X X' : ℕ → Bool) → SameAmong G n X X' → (p : ℕ) → p ≤ n
      → last_of p X ≡ place_from places (last_of (count_of p G) X')
  same_last places at X X' s zero l = unfold greatest_of in refl
  same_last places at X X' s (suc p) l =
      test (G p)
      (λ g.
      let same : X' (count_of p G) ≡ X p = s.inside p (omega arith) g in
      test (X p)
      (λ x.
      let back : suc (count_of p G) - 1 ≡ count_of p G = omega arith in
      last_in X p x
      ∙ sym
      (rw (next_in p g, last_in X' (count_of p G) (same ∙ x), ne_eqb (suc (count_of p G)) 0 (λ z. omega arith), back, at p (omega arith) g)))
      (λ x. last_out X p x ∙ rw (next_in p g, last_out X' (count_of p G) (same ∙ x)) (same_last places at X X' s p (omega arith))))
      (λ g. last_out X p (s.outside p (omega arith) g) ∙ rw (next_out p g) (same_last places at X X' s p (omega arith)))

  -- the gathered of a set are those of the whole
  module _ (f f' : ℕ → ℕ) (kept : (p : ℕ) → p < n → G p ≡ true → f' (count_of p G) ≡ f p) where
    gathered_among : (X X' : ℕ → Bool) → SameAmong G n X X' → (p : ℕ) → p ≤ n → gathered X' (count_of p G) f' ≡ gathered X p f
    unfolding gathered
    gathered_among X X' s zero l = refl
    gathered_among X X' s (suc p) l =
        test (G p)
        (λ g. rw (next_in p g, s.inside p (omega arith) g, kept p (omega arith) g, gathered_among X X' s p (omega arith)))
        (λ g. rw (next_out p g, s.outside p (omega arith) g) (gathered_among X X' s p (omega arith)))

  module _ (marks marks' : List ℕ) (whole : length marks ≡ n) (few : length marks' ≡ count_of n G) (gathers : Gathers G n (λ p. get_or marks p 0) marks') (reserved : List ℕ) (X X' : ℕ → Bool) (s : SameAmong G n X X') where
    same_before : (p : ℕ) → p ≤ n → taken_before reserved marks' X' (count_of p G) ≡ taken_before reserved marks X p
    unfolding taken_before
    same_before zero l = refl
    same_before (suc p) l =
        test (G p)
        (λ g. rw (next_in p g, s.inside p (omega arith) g, gathers p (omega arith) g, same_before p (omega arith)))
        (λ g. rw (next_out p g, s.outside p (omega arith) g) (same_before p (omega arith)))

    same_use : SameAmong G n (taken_for_use reserved marks X) (taken_for_use reserved marks' X')
    unfolding taken_for_use
    same_use = record {
      inside = λ p l g. rw (s.inside p l g, gathers p l g, same_before p (omega arith));
      outside = λ p l g. rw (s.outside p l g);
    }

    -- the types are the same
    same_types : (p : ℕ) → p < n → G p ≡ true → get_or (types_of reserved marks' (taken_for_use reserved marks' X')) (count_of p G) 0 ≡ get_or (types_of reserved marks (taken_for_use reserved marks X)) p 0
    same_types p l g =
        let H = taken_for_use reserved marks X in
        let H' = taken_for_use reserved marks' X' in
        let lists : gathered H' (length marks') (λ q. get_or marks' q 0) ≡ gathered H (length marks) (λ p. get_or marks p 0) = rw (few, whole) (gathered_among (λ p. get_or marks p 0) (λ q. get_or marks' q 0) gathers H H' same_use n (omega arith)) in
        types_at_lem reserved marks' H' (count_of p G) (omega (arith, few, number_below G p n l g))
        ∙ rw (same_use.inside p l g, lists, same_count H H' same_use p (omega arith)) (sym (types_at_lem reserved marks H p (omega (arith, whole))))

  module _ (marks marks' : List ℕ) (whole : length marks ≡ n) (few : length marks' ≡ count_of n G) (gathers : Gathers G n (λ p. get_or marks p 0) marks') (rule : StepRule) (X X' : ℕ → Bool) (s : SameAmong G n X X') where
    same_takes : SameAmong G n (takes rule marks X) (takes rule marks' X')
    unfolding takes
    same_takes = same_use marks marks' whole few gathers rule.reserved X X' s

    same_types_taken : (p : ℕ) → p < n → G p ≡ true → get_or (types_taken rule marks' X') (count_of p G) 0 ≡ get_or (types_taken rule marks X) p 0
    unfolding takes types_taken
    same_types_taken = same_types marks marks' whole few gathers rule.reserved X X' s

    same_remaining : SameAmong G n (remaining rule.reserved marks X) (remaining rule.reserved marks' X')
    unfolding remaining takes
    same_remaining = record {
      inside = λ p l g. rw (s.inside p l g, same_takes.inside p l g);
      outside = λ p l g. rw (s.outside p l g);
    }

    same_merit : (q : ℕ) → SameAmong G n (taken_by_merit rule.reserved marks X q) (taken_by_merit rule.reserved marks' X' q)
    unfolding taken_by_merit remaining takes
    same_merit q = record {
      inside = λ p l g.
          rw (same_remaining.inside p l g, few, whole, same_count _ _ same_takes n (omega arith), same_count _ _ same_remaining p (omega arith));
      outside = λ p l g. rw (same_remaining.outside p l g);
    }

    same_taken : (q : ℕ) → SameAmong G n (taken rule.reserved marks X q) (taken rule.reserved marks' X' q)
    unfolding taken takes
    same_taken q = record {
      inside = λ p l g. rw (same_takes.inside p l g, (same_merit q).inside p l g);
      outside = λ p l g. rw (same_takes.outside p l g, (same_merit q).outside p l g);
    }

    same_number : (q : ℕ) → count_of (length marks') (taken rule.reserved marks' X' q) ≡ count_of (length marks) (taken rule.reserved marks X q)
    same_number q = same_size marks marks' whole few _ _ (same_taken q)

-- the steps of the gathered are those of their places, and no other place has one
pub record AlikeAmong (G : ℕ → Bool) (n : ℕ) (done done' : Progress) : Type 0 where
  pub inside : (p : ℕ) → p < n → G p ≡ true → get_or done'.given (count_of p G) 0 ≡ get_or done.given p 0
  pub outside : (p : ℕ) → p < n → G p ≡ false → get_or done.given p 0 ≡ 0
  pub alike : (j : ℕ) → done'.handed j ≡ done.handed j

module _ (G : ℕ → Bool) (n : ℕ) (marks marks' : List ℕ) (whole : length marks ≡ n) (few : length marks' ≡ count_of n G) (gathers : Gathers G n (λ p. get_or marks p 0) marks') (Y Y' : Offers) (offers : (c : Category) → SameAmong G n (λ p. Y p c) (λ p. Y' p c)) where
  same_considered : (rule : StepRule) (done done' : Progress) → AlikeAmong G n done done' → SameAmong G n (considers marks Y rule done) (considers marks' Y' rule done')
  unfolding considers
  same_considered rule done done' a = record {
    inside = λ p l g. rw ((offers rule.category).inside p l g, a.inside p l g);
    outside = λ p l g. rw ((offers rule.category).outside p l g);
  }

  same_positions : (k : ℕ) (rule : StepRule) (done done' : Progress) → AlikeAmong G n done done' → positions_at marks' Y' k rule done' ≡ positions_at marks Y k rule done
  unfolding positions_at
  same_positions k rule done done' a = rw (a.alike k)

  same_at : (k : ℕ) (rule : StepRule) (done done' : Progress) → AlikeAmong G n done done' → SameAmong G n (taken_at marks Y k rule done) (taken_at marks' Y' k rule done')
  unfolding taken_at
  same_at k rule done done' a = rw (same_positions k rule done done' a) (same_taken G n marks marks' whole few gathers rule _ _ (same_considered rule done done' a) _)

  same_vacant : (k : ℕ) (rule : StepRule) (done done' : Progress) → AlikeAmong G n done done' → vacant_at marks' Y' k rule done' ≡ vacant_at marks Y k rule done
  unfolding vacant_at taken_at
  same_vacant k rule done done' a = rw (same_positions k rule done done' a, same_number G n marks marks' whole few gathers rule _ _ (same_considered rule done done' a) (positions_at marks Y k rule done))

  same_advance : (k : ℕ) (rule : StepRule) (done done' : Progress) → AlikeAmong G n done done' → AlikeAmong G n (advance marks Y k rule done) (advance marks' Y' k rule done')
  unfolding advance
  same_advance k rule done done' a =
      let t = same_at k rule done done' a in
      record {
        inside = λ p l g.
            tabulate_at (length marks') _ 0 (count_of p G) (omega (arith, few, number_below G p n l g))
            ∙ rw (t.inside p l g, a.inside p l g) (sym (tabulate_at (length marks) _ 0 p (omega (arith, whole))));
        outside = λ p l g. tabulate_at (length marks) _ 0 p (omega (arith, whole)) ∙ rw (t.outside p l g) (a.outside p l g);
        alike = λ j. rw (a.alike j, same_vacant k rule done done' a);
      }

  same_all : (rules : List StepRule) (k : ℕ) (done done' : Progress) → AlikeAmong G n done done' → AlikeAmong G n (advance_all marks Y k rules done) (advance_all marks' Y' k rules done')
  unfolding advance_all
  same_all [] k done done' a = a
  same_all (rule ∷ rules) k done done' a = same_all rules (suc k) _ _ (same_advance k rule done done' a)

  same_start : AlikeAmong G n (nothing_done marks Y) (nothing_done marks' Y')
  unfolding nothing_done
  same_start = record {
    inside = λ p l g. get_or_zeros (length marks') (count_of p G) ∙ sym (get_or_zeros (length marks) p);
    outside = λ p l g. get_or_zeros (length marks) p;
    alike = λ j. refl;
  }

  same_choice : (rules : List StepRule) → AlikeAmong G n (advance_all marks Y 1 rules (nothing_done marks Y)) (advance_all marks' Y' 1 rules (nothing_done marks' Y'))
  same_choice rules = same_all rules 1 _ _ same_start

  -- a place with an offer gets the step that it gets among the gathered
  pub choose_gathered : (rules : List StepRule) (p : ℕ) → p < n → G p ≡ true → get_or (choose marks Y rules) p 0 ≡ get_or (choose marks' Y' rules) (count_of p G) 0
  unfolding choose
  choose_gathered rules p l g = sym ((same_choice rules).inside p l g)

  same_used_at : (k : ℕ) (rule : StepRule) (done done' : Progress) → AlikeAmong G n done done' → SameAmong G n (took_for_use (account_at marks Y k rule done)) (took_for_use (account_at marks' Y' k rule done'))
  unfolding account_at takes
  same_used_at k rule done done' a =
      let s = same_takes G n marks marks' whole few gathers rule _ _ (same_considered rule done done' a) in
      record {
        inside = λ p l g.
            tabulate_at (length marks') _ false (count_of p G) (omega (arith, few, number_below G p n l g))
            ∙ s.inside p l g
            ∙ sym (tabulate_at (length marks) _ false p (omega (arith, whole)));
        outside = λ p l g. tabulate_at (length marks) _ false p (omega (arith, whole)) ∙ s.outside p l g;
      }

  same_typed_at : (k : ℕ) (rule : StepRule) (done done' : Progress) → AlikeAmong G n done done' → (p : ℕ) → p < n → G p ≡ true
      → type_used (account_at marks' Y' k rule done') (count_of p G) ≡ type_used (account_at marks Y k rule done) p
  unfolding account_at takes types_taken
  same_typed_at k rule done done' a = same_types_taken G n marks marks' whole few gathers rule _ _ (same_considered rule done done' a)

  same_typed : (rules : List StepRule) (k : ℕ) (done done' : Progress) → AlikeAmong G n done done' → (p : ℕ) → p < n → G p ≡ true
      → type_in (account_from marks' Y' k rules done') (count_of p G) ≡ type_in (account_from marks Y k rules done) p
  unfolding account_from type_in
  same_typed [] k done done' a p l g = refl
  same_typed (rule ∷ rules) k done done' a p l g =
      rw (
        (same_used_at k rule done done' a).inside p l g,
        same_typed_at k rule done done' a p l g,
        same_typed rules (suc k) _ _ (same_advance k rule done done' a) p l g,
      )

  -- and has the type that it has among the gathered
  pub type_gathered : (rules : List StepRule) (p : ℕ) → p < n → G p ≡ true → type_in (account marks Y rules) p ≡ type_in (account marks' Y' rules) (count_of p G)
  unfolding account
  type_gathered rules p l g = sym (same_typed rules 1 _ _ same_start p l g)

  module _ (places : List ℕ) (at : Gathers G n (λ p. p) places) where
    same_numbers_at : (k : ℕ) (rule : StepRule) (done done' : Progress) → AlikeAmong G n done done' → SameNumbers places (account_at marks Y k rule done) (account_at marks' Y' k rule done')
    unfolding account_at closing_place takes
    same_numbers_at k rule done done' a =
        let X : ℕ → Bool = considers marks Y rule done in
        let X' : ℕ → Bool = considers marks' Y' rule done' in
        let H : ℕ → Bool = takes rule marks X in
        let H' : ℕ → Bool = takes rule marks' X' in
        let M : ℕ → Bool = taken_by_merit rule.reserved marks X (positions_at marks Y k rule done) in
        let M' : ℕ → Bool = taken_by_merit rule.reserved marks' X' (positions_at marks' Y' k rule done') in
        let used : SameAmong G n H H' = same_takes G n marks marks' whole few gathers rule X X' (same_considered rule done done' a) in
        let seated : SameAmong G n M M' =
        rw (same_positions k rule done done' a) (same_merit G n marks marks' whole few gathers rule X X' (same_considered rule done done' a) _) in
        let last : last_of (length marks) M ≡ place_from places (last_of (length marks') M') =
        ap (λ (m : ℕ). last_of m M) whole
        ∙ same_last G n places at M M' seated n (omega arith)
        ∙ ap (λ (m : ℕ). place_from places (last_of m M')) (sym few) in
        record {
          positions = sym (same_positions k rule done done' a);
          for_use_is = count_listed (length marks) H ∙ sym (same_size G n marks marks' whole few H H' used) ∙ sym (count_listed (length marks') H');
          by_merit_is = count_listed (length marks) M ∙ sym (same_size G n marks marks' whole few M M' seated) ∙ sym (count_listed (length marks') M');
          vacant = sym (same_vacant k rule done done' a);
          closing = last_listed (length marks) M ∙ last ∙ ap (place_from places) (sym (last_listed (length marks') M'));
        }

    same_numbers : (rules : List StepRule) (k i : ℕ) (done done' : Progress) → AlikeAmong G n done done'
        → SameNumbers places (account_of (account_from marks Y k rules done) (suc i)) (account_of (account_from marks' Y' k rules done') (suc i))
    unfolding account_from
    same_numbers [] k i done done' a = idle_same places
    same_numbers (rule ∷ rules) k zero done done' a = same_numbers_at k rule done done' a
    same_numbers (rule ∷ rules) k (suc i) done done' a =
        let next : suc (suc i) - 1 ≡ suc (suc i - 1) = omega arith in rw next (same_numbers rules (suc k) i _ _ (same_advance k rule done done' a))

    -- each step has the numbers that it has among the gathered
    pub account_gathered : (rules : List StepRule) (k : ℕ) → SameNumbers places (account_of (account marks Y rules) (suc k)) (account_of (account marks' Y' rules) (suc k))
    unfolding account
    account_gathered rules k = same_numbers rules 1 k _ _ same_start

    -- the account of the gathered, with the places of the closing places there, is that of the whole
    pub noted_gathered : (rules : List StepRule) (noted : List Numbers) → Placed places (noted_of (account marks' Y' rules)) noted → noted ≡ noted_of (account marks Y rules)
    unfolding noted_of
    noted_gathered rules noted put =
        put
        ∙ map_tabulate (with_place places) 12 (λ k. numbers_of (account_of (account marks' Y' rules) (suc k)))
        ∙ tabulate_cong 12 _ _ (λ k l. numbers_same (account_gathered rules k))
