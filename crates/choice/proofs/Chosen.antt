-- What every choice keeps: its length, its step numbers, and that each place is taken under an entry that it offers.
use Prim.Native.Nat.{ℕ, zero, suc, ◌+◌, ◌≤◌, ◌<◌}
use mathlib.Core.Path.{◌≡◌, refl, sym, ◌∙◌, ap}
use mathlib.Core.Bool.{Bool, true, false, cond}
use mathlib.Core.List.{List, [], ◌∷◌}
use native.Mathlib.Omega.{arith}
use lib.Dec.{eqb}
use lib.ListN.{length, get_or, length-replicate}
use Rattle.round.specs.declared.entry.Category.{Category}
use Rattle.round.specs.Round.{StepRule}
use Rattle.lists.proofs.Words.{and_fst, length_tabulate, tabulate_at}
use Rattle.choice.specs.Choice.{Progress, considers, taken_at, advance, advance_all, nothing_done, choose}
use Rattle.lists.proofs.Counting.{clash}
use Rattle.choice.proofs.Taking.{taken_considered}
use Rattle.choice.proofs.Offers.{Offers, same, same_category_lem}
use Rattle.lists.proofs.Tabulate.{tabulate_bound, get_or_zeros}

-- k is the number, from 1, of a rule of this category
abbrev pub taken_under : List StepRule → ℕ → Category → Bool
taken_under [] k c = false
taken_under (rule ∷ rules) zero c = false
taken_under (rule ∷ rules) (suc zero) c = same c rule.category
taken_under (rule ∷ rules) (suc (suc k)) c = taken_under rules (suc k) c

pub under_none : (rules : List StepRule) (c : Category) → taken_under rules 0 c ≡ false
under_none [] c = refl
under_none (rule ∷ rules) c = refl

module _ (marks : List ℕ) (Y : Offers) where
  all_length : (rules : List StepRule) (k : ℕ) (done : Progress) → length done.given ≡ length marks → length (advance_all marks Y k rules done).given ≡ length marks
  unfolding advance_all advance
  all_length [] k done e = e
  all_length (rule ∷ rules) k done e = all_length rules (suc k) (advance marks Y k rule done) (length_tabulate 0 (length marks) _)

  pub choose_length : (rules : List StepRule) → length (choose marks Y rules) ≡ length marks
  unfolding choose nothing_done
  choose_length rules = all_length rules 1 (nothing_done marks Y) (length-replicate (length marks) 0)

  all_numbers : (rules : List StepRule) (k : ℕ) (done : Progress) → ((p : ℕ) → get_or done.given p 0 < k) → (p : ℕ) → get_or (advance_all marks Y k rules done).given p 0 < k + length rules
  unfolding advance_all advance
  all_numbers [] k done low p = omega (arith, low p)
  all_numbers (rule ∷ rules) k done low p =
      let next : (q : ℕ) → get_or (advance marks Y k rule done).given q 0 < suc k =
      tabulate_bound (length marks) (λ q. cond (taken_at marks Y k rule done q) k (get_or done.given q 0)) (suc k) (omega arith) (λ q. less (taken_at marks Y k rule done q) (get_or done.given q 0) (low q)) in
      omega (arith, all_numbers rules (suc k) (advance marks Y k rule done) next p)
    where
      less : (b : Bool) (g : ℕ) → g < k → cond b k g < suc k
      less true g l = omega arith
      less false g l = omega arith

  pub choose_number : (rules : List StepRule) (p : ℕ) → get_or (choose marks Y rules) p 0 ≤ length rules
  unfolding choose nothing_done
  choose_number rules p = omega (arith, all_numbers rules 1 (nothing_done marks Y) (λ q. omega (arith, get_or_zeros (length marks) q)) p)

  step_offered : (under : ℕ → Category → Bool) (k : ℕ) (rule : StepRule) (done : Progress) → ((p : ℕ) → p < length marks → (c : Category) → under (get_or done.given p 0) c ≡ true → Y p c ≡ true) → ((c : Category) → under k c ≡ same c rule.category) → (p : ℕ) → p < length marks → (c : Category) → under (get_or (advance marks Y k rule done).given p 0) c ≡ true → Y p c ≡ true
  unfolding advance taken_at considers
  step_offered under k rule done low number p l c t =
      go (taken_at marks Y k rule done p) refl (sym (ap (λ (g : ℕ). under g c) (tabulate_at (length marks) (λ q. cond (taken_at marks Y k rule done q) k (get_or done.given q 0)) 0 p l)) ∙ t)
    where
      go : (b : Bool) → taken_at marks Y k rule done p ≡ b → under (cond b k (get_or done.given p 0)) c ≡ true → Y p c ≡ true
      go true e u =
          let one : c ≡ rule.category = same_category_lem c rule.category (sym (number c) ∙ u) in
          let offers : Y p rule.category ≡ true = and_fst (Y p rule.category) (eqb (get_or done.given p 0) 0) (taken_considered rule.reserved marks _ _ p e) in
          cc
      go false e u = low p l c u

  all_offered : (under : ℕ → Category → Bool) (rules : List StepRule) (k : ℕ) (done : Progress) → ((p : ℕ) → p < length marks → (c : Category) → under (get_or done.given p 0) c ≡ true → Y p c ≡ true) → ((i j : ℕ) → j ≡ k + i → (c : Category) → under j c ≡ taken_under rules (suc i) c) → (p : ℕ) → p < length marks → (c : Category) → under (get_or (advance_all marks Y k rules done).given p 0) c ≡ true → Y p c ≡ true
  unfolding advance_all advance
  all_offered under [] k done low number = low
  all_offered under (rule ∷ rules) k done low number =
      all_offered under rules (suc k) (advance marks Y k rule done)
      (step_offered under k rule done low (λ c. number 0 k (omega arith) c))
      (λ i j e c. number (suc i) j (omega arith) c)

  -- a place is taken under an entry that it offers
  pub choose_offered : (rules : List StepRule) (p : ℕ) → p < length marks → (c : Category) → taken_under rules (get_or (choose marks Y rules) p 0) c ≡ true → Y p c ≡ true
  unfolding choose nothing_done
  choose_offered rules =
      all_offered (taken_under rules) rules 1 (nothing_done marks Y)
      (λ p l c t. clash t (ap (λ (g : ℕ). taken_under rules g c) (get_or_zeros (length marks) p) ∙ under_none rules c))
      (λ i j e c. let f : j ≡ suc i = omega arith in ap (λ (g : ℕ). taken_under rules g c) f)
