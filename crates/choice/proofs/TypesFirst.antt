-- The types that a step uses, read down the merit list over those whom it took for use, are the smallest of all placings that place them all.
use Prim.Native.Nat.{ℕ, zero, suc, ◌≤◌, ◌<◌, ◌-◌}
use mathlib.Core.Path.{◌≡◌, refl, sym, ◌∙◌}
use mathlib.Core.Bool.{Bool, true, false}
use mathlib.Core.List.{List, [], ◌∷◌, ◌++◌}
use mathlib.Core.Logic.{◌≢◌}
use native.Mathlib.Omega.{arith}
use lib.Dec.{eqb, ltb}
use lib.ListN.{length, get_or, length-append, get_or-append, get_or-eq_default}
use lib.Seq.{get_or_at}
use borrow.Author.Tests.{lt-ltb}
use Rattle.round.specs.Round.{StepRule}
use Rattle.round.specs.Places.{no_step}
use Rattle.lists.proofs.Words.{tabulate_at}
use Rattle.lists.specs.Numbers.{holds}
use Rattle.matching.specs.Use.{one_less, use_of, Placing, placed_in}
use Rattle.matching.specs.ForUse.{taken_before, taken_for_use}
use Rattle.choice.specs.Choice.{Progress, considers, advance, nothing_done}
use Rattle.lists.specs.Gathers.{gathered}
use Rattle.matching.specs.FirstPlacing.{first_placing, Smallest, types_of}
use Rattle.choice.specs.Account.{StepAccount, took_for_use, type_used, account_of, account_at, account_from, account, TypesFirst}
use Rattle.lists.proofs.Counting.{test, less_or, same_or, below, bit_true, bit_same, bit_other}
use Rattle.matching.proofs.Use.{one_less_length, one_less_same, one_less_other, given_type, use_reached, use_of_given, use_of_everyone}
use Rattle.lists.proofs.Gathered.{count_last, gathered_in, gathered_out, gathered_length, gathered_numbers, gathered_same}
use Rattle.matching.proofs.FirstPlacing.{first_placing_length, first_smallest}
use Rattle.matching.proofs.Types.{first_placed, types_length, types_at_lem, types_none}
use Rattle.matching.proofs.Taking.{taken_before_taken, taken_before_left, taken_before_placeable}
use Rattle.choice.proofs.Offers.{Offers}

-- one more at the end is given type t, the others what is left
placing_last : (reserved : List ℕ) (m : ℕ) (marks types : List ℕ) (t : ℕ) → t < length reserved → holds m t ≡ true → 0 < get_or reserved t 0
    → Placing (one_less reserved t) marks types → Placing reserved (marks ++ m ∷ []) (types ++ suc t ∷ [])
placing_last reserved m marks types t l h r p = record {
  each = omega (arith, length-append marks (m ∷ []), length-append types (suc t ∷ []), p.each);
  held = held;
  within = λ u k. same_or u t (same u) (other u k);
}
  where
    held : (i u : ℕ) → i < length (marks ++ m ∷ []) → get_or (types ++ suc t ∷ []) i 0 ≡ suc u → (u < length reserved) × (holds (get_or (marks ++ m ∷ []) i 0) u ≡ true)
    held i u b e =
        below i (length marks) (omega (arith, length-append marks (m ∷ [])))
        (λ less.
        let type : get_or types i 0 ≡ suc u = sym (get_or-append types (suc t ∷ []) 0 i (omega (arith, p.each))) ∙ e in
        rw (get_or-append marks (m ∷ []) 0 i less, ← one_less_length reserved t) (p.held i u less type))
        (λ last.
        let type : suc t ≡ suc u = sym (get_or_at types (suc t) [] 0 i (p.each ∙ sym last)) ∙ e in
        let u≡t : u ≡ t = omega arith in
        rw (get_or_at marks m [] 0 i (sym last), u≡t) (l, h))

    same : (u : ℕ) → u ≡ t → given_type (types ++ suc t ∷ []) u ≤ get_or reserved u 0
    same u u≡t =
        rw u≡t
        (let k : t < length (one_less reserved t) = omega (arith, one_less_length reserved t) in
        omega (arith, p.within t k, one_less_same reserved t l, count_last (λ x. eqb x (suc t)) types (suc t), bit_same (suc t) (suc t) refl))

    other : (u : ℕ) → u < length reserved → u ≢ t → given_type (types ++ suc t ∷ []) u ≤ get_or reserved u 0
    other u k u≢t =
        let b : u < length (one_less reserved t) = omega (arith, one_less_length reserved t) in
        omega (arith, p.within u b, one_less_other reserved t u u≢t, count_last (λ x. eqb x (suc u)) types (suc t), bit_other (suc t) (suc u) (omega arith))

-- all of a list can be placed
abbrev All : List ℕ → List ℕ → Type 0
All reserved marks = use_of reserved marks ≡ length marks

-- the first of a list can stand at its end
all_last : (reserved : List ℕ) (m : ℕ) (A B : List ℕ) → ((r : List ℕ) → All r A → All r B) → All reserved (m ∷ A) → All reserved (B ++ m ∷ [])
unfolding placed_in
all_last reserved m A B others e = go (use_of_given reserved m A e)
  where
    go : (t : ℕ) × (t < length reserved) × (holds m t ≡ true) × (0 < get_or reserved t 0) × All (one_less reserved t) A → All reserved (B ++ m ∷ [])
    go s =
        let (t, l, h, r, rest) = s in
        let (types, p, many) = use_reached (one_less reserved t) B in
        use_of_everyone reserved (B ++ m ∷ []) (types ++ suc t ∷ []) (placing_last reserved m B types t l h r p)
        (omega (arith, count_last (ltb 0) types (suc t), length-append B (m ∷ []), many, others (one_less reserved t) rest, bit_true (ltb 0 (suc t)) (lt-ltb 0 (suc t) (omega arith))))

module _ (reserved marks : List ℕ) (X : ℕ → Bool) where
  abbrev H : ℕ → Bool
  H = taken_for_use reserved marks X

  abbrev n : ℕ
  n = length marks

  -- those taken, down the merit list
  abbrev down : ℕ → List ℕ
  down p = gathered H p (λ q. get_or marks q 0)

  all_down : (p : ℕ) (r : List ℕ) → All r (taken_before reserved marks X p) → All r (down p)
  all_down zero r e = unfold gathered taken_before in e
  all_down (suc p) r e =
      test (H p)
      (λ t.
      rw (gathered_in H (λ q. get_or marks q 0) p t)
      (all_last r (get_or marks p 0) (taken_before reserved marks X p) (down p) (all_down p) (rw (taken_before_taken reserved marks X p t) at e)))
      (λ t. rw (gathered_out H (λ q. get_or marks q 0) p t) (all_down p r (rw (taken_before_left reserved marks X p t) at e)))

  -- their first placing is the smallest that places them all
  taken_first : Smallest reserved (down n) (first_placing reserved (down n))
  taken_first = first_smallest reserved (down n) (all_down n reserved (taken_before_placeable reserved marks X n))

  -- their types, down the merit list
  types_down : gathered H n (λ p. get_or (types_of reserved marks H) p 0) ≡ first_placing reserved (down n)
  types_down =
      gathered_same H H _ _ n (λ p l. refl) (λ p l x. types_at_lem reserved marks H p l ∙ rw x)
      ∙ gathered_numbers H n (first_placed reserved marks H) (first_placing_length reserved (down n) ∙ gathered_length H (λ q. get_or marks q 0) n)

module _ (marks : List ℕ) (Y : Offers) where
  step_first : (k : ℕ) (rule : StepRule) (done : Progress) → TypesFirst rule.reserved marks (account_at marks Y k rule done)
  unfolding account_at
  step_first k rule done = record {
    first = rw (lists (λ p. get_or marks p 0), lists (type_used step) ∙ types_down rule.reserved marks X) (taken_first rule.reserved marks X);
    others = λ p e.
        less_or p (length marks)
        (λ l. types_none rule.reserved marks _ p (sym (tabulate_at (length marks) _ false p l) ∙ e))
        (λ l. get_or-eq_default (types_of rule.reserved marks took) 0 (omega (arith, types_length rule.reserved marks took)));
  }
    where
      X : ℕ → Bool
      X = considers marks Y rule done

      took : ℕ → Bool
      took = taken_for_use rule.reserved marks X

      step : StepAccount
      step = account_at marks Y k rule done

      lists : (f : ℕ → ℕ) → gathered (took_for_use step) (length marks) f ≡ gathered took (length marks) f
      lists f = gathered_same _ _ f f (length marks) (λ p l. tabulate_at (length marks) took false p l) (λ p l x. refl)

  steps_first : (rules : List StepRule) (k i : ℕ) (done : Progress) → i < length rules
      → TypesFirst (get_or rules i no_step).reserved marks (account_of (account_from marks Y k rules done) (suc i))
  unfolding account_from
  steps_first [] k i done l = absurd (omega arith)
  steps_first (rule ∷ rules) k zero done l = step_first k rule done
  steps_first (rule ∷ rules) k (suc i) done l =
      let at : suc (suc i) - 1 ≡ suc (suc i - 1) = omega arith in
      rw at (steps_first rules (suc k) i (advance marks Y k rule done) (omega arith))

  -- of every step of a choice
  pub account_first : (rules : List StepRule) (i : ℕ) → i < length rules → TypesFirst (get_or rules i no_step).reserved marks (account_of (account marks Y rules) (suc i))
  unfolding account
  account_first rules i l = steps_first rules 1 i (nothing_done marks Y) l
