-- The laws of taking for use: who is not taken from fewer considered people is not taken from more, and from more people
-- no fewer are taken.
use Prim.Native.Nat.{ℕ, zero, suc, ◌≤◌, ◌<◌}
use mathlib.Core.Path.{◌≡◌, refl, sym, ap, ◌∙◌}
use mathlib.Core.Bool.{Bool, true, false, cond, not}
use mathlib.Core.List.{List, [], ◌∷◌}
use native.Mathlib.Omega.{arith}
use lib.Dec.{ltb}
use lib.ListN.{length, get_or}
use borrow.Author.Tests.{not-true}
use Rattle.lists.specs.Lists.{count_of, list_sum}
use Rattle.lists.proofs.Words.{and_fst, and_snd}
use Rattle.matching.specs.Use.{use_of}
use Rattle.matching.specs.ForUse.{raises, taken_before, taken_for_use}
use Rattle.lists.proofs.Counting.{test, or_left, or_right, exclude, contra, bit_true, bit_false, tally_split, tally_all}
use Rattle.matching.proofs.Use.{placed, use_of_nil, use_of_sum, raises_true}
use Rattle.matching.proofs.Tight.{Placeable, cap_none, only, Tight, union, NoMoreOutside, only_le, pigeonhole, cross, tight_union, blocked}
use Rattle.matching.proofs.Hall.{exhausted}
use Rattle.matching.proofs.TakingRule.{TakingRule}

-- of two lists of people: those missing from the second hold types that it exhausts
abbrev Covered : List ℕ → List ℕ → List ℕ → Type 0
Covered reserved A A' = (U : ℕ → Bool) × Tight reserved A' U × NoMoreOutside (length reserved) U A A'

module _ (reserved : List ℕ) where
  covered_nil : Covered reserved [] []
  covered_nil = ((λ t. false), omega (arith, cap_none reserved), λ P h. omega arith)

  covered_both : (A A' : List ℕ) (c : ℕ) → Covered reserved A A' → Covered reserved (c ∷ A) (c ∷ A')
  covered_both A A' c k = (k.0, omega (arith, k.1), λ P h. omega (arith, k.2 P h))

  covered_second : (A A' : List ℕ) (c : ℕ) → Covered reserved A A' → Covered reserved A (c ∷ A')
  covered_second A A' c k = (k.0, omega (arith, k.1), λ P h. omega (arith, k.2 P h))

  covered_first : (A A' : List ℕ) (c : ℕ) → Placeable reserved A' → raises reserved A' c ≡ false → Covered reserved A A' → Covered reserved (c ∷ A) A'
  covered_first A A' c e out k = go (exhausted reserved A' c e out)
    where
      go : (T : ℕ → Bool) × Tight reserved A' T × (only (length reserved) T c ≡ true) → Covered reserved (c ∷ A) A'
      go t =
          let n = length reserved in
          let U = union t.0 k.0 in (
            U,
            tight_union reserved A' t.0 k.0 e t.1 k.1,
            λ P h.
                omega (
                  arith,
                  bit_false (P c) (exclude (P c) (only n U c) (h c) (only_le n t.0 U c (λ i. or_left (t.0 i) (k.0 i)) t.2)),
                  k.2 P (λ m q. contra (only n k.0 m) (only n U m) (only_le n k.0 U m (λ i. or_right (t.0 i) (k.0 i))) (h m q)),
                ),
          )

  -- whom the first list keeps out the second keeps out
  covered_out : (A A' : List ℕ) (c : ℕ) → Placeable reserved A → Placeable reserved A' → Covered reserved A A' → raises reserved A c ≡ false → raises reserved A' c ≡ false
  covered_out A A' c e e' k out = go (exhausted reserved A c e out)
    where
      go : (T : ℕ → Bool) × Tight reserved A T × (only (length reserved) T c ≡ true) → raises reserved A' c ≡ false
      go t =
          blocked reserved A' c (union t.0 k.0) e' (cross reserved A A' t.0 k.0 e k.2 t.1 k.1)
          (only_le (length reserved) t.0 (union t.0 k.0) c (λ i. or_left (t.0 i) (k.0 i)) t.2)

  -- the second list is at least as long
  covered_length : (A A' : List ℕ) → Placeable reserved A → Covered reserved A A' → length A ≤ length A'
  covered_length A A' e k =
      omega (
        arith,
        tally_all A,
        tally_split (λ m. true) in_u A,
        pigeonhole reserved A k.0 e,
        k.1,
        k.2 (λ m. not (in_u m)) (λ m h. not-true (in_u m) h),
        tally_split (λ m. true) in_u A',
        tally_all A',
      )
    where
      in_u : ℕ → Bool
      in_u = only (length reserved) k.0

module _ (reserved marks : List ℕ) (X : ℕ → Bool) where
  -- who is taken was considered
  pub taken_for_use_within : (p : ℕ) → taken_for_use reserved marks X p ≡ true → X p ≡ true
  unfolding taken_for_use
  taken_for_use_within p e = and_fst (X p) _ e

  taken_for_use_raises : (p : ℕ) → taken_for_use reserved marks X p ≡ true → raises reserved (taken_before reserved marks X p) (get_or marks p 0) ≡ true
  unfolding taken_for_use
  taken_for_use_raises p e = and_snd (X p) _ e

  -- a considered place is taken when it raises the use of those taken
  pub taken_for_use_considered : (p : ℕ) → X p ≡ true → taken_for_use reserved marks X p ≡ raises reserved (taken_before reserved marks X p) (get_or marks p 0)
  unfolding taken_for_use
  taken_for_use_considered p e = rw e

  pub taken_before_taken : (p : ℕ) → taken_for_use reserved marks X p ≡ true → taken_before reserved marks X (suc p) ≡ get_or marks p 0 ∷ taken_before reserved marks X p
  unfolding taken_before taken_for_use
  taken_before_taken p e = ap (λ b. cond b (get_or marks p 0 ∷ taken_before reserved marks X p) (taken_before reserved marks X p)) e

  pub taken_before_left : (p : ℕ) → taken_for_use reserved marks X p ≡ false → taken_before reserved marks X (suc p) ≡ taken_before reserved marks X p
  unfolding taken_before taken_for_use
  taken_before_left p e = ap (λ b. cond b (get_or marks p 0 ∷ taken_before reserved marks X p) (taken_before reserved marks X p)) e

  -- those taken so far can all be placed
  pub taken_before_placeable : (p : ℕ) → use_of reserved (taken_before reserved marks X p) ≡ length (taken_before reserved marks X p)
  taken_before_placeable zero = unfold taken_before in use_of_nil reserved
  taken_before_placeable (suc p) =
      test (taken_for_use reserved marks X p)
      (λ e. rw (taken_before_taken p e) (omega (arith, raises_true reserved (taken_before reserved marks X p) (get_or marks p 0) (taken_for_use_raises p e), taken_before_placeable p)))
      (λ e. rw (taken_before_left p e) (taken_before_placeable p))

  pub taken_before_length : (p : ℕ) → length (taken_before reserved marks X p) ≡ count_of p (taken_for_use reserved marks X)
  taken_before_length zero = unfold taken_before in refl
  taken_before_length (suc p) =
      test (taken_for_use reserved marks X p)
      (λ e. omega (arith, ap length (taken_before_taken p e), bit_true (taken_for_use reserved marks X p) e, taken_before_length p))
      (λ e. omega (arith, ap length (taken_before_left p e), bit_false (taken_for_use reserved marks X p) e, taken_before_length p))

  -- the list of those taken, where g gives a type to just those
  pub taken_before_placed : (g : ℕ → ℕ) (p : ℕ) → ((q : ℕ) → q < p → taken_for_use reserved marks X q ≡ ltb 0 (g q))
      → taken_before reserved marks X p ≡ placed g (λ q. get_or marks q 0) p
  unfolding taken_before taken_for_use
  taken_before_placed g zero h = refl
  taken_before_placed g (suc p) h = rw (h p (omega arith), taken_before_placed g p (λ q l. h q (omega arith)))

  -- no more are taken than there are reserved positions
  pub taken_for_use_fits : (n : ℕ) → count_of n (taken_for_use reserved marks X) ≤ list_sum reserved
  taken_for_use_fits n =
      omega (arith, taken_before_length n, taken_before_placeable n, use_of_sum reserved (taken_before reserved marks X n))

module _ (reserved marks : List ℕ) (X X' : ℕ → Bool) where
  -- what is taken turns on the places so far only
  pub taken_before_same : (p : ℕ) → ((q : ℕ) → q < p → X q ≡ X' q) → taken_before reserved marks X p ≡ taken_before reserved marks X' p
  unfolding taken_before
  taken_before_same zero h = refl
  taken_before_same (suc p) h = rw (h p (omega arith), taken_before_same p (λ q l. h q (omega arith)))

module _ (reserved marks : List ℕ) (X X' : ℕ → Bool) (more : (p : ℕ) → X p ≡ true → X' p ≡ true) where
  covered : (p : ℕ) → Covered reserved (taken_before reserved marks X p) (taken_before reserved marks X' p)
  covered zero = unfold taken_before in covered_nil reserved
  covered (suc p) =
      let A = taken_before reserved marks X p in
      let A' = taken_before reserved marks X' p in
      let c = get_or marks p 0 in
      test (taken_for_use reserved marks X p)
      (λ e.
      test (taken_for_use reserved marks X' p)
      (λ e'. rw (taken_before_taken reserved marks X p e, taken_before_taken reserved marks X' p e') (covered_both reserved A A' c (covered p)))
      (λ e'.
      rw (taken_before_taken reserved marks X p e, taken_before_left reserved marks X' p e')
      (covered_first reserved A A' c (taken_before_placeable reserved marks X' p)
      (sym (taken_for_use_considered reserved marks X' p (more p (taken_for_use_within reserved marks X p e))) ∙ e')
      (covered p))))
      (λ e.
      test (taken_for_use reserved marks X' p)
      (λ e'. rw (taken_before_left reserved marks X p e, taken_before_taken reserved marks X' p e') (covered_second reserved A A' c (covered p)))
      (λ e'. rw (taken_before_left reserved marks X p e, taken_before_left reserved marks X' p e') (covered p)))

  -- who is considered and not taken from fewer is not taken from more
  pub taken_for_use_stays : (p : ℕ) → X p ≡ true → taken_for_use reserved marks X p ≡ false → taken_for_use reserved marks X' p ≡ false
  taken_for_use_stays p x out =
      taken_for_use_considered reserved marks X' p (more p x)
      ∙ covered_out reserved (taken_before reserved marks X p) (taken_before reserved marks X' p) (get_or marks p 0)
      (taken_before_placeable reserved marks X p) (taken_before_placeable reserved marks X' p) (covered p) (sym (taken_for_use_considered reserved marks X p x) ∙ out)

  -- from more no fewer are taken
  pub taken_for_use_grows : (n : ℕ) → count_of n (taken_for_use reserved marks X) ≤ count_of n (taken_for_use reserved marks X')
  taken_for_use_grows n =
      omega (
        arith,
        taken_before_length reserved marks X n,
        taken_before_length reserved marks X' n,
        covered_length reserved (taken_before reserved marks X n) (taken_before reserved marks X' n) (taken_before_placeable reserved marks X n) (covered n),
      )

pub taking_for_use : (reserved marks : List ℕ) → TakingRule (length marks) (list_sum reserved) (taken_for_use reserved marks)
taking_for_use reserved marks = record {
  within = taken_for_use_within reserved marks;
  stays = taken_for_use_stays reserved marks;
  grows = λ X X' more. taken_for_use_grows reserved marks X X' more (length marks);
  fits = λ X. taken_for_use_fits reserved marks X (length marks);
}
