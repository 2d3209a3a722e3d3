-- The law of filling: a rule that takes places, and gives the positions left by merit, has the laws of the rule that it
-- fills. Dropping considered places that a rule leaves out changes nothing.
use Prim.Native.Nat.{ℕ, ◌+◌, ◌≤◌, ◌<◌, min}
use mathlib.Core.Path.{◌≡◌, refl, sym, ◌∙◌}
use mathlib.Core.Bool.{Bool, true, false, not, ◌&&◌, ◌||◌, and-true}
use mathlib.Core.List.{List}
use native.Mathlib.Omega.{arith}
use lib.Dec.{ltb}
use lib.ListN.{length}
use borrow.Author.Tests.{ltb-true, ltb-false, lt-ltb, le-ltb}
use Rattle.lists.specs.Lists.{count_of, list_sum}
use Rattle.lists.proofs.Words.{and_fst, and_snd}
use Rattle.matching.specs.ForUse.{taken_for_use}
use Rattle.choice.specs.Step.{remaining, taken_by_merit, taken}
use Rattle.lists.proofs.Counting.{clash, true_unless, count_le}
use Rattle.matching.proofs.TakingRule.{TakingRule}
use Rattle.matching.proofs.Taking.{taking_for_use}
use Rattle.lists.proofs.Sets.{same_by_count, count_split, count_join, count_best}

-- H's places, and of the rest those whom H's places and the better ones of the rest leave one of q positions
unfoldable pub filled : ℕ → ((ℕ → Bool) → ℕ → Bool) → ℕ → (ℕ → Bool) → ℕ → Bool
filled n H q X p = H X p || (X p && not (H X p) && ltb (count_of n (H X) + count_of p (λ r. X r && not (H X r))) q)

-- the others among them, taken by merit
unfoldable pub merit_by : ℕ → ((ℕ → Bool) → ℕ → Bool) → ℕ → (ℕ → Bool) → ℕ → Bool
merit_by n H q X p = X p && not (H X p) && ltb (count_of n (H X) + count_of p (λ r. X r && not (H X r))) q

-- the part of a set below n
abbrev cut : ℕ → (ℕ → Bool) → ℕ → Bool
cut n X p = ltb p n && X p

cut_in : (n : ℕ) (X : ℕ → Bool) (p : ℕ) → p < n → X p ≡ true → cut n X p ≡ true
cut_in n X p l x = rw (lt-ltb p n l) x

-- any taking rule
module _ (n bound : ℕ) (H : (ℕ → Bool) → ℕ → Bool) (law : TakingRule n bound H) where
  same_within : (X X' : ℕ → Bool) → ((p : ℕ) → X p ≡ true → X' p ≡ true) → ((p : ℕ) → p < n → H X' p ≡ true → X p ≡ true) → (p : ℕ) → p < n → H X p ≡ H X' p
  same_within X X' s held p l =
      sym
      (same_by_count n (H X') (H X)
      (λ r m t. true_unless (H X r) (λ f. clash t (law.stays X X' s r (held r m t) f)))
      (law.grows X X' s)
      p
      l)

  cut_same : (X : ℕ → Bool) (p : ℕ) → p < n → H (cut n X) p ≡ H X p
  cut_same X = same_within (cut n X) X (λ p c. and_snd (ltb p n) (X p) c) (λ p l t. cut_in n X p l (law.within X p t))

  -- whoever leaves out only places that are left out gets the same
  pub irrelevant : (X X' : ℕ → Bool) → ((p : ℕ) → p < n → X p ≡ true → X' p ≡ true) → ((p : ℕ) → p < n → H X' p ≡ true → X p ≡ true) → (p : ℕ) → p < n → H X p ≡ H X' p
  irrelevant X X' s held p l =
      sym (cut_same X p l)
      ∙ same_within
      (cut n X)
      (cut n X')
      (λ r c. cut_in n X' r (ltb-true r n (and_fst (ltb r n) (X r) c)) (s r (ltb-true r n (and_fst (ltb r n) (X r) c)) (and_snd (ltb r n) (X r) c)))
      (λ r m t. cut_in n X r m (held r m (sym (cut_same X' r m) ∙ t)))
      p
      l
      ∙ cut_same X' p l

out_of_rule : (h x t : Bool) → (h || (x && not h && t)) ≡ false → h ≡ false
out_of_rule true x t e = e
out_of_rule false x t e = refl

out_of_rest : (h x t : Bool) → x ≡ true → (h || (x && not h && t)) ≡ false → t ≡ false
out_of_rest true x t i e = clash refl e
out_of_rest false true t i e = e
out_of_rest false false t i e = clash i refl

stays_out : (h x t : Bool) → h ≡ false → t ≡ false → (h || (x && not h && t)) ≡ false
stays_out true x t e f = e
stays_out false true t e f = f
stays_out false false t e f = refl

is_within : (h x t : Bool) → (h ≡ true → x ≡ true) → (h || (x && not h && t)) ≡ true → x ≡ true
is_within true x t s e = s refl
is_within false true t s e = refl
is_within false false t s e = e

rest_in : (x h x' h' : Bool) → (x ≡ true → x' ≡ true) → (x ≡ true → h ≡ false → h' ≡ false) → (x && not h) ≡ true → (x' && not h') ≡ true
rest_in true true x' h' s t e = clash e refl
rest_in true false x' h' s t e = rw (s refl, t refl refl)
rest_in false h x' h' s t e = clash e refl

module _ (n bound : ℕ) (H : (ℕ → Bool) → ℕ → Bool) (law : TakingRule n bound H) where
  -- left out of more positions and fewer places: left out of fewer positions and more places
  pub filled_stays : (q q' : ℕ) → q' ≤ q → (X X' : ℕ → Bool) → ((p : ℕ) → X p ≡ true → X' p ≡ true) → (p : ℕ) → X p ≡ true → filled n H q X p ≡ false → filled n H q' X' p ≡ false
  unfolding filled
  filled_stays q q' less X X' s p x out =
      let test = ltb (count_of n (H X) + count_of p (λ r. X r && not (H X r))) q in
      let full : q ≤ count_of n (H X) + count_of p (λ r. X r && not (H X r)) =
      ltb-false _ _ (out_of_rest (H X p) (X p) test x out) in
      let more : count_of p (λ r. X r && not (H X r)) ≤ count_of p (λ r. X' r && not (H X' r)) =
      count_le p (λ r. X r && not (H X r)) (λ r. X' r && not (H X' r)) (λ r m. rest_in (X r) (H X r) (X' r) (H X' r) (s r) (law.stays X X' s r)) in
      let still : q' ≤ count_of n (H X') + count_of p (λ r. X' r && not (H X' r)) = omega (arith, law.grows X X' s) in
      stays_out (H X' p) (X' p) _ (law.stays X X' s p x (out_of_rule (H X p) (X p) test out)) (le-ltb _ _ still)

  pub filled_within : (q : ℕ) (X : ℕ → Bool) (p : ℕ) → filled n H q X p ≡ true → X p ≡ true
  unfolding filled
  filled_within q X p = is_within (H X p) (X p) _ (law.within X p)

  -- all positions are filled, or all places taken
  pub filled_count : (q : ℕ) → bound ≤ q → (X : ℕ → Bool) → count_of n (filled n H q X) ≡ min q (count_of n X)
  unfolding filled
  filled_count q enough X =
      let R : ℕ → Bool = λ r. X r && not (H X r) in
      omega (
        arith,
        law.fits X,
        count_join n X (H X) (λ p. ltb (count_of n (H X) + count_of p R) q),
        count_best n R (count_of n (H X)) q,
        count_split n X (H X) (λ p l. law.within X p),
      )

  pub filled_rule : (q : ℕ) → bound ≤ q → TakingRule n q (filled n H q)
  filled_rule q enough = record {
    within = filled_within q;
    stays = filled_stays q q (omega arith);
    grows = λ X X' s. omega (arith, filled_count q enough X, filled_count q enough X', count_le n X X' (λ p l. s p));
    fits = λ X. omega (arith, filled_count q enough X);
  }

  -- leaving out only places that are left out changes nothing
  pub filled_irrelevant : (q : ℕ) → bound ≤ q → (X X' : ℕ → Bool) → ((p : ℕ) → p < n → X p ≡ true → X' p ≡ true) → ((p : ℕ) → p < n → filled n H q X' p ≡ true → X p ≡ true) → (p : ℕ) → p < n → filled n H q X p ≡ filled n H q X' p
  filled_irrelevant q enough = irrelevant n q (filled n H q) (filled_rule q enough)

-- whom a rule takes is taken, and by merit the others who are taken
module _ (n : ℕ) (H : (ℕ → Bool) → ℕ → Bool) (q : ℕ) (X : ℕ → Bool) (p : ℕ) where
  pub rule_taken : H X p ≡ true → filled n H q X p ≡ true
  unfolding filled
  rule_taken t = rw t

  pub merit_by_is : merit_by n H q X p ≡ (filled n H q X p && not (H X p))
  unfolding filled merit_by
  merit_by_is = only (H X p) (X p) _
    where
      only : (h x t : Bool) → ((x && not h) && t) ≡ ((h || ((x && not h) && t)) && not h)
      only true true t = refl
      only true false t = refl
      only false x t = sym (and-true ((x && true) && t))

-- those taken for use are a taking rule's, whatever is reserved
abbrev pub TakesForUse : List ℕ → Type 0
TakesForUse marks = (reserved : List ℕ) → TakingRule (length marks) (list_sum reserved) (taken_for_use reserved marks)

pub takes_for_use : (marks : List ℕ) → TakesForUse marks
takes_for_use marks reserved = taking_for_use reserved marks

-- the same of a step's places
module _ (marks reserved : List ℕ) where
  pub taken_within : (q : ℕ) (X : ℕ → Bool) (p : ℕ) → taken reserved marks X q p ≡ true → X p ≡ true
  unfolding taken taken_by_merit remaining filled
  taken_within = filled_within (length marks) (list_sum reserved) (taken_for_use reserved marks) (takes_for_use marks reserved)

  pub taken_stays : (q q' : ℕ) → q' ≤ q → (X X' : ℕ → Bool) → ((p : ℕ) → X p ≡ true → X' p ≡ true) → (p : ℕ) → X p ≡ true → taken reserved marks X q p ≡ false → taken reserved marks X' q' p ≡ false
  unfolding taken taken_by_merit remaining filled
  taken_stays = filled_stays (length marks) (list_sum reserved) (taken_for_use reserved marks) (takes_for_use marks reserved)

  pub taken_count : (q : ℕ) → list_sum reserved ≤ q → (X : ℕ → Bool) → count_of (length marks) (taken reserved marks X q) ≡ min q (count_of (length marks) X)
  unfolding taken taken_by_merit remaining filled
  taken_count = filled_count (length marks) (list_sum reserved) (taken_for_use reserved marks) (takes_for_use marks reserved)

  pub taken_irrelevant : (q : ℕ) → list_sum reserved ≤ q → (X X' : ℕ → Bool) → ((p : ℕ) → p < length marks → X p ≡ true → X' p ≡ true) → ((p : ℕ) → p < length marks → taken reserved marks X' q p ≡ true → X p ≡ true) → (p : ℕ) → p < length marks → taken reserved marks X q p ≡ taken reserved marks X' q p
  unfolding taken taken_by_merit remaining filled
  taken_irrelevant = filled_irrelevant (length marks) (list_sum reserved) (taken_for_use reserved marks) (takes_for_use marks reserved)

-- whom a step takes for use it takes, and by merit the others whom it takes
module _ (reserved marks : List ℕ) (X : ℕ → Bool) (q p : ℕ) where
  pub use_taken : taken_for_use reserved marks X p ≡ true → taken reserved marks X q p ≡ true
  unfolding taken taken_by_merit remaining filled
  use_taken = rule_taken (length marks) (taken_for_use reserved marks) q X p

  pub merit_is : taken_by_merit reserved marks X q p ≡ (taken reserved marks X q p && not (taken_for_use reserved marks X p))
  unfolding taken taken_by_merit remaining filled merit_by
  merit_is = merit_by_is (length marks) (taken_for_use reserved marks) q X p
