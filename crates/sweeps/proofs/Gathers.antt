-- Listing the offers at the places of a merit list, one place after the other.
use Prim.Native.Nat.{ℕ, suc, ◌+◌, ◌-◌, ◌≤◌, ◌<◌}
use mathlib.Core.Path.{◌≡◌, refl, sym, ◌∙◌, ap}
use mathlib.Core.Bool.{Bool, true, false, not}
use mathlib.Core.List.{List}
use mathlib.Core.Logic.{◌≢◌}
use native.Mathlib.Omega.{arith}
use native.Mathlib.Decide.{ℕ_discrete}
use native.Mathlib.Numerals.{add-one}
use lib.ListN.{length, set, take, length-set}
use lib.Seq.{get_or-set_same, get_or-set_other, get_or-take}
use borrow.Author.Tests.{eq-eqb, ne_eqb}
use Rattle.lists.specs.Lists.{count_of}
use Rattle.round.specs.Round.{Round}
use Rattle.round.specs.Places.{candidate_at, institute_at, merit_at}
use Rattle.lists.specs.Gathers.{Gathers}
use Rattle.lists.proofs.Counting.{clash, bit_true, bit_false}
use Rattle.lists.proofs.Gathered.{number_below}
use Rattle.offers.specs.Offers.{candidate_on}
use Rattle.sweeps.specs.Sweeps.{offer_to, marks_of, offers_at, Gathered}

module _ (X : ℕ → Bool) where
  -- one more place of the set is gathered
  gathers_in : (f : ℕ → ℕ) (l : List ℕ) (k p v : ℕ) → k ≡ count_of p X → k < length l → X p ≡ true → v ≡ f p → Gathers X p f l → Gathers X (p + 1) f (set l k v)
  gathers_in f l k p v e b x ev g q m y = elim (ℕ_discrete q p) [
    | yes s ↦ rw (s, ← e, get_or-set_same l k v 0 b) ev
    | no d ↦ get_or-set_other l k (count_of q X) v 0 (λ s. omega (arith, number_below X q p (omega arith) y)) ∙ g q (omega arith) y
  ]

  -- a place that is not in the set is passed
  gathers_out : (f : ℕ → ℕ) (l : List ℕ) (p : ℕ) → X p ≡ false → Gathers X p f l → Gathers X (p + 1) f l
  gathers_out f l p x g q m y = elim (ℕ_discrete q p) [
    | yes s ↦ absurd (clash (ap X (sym s) ∙ y) x)
    | no d ↦ g q (omega arith) y
  ]

  -- the gathered stand at the front of the list
  pub gathers_front : (n : ℕ) (f : ℕ → ℕ) (l : List ℕ) (k : ℕ) → k ≡ count_of n X → Gathers X n f l → Gathers X n f (take k l)
  gathers_front n f l k e g p m x = get_or-take k l (count_of p X) 0 (omega (arith, number_below X p n m x)) ∙ g p m x

module _ (r : Round) (j : ℕ) (offer : ℕ → ℕ) (placed : Bool) where
  -- where the listing stands at place p
  pub record Gathering (who marks offers places : List ℕ) (k p : ℕ) : Type 0 where
    pub who_room : 512 ≤ length who
    pub marks_room : 512 ≤ length marks
    pub offers_room : 512 ≤ length offers
    pub places_room : placed ≡ true → 512 ≤ length places
    pub most : k ≤ p
    pub so_far : Gathered r j offer placed p who marks offers places k

  module _ {who marks offers places : List ℕ} {k p : ℕ} (s : Gathering who marks offers places k p) where
    -- the candidate at the place has an offer
    one_gathered : {c m o : ℕ} → p < 512 → c ≡ candidate_on r j p → m ≡ marks_of r (candidate_on r j p) → o ≡ offer (candidate_on r j p) → o ≢ 0
        → {places' : List ℕ} → (placed ≡ true → places' ≡ set places k p) → Gathering (set who k c) (set marks k m) (set offers k o) places' (k + 1) (p + 1)
    one_gathered {c} {m} {o} l ec em eo d {places'} put =
        let X : ℕ → Bool = offers_at r j offer in
        let g = s.so_far in
        let x : X p ≡ true = ap not (ne_eqb (offer (candidate_on r j p)) 0 (λ z. d (eo ∙ z))) in
        record {
          who_room = omega (arith, length-set who k c, s.who_room);
          marks_room = omega (arith, length-set marks k m, s.marks_room);
          offers_room = omega (arith, length-set offers k o, s.offers_room);
          places_room = λ t. rw (put t) (omega (arith, length-set places k p, s.places_room t));
          most = omega (arith, s.most);
          so_far = record {
            number = let e : p + 1 ≡ suc p = omega arith in rw e (omega (arith, g.number, bit_true (X p) x));
            who_at = gathers_in X _ who k p c g.number (omega (arith, s.who_room, s.most)) x ec g.who_at;
            marks_at = gathers_in X _ marks k p m g.number (omega (arith, s.marks_room, s.most)) x em g.marks_at;
            offers_at_is = gathers_in X _ offers k p o g.number (omega (arith, s.offers_room, s.most)) x eo g.offers_at_is;
            places_at = λ t. rw (put t) (gathers_in X _ places k p p g.number (omega (arith, s.places_room t, s.most)) x refl (g.places_at t));
          };
        }

    -- the candidate at the place has none
    one_passed : {o : ℕ} → o ≡ offer (candidate_on r j p) → o ≡ 0 → Gathering who marks offers places k (p + 1)
    one_passed eo z =
        let X : ℕ → Bool = offers_at r j offer in
        let g = s.so_far in
        let x : X p ≡ false = ap not (eq-eqb (offer (candidate_on r j p)) 0 (sym eo ∙ z)) in
        record {
          who_room = s.who_room;
          marks_room = s.marks_room;
          offers_room = s.offers_room;
          places_room = s.places_room;
          most = omega (arith, s.most);
          so_far = record {
            number = let e : p + 1 ≡ suc p = omega arith in rw e (omega (arith, g.number, bit_false (X p) x));
            who_at = gathers_out X _ who p x g.who_at;
            marks_at = gathers_out X _ marks p x g.marks_at;
            offers_at_is = gathers_out X _ offers p x g.offers_at_is;
            places_at = λ t. gathers_out X _ places p x (g.places_at t);
          };
        }

-- at a place of the merit list of an institute, with the number there and the candidate's offer as the code has read them
module _ (r : Round) (j : ℕ) (asked wanted : List ℕ) (placed : Bool) {who marks offers places : List ℕ} {k p : ℕ}
    (s : Gathering r j (offer_to (suc j) asked wanted) placed who marks offers places k p) where
  module _ {number offer : ℕ} (reads : number ≡ merit_at (institute_at r j) p) (told : offer ≡ offer_to (j + 1) asked wanted (number - 1)) where
    offer_read : offer ≡ offer_to (suc j) asked wanted (candidate_on r j p)
    offer_read = told ∙ rw (add-one j, reads)

    pub one_listed : length (institute_at r j).merit ≤ 512 → p < length (institute_at r j).merit → {m : ℕ} → m ≡ (candidate_at r (number - 1)).marks → offer ≢ 0
        → {places' : List ℕ} → (placed ≡ true → places' ≡ set places k p)
        → Gathering r j (offer_to (suc j) asked wanted) placed (set who k (number - 1)) (set marks k m) (set offers k offer) places' (k + 1) (p + 1)
    unfolding marks_of
    one_listed few inside em =
        one_gathered r j _ placed s (omega arith) (ap (λ x. x - 1) reads)
        (em ∙ ap (λ n. (candidate_at r (n - 1)).marks) reads) offer_read

    pub one_left : offer ≡ 0 → Gathering r j (offer_to (suc j) asked wanted) placed who marks offers places k (p + 1)
    one_left = one_passed r j _ placed s offer_read

  pub all_listed : (n : ℕ) → p ≡ n → Gathered r j (offer_to (suc j) asked wanted) placed n who marks offers places k
  all_listed n e = rw e at s.so_far
