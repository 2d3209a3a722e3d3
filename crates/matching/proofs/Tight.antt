-- Sets of types, as tests on numbers below the number of types: the positions of a set, how many of a list hold types of
-- the set only, and what a set that is exhausted by such people says about one more candidate.
use Prim.Native.Nat.{ℕ, zero, suc, ◌+◌, ◌≤◌, ◌<◌}
use mathlib.Core.Path.{◌≡◌, refl, sym, ap, ◌∙◌}
use mathlib.Core.Bool.{Bool, true, false, cond, not, ◌&&◌, ◌||◌, false≢true}
use mathlib.Core.List.{List, [], ◌∷◌}
use native.Mathlib.Omega.{arith}
use lib.Dec.{eqb}
use lib.ListN.{length, get_or}
use borrow.Author.Tests.{not-true}
use Rattle.lists.specs.Lists.{bit, count_of, sum_of, all_of}
use Rattle.lists.proofs.Words.{and_fst, and_snd, all_at}
use Rattle.lists.specs.Numbers.{holds}
use Rattle.matching.specs.Use.{one_less, use_of, Placing, placed_in}
use Rattle.matching.specs.ForUse.{raises}
use Rattle.lists.proofs.Counting.{test, and_true, or_left, or_right, bit_true, bit_same, bit_other, bit_le}
use Rattle.lists.proofs.Counting.{sum_of_ext, sum_of_le, sum_of_add, sum_of_zero, sum_of_at, all_from, tally, tally_le, tally_split}
use Rattle.matching.proofs.Use.{one_less_length, one_less_same, one_less_other, use_of_given, use_of_everyone, raises_true}
use Rattle.matching.proofs.Use.{given_type, given_type_cons, placed, PlacingTo, Stands, placed_length, placed_types, placed_given, placed_place, placed_placing}

-- all of the list can be placed together
abbrev pub Placeable : List ℕ → List ℕ → Type 0
Placeable reserved A = use_of reserved A ≡ length A

-- the positions of type t, if it is in T
abbrev share : List ℕ → (ℕ → Bool) → ℕ → ℕ
share reserved T t = cond (T t) (get_or reserved t 0) 0

-- the positions of the types of T
unfoldable pub cap : List ℕ → (ℕ → Bool) → ℕ
cap reserved T = sum_of (length reserved) (share reserved T)

-- each type below L that m holds is in T
unfoldable pub only : ℕ → (ℕ → Bool) → ℕ → Bool
only L T m = all_of L (λ t. not (holds m t) || T t)

-- how many of the list hold types of T only
abbrev pub confined : List ℕ → List ℕ → (ℕ → Bool) → ℕ
confined reserved A T = tally (only (length reserved) T) A

-- people who hold types of T only exhaust T
abbrev pub Tight : List ℕ → List ℕ → (ℕ → Bool) → Type 0
Tight reserved A T = cap reserved T ≤ confined reserved A T

abbrev pub union : (ℕ → Bool) → (ℕ → Bool) → ℕ → Bool
union T U t = T t || U t

abbrev pub meet : (ℕ → Bool) → (ℕ → Bool) → ℕ → Bool
meet T U t = T t && U t

imp_at : (a b : Bool) → not a || b ≡ true → a ≡ true → b ≡ true
imp_at true b h e = h
imp_at false b h e = absurd (false≢true e)

imp_from : (a b : Bool) → (a ≡ true → b ≡ true) → not a || b ≡ true
imp_from true b h = h refl
imp_from false b h = refl

pub only_at : (L : ℕ) (T : ℕ → Bool) (m : ℕ) → only L T m ≡ true → (t : ℕ) → t < L → holds m t ≡ true → T t ≡ true
unfolding only
only_at L T m h t l e = imp_at (holds m t) (T t) (all_at L (λ t. not (holds m t) || T t) h t l) e

pub only_from : (L : ℕ) (T : ℕ → Bool) (m : ℕ) → ((t : ℕ) → t < L → holds m t ≡ true → T t ≡ true) → only L T m ≡ true
unfolding only
only_from L T m h = all_from L (λ t. not (holds m t) || T t) (λ t l. imp_from (holds m t) (T t) (h t l))

pub only_le : (L : ℕ) (T U : ℕ → Bool) (m : ℕ) → ((t : ℕ) → T t ≡ true → U t ≡ true) → only L T m ≡ true → only L U m ≡ true
only_le L T U m s h = only_from L U m (λ t l e. s t (only_at L T m h t l e))

pub only_meet : (L : ℕ) (T U : ℕ → Bool) (m : ℕ) → only L T m ≡ true → only L U m ≡ true → only L (meet T U) m ≡ true
only_meet L T U m h k = only_from L (meet T U) m (λ t l e. and_true (T t) (U t) (only_at L T m h t l e) (only_at L U m k t l e))

cross_at : (a b : Bool) (n : ℕ) → cond a n 0 + cond b n 0 ≡ cond (a || b) n 0 + cond (a && b) n 0
cross_at true b n = refl
cross_at false b n = omega arith

pub cap_cross : (reserved : List ℕ) (T U : ℕ → Bool) → cap reserved T + cap reserved U ≡ cap reserved (union T U) + cap reserved (meet T U)
unfolding cap
cap_cross reserved T U =
    let n = length reserved in
    omega (
      arith,
      sum_of_add n (share reserved T) (share reserved U),
      sum_of_add n (share reserved (union T U)) (share reserved (meet T U)),
      sum_of_ext n (λ t. share reserved T t + share reserved U t) (λ t. share reserved (union T U) t + share reserved (meet T U) t)
          (λ t l. cross_at (T t) (U t) (get_or reserved t 0)),
    )

pub cap_none : (reserved : List ℕ) → cap reserved (λ t. false) ≡ 0
unfolding cap
cap_none reserved = sum_of_zero (length reserved) (share reserved (λ t. false)) (λ t l. refl)

pub cond_less : (b : Bool) (x y : ℕ) → x ≡ suc y → cond b x 0 ≡ bit b + cond b y 0
cond_less true x y e = omega arith
cond_less false x y e = omega arith

pub cond_zero : (b : Bool) → ◌≡◌ {A = ℕ} (cond b 0 0) 0
cond_zero true = refl
cond_zero false = refl

pub cond_le : (b : Bool) (x y : ℕ) → (b ≡ true → x ≤ y) → cond b x 0 ≤ cond b y 0
cond_le true x y h = h refl
cond_le false x y h = omega arith

-- one position less of type t
pub cap_one_less : (reserved : List ℕ) (T : ℕ → Bool) (t : ℕ) → t < length reserved → 0 < get_or reserved t 0
    → cap reserved T ≡ bit (T t) + cap (one_less reserved t) T
unfolding cap
cap_one_less reserved T t l r =
    rw (one_less_length reserved t)
    (sum_of_at (length reserved) t (bit (T t)) (share reserved T) (share (one_less reserved t) T) l
    (λ i n. ap {B = ℕ} (λ x. cond (T i) x 0) (sym (one_less_other reserved t i n)))
    (cond_less (T t) (get_or reserved t 0) (get_or (one_less reserved t) t 0) (omega (arith, one_less_same reserved t l))))

-- of people who can all be placed no more hold types of T only than T has positions
pub pigeonhole : (reserved A : List ℕ) (T : ℕ → Bool) → Placeable reserved A → confined reserved A T ≤ cap reserved T
pigeonhole reserved [] T e = omega arith
pigeonhole reserved (m ∷ A) T e =
    let g = use_of_given reserved m A e in
    given g.0 g.1 g.2 g.3 (pigeonhole (one_less reserved g.0) A T g.4)
  where
    given : (t : ℕ) → t < length reserved → holds m t ≡ true → 0 < get_or reserved t 0
        → confined (one_less reserved t) A T ≤ cap (one_less reserved t) T → confined reserved (m ∷ A) T ≤ cap reserved T
    given t l h r rest =
        omega (
          arith,
          rw (one_less_length reserved t) at rest,
          cap_one_less reserved T t l r,
          bit_le (only (length reserved) T m) (T t) (λ o. only_at (length reserved) T m o t l h),
        )

-- the people of A who do not hold types of U only are as many in A', whatever further test they pass
abbrev pub NoMoreOutside : ℕ → (ℕ → Bool) → List ℕ → List ℕ → Type 0
NoMoreOutside L U A A' = (P : ℕ → Bool) → ((m : ℕ) → P m ≡ true → only L U m ≡ false) → tally P A ≤ tally P A'

-- T exhausted by A and U by A': their union is exhausted by A'
pub cross : (reserved A A' : List ℕ) (T U : ℕ → Bool) → Placeable reserved A → NoMoreOutside (length reserved) U A A' → Tight reserved A T → Tight reserved A' U
    → Tight reserved A' (union T U)
cross reserved A A' T U e h t u =
    omega (
      arith,
      cap_cross reserved T U,
      pigeonhole reserved A (meet T U) e,
      tally_split in_t in_u A,
      tally_le (λ m. in_t m && in_u m) (only n (meet T U)) A (λ m k. only_meet n T U m (and_fst _ _ k) (and_snd (in_t m) _ k)),
      h (λ m. in_t m && not (in_u m)) (λ m k. not-true (in_u m) (and_snd (in_t m) _ k)),
      tally_split in_both in_u A',
      tally_le in_u (λ m. in_both m && in_u m) A' (λ m k. and_true _ _ (only_le n U (union T U) m (λ i. or_right (T i) (U i)) k) k),
      tally_le (λ m. in_t m && not (in_u m)) (λ m. in_both m && not (in_u m)) A'
          (λ m k. and_true _ _ (only_le n T (union T U) m (λ i. or_left (T i) (U i)) (and_fst _ _ k)) (and_snd (in_t m) _ k)),
    )
  where
    n : ℕ
    n = length reserved

    in_t : ℕ → Bool
    in_t = only (length reserved) T

    in_u : ℕ → Bool
    in_u = only (length reserved) U

    in_both : ℕ → Bool
    in_both = only (length reserved) (union T U)

pub tight_union : (reserved A : List ℕ) (T U : ℕ → Bool) → Placeable reserved A → Tight reserved A T → Tight reserved A U → Tight reserved A (union T U)
tight_union reserved A T U e t u = cross reserved A A T U e (λ P h. omega arith) t u

-- whose types are all exhausted does not raise the use
pub blocked : (reserved A : List ℕ) (c : ℕ) (T : ℕ → Bool) → Placeable reserved A → Tight reserved A T → only (length reserved) T c ≡ true
    → raises reserved A c ≡ false
blocked reserved A c T e t h =
    test (raises reserved A c)
    (λ up.
    let all : Placeable reserved (c ∷ A) = omega (arith, raises_true reserved A c up) in
    absurd (omega (arith, pigeonhole reserved (c ∷ A) T all, bit_true (only (length reserved) T c) h)))
    (λ e. e)

-- no more are given types of T than hold types of T only, where each who is given one holds types of T only
given_confined : (L : ℕ) (A types : List ℕ) (T : ℕ → Bool) → length types ≡ length A
    → ((i t : ℕ) → i < length A → get_or types i 0 ≡ suc t → (t < L) × (T t ≡ true → only L T (get_or A i 0) ≡ true))
    → sum_of L (λ t. cond (T t) (given_type types t) 0) ≤ tally (only L T) A
given_confined L [] [] T e h = omega (arith, sum_of_zero L (λ t. cond (T t) (given_type [] t) 0) (λ t l. cond_zero (T t)))
given_confined L [] (x ∷ types) T e h = absurd (omega arith)
given_confined L (m ∷ A) [] T e h = absurd (omega arith)
given_confined L (m ∷ A) (zero ∷ types) T e h =
    omega (
      arith,
      given_confined L A types T (omega arith) (λ i t l q. h (suc i) t (omega arith) q),
      sum_of_ext L (λ t. cond (T t) (given_type (0 ∷ types) t) 0) (λ t. cond (T t) (given_type types t) 0)
          (λ t l. ap {B = ℕ} (λ x. cond (T t) x 0) (omega (arith, given_type_cons 0 types t, bit_other 0 (suc t) (omega arith)))),
    )
given_confined L (m ∷ A) (suc u ∷ types) T e h =
    omega (
      arith,
      given_confined L A types T (omega arith) (λ i t l q. h (suc i) t (omega arith) q),
      bit_le (T u) (only L T m) (h 0 u (omega arith) refl).1,
      sum_of_at L u (bit (T u)) (λ t. cond (T t) (given_type (suc u ∷ types) t) 0) (λ t. cond (T t) (given_type types t) 0) (h 0 u (omega arith) refl).0
          (λ t n. ap {B = ℕ} (λ x. cond (T t) x 0) (omega (arith, given_type_cons (suc u) types t, bit_other (suc u) (suc t) (omega arith))))
          (cond_less (T u) (given_type (suc u ∷ types) u) (given_type types u)
          (omega (arith, given_type_cons (suc u) types u, bit_same (suc u) (suc u) refl))),
    )

-- a set of types is exhausted where each of its types is full and each who is given one holds types of the set only
pub full_tight : (reserved A types : List ℕ) (T : ℕ → Bool) → Placing reserved A types
    → ((t : ℕ) → t < length reserved → T t ≡ true → get_or reserved t 0 ≤ given_type types t)
    → ((i t : ℕ) → i < length A → get_or types i 0 ≡ suc t → T t ≡ true → only (length reserved) T (get_or A i 0) ≡ true)
    → Tight reserved A T
unfolding cap
full_tight reserved A types T p full closed =
    omega (
      arith,
      given_confined (length reserved) A types T p.each (λ i t l q. ((p.held i t l q).0, closed i t l q)),
      sum_of_le (length reserved) (share reserved T) (λ t. cond (T t) (given_type types t) 0) (λ t l. cond_le (T t) _ _ (full t l)),
    )

-- all are placed, each type of T is full, each who is given one holds types of T only, and so does c: c does not raise the use
pub full_blocked : (reserved A types : List ℕ) (c : ℕ) (T : ℕ → Bool) → Placing reserved A types → placed_in types ≡ length A
    → ((t : ℕ) → t < length reserved → T t ≡ true → get_or reserved t 0 ≤ given_type types t)
    → ((i t u : ℕ) → i < length A → get_or types i 0 ≡ suc t → T t ≡ true → u < length reserved → holds (get_or A i 0) u ≡ true → T u ≡ true)
    → ((u : ℕ) → u < length reserved → holds c u ≡ true → T u ≡ true)
    → raises reserved A c ≡ false
full_blocked reserved A types c T p everyone full closed h =
    blocked reserved A c T (use_of_everyone reserved A types p everyone)
    (full_tight reserved A types T p full (λ i t l q k. only_from (length reserved) T (get_or A i 0) (λ u. closed i t u l q k)))
    (only_from (length reserved) T c h)

-- the same of places: g gives those below p their types
pub placed_blocked : (reserved : List ℕ) (g f : ℕ → ℕ) (p c : ℕ) (T : ℕ → Bool) → PlacingTo reserved g f p
    → ((t : ℕ) → t < length reserved → T t ≡ true → get_or reserved t 0 ≤ count_of p (λ q. eqb (g q) (suc t)))
    → ((q t u : ℕ) → q < p → g q ≡ suc t → T t ≡ true → u < length reserved → holds (f q) u ≡ true → T u ≡ true)
    → ((u : ℕ) → u < length reserved → holds c u ≡ true → T u ≡ true)
    → raises reserved (placed g f p) c ≡ false
placed_blocked reserved g f p c T h full closed own =
    full_blocked reserved (placed g f p) (placed g g p) c T (placed_placing reserved g f p h)
    (omega (arith, placed_types g p, placed_length g f p, placed_length g g p))
    (λ t l k. omega (arith, full t l k, placed_given g p t))
    (λ i t u l e k m o.
    let at : Stands g f p (placed g f p) (placed g g p) i = placed_place g f p i l in
    closed at.0 t u at.1 (sym at.3 ∙ e) k m (rw at.2 at o))
    own
