-- Facts about tests, counts, sums and greatest values.
use Prim.Native.Nat.{ℕ, zero, suc, ◌+◌, ◌-◌, ◌≤◌, ◌<◌}
use mathlib.Core.Path.{◌≡◌, refl, sym, ap, ◌∙◌}
use mathlib.Core.Bool.{Bool, true, false, not, ◌&&◌, ◌||◌, true≢false}
use mathlib.Core.List.{List, [], ◌∷◌}
use mathlib.Core.Logic.{◌≢◌}
use native.Mathlib.Omega.{arith}
use lib.Dec.{eqb, ltb}
use lib.ListN.{length, get_or, set}
use borrow.Author.Tests.{ltb-true, ltb-false, eqb-true, eqb-false, eq-eqb, ne_eqb}
use Rattle.lists.specs.Lists.{bit, count_of, sum_of, list_sum, all_of, greatest_of}

-- a test is passed or not
pub test {ℓ} : {C : Type ℓ} (b : Bool) → (b ≡ true → C) → (b ≡ false → C) → C
test true passed failed = passed refl
test false passed failed = failed refl

-- a is below b or not
pub less_or {ℓ} : {C : Type ℓ} (a b : ℕ) → (a < b → C) → (b ≤ a → C) → C
less_or a b less most = test (ltb a b) (λ e. less (ltb-true a b e)) (λ e. most (ltb-false a b e))

-- a is b or not
pub same_or {ℓ} : {C : Type ℓ} (a b : ℕ) → (a ≡ b → C) → (a ≢ b → C) → C
same_or a b same other = test (eqb a b) (λ e. same (eqb-true a b e)) (λ e. other (eqb-false a b e))

-- a number below n + 1 is below n or is n
pub below {ℓ} : {C : Type ℓ} (i n : ℕ) → i < suc n → (i < n → C) → (i ≡ n → C) → C
below i n l less same = less_or i n less (λ h. same (omega arith))

pub and_true : (a b : Bool) → a ≡ true → b ≡ true → a && b ≡ true
and_true a b e f = rw (e, f)

pub clash : {A : Type 0} {b : Bool} → b ≡ true → b ≡ false → A
clash e f = absurd (true≢false (sym e ∙ f))

pub true_unless : (b : Bool) → (b ≡ false → ⊥) → b ≡ true
true_unless true h = refl
true_unless false h = absurd (h refl)

pub false_unless : (b : Bool) → (b ≡ true → ⊥) → b ≡ false
false_unless true h = absurd (h refl)
false_unless false h = refl

-- two tests of which the second is passed wherever the first is
pub contra : (a b : Bool) → (a ≡ true → b ≡ true) → b ≡ false → a ≡ false
contra true b h e = sym (h refl) ∙ e
contra false b h e = refl

-- two tests that are not passed together
pub exclude : (a b : Bool) → (a ≡ true → b ≡ false) → b ≡ true → a ≡ false
exclude true b h e = sym e ∙ h refl
exclude false b h e = refl

pub bit_true : (b : Bool) → b ≡ true → bit b ≡ 1
bit_true b e = ap bit e

pub bit_false : (b : Bool) → b ≡ false → bit b ≡ 0
bit_false b e = ap bit e

pub bit_same : (a b : ℕ) → a ≡ b → bit (eqb a b) ≡ 1
bit_same a b e = bit_true (eqb a b) (eq-eqb a b e)

pub bit_other : (a b : ℕ) → a ≢ b → bit (eqb a b) ≡ 0
bit_other a b n = bit_false (eqb a b) (ne_eqb a b n)

pub bit_suc : (a b : ℕ) → bit (eqb (suc a) (suc b)) ≡ bit (eqb a b)
bit_suc a b =
    same_or a b (λ e. bit_same (suc a) (suc b) (ap suc e) ∙ sym (bit_same a b e))
    (λ n. bit_other (suc a) (suc b) (λ e. n (omega arith)) ∙ sym (bit_other a b n))

pub bit_le : (a b : Bool) → (a ≡ true → b ≡ true) → bit a ≤ bit b
bit_le true b h = omega (arith, bit_true b (h refl))
bit_le false b h = omega arith

pub bit_max : (b : Bool) → bit b ≤ 1
bit_max true = omega arith
bit_max false = omega arith

pub or_left : (a b : Bool) → a ≡ true → a || b ≡ true
or_left a b e = rw e

pub or_right : (a b : Bool) → b ≡ true → a || b ≡ true
or_right true b e = refl
or_right false b e = e

-- a test is passed where its bit is not 0
pub bit_pass : (b : Bool) → 1 ≤ bit b → b ≡ true
bit_pass true h = refl
bit_pass false h = absurd (omega arith)

bit_split : (a b : Bool) → bit a ≡ bit (a && b) + bit (a && not b)
bit_split false b = omega arith
bit_split true true = omega arith
bit_split true false = omega arith

-- the first number apart
pub count_first : (n : ℕ) (X : ℕ → Bool) → count_of (suc n) X ≡ bit (X 0) + count_of n (λ i. X (suc i))
count_first zero X = refl
count_first (suc n) X = omega (arith, count_first n X)

pub count_ext : (n : ℕ) (X Y : ℕ → Bool) → ((i : ℕ) → i < n → X i ≡ Y i) → count_of n X ≡ count_of n Y
count_ext zero X Y h = refl
count_ext (suc n) X Y h =
    omega (arith, ap bit (h n (omega arith)), count_ext n X Y (λ i l. h i (omega arith)))

pub count_le : (n : ℕ) (X Y : ℕ → Bool) → ((i : ℕ) → i < n → X i ≡ true → Y i ≡ true) → count_of n X ≤ count_of n Y
count_le zero X Y h = omega arith
count_le (suc n) X Y h =
    omega (arith, bit_le (X n) (Y n) (h n (omega arith)), count_le n X Y (λ i l. h i (omega arith)))

-- a test that passes less often, and misses a number that the other has
pub count_less : (n c : ℕ) (X Y : ℕ → Bool) → c < n → ((p : ℕ) → p < n → X p ≡ true → Y p ≡ true) → X c ≡ false → Y c ≡ true
    → count_of n X < count_of n Y
count_less zero c X Y l h x y = absurd (omega arith)
count_less (suc n) c X Y l h x y =
    below c n l
    (λ less. omega (arith, bit_le (X n) (Y n) (h n (omega arith)), count_less n c X Y less (λ p m. h p (omega arith)) x y))
    (λ same.
    omega
    (arith, bit_false (X n) (ap X (sym same) ∙ x), bit_true (Y n) (ap Y (sym same) ∙ y), count_le n X Y (λ p m. h p (omega arith))))

pub sum_of_ext : (n : ℕ) (f g : ℕ → ℕ) → ((i : ℕ) → i < n → f i ≡ g i) → sum_of n f ≡ sum_of n g
sum_of_ext zero f g h = refl
sum_of_ext (suc n) f g h = omega (arith, h n (omega arith), sum_of_ext n f g (λ i l. h i (omega arith)))

pub sum_of_le : (n : ℕ) (f g : ℕ → ℕ) → ((i : ℕ) → i < n → f i ≤ g i) → sum_of n f ≤ sum_of n g
sum_of_le zero f g h = omega arith
sum_of_le (suc n) f g h = omega (arith, h n (omega arith), sum_of_le n f g (λ i l. h i (omega arith)))

pub sum_of_add : (n : ℕ) (f g : ℕ → ℕ) → sum_of n (λ i. f i + g i) ≡ sum_of n f + sum_of n g
sum_of_add zero f g = omega arith
sum_of_add (suc n) f g = omega (arith, sum_of_add n f g)

pub sum_of_zero : (n : ℕ) (f : ℕ → ℕ) → ((i : ℕ) → i < n → f i ≡ 0) → sum_of n f ≡ 0
sum_of_zero zero f h = refl
sum_of_zero (suc n) f h = omega (arith, h n (omega arith), sum_of_zero n f (λ i l. h i (omega arith)))

-- two functions that differ by d at one number
pub sum_of_at : (n t d : ℕ) (f g : ℕ → ℕ) → t < n → ((i : ℕ) → i ≢ t → f i ≡ g i) → f t ≡ d + g t → sum_of n f ≡ d + sum_of n g
sum_of_at zero t d f g l h e = absurd (omega arith)
sum_of_at (suc n) t d f g l h e =
    below t n l
    (λ less. omega (arith, h n (omega arith), sum_of_at n t d f g less h e))
    (λ same.
    let at : f n ≡ d + g n = rw (← same) e in
    omega (arith, sum_of_ext n f g (λ i m. h i (omega arith))))

-- one less of a number of the list that is not 0
pub sum_less : (l : List ℕ) (t : ℕ) → 0 < get_or l t 0 → suc (list_sum (set l t (get_or l t 0 - 1))) ≡ list_sum l
sum_less [] t h = absurd (omega arith)
sum_less (x ∷ l) zero h = omega arith
sum_less (x ∷ l) (suc t) h = omega (arith, sum_less l t h)

pub greatest_above : (n : ℕ) (f : ℕ → ℕ) (t : ℕ) → t < n → f t ≤ greatest_of n f
unfolding greatest_of
greatest_above zero f t l = absurd (omega arith)
greatest_above (suc n) f t l =
    below t n l (λ less. omega (arith, greatest_above n f t less)) (λ same. omega (arith, ap f same))

pub greatest_below : (n : ℕ) (f : ℕ → ℕ) (b : ℕ) → ((t : ℕ) → t < n → f t ≤ b) → greatest_of n f ≤ b
unfolding greatest_of
greatest_below zero f b h = omega arith
greatest_below (suc n) f b h = omega (arith, h n (omega arith), greatest_below n f b (λ t l. h t (omega arith)))

pub greatest_reached : (n : ℕ) (f : ℕ → ℕ) → 0 < greatest_of n f → (t : ℕ) × (t < n) × (f t ≡ greatest_of n f)
unfolding greatest_of
greatest_reached zero f h = absurd (omega arith)
greatest_reached (suc n) f h =
    less_or (f n) (greatest_of n f)
    (λ less.
    let (t, l, at) = greatest_reached n f (omega arith) in
    (t, omega arith, omega arith))
    (λ most. (n, omega arith, omega arith))

pub all_from : (n : ℕ) (f : ℕ → Bool) → ((i : ℕ) → i < n → f i ≡ true) → all_of n f ≡ true
all_from zero f h = refl
all_from (suc n) f h = and_true (f n) (all_of n f) (h n (omega arith)) (all_from n f (λ i l. h i (omega arith)))

-- how many of the list pass the test
abbrev pub tally : (ℕ → Bool) → List ℕ → ℕ
tally P [] = 0
tally P (m ∷ A) = bit (P m) + tally P A

pub tally_le : (P Q : ℕ → Bool) (A : List ℕ) → ((m : ℕ) → P m ≡ true → Q m ≡ true) → tally P A ≤ tally Q A
tally_le P Q [] h = omega arith
tally_le P Q (m ∷ A) h = omega (arith, bit_le (P m) (Q m) (h m), tally_le P Q A h)

-- those who pass P either pass Q too or do not
pub tally_split : (P Q : ℕ → Bool) (A : List ℕ) → tally P A ≡ tally (λ m. P m && Q m) A + tally (λ m. P m && not (Q m)) A
tally_split P Q [] = omega arith
tally_split P Q (m ∷ A) = omega (arith, bit_split (P m) (Q m), tally_split P Q A)

pub tally_all : (A : List ℕ) → tally (λ m. true) A ≡ length A
tally_all [] = refl
tally_all (m ∷ A) = omega (arith, tally_all A)
