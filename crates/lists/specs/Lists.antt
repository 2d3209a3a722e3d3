-- Words about lists and numbers that the definitions share.
use Rattle.std.specs.Prelude.{ℕ, zero, suc, ◌+◌, max, Bool, true, false, cond, not, ◌&&◌, ◌||◌, List, [], ◌∷◌, ◌++◌}

-- f i, f (i + 1), .., n in all
abbrev pub tabulate_from : {A : Type 0} → ℕ → ℕ → (ℕ → A) → List A
tabulate_from i zero f = []
tabulate_from i (suc n) f = f i ∷ tabulate_from (suc i) n f

-- f 0, f 1, .., f (n - 1)
abbrev pub tabulate : {A : Type 0} → ℕ → (ℕ → A) → List A
tabulate n f = tabulate_from 0 n f

-- the lists, one after the other
abbrev pub joined : List (List ℕ) → List ℕ
joined [] = []
joined (l ∷ ls) = l ++ joined ls

abbrev pub bit : Bool → ℕ
bit true = 1
bit false = 0

-- how many numbers below n are in the set
abbrev pub count_of : ℕ → (ℕ → Bool) → ℕ
count_of zero X = 0
count_of (suc n) X = bit (X n) + count_of n X

-- the sum of f 0, .., f (n - 1)
abbrev pub sum_of : ℕ → (ℕ → ℕ) → ℕ
sum_of zero f = 0
sum_of (suc n) f = f n + sum_of n f

-- the greatest of f 0, .., f (n - 1), and 0
unfoldable pub greatest_of : ℕ → (ℕ → ℕ) → ℕ
greatest_of zero f = 0
greatest_of (suc n) f = max (f n) (greatest_of n f)

-- the largest of the first n numbers that is in the set, counted from 1; 0 for none
abbrev pub last_of : ℕ → (ℕ → Bool) → ℕ
last_of n X = greatest_of n (λ p. cond (X p) (suc p) 0)

abbrev pub list_sum : List ℕ → ℕ
list_sum [] = 0
list_sum (x ∷ xs) = x + list_sum xs

-- each number below n passes the test
abbrev pub all_of : ℕ → (ℕ → Bool) → Bool
all_of zero f = true
all_of (suc n) f = f n && all_of n f

-- some number below n passes the test
abbrev pub any_of : ℕ → (ℕ → Bool) → Bool
any_of zero f = false
any_of (suc n) f = f n || any_of n f

-- the first number from i on that passes the test, of n in all; i + n where none does
abbrev pub first_from : ℕ → ℕ → (ℕ → Bool) → ℕ
first_from i zero f = i
first_from i (suc n) f = let later = first_from (suc i) n f in cond (f i) i later

-- the first number below n that passes the test; n where none does
abbrev pub first_of : ℕ → (ℕ → Bool) → ℕ
first_of n f = first_from 0 n f

-- no two numbers below n pass the test together
abbrev pub apart : ℕ → (ℕ → ℕ → Bool) → Bool
apart n same = all_of n (λ j. all_of j (λ i. not (same i j)))
