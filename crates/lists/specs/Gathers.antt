-- The members of a set of places, gathered into a list in their order: the number of a member there is how many of the set are before it.
use Rattle.std.specs.Prelude.{ℕ, zero, suc, ◌<◌, ◌≡◌, Bool, true, cond, List, [], ◌∷◌, ◌++◌, get_or}
use Rattle.lists.specs.Lists.{count_of}

-- the list has, at the numbers of the gathered places below n, what f says of these places
abbrev pub Gathers : (ℕ → Bool) → ℕ → (ℕ → ℕ) → List ℕ → Type 0
Gathers X n f l = (p : ℕ) → p < n → X p ≡ true → get_or l (count_of p X) 0 ≡ f p

-- what f says of the places below n that are in the set, in their order
unfoldable pub gathered : (ℕ → Bool) → ℕ → (ℕ → ℕ) → List ℕ
gathered X zero f = []
gathered X (suc n) f = let before = gathered X n f in cond (X n) (before ++ f n ∷ []) before
