-- The places of a set, gathered into a list: how long it is, what stands where, and who of it passes a test.
use Prim.Native.Nat.{ℕ, zero, suc, ◌+◌, ◌<◌}
use mathlib.Core.Path.{◌≡◌, refl, sym, ap, ◌∙◌}
use mathlib.Core.Bool.{Bool, true, false, ◌&&◌}
use mathlib.Core.List.{List, [], ◌∷◌, ◌++◌}
use native.Mathlib.Omega.{arith}
use lib.ListN.{length, get_or, length-append, get_or-append}
use lib.Seq.{get_or_at, ext_get_or}
use Rattle.lists.specs.Lists.{bit, count_of}
use Rattle.lists.specs.Gathers.{Gathers, gathered}
use Rattle.lists.proofs.Counting.{test, less_or, below, clash, bit_true, bit_false, count_ext}
use Rattle.lists.proofs.Counts.{count_within}

-- how many of a list with one more at its end pass a test
pub count_last : (T : ℕ → Bool) (l : List ℕ) (x : ℕ)
    → count_of (length (l ++ x ∷ [])) (λ i. T (get_or (l ++ x ∷ []) i 0)) ≡ bit (T x) + count_of (length l) (λ i. T (get_or l i 0))
count_last T l x =
    let more : length (l ++ x ∷ []) ≡ suc (length l) = omega (arith, length-append l (x ∷ [])) in
    rw more
    (omega (
      arith,
      ap (λ y. bit (T y)) (get_or_at l x [] 0 (length l) refl),
      count_ext (length l) (λ i. T (get_or (l ++ x ∷ []) i 0)) (λ i. T (get_or l i 0)) (λ i b. ap T (get_or-append l (x ∷ []) 0 i b)),
    ))

module _ (X : ℕ → Bool) where
  -- a place of the set has a number below the number of those before n
  pub number_below : (p n : ℕ) → p < n → X p ≡ true → count_of p X < count_of n X
  number_below p n l x = omega (arith, bit_true (X p) x, count_within (suc p) n X (omega arith))

  -- each number below theirs is that of a place
  pub place_numbered : (n i : ℕ) → i < count_of n X → (p : ℕ) × (p < n) × (X p ≡ true) × (count_of p X ≡ i)
  place_numbered zero i l = absurd (omega arith)
  place_numbered (suc n) i l =
      test (X n)
      (λ x. less_or i (count_of n X) (λ less. later (place_numbered n i less)) (λ most. (n, omega arith, x, omega (arith, bit_true (X n) x))))
      (λ x. later (place_numbered n i (omega (arith, bit_false (X n) x))))
    where
      later : (p : ℕ) × (p < n) × (X p ≡ true) × (count_of p X ≡ i) → (p : ℕ) × (p < suc n) × (X p ≡ true) × (count_of p X ≡ i)
      later s = (s.0, omega (arith, s.1), s.2, s.3)

  module _ (f : ℕ → ℕ) where
    pub gathered_in : (n : ℕ) → X n ≡ true → gathered X (suc n) f ≡ gathered X n f ++ f n ∷ []
    unfolding gathered
    gathered_in n x = rw x

    pub gathered_out : (n : ℕ) → X n ≡ false → gathered X (suc n) f ≡ gathered X n f
    unfolding gathered
    gathered_out n x = rw x

    pub gathered_length : (n : ℕ) → length (gathered X n f) ≡ count_of n X
    gathered_length zero = unfold gathered in refl
    gathered_length (suc n) =
        test (X n)
        (λ x. rw (gathered_in n x, x) (omega (arith, length-append (gathered X n f) (f n ∷ []), gathered_length n)))
        (λ x. rw (gathered_out n x, x) (omega (arith, gathered_length n)))

    pub gathered_at : (n : ℕ) → Gathers X n f (gathered X n f)
    gathered_at zero p l x = absurd (omega arith)
    gathered_at (suc n) p l x =
        test (X n)
        (λ y.
        rw (gathered_in n y)
        (below p n l
        (λ less. get_or-append (gathered X n f) (f n ∷ []) 0 (count_of p X) (omega (arith, gathered_length n, number_below p n less x)) ∙ gathered_at n p less x)
        (λ same. rw same (get_or_at (gathered X n f) (f n) [] 0 (count_of n X) (gathered_length n)))))
        (λ y. rw (gathered_out n y) (below p n l (λ less. gathered_at n p less x) (λ same. clash x (rw same y))))

    -- as many of the list pass a test as places of the set
    pub gathered_count : (T : ℕ → Bool) (n : ℕ) → count_of (length (gathered X n f)) (λ i. T (get_or (gathered X n f) i 0)) ≡ count_of n (λ p. X p && T (f p))
    gathered_count T zero = unfold gathered in refl
    gathered_count T (suc n) =
        test (X n)
        (λ x. rw (gathered_in n x, x) (omega (arith, count_last T (gathered X n f) (f n), gathered_count T n)))
        (λ x. rw (gathered_out n x, x) (omega (arith, gathered_count T n)))

  -- a list is gathered from the numbers of the places
  pub gathered_numbers : (n : ℕ) (l : List ℕ) → length l ≡ count_of n X → gathered X n (λ p. get_or l (count_of p X) 0) ≡ l
  gathered_numbers n l e =
      ext_get_or 0 _ _ (gathered_length _ n ∙ sym e)
      (λ i b. at i (place_numbered n i (omega (arith, gathered_length (λ p. get_or l (count_of p X) 0) n))))
    where
      at : (i : ℕ) → (p : ℕ) × (p < n) × (X p ≡ true) × (count_of p X ≡ i) → get_or (gathered X n (λ p. get_or l (count_of p X) 0)) i 0 ≡ get_or l i 0
      at i s = rw (← s.3) (gathered_at (λ p. get_or l (count_of p X) 0) n s.0 s.1 s.2)

-- what is gathered depends on the set and on its places alone
pub gathered_same : (X Y : ℕ → Bool) (f g : ℕ → ℕ) (n : ℕ) → ((p : ℕ) → p < n → X p ≡ Y p) → ((p : ℕ) → p < n → X p ≡ true → f p ≡ g p)
    → gathered X n f ≡ gathered Y n g
unfolding gathered
gathered_same X Y f g zero h k = refl
gathered_same X Y f g (suc n) h k =
    let before = gathered_same X Y f g n (λ p l. h p (omega arith)) (λ p l. k p (omega arith)) in
    test (X n)
    (λ x. let y : Y n ≡ true = sym (h n (omega arith)) ∙ x in rw (x, y, before, k n (omega arith) x))
    (λ x. let y : Y n ≡ false = sym (h n (omega arith)) ∙ x in rw (x, y, before))
