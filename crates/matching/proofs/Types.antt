-- The types at the places of a set depend on the set below the last place alone; other places have none.
use Prim.Native.Nat.{ℕ, ◌<◌}
use mathlib.Core.Path.{◌≡◌, refl, ◌∙◌}
use mathlib.Core.Bool.{Bool, false, cond}
use mathlib.Core.List.{List}
use native.Mathlib.Omega.{arith}
use lib.ListN.{length, get_or, get_or-eq_default}
use Rattle.lists.specs.Lists.{count_of}
use Rattle.lists.proofs.Words.{length_tabulate, tabulate_at}
use Rattle.lists.specs.Gathers.{gathered}
use Rattle.matching.specs.FirstPlacing.{first_placing, types_of}
use Rattle.lists.proofs.Counting.{less_or, count_ext}
use Rattle.lists.proofs.Tabulate.{tabulate_cong}
use Rattle.lists.proofs.Gathered.{gathered_same}

module _ (reserved marks : List ℕ) where
  -- the first placing of those at the places of a set
  abbrev pub first_placed : (ℕ → Bool) → List ℕ
  first_placed X = first_placing reserved (gathered X (length marks) (λ p. get_or marks p 0))

  pub types_length : (X : ℕ → Bool) → length (types_of reserved marks X) ≡ length marks
  unfolding types_of
  types_length X = length_tabulate 0 (length marks) _

  pub types_at_lem : (X : ℕ → Bool) (p : ℕ) → p < length marks → get_or (types_of reserved marks X) p 0 ≡ cond (X p) (get_or (first_placed X) (count_of p X) 0) 0
  unfolding types_of
  types_at_lem X p l = tabulate_at (length marks) (λ p. cond (X p) (get_or (first_placed X) (count_of p X) 0) 0) 0 p l

  pub types_cong : (X Y : ℕ → Bool) → ((p : ℕ) → p < length marks → X p ≡ Y p) → types_of reserved marks X ≡ types_of reserved marks Y
  unfolding types_of
  types_cong X Y h =
      let lists = gathered_same X Y (λ p. get_or marks p 0) (λ p. get_or marks p 0) (length marks) h (λ p l x. refl) in
      tabulate_cong (length marks) _ _ (λ p l. rw (h p l, lists, count_ext p X Y (λ q b. h q (omega arith))))

  pub types_none : (X : ℕ → Bool) (p : ℕ) → X p ≡ false → get_or (types_of reserved marks X) p 0 ≡ 0
  types_none X p x =
      less_or p (length marks)
      (λ l. types_at_lem X p l ∙ rw x)
      (λ l. get_or-eq_default (types_of reserved marks X) 0 (omega (arith, types_length X)))
