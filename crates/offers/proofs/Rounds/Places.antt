-- Places of a merit list and the candidates who stand there.
use mathlib.Core.Path.{◌≡◌, sym, ◌∙◌}
use Prim.Native.Nat.{ℕ, suc, ◌≤◌, ◌<◌}
use native.Mathlib.Omega.{arith}
use lib.Dec.{eqb}
use lib.ListN.{length}
use borrow.Author.Tests.{eqb-true, eq-eqb}
use Rattle.round.specs.Round.{Round}
use Rattle.round.specs.Places.{institute_at, merit_at}
use Rattle.round.specs.Sound.{SoundInstitute}
use Rattle.offers.specs.Offers.{candidate_on, place_on}
use Rattle.lists.proofs.FirstNumber.{first_passes, first_least}

module _ (r : Round) (j : ℕ) where
  abbrev pub merit_length : ℕ
  merit_length = length (institute_at r j).merit

  -- the candidate at a candidate's place
  pub candidate_at_lem : (i : ℕ) → place_on r j i < merit_length → candidate_on r j (place_on r j i) ≡ i
  unfolding place_on
  candidate_at_lem i l =
      let test : ℕ → _ = λ p. eqb (merit_at (institute_at r j) p) (suc i) in
      omega (arith, eqb-true _ (suc i) (first_passes merit_length test l))

  module _ {n types : ℕ} (sound : SoundInstitute n types (institute_at r j)) where
    pub candidate_below : (p : ℕ) → p < merit_length → candidate_on r j p < n
    candidate_below p l = omega (arith, sound.merit_from p l, sound.merit_to p l)

    -- the place of the candidate at a place
    pub place_of : (p : ℕ) → p < merit_length → place_on r j (candidate_on r j p) ≡ p
    unfolding place_on
    place_of p l =
        let i : ℕ = candidate_on r j p in
        let q : ℕ = place_on r j i in
        let here : merit_at (institute_at r j) p ≡ suc i = omega (arith, sound.merit_from p l) in
        let least : q ≤ p = first_least merit_length (λ p. eqb (merit_at (institute_at r j) p) (suc i)) p (eq-eqb _ (suc i) here) in
        let inside : q < merit_length = omega arith in
        let there : merit_at (institute_at r j) q ≡ suc i = eqb-true _ (suc i) (first_passes merit_length (λ p. eqb (merit_at (institute_at r j) p) (suc i)) inside) in
        sound.merit_differs q p inside l (there ∙ sym here)
