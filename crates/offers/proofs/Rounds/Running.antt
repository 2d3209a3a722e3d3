-- A state of the process as a state of the market: in one that turns lead to, each institute takes what its completion takes.
use mathlib.Core.Path.{◌≡◌, sym, ◌∙◌, ap, fun_ext}
use mathlib.Core.Bool.{true}
use mathlib.Core.List.{List}
use Prim.Native.Nat.{ℕ, ◌<◌}
use lib.Dec.{ltb}
use lib.ListN.{length, get_or}
use Rattle.round.specs.declared.entry.Category.{Category}
use Rattle.round.specs.Round.{Round}
use Rattle.round.specs.Sound.{Sound}
use Rattle.offers.specs.Offers.{OfferSet, taken_from}
use Rattle.offers.specs.Process.{candidate_count, institute_count, made_to}
use Rattle.market.proofs.Laws.{Contracts}
use Rattle.market.proofs.Rows.{State, offers}
use Rattle.market.proofs.Reached.{Reached}
use Rattle.market.proofs.Alone.{one_held}
use Rattle.offers.proofs.Rounds.Numbered.{number_of, number_same, rows_of, rows_rank, rows_ranked}
use Rattle.offers.proofs.Rounds.Completed.{completed, completed_inside}
use Rattle.offers.proofs.Rounds.Institutes.{offers_to, choice_of, choice_at, round_market}
use Rattle.offers.proofs.Rounds.Agreed.{One, taken_completed}

abbrev pub state_of : List ℕ → State
state_of tried i = get_or tried i 0

module _ (r : Round) where
  -- the offers made in a state, and those held
  abbrev pub made : List ℕ → Contracts
  made tried = offers (rows_of r) (state_of tried)

  abbrev pub held : List ℕ → Contracts
  held tried = choice_of r (made tried)

  pub made_to_lem : (tried : List ℕ) (j : ℕ) → made_to r tried j ≡ offers_to (made tried) j
  unfolding made_to offers
  made_to_lem tried j = fun_ext (λ i. fun_ext (λ c. ap (λ x. ltb x (get_or tried i 0)) (sym (rows_rank r i j c))))

  pub held_at : (tried : List ℕ) (i j : ℕ) (c : Category) → i < candidate_count r → j < institute_count r
      → held tried i (number_of j c) ≡ completed r j (made_to r tried j) i c
  held_at tried i j c hi hj = choice_at r (made tried) i j c hi hj ∙ ap (λ (Y : OfferSet). completed r j Y i c) (sym (made_to_lem tried j))

-- how many entries of each row have been tried, where turns have led there
pub record Running (r : Round) (tried : List ℕ) : Type 0 where
  pub each : length tried ≡ candidate_count r
  pub reached : Reached (candidate_count r) (choice_of r) (rows_of r) (state_of tried)

module _ {types : ℕ} {r : Round} (sound : Sound types r) {tried : List ℕ} (run : Running r tried) where
  pub one_entry_held : (i : ℕ) → i < candidate_count r → (a b : ℕ) → held r tried i a ≡ true → held r tried i b ≡ true → a ≡ b
  one_entry_held i hi = one_held (round_market r sound) run.reached i (rows_ranked r i (sound.candidate i hi))

  pub one_at : (j : ℕ) → j < institute_count r → One r j (made_to r tried j)
  one_at j hj i c d t u =
      let hi : i < candidate_count r = completed_inside r j (sound.institute j hj) (made_to r tried j) i c t in
      (number_same j j c d (one_entry_held i hi (number_of j c) (number_of j d) (held_at r tried i j c hi hj ∙ t) (held_at r tried i j d hi hj ∙ u))).1

  -- the choice and the completion agree
  pub taken_held : (i j : ℕ) (c : Category) → i < candidate_count r → j < institute_count r
      → taken_from r j (made_to r tried j) i c ≡ held r tried i (number_of j c)
  taken_held i j c hi hj =
      taken_completed r j (sound.institute j hj) (made_to r tried j) (one_at j hj) i c ∙ sym (held_at r tried i j c hi hj)

  pub held_made : (i j : ℕ) (c : Category) → held r tried i (number_of j c) ≡ true → made_to r tried j i c ≡ true
  held_made i j c t = ap (λ (Y : OfferSet). Y i c) (made_to_lem r tried j) ∙ (round_market r sound).within (made r tried) i (number_of j c) t
