-- The list of a sound round is stable.
use mathlib.Core.Path.{◌≡◌, refl, sym, ◌∙◌, ap}
use mathlib.Core.Bool.{true, ◌&&◌}
use mathlib.Core.Logic.{◌⊎◌, inl, inr, ⊎_elim}
use mathlib.Core.List.{List}
use Prim.Native.Nat.{ℕ, ◌/◌, ◌%◌, ◌≤◌, ◌<◌}
use native.Mathlib.Omega.{arith}
use lib.Dec.{eqb}
use lib.ListN.{length, get_or}
use borrow.Author.Tests.{eqb-true, eq-eqb}
use Rattle.round.specs.declared.entry.Category.{Category}
use Rattle.round.specs.Category.{category_of}
use Rattle.round.specs.Round.{Round}
use Rattle.round.specs.Sound.{Sound}
use Rattle.std.proofs.lemmas.Bool.{or_cases}
use Rattle.lists.proofs.Words.{and_fst, and_snd}
use Rattle.lists.proofs.Counting.{clash, or_right}
use Rattle.offers.specs.Rows.{row_at, rank_in, entry_of}
use Rattle.offers.specs.Offers.{OfferSet, place_on, steps_on, step_for}
use Rattle.offers.specs.Process.{no_seat, candidate_count, institute_count, made_to, tried, seats}
use Rattle.offers.specs.Standing.{standing}
use Rattle.offers.specs.Stable.{seat_offers, step_of, OfRows, Same, together, WouldChoose, SomeBelow, Stable}
use Rattle.market.proofs.Laws.{Contracts}
use Rattle.market.proofs.Reached.{reached_fits}
use Rattle.market.proofs.Stable.{tried_all}
use Rattle.offers.proofs.Rounds.Numbered.{number_of, number_institute, number_category, row_by, rows_of, row_length, rows_rank}
use Rattle.offers.proofs.Rounds.Institutes.{round_market}
use Rattle.offers.proofs.Rounds.Agreed.{taken_by_steps, same_steps_on}
use Rattle.offers.proofs.Rounds.Running.{held, made_to_lem, held_at, Running, one_entry_held, one_at, taken_held, held_made}
use Rattle.offers.proofs.Rounds.Seats.{Seated, Unseated, seat_of}
use Rattle.offers.proofs.Rounds.Process.{tried_running, tried_final}
use Rattle.offers.proofs.Rounds.Standing.{seated_rank, standing_seated, standing_unseated}
use Rattle.offers.proofs.Rounds.Below.{NoneBelow, below_or_none}
use Rattle.offers.proofs.Rounds.SeatOffers.{given_held, step_given_lem}

module _ {types : ℕ} {r : Round} (sound : Sound types r) where
  run : Running r (tried r)
  run = tried_running sound

  pub seat_listed : (i : ℕ) → i < candidate_count r → standing r i (get_or (seats r) i no_seat) ≤ length (row_at r i)
  unfolding seats
  seat_listed i hi = go (seat_of sound run i hi)
    where
      go : Seated r (tried r) i ⊎ Unseated r (tried r) i → standing r i (get_or (seats r) i no_seat) ≤ length (row_at r i)
      go (inl s) = omega (arith, standing_seated sound run i s, seated_rank sound run i s, reached_fits run.reached i, row_length r i)
      go (inr s) = omega (arith, standing_unseated sound run i s)

  module _ (j : ℕ) (hj : j < institute_count r) where
    -- offers that were made, with the seats among them, get the same steps
    steps_with_seats : (Y : OfferSet) → ((i : ℕ) → i < candidate_count r → (c : Category) → Y i c ≡ true → made_to r (tried r) j i c ≡ true)
        → ((i : ℕ) → i < candidate_count r → (c : Category) → seat_offers r (seats r) j i c ≡ true → Y i c ≡ true)
        → steps_on r j Y ≡ steps_on r j (made_to r (tried r) j)
    unfolding seats
    steps_with_seats Y offered seated =
        same_steps_on r j (sound.institute j hj) Y (made_to r (tried r) j) (one_at sound run j hj) offered
        (λ i hi c t. seated i hi c (given_held sound run i j hi hj c ∙ (held_at r (tried r) i j c hi hj ∙ t)))

    given_made : (i : ℕ) → i < candidate_count r → (c : Category) → seat_offers r (seats r) j i c ≡ true → made_to r (tried r) j i c ≡ true
    unfolding seats
    given_made i hi c t = held_made sound run i j c (sym (given_held sound run i j hi hj c) ∙ t)

    seats_kept : (i : ℕ) → i < candidate_count r → step_for r j (seat_offers r (seats r) j) i ≡ step_of r (seats r) j i
    unfolding seats step_for
    seats_kept i hi =
        ap (λ (l : List ℕ). get_or l (place_on r j i) 0) (steps_with_seats (seat_offers r (seats r) j) given_made (λ k hk c t. t))
        ∙ sym (step_given_lem sound run i j hi hj)

    module _ (set : OfferSet) (listed : OfRows r j set) where
      -- the set among the offers to all institutes
      abbrev set_of : Contracts
      set_of i e = eqb (e / 5) j && set i (category_of (e % 5))

      set_of_lem : (i e : ℕ) → set_of i e ≡ true → ((rows_of r i).rank e ≡ rank_in (row_at r i) (entry_of j (category_of (e % 5)))) × (set i (category_of (e % 5)) ≡ true)
      unfolding row_by
      set_of_lem i e z = (
        ap (λ q. rank_in (row_at r i) (entry_of q (category_of (e % 5)))) (eqb-true (e / 5) j (and_fst (eqb (e / 5) j) _ z)),
        and_snd (eqb (e / 5) j) _ z,
      )

      set_listed : (i e : ℕ) → set_of i e ≡ true → (i < candidate_count r) × ((rows_of r i).rank e < (rows_of r i).len)
      unfolding OfRows
      set_listed i e z =
          let at = listed i (category_of (e % 5)) (set_of_lem i e z).1 in
          (at.0, omega (arith, at.1, (set_of_lem i e z).0, row_length r i))

      set_above : NoneBelow r (seats r) j set → (i e d : ℕ) → set_of i e ≡ true → held r (tried r) i d ≡ true → (rows_of r i).rank e ≤ (rows_of r i).rank d
      unfolding seats
      set_above none i e d z x = go (seat_of sound run i hi)
        where
          hi : i < candidate_count r
          hi = (set_listed i e z).0

          go : Seated r (tried r) i ⊎ Unseated r (tried r) i → (rows_of r i).rank e ≤ (rows_of r i).rank d
          go (inl s) =
              let c : Category = category_of (e % 5) in
              let same : d ≡ number_of s.institute s.category = one_entry_held sound run i hi d _ x s.holds in
              let least : rank_in (row_at r i) (entry_of j c) ≤ standing r i (get_or (seats r) i no_seat) =
              none i hi c (set_of_lem i e z).1 in
              omega (
                arith,
                (set_of_lem i e z).0,
                ap (λ x. (rows_of r i).rank x) same,
                rows_rank r i s.institute s.category,
                standing_seated sound run i s,
              )
          go (inr s) = clash x (s.none d)

      -- with none below, all were made
      set_made : NoneBelow r (seats r) j set → (i : ℕ) (c : Category) → set i c ≡ true → made_to r (tried r) j i c ≡ true
      set_made none i c t =
          ap (λ (Y : OfferSet). Y i c) (made_to_lem r (tried r) j)
          ∙ tried_all (round_market r sound) (tried_final sound).closed set_of (record { listed = set_listed; above = set_above none }) i (number_of j c)
          (rw (number_institute j c, eq-eqb j j refl, number_category j c) t)

      would_same : NoneBelow r (seats r) j set → WouldChoose r (seats r) j set → Same r set (seat_offers r (seats r) j)
      unfolding WouldChoose Same seats
      would_same none would i c hi =
          let steps : steps_on r j (together r (seats r) j set) ≡ steps_on r j (made_to r (tried r) j) =
          steps_with_seats (together r (seats r) j set)
          (λ k hk d o. ⊎_elim (λ (t : set k d ≡ true). set_made none k d t) (λ (t : seat_offers r (seats r) j k d ≡ true). given_made k hk d t) (or_cases (set k d) _ o))
          (λ k hk d t. or_right (set k d) _ t) in
          sym (would i c hi)
          ∙ taken_by_steps r j (together r (seats r) j set) (made_to r (tried r) j) steps i c
          ∙ taken_held sound run i j c hi hj
          ∙ sym (given_held sound run i j hi hj c)

      set_unblocked : (Same r set (seat_offers r (seats r) j) → ⊥) → WouldChoose r (seats r) j set → SomeBelow r (seats r) j set
      set_unblocked other would =
          ⊎_elim (λ (some : SomeBelow r (seats r) j set). some) (λ (none : NoneBelow r (seats r) j set). absurd (other (would_same none would)))
          (below_or_none r (seats r) j set)

  pub round_stable : Stable r (seats r)
  round_stable = record {
    listed = seat_listed;
    kept = λ j i hj hi. seats_kept j hj i hi;
    unblocked = λ j set hj listed other would. set_unblocked j hj set listed other would;
  }
