-- No other row would have served a candidate of a sound round better.
use mathlib.Core.Path.{◌≡◌, sym, ◌∙◌, ap, subst⁻¹, fun_ext}
use mathlib.Core.Bool.{true, cond, ◌&&◌}
use mathlib.Core.Logic.{◌⊎◌, inl, inr, ◌≢◌}
use mathlib.Core.List.{List, map}
use Prim.Native.Nat.{ℕ, suc, ◌*◌, ◌-◌, ◌/◌, ◌%◌, ◌≤◌, ◌<◌}
use native.Mathlib.Omega.{arith}
use native.Mathlib.Decide.{dec_lt}
use lib.Dec.{ltb}
use lib.ListN.{length, get_or, get_or-eq_default}
use borrow.Author.Tests.{lt-ltb, le-ltb}
use Rattle.round.specs.declared.entry.Category.{Category}
use Rattle.round.specs.Category.{category_of}
use Rattle.round.specs.Round.{Candidate, Institute, Round}
use Rattle.round.specs.Places.{candidate_at, institute_at, step_at, step_numbers, no_candidate, no_institute}
use Rattle.round.specs.Sound.{Sound}
use Rattle.lists.proofs.Counting.{clash}
use Rattle.choice.proofs.Completion.{completion}
use Rattle.offers.specs.Rows.{row_at, rank_in, entry_of}
use Rattle.offers.specs.Offers.{candidate_on, place_on}
use Rattle.offers.specs.Process.{no_seat, candidate_count, institute_count, made_to, tried, seats}
use Rattle.offers.specs.Standing.{standing}
use Rattle.market.proofs.Laws.{Contracts}
use Rattle.market.proofs.Update.{split_at}
use Rattle.market.proofs.Rows.{RowsAlikeBut, offers}
use Rattle.market.proofs.Reached.{Closed}
use Rattle.market.proofs.Cut.{HeldBy}
use Rattle.market.proofs.Truthful.{truthful}
use Rattle.offers.proofs.Rounds.Numbered.{number_of, row_by, rows_of, row_length, rows_rank, rows_ranked}
use Rattle.offers.proofs.Rounds.Places.{merit_length}
use Rattle.offers.proofs.Rounds.Completed.{completed}
use Rattle.offers.proofs.Rounds.Institutes.{choice_of, round_market}
use Rattle.offers.proofs.Rounds.Agreed.{step_number}
use Rattle.offers.proofs.Rounds.Running.{state_of, held, one_entry_held}
use Rattle.offers.proofs.Rounds.Seats.{step_in, Seated, Unseated, seat_of}
use Rattle.offers.proofs.Rounds.Process.{tried_running, tried_final}
use Rattle.offers.proofs.Rounds.Standing.{standing_at, standing_none, standing_seated}
use Rattle.offers.proofs.Rounds.StableRound.{seat_listed}

-- all institutes' choice, from the institutes of r, with so many candidates of these marks
unfoldable choice_by : Round → ℕ → (ℕ → ℕ) → Contracts → Contracts
choice_by r n marks O i e =
    ltb i n
    && (ltb e (5 * institute_count r)
    && (ltb (place_on r (e / 5) i) (merit_length r (e / 5))
    && completion (map (λ number. marks (number - 1)) (institute_at r (e / 5)).merit) (institute_at r (e / 5)).steps
    (λ p c. O (candidate_on r (e / 5) p) (number_of (e / 5) c)) (place_on r (e / 5) i) (category_of (e % 5))))

-- rounds with the same institutes, and so many candidates with the same marks, are one market
same_choice : (r r' : Round) → r.institutes ≡ r'.institutes → candidate_count r ≡ candidate_count r'
    → ((k : ℕ) → (candidate_at r k).marks ≡ (candidate_at r' k).marks) → choice_of r ≡ choice_of r'
unfolding choice_by choice_of completed place_on
same_choice r r' institutes number marks =
    ap (λ (n : ℕ). choice_by r n (λ k. (candidate_at r k).marks)) number
    ∙ ap (λ (f : ℕ → ℕ). choice_by r (candidate_count r') f) (fun_ext marks)
    ∙ ap choice_of rest
  where
    rest : record { candidates = r'.candidates; institutes = r.institutes; steps_listed = r'.steps_listed } ≡ r'
    rest = λ k. record { candidates = r'.candidates; institutes = institutes k; steps_listed = r'.steps_listed }

-- two rounds alike but for the row of candidate i
pub record AlikeBut (r r' : Round) (i : ℕ) : Type 0 where
  pub institutes : r.institutes ≡ r'.institutes
  pub number : candidate_count r ≡ candidate_count r'
  pub others : (k : ℕ) → k < candidate_count r → k ≢ i → candidate_at r k ≡ candidate_at r' k
  pub marks : (candidate_at r i).marks ≡ (candidate_at r' i).marks

module _ {types types' : ℕ} {r r' : Round} (sound : Sound types r) (sound' : Sound types' r') (i : ℕ) (hi : i < candidate_count r) (alike : AlikeBut r r' i) where
  same_candidate : (k : ℕ) → k ≢ i → candidate_at r k ≡ candidate_at r' k
  same_candidate k d = elim (dec_lt k (candidate_count r)) [
    | yes l ↦ alike.others k l d
    | no l ↦
        get_or-eq_default r.candidates no_candidate (omega arith)
        ∙ sym (get_or-eq_default r'.candidates no_candidate (omega (arith, alike.number)))
  ]

  same_ch : choice_of r ≡ choice_of r'
  same_ch =
      same_choice r r' alike.institutes alike.number
      (split_at (λ k. (candidate_at r k).marks ≡ (candidate_at r' k).marks) i alike.marks (λ k d. ap (λ (c : Candidate). c.marks) (same_candidate k d)))

  same_rows : RowsAlikeBut i (rows_of r') (rows_of r)
  same_rows k d = ap row_by (sym (same_candidate k d))

  closed' : Closed (candidate_count r) (choice_of r) (rows_of r') (state_of (tried r'))
  closed' =
      subst⁻¹ (λ (n : ℕ). Closed n (choice_of r) (rows_of r') (state_of (tried r'))) alike.number
      (subst⁻¹ (λ (Ch : Contracts → Contracts). Closed (candidate_count r') Ch (rows_of r') (state_of (tried r'))) same_ch (tried_final sound').closed)

  -- what i gets by the other row is no better, where i's row has it
  served : (j : ℕ) (c : Category) → held r' (tried r') i (number_of j c) ≡ true → rank_in (row_at r i) (entry_of j c) < length (row_at r i)
      → standing r i (get_or (seats r) i no_seat) ≤ rank_in (row_at r i) (entry_of j c)
  unfolding seats
  served j c got listed =
      go
      (truthful (round_market r sound) i (number_of j c) (λ k l. rows_ranked r k (sound.candidate k l)) same_rows (tried_final sound) closed'
      (ap (λ (Ch : Contracts → Contracts). Ch (offers (rows_of r') (state_of (tried r'))) i (number_of j c)) same_ch ∙ got)
      (omega (arith, rows_rank r i j c, row_length r i)))
      (seat_of sound (tried_running sound) i hi)
    where
      go : HeldBy (choice_of r) (rows_of r) (state_of (tried r)) i ((rows_of r i).rank (number_of j c)) → Seated r (tried r) i ⊎ Unseated r (tried r) i
          → standing r i (get_or (seats r) i no_seat) ≤ rank_in (row_at r i) (entry_of j c)
      go (e, q, l) (inl s) =
          let same : e ≡ number_of s.institute s.category = one_entry_held sound (tried_running sound) i hi e _ q s.holds in
          omega (
            arith,
            ap (λ x. (rows_of r i).rank x) same,
            rows_rank r i s.institute s.category,
            rows_rank r i j c,
            standing_seated sound (tried_running sound) i s,
          )
      go (e, q, l) (inr s) = clash q (s.none e)

  pub round_truthful : standing r i (get_or (seats r) i no_seat) ≤ standing r i (get_or (seats r') i no_seat)
  unfolding seats
  round_truthful = go (seat_of sound' (tried_running sound') i (omega (arith, alike.number)))
    where
      go : Seated r' (tried r') i ⊎ Unseated r' (tried r') i → standing r i (get_or (seats r) i no_seat) ≤ standing r i (get_or (seats r') i no_seat)
      go (inl s) =
          let j : ℕ = s.institute in
          let k : ℕ = step_in r' (tried r') j i in
          let size : ℕ = length (row_at r i) in
          let rank : ℕ = rank_in (row_at r i) (entry_of j s.category) in
          let there : institute_at r j ≡ institute_at r' j = ap (λ (l : List Institute). get_or l j no_institute) alike.institutes in
          let inside : j < institute_count r = omega (arith, s.inside, ap (λ (l : List Institute). length l) alike.institutes) in
          let listed : k ≤ length (institute_at r j).steps = rw there (step_number r' j (made_to r' (tried r') j) i) in
          let most : k ≤ step_numbers r j = omega (arith, listed, sound.numbered j inside) in
          let stands : standing r i (get_or (seats r') i no_seat) ≡ cond (ltb rank size) rank (suc size) =
          ap (standing r i) s.seat
          ∙ standing_at r j k inside s.number most i
          ∙ ap (λ (c : Category). cond (ltb (rank_in (row_at r i) (entry_of j c)) size) (rank_in (row_at r i) (entry_of j c)) (suc size))
          (ap (λ (o : Institute). (step_at o (k - 1)).category) there ∙ s.under) in
          elim (dec_lt rank size) [
            | yes l ↦ omega (arith, stands, ap (λ b. cond b rank (suc size)) (lt-ltb rank size l), served j s.category s.holds l)
            | no l ↦ omega (arith, stands, ap (λ b. cond b rank (suc size)) (le-ltb rank size (omega arith)), seat_listed sound i hi)
          ]
      go (inr s) = omega (arith, ap (standing r i) s.seat, standing_none r i, seat_listed sound i hi)
