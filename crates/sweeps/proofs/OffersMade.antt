-- Offers of one candidate after the other: what the tables hold on the way and after the last.
use Prim.Native.Nat.{ℕ, ◌+◌, ◌-◌, ◌^◌, ◌≤◌, ◌<◌}
use mathlib.Core.Path.{◌≡◌, sym, ◌∙◌, ap}
use mathlib.Core.Bool.{Bool, true, false, ◌&&◌}
use mathlib.Core.Logic.{◌≢◌}
use mathlib.Core.List.{List}
use native.Mathlib.Omega.{arith}
use native.Mathlib.Decide.{dec_lt, ℕ_discrete}
use native.Mathlib.Numerals.{add-one}
use lib.Dec.{eqb, ltb}
use lib.ListN.{length, get_or, set, length-set, get_or-eq_default}
use lib.Seq.{get_or-set_same, get_or-set_other}
use borrow.Author.Tests.{ltb-true}
use Rattle.round.specs.declared.entry.Entry.{Entry}
use Rattle.round.specs.Category.{code_of}
use Rattle.lists.specs.Lists.{tabulate, count_of}
use Rattle.round.specs.Round.{Round}
use Rattle.round.specs.Places.{candidate_at, entry_at}
use Rattle.questions.specs.declared.head.Head.{Head as CodeHead}
use Rattle.reader.specs.declared.change.Change.{Change}
use Rattle.round.specs.Sound.{SoundRow}
use Rattle.reader.specs.Opened.{opened_round, OpenedFile}
use Rattle.lists.proofs.Words.{and_snd}
use Rattle.lists.proofs.Counting.{clash}
use Rattle.lists.proofs.Counts.{count_more}
use Rattle.lists.proofs.Written.{Written, write, keep, tabulated}
use Rattle.offers.specs.Rows.{row_at}
use Rattle.offers.specs.Process.{candidate_count}
use Rattle.offers.proofs.Known.{candidates_many, round_sound}
use Rattle.sweeps.specs.Sweeps.{may_try, next_entry, OfferMade, tried_next, asked_next, wanted_next, OffersMade}

-- whoever may try has an untried entry
pub try_more : (r : Round) (tried steps : List ℕ) (i : ℕ) {may : Bool} → may ≡ may_try r tried steps i → may ≡ true → get_or tried i 0 < length (row_at r i)
unfolding may_try
try_more r tried steps i told t = ltb-true _ _ (and_snd (eqb (get_or steps i 0) 0) _ (sym told ∙ t))

-- a number that is set to 1 leaves no other 0 that was not
set_keeps : (l : List ℕ) (a b : ℕ) → get_or l b 0 ≢ 0 → get_or (set l a 1) b 0 ≢ 0
set_keeps l a b d z = elim (ℕ_discrete b a) [
  | yes e ↦ elim (dec_lt a (length l)) [
    | yes m ↦ omega (arith, rw e at z, get_or-set_same l a 1 0 m)
    | no m ↦ d (get_or-eq_default l 0 (omega arith))
  ]
  | no e ↦ d (sym (get_or-set_other l a b 1 0 e) ∙ z)
]

-- the best untried entry of a candidate, as the code has read it
module _ {file : List ℕ} {h : CodeHead} {change : Change} {row starts : List ℕ} (hand : OpenedFile file h change row starts) {i : ℕ} (below : i < h.candidates) (tried : List ℕ) (more : get_or tried i 0 < length (row_at (opened_round file change row) i)) where
  entries : SoundRow (length (opened_round file change row).institutes) (candidate_at (opened_round file change row) i).category (row_at (opened_round file change row) i)
  entries = ((round_sound hand).candidate i (omega (arith, candidates_many hand))).row_sound

  pub tried_few : get_or tried i 0 + 1 < 256
  tried_few = omega (arith, entries.row_short)

  next_few : (1 ≤ (next_entry (opened_round file change row) tried i).institute) × ((next_entry (opened_round file change row) tried i).institute ≤ 1000)
  next_few = (entries.entry_from (get_or tried i 0) more, omega (arith, entries.entry_to (get_or tried i 0) more, (round_sound hand).institutes_most_is))

  module _ {k : ℕ} {entry : Entry} (at : k ≡ get_or tried i 0) (reads : entry ≡ entry_at (candidate_at (opened_round file change row) i) k) where
    entry_is : entry ≡ next_entry (opened_round file change row) tried i
    entry_is = reads ∙ ap (λ k. entry_at (candidate_at (opened_round file change row) i) k) at

    entry_few : (1 ≤ entry.institute) × (entry.institute ≤ 1000)
    entry_few = rw entry_is next_few

    pub entry_least : 1 ≤ entry.institute
    entry_least = entry_few.0

    pub entry_small : entry.institute < 65536
    entry_small = omega (arith, entry_few)

    pub entry_inside : (fresh : List ℕ) → length fresh ≡ 1000 → entry.institute - 1 < length fresh
    entry_inside fresh e = omega (arith, entry_few)

    pub offer_made : {asked wanted fresh : List ℕ} {categories : ℕ} → length fresh ≡ 1000 → categories ≡ 2 ^ code_of entry.category
        → OfferMade (opened_round file change row) i tried asked wanted fresh
        (set tried i (get_or tried i 0 + 1)) (set asked i entry.institute) (set wanted i categories) (set fresh (entry.institute - 1) 1)
    offer_made {asked} {wanted} {fresh} many ec = record {
      tried_one = ap (λ x. set tried i x) (add-one (get_or tried i 0));
      asked_one = ap (λ x. set asked i x) (ap (λ (e : Entry). e.institute) entry_is);
      wanted_one = ap (λ x. set wanted i x) (ec ∙ ap (λ (e : Entry). 2 ^ code_of e.category) entry_is);
      fresh_many = length-set fresh _ 1;
      fresh_new = rw (← entry_is, get_or-set_same fresh (entry.institute - 1) 1 0 (omega (arith, entry_few, many))) (λ z. omega arith);
      fresh_kept = λ j. set_keeps fresh (entry.institute - 1) j;
    }

module _ (r : Round) (steps tried₀ asked₀ wanted₀ : List ℕ) where
  -- where the tables stand when the first k candidates have had their turn
  pub record Offering (tried asked wanted fresh : List ℕ) (k made : ℕ) : Type 0 where
    pub tried_to : Written tried₀ tried (tried_next r steps tried₀) k
    pub asked_to : Written asked₀ asked (asked_next r steps tried₀ asked₀) k
    pub wanted_to : Written wanted₀ wanted (wanted_next r steps tried₀ wanted₀) k
    pub number : made ≡ count_of k (may_try r tried₀ steps)
    pub few : made ≤ k
    pub fresh_many : length fresh ≡ 1000
    pub fresh_new : (i : ℕ) → i < k → may_try r tried₀ steps i ≡ true → get_or fresh ((next_entry r tried₀ i).institute - 1) 0 ≢ 0

  module _ {tried asked wanted fresh : List ℕ} {k made : ℕ} (s : Offering tried asked wanted fresh k made) where
    -- candidate k may by the tables now where it might before
    may_still : may_try r tried steps k ≡ may_try r tried₀ steps k
    unfolding may_try
    may_still = ap (λ x. eqb (get_or steps k 0) 0 && ltb x (length (row_at r k))) (s.tried_to.above k (omega arith))

    module _ {may : Bool} (told : may ≡ may_try r tried steps k) where
      -- candidate k may not offer
      pub one_passed : may ≡ false → Offering tried asked wanted fresh (k + 1) made
      one_passed not-may =
          let f : may_try r tried₀ steps k ≡ false = sym may_still ∙ sym told ∙ not-may in
          record {
            tried_to = keep tried₀ tried _ k s.tried_to (rw f);
            asked_to = keep asked₀ asked _ k s.asked_to (rw f);
            wanted_to = keep wanted₀ wanted _ k s.wanted_to (rw f);
            number = (let e : made ≡ made + 0 = omega arith in e) ∙ count_more (may_try r tried₀ steps) k made 0 s.number (rw f);
            few = omega (arith, s.few);
            fresh_many = s.fresh_many;
            fresh_new = λ i l t. elim (ℕ_discrete i k) [
              | yes e ↦ clash t (rw e f)
              | no d ↦ s.fresh_new i (omega arith) t
            ];
          }

      -- candidate k offers
      pub one_offered : may ≡ true → k < length tried₀ → k < length asked₀ → k < length wanted₀
          → {tried' asked' wanted' fresh' : List ℕ} → OfferMade r k tried asked wanted fresh tried' asked' wanted' fresh'
          → Offering tried' asked' wanted' fresh' (k + 1) (made + 1)
      one_offered yes₀ lt la lw o =
          let t : may_try r tried₀ steps k ≡ true = sym may_still ∙ sym told ∙ yes₀ in
          let had : get_or tried k 0 ≡ get_or tried₀ k 0 = s.tried_to.above k (omega arith) in
          rw (o.tried_one, o.asked_one, o.wanted_one, had)
          record {
            tried_to = write tried₀ tried _ k _ lt s.tried_to (rw t);
            asked_to = write asked₀ asked _ k _ la s.asked_to (rw t);
            wanted_to = write wanted₀ wanted _ k _ lw s.wanted_to (rw t);
            number = count_more (may_try r tried₀ steps) k made 1 s.number (rw t);
            few = omega (arith, s.few);
            fresh_many = o.fresh_many ∙ s.fresh_many;
            fresh_new = λ i l m. elim (ℕ_discrete i k) [
              | yes e ↦ rw (e, ← had) o.fresh_new
              | no d ↦ o.fresh_kept _ (s.fresh_new i (omega arith) m)
            ];
          }

    -- everybody of so many candidates has had a turn
    pub all_offered : {n : ℕ} → candidate_count r ≡ n → length tried₀ ≡ n → length asked₀ ≡ n → length wanted₀ ≡ n → k ≡ n
        → OffersMade r steps tried₀ asked₀ wanted₀ tried asked wanted fresh made
    all_offered en et ea ew ek = record {
      tried_now = tabulated tried₀ tried _ k s.tried_to (omega arith) ∙ ap (λ n. tabulate n (tried_next r steps tried₀)) (et ∙ sym en);
      asked_now = tabulated asked₀ asked _ k s.asked_to (omega arith) ∙ ap (λ n. tabulate n (asked_next r steps tried₀ asked₀)) (ea ∙ sym en);
      wanted_now = tabulated wanted₀ wanted _ k s.wanted_to (omega arith) ∙ ap (λ n. tabulate n (wanted_next r steps tried₀ wanted₀)) (ew ∙ sym en);
      number = rw (ek ∙ sym en) at s.number;
      fresh_many = s.fresh_many;
      fresh_new = λ i l. s.fresh_new i (omega arith);
    }
