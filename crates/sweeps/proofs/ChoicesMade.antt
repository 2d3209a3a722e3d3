-- The choice among the listed offers is the institute's choice from those offers, and what is put into a table is that choice.
use Prim.Native.Nat.{ℕ, zero, suc, ◌-◌, ◌≤◌, ◌<◌}
use mathlib.Core.Path.{◌≡◌, refl, sym, ◌∙◌, ap}
use mathlib.Core.Bool.{Bool, true, false, not}
use mathlib.Core.List.{List, [], ◌∷◌, map, ◌++◌}
use native.Mathlib.Omega.{arith}
use native.Mathlib.Nat.{zero-div}
use lib.Dec.{eqb, ltb}
use lib.ListN.{length, get_or, take, length-map, get_or-append}
use lib.Seq.{length-take-le, get_or-take}
use borrow.Author.Tests.{ltb-true, lt-ltb, eqb-true, not-false}
use Rattle.round.specs.declared.entry.Category.{Category}
use Rattle.round.specs.Category.{code_of}
use Rattle.lists.specs.Lists.{count_of}
use Rattle.round.specs.Round.{StepRule, Round}
use Rattle.questions.specs.declared.head.Head.{Head as CodeHead}
use Rattle.reader.specs.declared.change.Change.{Change}
use Rattle.reader.specs.Opened.{opened_round, OpenedFile}
use Rattle.round.specs.Places.{candidate_at, institute_at}
use Rattle.round.specs.Sound.{SoundInstitute}
use Rattle.lists.proofs.Words.{and_fst, and_snd, tabulate_at}
use Rattle.lists.specs.Numbers.{holds}
use Rattle.choice.specs.Choice.{choose}
use Rattle.choice.specs.Account.{account, type_in, types_in}
use Rattle.placing.specs.Offers.{offered_by}
use Rattle.lists.specs.Gathers.{Gathers}
use Rattle.choice.specs.declared.step.Numbers.{Numbers}
use Rattle.choice.specs.Noted.{noted_of, ClosingsFew, Placed}
use Rattle.lists.proofs.Counting.{test, clash}
use Rattle.choice.proofs.Fewer.{SameAmong, choose_gathered, type_gathered, noted_gathered}
use Rattle.choice.proofs.Noted.{noted_few}
use Rattle.offers.specs.Offers.{candidate_on, marks_on, at_places, place_on, steps_on, account_on, step_for, type_for}
use Rattle.offers.specs.Process.{candidate_count}
use Rattle.sweeps.specs.Sweeps.{offer_to, marks_of, offers_by, offers_at, takes_part, Gathered, ChosenListed, PutFor, Apart, Scattered}
use Rattle.offers.proofs.Rounds.Places.{merit_length, candidate_at_lem, candidate_below, place_of}
use Rattle.offers.proofs.Known.{institute_sound, merit_few}
use Rattle.lists.proofs.Counts.{count_most}
use Rattle.lists.proofs.Gathered.{number_below, place_numbered}
use Rattle.sweeps.proofs.Gathers.{gathers_front}

get_or_map_in : (f : ℕ → ℕ) (l : List ℕ) (p : ℕ) → p < length l → get_or (map f l) p 0 ≡ f (get_or l p 0)
get_or_map_in f [] p l = absurd (omega arith)
get_or_map_in f (x ∷ xs) zero l = refl
get_or_map_in f (x ∷ xs) (suc p) l = get_or_map_in f xs p (omega arith)

-- no categories are none of them
none_held : (t : ℕ) → holds 0 t ≡ false
unfolding holds
none_held t = rw zero-div

-- k offers are listed: who makes each, the marks and the offer
module _ (r : Round) (j : ℕ) {types : ℕ} (sound : SoundInstitute (candidate_count r) types (institute_at r j)) (offer : ℕ → ℕ) {first : Bool} {who marks offers places : List ℕ} {k : ℕ}
    (g : Gathered r j offer first (merit_length r j) who marks offers places k) where
  abbrev X : ℕ → Bool
  X = offers_at r j offer

  abbrev L : ℕ
  L = merit_length r j

  listed_most : k ≤ L
  listed_most = omega (arith, g.number, count_most L X)

  -- a candidate of the list stands at a place with an offer, whose number is that of the candidate
  listed : (q : ℕ) → q < k → (p : ℕ) × (p < L) × (X p ≡ true) × (count_of p X ≡ q) × (get_or who q 0 ≡ candidate_on r j p)
  listed q l =
      let (p, m, x, at) = place_numbered X L q (omega (arith, g.number)) in
      (p, m, x, at, ap (λ (q : ℕ). get_or who q 0) (sym at) ∙ g.who_at p m x)

  listed_apart : Apart who (candidate_count r) k
  listed_apart = record {
    within = λ q l. let (p, m, x, at, is) = listed q l in omega (arith, is, candidate_below r j sound p m);
    once = λ q q' l m same.
        let (p, b, x, at, is) = listed q l in
        let (p', b', x', at', is') = listed q' (omega arith) in
        let places : p' ≡ p = sym (place_of r j sound p' b') ∙ ap (place_on r j) (sym is' ∙ same ∙ is) ∙ place_of r j sound p b in
        omega (arith, at, at', ap (λ (p : ℕ). count_of p X) places);
  }

  offers_same : (c : Category) → SameAmong X L (λ p. at_places r j (offers_by offer) p c) (λ p. offered_by (take k offers) p c)
  unfolding offers_by
  offers_same c = record {
    inside = λ p l x. ap (λ o. holds o (code_of c)) (gathers_front X L _ offers k g.number g.offers_at_is p l x);
    outside = λ p l x. ap (λ o. holds o (code_of c)) (eqb-true _ _ (not-false _ x)) ∙ none_held (code_of c);
  }

  marks_front : Gathers X L (λ p. get_or (marks_on r j) p 0) (take k marks)
  unfolding marks_of
  marks_front p l x =
      gathers_front X L _ marks k g.number g.marks_at p l x
      ∙ sym (get_or_map_in (λ number. (candidate_at r (number - 1)).marks) (institute_at r j).merit p l)

  -- whoever takes part stands at a place with an offer
  part_at : (c : ℕ) → takes_part r j offer c ≡ true → (place_on r j c < L) × (X (place_on r j c) ≡ true) × (get_or who (count_of (place_on r j c) X) 0 ≡ c)
  unfolding takes_part
  part_at c t =
      let l : place_on r j c < L = ltb-true _ _ (and_fst (ltb (place_on r j c) L) _ t) in
      let here : candidate_on r j (place_on r j c) ≡ c = candidate_at_lem r j c l in
      let x : X (place_on r j c) ≡ true = ap (λ b. not (eqb (offer b) 0)) here ∙ and_snd (ltb (place_on r j c) L) _ t in
      (l, x, g.who_at (place_on r j c) l x ∙ here)

  part_number : (c : ℕ) → takes_part r j offer c ≡ true → count_of (place_on r j c) X < k
  part_number c t = let (l, x, is) = part_at c t in omega (arith, g.number, number_below X (place_on r j c) L l x)

  listed_place : (q p : ℕ) → p < L → get_or who q 0 ≡ candidate_on r j p → place_on r j (get_or who q 0) ≡ p
  listed_place q p m is = ap (place_on r j) is ∙ place_of r j sound p m

  -- and everybody on the list takes part
  listed_part : (q : ℕ) → q < k → takes_part r j offer (get_or who q 0) ≡ true
  unfolding takes_part
  listed_part q l =
      let (p, m, x, at, is) = listed q l in
      let place = listed_place q p m is in
      rw (lt-ltb (place_on r j (get_or who q 0)) L (omega arith), is) x

  -- what is chosen among the listed is what is chosen among all
  module _ {found typed : List ℕ} {noted : List Numbers} {rules : List StepRule} (fits : k ≤ length marks)
      (chose : (found ≡ choose (take k marks) (offered_by (take k offers)) rules)
      × (first ≡ true → typed ≡ types_in (length (take k marks)) (account (take k marks) (offered_by (take k offers)) rules))
      × (first ≡ true → noted ≡ noted_of (account (take k marks) (offered_by (take k offers)) rules)))
      (er : rules ≡ (institute_at r j).steps) where
    front_long : length (take k marks) ≡ count_of L X
    front_long = length-take-le k marks fits ∙ g.number

    found_at : (p : ℕ) → p < L → X p ≡ true → get_or found (count_of p X) 0 ≡ get_or (steps_on r j (offers_by offer)) p 0
    unfolding steps_on
    found_at p l x =
        ap (λ (t : List ℕ). get_or t (count_of p X) 0) chose.0
        ∙ sym (choose_gathered X L (marks_on r j) (take k marks) (length-map (institute_at r j).merit _) front_long marks_front
        (at_places r j (offers_by offer)) (offered_by (take k offers)) offers_same rules p l x)
        ∙ ap (λ (s : List StepRule). get_or (choose (marks_on r j) (at_places r j (offers_by offer)) s) p 0) er

    type_at : first ≡ true → (p : ℕ) → p < L → X p ≡ true → get_or typed (count_of p X) 0 ≡ type_in (account_on r j (offers_by offer)) p
    unfolding account_on types_in
    type_at told p l x =
        ap (λ (t : List ℕ). get_or t (count_of p X) 0) (chose.1 told)
        ∙ tabulate_at (length (take k marks)) _ 0 (count_of p X) (omega (arith, front_long, number_below X p L l x))
        ∙ sym (type_gathered X L (marks_on r j) (take k marks) (length-map (institute_at r j).merit _) front_long marks_front
        (at_places r j (offers_by offer)) (offered_by (take k offers)) offers_same rules p l x)
        ∙ ap (λ (s : List StepRule). type_in (account (marks_on r j) (at_places r j (offers_by offer)) s) p) er

    few_noted : first ≡ true → ClosingsFew k noted
    few_noted told =
        rw (chose.2 told)
        (λ i d l. omega (arith, noted_few (take k marks) (offered_by (take k offers)) rules i d l, length-take-le k marks fits))

    noted_all : first ≡ true → (table : List Numbers) → Placed places noted table → table ≡ noted_of (account_on r j (offers_by offer))
    unfolding account_on
    noted_all told table put =
        noted_gathered X L (marks_on r j) (take k marks) (length-map (institute_at r j).merit _) front_long marks_front
        (at_places r j (offers_by offer)) (offered_by (take k offers)) offers_same places (g.places_at told) rules table (rw (chose.2 told) at put)
        ∙ ap (λ (s : List StepRule). noted_of (account (marks_on r j) (at_places r j (offers_by offer)) s)) er

    chosen_listed : {chosen used : List ℕ} → L ≤ 512 → ((q : ℕ) → q < k → get_or chosen q 0 ≡ get_or found q 0) → ((q : ℕ) → q < k → get_or used q 0 ≡ get_or typed q 0)
        → ChosenListed r j offer first who chosen used places noted k
    unfolding step_for type_for
    chosen_listed few ec eu = record {
      few = omega (arith, listed_most);
      apart = listed_apart;
      part = listed_part;
      each = λ c t. (count_of (place_on r j c) X, part_number c t, (part_at c t).2);
      chosen_at = λ q l.
          let (p, m, x, at, is) = listed q l in
          ec q l ∙ ap (λ q. get_or found q 0) (sym at) ∙ found_at p m x ∙ ap (λ p. get_or (steps_on r j (offers_by offer)) p 0) (sym (listed_place q p m is));
      typed_at_is = λ told q l.
          let (p, m, x, at, is) = listed q l in
          eu q l ∙ ap (λ q. get_or typed q 0) (sym at) ∙ type_at told p m x ∙ ap (λ p. type_in (account_on r j (offers_by offer)) p) (sym (listed_place q p m is));
      noted_few = few_noted;
      noted_as = noted_all;
    }

-- the offers to an institute are listed, in tables that had room for every candidate
module _ {file : List ℕ} {h : CodeHead} {change : Change} {row starts : List ℕ} (hand : OpenedFile file h change row starts) {j : ℕ} (inside : j < h.institutes) (asked wanted : List ℕ)
    {first : Bool} {who marks offers places : List ℕ} {k : ℕ}
    (g : Gathered (opened_round file change row) j (offer_to (suc j) asked wanted) first (merit_length (opened_round file change row) j) who marks offers places k) where
  -- listed and chosen among
  pub listed_chosen : {found typed : List ℕ} {noted : List Numbers} {rules : List StepRule} (found_rest typed_rest : List ℕ) → k ≤ length marks
      → (found ≡ choose (take k marks) (offered_by (take k offers)) rules)
      × (first ≡ true → typed ≡ types_in (length (take k marks)) (account (take k marks) (offered_by (take k offers)) rules))
      × (first ≡ true → noted ≡ noted_of (account (take k marks) (offered_by (take k offers)) rules))
      → rules ≡ (institute_at (opened_round file change row) j).steps
      → length found ≡ k → length typed ≡ k
      → ChosenListed (opened_round file change row) j (offer_to (suc j) asked wanted) first who (found ++ found_rest) (typed ++ typed_rest) places noted k
  listed_chosen {found = found} {typed = typed} found_rest typed_rest fits chose er ef et =
      chosen_listed (opened_round file change row) j (institute_sound hand inside) (offer_to (suc j) asked wanted) g fits chose er (merit_few hand inside)
      (λ q l. get_or-append found _ 0 q (omega arith)) (λ q l. get_or-append typed _ 0 q (omega arith))

-- what was chosen is put into a table at those who take part
module _ {r : Round} {j : ℕ} {offer : ℕ → ℕ} {first : Bool} {who chosen used places : List ℕ} {noted : List Numbers} {k : ℕ} (l : ChosenListed r j offer first who chosen used places noted k) where
  pub who_apart : {n : ℕ} → candidate_count r ≡ n → k ≤ length who → Apart (take k who) n (length (take k who))
  who_apart e fits =
      rw (length-take-le k who fits)
      record {
        within = λ q m. omega (arith, get_or-take k who q 0 m, l.apart.within q m);
        once = λ q p m s same. l.apart.once q p m s (sym (get_or-take k who p 0 (omega arith)) ∙ same ∙ get_or-take k who q 0 m);
      }

  put_for : (value : ℕ → ℕ) (values : List ℕ) {before after : List ℕ} → k ≤ length who → ((q : ℕ) → q < k → get_or values q 0 ≡ value (get_or who q 0))
      → Scattered (take k who) (λ q. get_or values q 0) (length (take k who)) before after → PutFor r j offer value before after
  put_for value values {before} {after} fits same s = record {
    many = s.many;
    at = λ c hc.
        test (takes_part r j offer c)
        (λ t.
        let (q, m, is) = l.each c t in
        let at : q < length (take k who) = omega (arith, length-take-le k who fits) in
        rw t
        (ap (λ (b : ℕ). get_or after b 0) (sym (get_or-take k who q 0 m ∙ is))
        ∙ s.at q at
        ∙ same q m
        ∙ ap value is))
        (λ f.
        rw f
        (s.off c
        (λ q m e.
        let at : q < k = omega (arith, length-take-le k who fits) in
        clash (ap (takes_part r j offer) (sym (sym (get_or-take k who q 0 at) ∙ e)) ∙ l.part q at) f)));
  }

  pub steps_put : {before after : List ℕ} → k ≤ length who → Scattered (take k who) (λ q. get_or chosen q 0) (length (take k who)) before after
      → PutFor r j offer (step_for r j (offers_by offer)) before after
  steps_put fits = put_for _ chosen fits l.chosen_at

  pub types_put : {before after : List ℕ} → first ≡ true → k ≤ length who
      → Scattered (take k who) (λ q. get_or used q 0) (length (take k who)) before after
      → PutFor r j offer (type_for r j (offers_by offer)) before after
  types_put told fits = put_for _ used fits (l.typed_at_is told)
