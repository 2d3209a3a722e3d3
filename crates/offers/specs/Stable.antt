-- The second half of demand 3, in the words of document 01 ("The words of demand 3"), for any list of seats.
use Rattle.std.specs.Prelude.{ℕ, suc, ◌<◌, ◌≤◌, ◌≡◌, true, cond, ◌&&◌, ◌||◌, List, eqb, length, get_or}
use Rattle.round.specs.declared.entry.Category.{Category}
use Rattle.round.specs.Round.{Round}
use Rattle.offers.specs.Rows.{row_at, rank_in, entry_of, same_category, category_at}
use Rattle.offers.specs.Offers.{OfferSet, step_for, taken_from}
use Rattle.offers.specs.Process.{Seat, no_seat, candidate_count, institute_count}
use Rattle.offers.specs.Standing.{is_step, standing}

-- the seat of candidate i, from 0, on a list
abbrev pub seat_on : List Seat → ℕ → Seat
seat_on list i = get_or list i no_seat

module _ (r : Round) where
  -- document 01's "set of listed seats" at institute j: any set of offers to it, each with an entry of its candidate's row
  unfoldable pub OfRows : ℕ → OfferSet → Type 0
  OfRows j offers =
      (i : ℕ) (c : Category) → offers i c ≡ true →
      (i < candidate_count r) × (rank_in (row_at r i) (entry_of j c) < length (row_at r i))

  -- two sets have the same offers; "another set" is one of which this does not hold
  unfoldable pub Same : OfferSet → OfferSet → Type 0
  Same offers others = (i : ℕ) (c : Category) → i < candidate_count r → offers i c ≡ others i c

module _ (r : Round) (list : List Seat) where
  -- the seats that institute j gave, each as its holder's offer of the entry it stands for
  unfoldable pub seat_offers : ℕ → OfferSet
  seat_offers j i c =
      eqb (seat_on list i).institute (suc j)
      && (is_step r (seat_on list i) && same_category (category_at r j (seat_on list i).step) c)

  -- the step of candidate i's seat at institute j, 0 where the seat is not there
  unfoldable pub step_of : ℕ → ℕ → ℕ
  step_of j i = cond (eqb (seat_on list i).institute (suc j)) (seat_on list i).step 0

  -- the set and the institute's seats together
  abbrev pub together : ℕ → OfferSet → OfferSet
  together j offers i c = offers i c || seat_offers j i c

  -- document 01's "would choose": the offers taken, from the set and the institute's seats together, are just those of the set
  unfoldable pub WouldChoose : ℕ → OfferSet → Type 0
  WouldChoose j offers = Same r (taken_from r j (together j offers)) offers

  -- some offer of the set "ranks below" its candidate's seat: its entry stands later in the row than the seat's
  unfoldable pub SomeBelow : ℕ → OfferSet → Type 0
  SomeBelow j offers =
      (i : ℕ) × (c : Category) × (offers i c ≡ true) × (standing r i (seat_on list i) < rank_in (row_at r i) (entry_of j c))

-- document 01's stable
pub record Stable (r : Round) (list : List Seat) : Type 0 where
  -- every seat is one its holder listed
  pub listed : (i : ℕ) → i < candidate_count r → standing r i (seat_on list i) ≤ length (row_at r i)
  -- each institute, choosing from just the seats it gave, gives the same seats at the same steps
  pub kept : (j i : ℕ) → j < institute_count r → i < candidate_count r → step_for r j (seat_offers r list j) i ≡ step_of r list j i
  -- for every other set of listed seats at an institute: where the institute would choose it, it has an offer below its candidate's seat
  pub unblocked :
      (j : ℕ) (offers : OfferSet) → j < institute_count r → OfRows r j offers →
      (Same r offers (seat_offers r list j) → ⊥) →
      WouldChoose r list j offers → SomeBelow r list j offers
