-- The accounts when the process has ended: each institute chooses once more, from its seats. By law its account is that of its choice from all offers
-- ever made to it.
use Rattle.std.specs.Prelude.{ℕ, suc, ◌<◌, ◌≡◌, ◌≢◌, List, length, get_or}
use Rattle.round.specs.Round.{Round}
use Rattle.choice.specs.declared.step.Numbers.{Numbers}
use Rattle.choice.specs.Noted.{noted_of}
use Rattle.offers.specs.Offers.{account_on, type_for}
use Rattle.offers.specs.Process.{candidate_count, made_to, tried}
use Rattle.sweeps.specs.Sweeps.{offer_to, offers_by, PutFor}

-- institute j has chosen from its seats: the types that it used are noted, and the numbers of its account
pub record AccountedAnew (r : Round) (j : ℕ) (holders wanted types₀ types : List ℕ) (noted : List Numbers) : Type 0 where
  pub typed : PutFor r j (offer_to (suc j) holders wanted) (type_for r j (offers_by (offer_to (suc j) holders wanted))) types₀ types
  pub numbers : noted ≡ noted_of (account_on r j (offers_by (offer_to (suc j) holders wanted)))

-- whoever is held by one of the first k institutes has the type that it uses when it chooses from all offers ever made to it, and nobody else
-- has one
pub record TypesNoted (r : Round) (k : ℕ) (holders types : List ℕ) : Type 0 where
  pub many : length types ≡ candidate_count r
  pub noted : (i j : ℕ) → i < candidate_count r → j < k → get_or holders i 0 ≡ suc j → get_or types i 0 ≡ type_for r j (made_to r (tried r) j) i
  pub others : (i : ℕ) → i < candidate_count r → ((j : ℕ) → j < k → get_or holders i 0 ≢ suc j) → get_or types i 0 ≡ 0
