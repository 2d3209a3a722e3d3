-- The offers that the tables have are the listed seats that are in their rows.
use Prim.Native.Nat.{ℕ, suc, ◌-◌, ◌<◌}
use mathlib.Core.Path.{◌≡◌, fun_ext}
use mathlib.Core.Bool.{true, false}
use mathlib.Core.List.{List}
use native.Mathlib.Omega.{arith}
use lib.ListN.{get_or}
use borrow.Author.Tests.{eq-eqb, ne_eqb}
use Rattle.round.specs.declared.entry.Category.{Category}
use Rattle.round.specs.Round.{Round}
use Rattle.lists.proofs.Counting.{test, less_or, same_or, clash}
use Rattle.offers.specs.Rows.{category_at}
use Rattle.offers.specs.Process.{Seat, candidate_count}
use Rattle.offers.specs.Stable.{seat_on, seat_offers}
use Rattle.sweeps.specs.Sweeps.{offer_to, offers_by}
use Rattle.sweeps.proofs.Lasts.{holds_only, holds_none}
use Rattle.offers.specs.Listed.{in_row, listed_at}
use Rattle.offers.specs.Listed.{SeatsRead}
use Rattle.offers.proofs.InRow.{in_row_lem, row_beyond}

-- the tables have every listed seat that is in its row
module _ {r : Round} {seats : List Seat} {asked wanted : List ℕ} (read : SeatsRead r seats (candidate_count r) asked wanted) where
  -- who has no seat in the row has no offer
  pub no_offer : (i : ℕ) → in_row r seats i ≡ false → get_or asked i 0 ≡ 0
  no_offer i f = less_or i (candidate_count r) (λ l. read.nobody i l f) (λ l. read.later i l)

  pub row_inside : (i : ℕ) → in_row r seats i ≡ true → i < candidate_count r
  row_inside i t = less_or i (candidate_count r) (λ l. l) (λ l. clash t (row_beyond r seats i l))

  offer_listed : (j i : ℕ) (c : Category) → offers_by (offer_to (suc j) asked wanted) i c ≡ listed_at r seats j i c
  unfolding offers_by offer_to listed_at seat_offers
  offer_listed j i c = test (in_row r seats i) there absent
    where
      there : in_row r seats i ≡ true → offers_by (offer_to (suc j) asked wanted) i c ≡ listed_at r seats j i c
      there t =
          rw (read.asked_at i (row_inside i t) t, read.wanted_at i (row_inside i t) t, t, (in_row_lem r seats i t).step)
          (same_or (seat_on seats i).institute (suc j)
          (λ e.
          let here : (seat_on seats i).institute - 1 ≡ j = omega (arith, e) in
          rw (eq-eqb _ _ e, here) (holds_only (category_at r j (seat_on seats i).step) c))
          (λ d. rw (ne_eqb _ _ d) (holds_none c)))

      absent : in_row r seats i ≡ false → offers_by (offer_to (suc j) asked wanted) i c ≡ listed_at r seats j i c
      absent f = rw (ne_eqb (get_or asked i 0) (suc j) (λ z. omega (arith, no_offer i f)), f) (holds_none c)

  pub offers_listed : (j : ℕ) → offers_by (offer_to (suc j) asked wanted) ≡ listed_at r seats j
  offers_listed j = fun_ext (λ i. fun_ext (λ c. offer_listed j i c))
