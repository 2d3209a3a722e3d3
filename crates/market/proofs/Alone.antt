-- One at a time: in a reached state nobody holds anything but the entry tried last.
use mathlib.Core.Path.{◌≡◌, sym, ◌∙◌}
use mathlib.Core.Bool.{true}
use mathlib.Core.Logic.{◌≢◌}
use Prim.Native.Nat.{ℕ, suc, ◌<◌}
use native.Mathlib.Omega.{arith}
use Rattle.lists.proofs.Counting.{clash}
use Rattle.market.proofs.Laws.{Contracts, Market, kept}
use Rattle.market.proofs.Update.{split_at}
use Rattle.market.proofs.Rows.{Ranked, Rows, State, offers, offered, tried, offers_le, one_entry}
use Rattle.market.proofs.Reached.{Reached, start, step, turned_le, reached_fits}

module _ {n K : ℕ} {Ch : Contracts → Contracts} (M : Market n K Ch) {rows : Rows} where
  pub alone : {t : State} → Reached n Ch rows t → (i e : ℕ) → Ch (offers rows t) i e ≡ true → suc ((rows i).rank e) ≡ t i
  alone {t} (start z) i e q = absurd (omega (arith, z i, tried rows t i e (M.within (offers rows t) i e q)))
  alone (step {t = t} {u = u} k r l f h s) i e q =
      split_at (λ i. Ch (offers rows u) i e ≡ true → suc ((rows i).rank e) ≡ u i) k here (elsewhere (λ i. alone r i e)) i q
    where
      last : (i : ℕ) → Ch (offers rows u) i e ≡ true → (rows i).rank e < u i
      last i q = tried rows u i e (M.within (offers rows u) i e q)

      before : (i : ℕ) → Ch (offers rows u) i e ≡ true → (rows i).rank e < t i → Ch (offers rows t) i e ≡ true
      before i q o = kept M (offers rows t) (offers rows u) i e (offers_le rows t u (turned_le s)) (offered rows t i e o) q

      here : Ch (offers rows u) k e ≡ true → suc ((rows k).rank e) ≡ u k
      here q =
          let new : ¬ ((rows k).rank e < t k) = λ o. clash (before k q o) (f e) in
          omega (arith, last k q)

      elsewhere : ((i : ℕ) → Ch (offers rows t) i e ≡ true → suc ((rows i).rank e) ≡ t i)
          → (i : ℕ) → i ≢ k → Ch (offers rows u) i e ≡ true → suc ((rows i).rank e) ≡ u i
      elsewhere was i d q =
          let p : u i ≡ t i = s.elsewhere i d in
          was i (before i q (omega (arith, last i q))) ∙ sym p

  pub one_held : {t : State} → Reached n Ch rows t → (i : ℕ) → Ranked (rows i) → (a b : ℕ)
      → Ch (offers rows t) i a ≡ true → Ch (offers rows t) i b ≡ true → a ≡ b
  one_held {t} r i law a b p q =
      let x : suc ((rows i).rank a) ≡ t i = alone r i a p in
      let y : suc ((rows i).rank b) ≡ t i = alone r i b q in
      one_entry (rows i) law a b (omega (arith, reached_fits r i)) (omega arith)
