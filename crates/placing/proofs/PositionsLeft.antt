-- The value that goes along for each type is its positions less those placed there: at the start, and whenever somebody leaves a type or
-- comes to one.
use Prim.Native.Nat.{ℕ, zero, suc, ◌+◌, ◌-◌, ◌^◌, ◌≤◌, ◌<◌}
use mathlib.Core.Path.{◌≡◌, refl, sym, ap, subst, ◌∙◌}
use mathlib.Core.List.{List}
use mathlib.Core.Logic.{◌≢◌}
use native.Mathlib.Omega.{arith}
use native.Mathlib.Numerals.{add-one}
use lib.Dec.{eqb}
use lib.ListN.{length, get_or, set, take, replicate, length-set}
use lib.Seq.{get_or-set_same, get_or-set_other, get_or-take, set-set}
use borrow.Author.Tests.{ne_eqb}
use Rattle.lists.specs.Lists.{bit, count_of}
use Rattle.matching.specs.Use.{one_less, Placing}
use Rattle.placing.specs.Left.{at_type, Left, OneTaken, given_back, Vacating}
use Rattle.placing.specs.Search.{Ends}
use Rattle.lists.proofs.Counting.{same_or, bit_same, bit_other}
use Rattle.matching.proofs.Use.{one_less_length, one_less_same, one_less_other}
use Rattle.lists.proofs.Tabulate.{get_or_zeros}
use Rattle.lists.proofs.Counts.{count_one, count_rest}

-- one place gets another type, or none
pub at_set : (placed : List ℕ) (c x t : ℕ) → c < length placed
    → at_type (set placed c x) t + bit (eqb (get_or placed c 0) (suc t)) ≡ at_type placed t + bit (eqb x (suc t))
at_set placed c x t inside =
    rw (length-set placed c x)
    (subst (λ (y : ℕ). count_of (length placed) (λ p. eqb (get_or (set placed c x) p 0) (suc t)) + bit (eqb (get_or placed c 0) (suc t)) ≡ at_type placed t + bit (eqb y (suc t)))
    (get_or-set_same placed c x 0 inside)
    (count_one (length placed) c (λ p. eqb (get_or (set placed c x) p 0) (suc t)) (λ p. eqb (get_or placed p 0) (suc t)) inside
    (λ p other. ap (λ (y : ℕ). eqb y (suc t)) (get_or-set_other placed c p x 0 other))))

-- a position of type t is taken
pub taken_from_lem : (left back : List ℕ) (t : ℕ) → left ≡ back → set left t (get_or left t 0 - 1) ≡ one_less back t
taken_from_lem left back t e = unfold one_less in rw e refl

-- who has left comes to type t
pub come_to : (now placed : List ℕ) (c t : ℕ) → now ≡ set placed c 0 → set now c (t + 1) ≡ set placed c (suc t)
come_to now placed c t e = rw (e, add-one) (set-set placed c 0 (suc t))

-- a type has a position left just where fewer are placed there than it has positions
pub some_left : {reserved left placed : List ℕ} → Left reserved left placed → (t : ℕ) → t < length reserved
    → 0 < get_or left t 0 → at_type placed t < get_or reserved t 0
some_left l t b some = omega (arith, l.value t b)

pub left_some : {reserved left placed : List ℕ} → Left reserved left placed → (t : ℕ) → t < length reserved
    → at_type placed t < get_or reserved t 0 → 0 < get_or left t 0
left_some l t b room = omega (arith, l.value t b)

-- one more is placed, and moves end at one type: one position of it is taken
pub one_taken : {reserved left left' before after : List ℕ} (c : ℕ) → Left reserved left before → Left reserved left' after
    → Ends reserved before after (get_or before c 0) → get_or before c 0 ≡ 0 → OneTaken reserved left left'
one_taken {before = before} c l l' e none = record {
  type = e.last;
  below = e.below;
  taken = λ t b. omega (arith, l.value t b, l'.value t b, e.counts t, bit_other (get_or before c 0) (suc t) (λ s. omega arith));
}

-- nobody is placed
pub nobody_placed : (reserved left placed : List ℕ) (n : ℕ) → length reserved ≤ length left → take (length reserved) left ≡ reserved → placed ≡ replicate n 0
    → Left reserved left placed
nobody_placed reserved left placed n each whole none = record {
  each = each;
  value = λ t l.
      omega (
        arith,
        sym (get_or-take (length reserved) left t 0 l) ∙ ap (λ (x : List ℕ). get_or x t 0) whole,
        count_rest 0 (length placed) (λ p. eqb (get_or placed p 0) (suc t)) (λ p b. ne_eqb (get_or placed p 0) (suc t) (λ e. omega (arith, get_or_zeros n p, ap (λ (x : List ℕ). get_or x p 0) none))),
      );
}

module _ {reserved left marks placed : List ℕ} (k : Placing reserved marks placed) (l : Left reserved left placed) where
  -- who is at c can leave
  pub vacating : (c : ℕ) → c < length marks → ((t : ℕ) → get_or reserved t 0 < 2 ^ 64) → Vacating left placed c
  vacating c inside fits = record {
    within = rw k.each inside;
    counted = λ t e. (omega (arith, below t e, l.each), omega (arith, l.value t (below t e), someone t e, fits t));
  }
    where
      below : (t : ℕ) → get_or placed c 0 ≡ suc t → t < length reserved
      below t e = (k.held c t inside e).0

      someone : (t : ℕ) → get_or placed c 0 ≡ suc t → 0 < at_type placed t
      someone t e = omega (arith, at_set placed c 0 t (rw k.each inside), bit_same _ _ e, bit_other 0 (suc t) (λ z. omega arith))

  -- who is at c leaves
  pub vacated : (c : ℕ) → c < length marks → Left reserved (given_back left (get_or placed c 0)) (set placed c 0)
  vacated c inside = go (get_or placed c 0) refl
    where
      there : c < length placed
      there = rw k.each inside

      -- the types of which the count does not change
      as_before : (x t : ℕ) → get_or placed c 0 ≡ x → x ≢ suc t → at_type (set placed c 0) t ≡ at_type placed t
      as_before x t e other = omega (arith, at_set placed c 0 t there, bit_other _ (suc t) (λ z. other (sym e ∙ z)), bit_other 0 (suc t) (λ z. omega arith))

      go : (x : ℕ) → get_or placed c 0 ≡ x → Left reserved (given_back left x) (set placed c 0)
      go zero e = record { each = l.each; value = λ t b. omega (arith, l.value t b, as_before 0 t e (λ z. omega arith)) }
      go (suc s) e =
          let below = (k.held c s inside e).0 in
          record {
            each = rw (length-set left s (get_or left s 0 + 1)) l.each;
            value = λ t b.
                same_or t s
                (λ same.
                rw same
                (omega (
                  arith,
                  get_or-set_same left s (get_or left s 0 + 1) 0 (omega (arith, l.each)),
                  l.value s below,
                  at_set placed c 0 s there,
                  bit_same _ _ e,
                  bit_other 0 (suc s) (λ z. omega arith),
                )))
                (λ other.
                omega
                (arith, get_or-set_other left s t (get_or left s 0 + 1) 0 other, l.value t b, as_before (suc s) t e (λ z. other (omega arith))));
          }

  -- who is at c moves to type t
  pub moved_to : (c t : ℕ) → c < length marks → t < length reserved → at_type placed t < get_or reserved t 0
      → Left reserved (one_less (given_back left (get_or placed c 0)) t) (set placed c (suc t))
  moved_to c t inside below room = rw (← set-set placed c 0 (suc t)) record {
    each = rw (one_less_length back t) gone.each;
    value = λ u b.
        same_or u t
        (λ same. rw same (omega (arith, one_less_same back t (omega (arith, gone.each)), gone.value t below, comes t, fewer, bit_same (suc t) (suc t) refl)))
        (λ other. omega (arith, one_less_other back t u other, gone.value u b, comes u, bit_other (suc t) (suc u) (λ z. other (omega arith))));
  }
    where
      back : List ℕ
      back = given_back left (get_or placed c 0)

      gone : Left reserved back (set placed c 0)
      gone = vacated c inside

      there : c < length placed
      there = rw k.each inside

      fewer : at_type (set placed c 0) t ≤ at_type placed t
      fewer = omega (arith, at_set placed c 0 t there, bit_other 0 (suc t) (λ z. omega arith))

      comes : (u : ℕ) → at_type (set (set placed c 0) c (suc t)) u ≡ at_type (set placed c 0) u + bit (eqb (suc t) (suc u))
      comes u =
          omega (
            arith,
            at_set (set placed c 0) c (suc t) u (rw (length-set placed c 0) there),
            bit_other (get_or (set placed c 0) c 0) (suc u) (λ z. omega (arith, get_or-set_same placed c 0 0 there)),
          )
