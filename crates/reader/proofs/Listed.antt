-- The steps of an institute's body under policy 0 or 1, written as a list: they are the steps of the body, and all_from question about the list is answered
-- yes where those about the body are.
use Prim.Native.Nat.{ℕ, zero, suc, ◌+◌, ◌*◌, ◌-◌, ◌/◌, ◌%◌, ◌<◌, ◌≤◌}
use mathlib.Core.Path.{◌≡◌, refl, sym, ap, ap₂, ◌∙◌}
use mathlib.Core.Bool.{true, false, cond, ◌&&◌, ◌||◌}
use mathlib.Core.Logic.{◌⊎◌, inl, inr, ⊎_elim}
use mathlib.Core.List.{List, [], ◌∷◌, ◌++◌, append_assoc}
use native.Mathlib.Omega.{arith}
use native.Mathlib.Nat.{add-zero, mul-le-mul_right, mul-div_cancel, mul-mod_left}
use borrow.Author.Tests.{leb-true, le-leb}
use lib.Dec.{leb, eqb}
use lib.ListN.{length, get_or, take, drop, replicate, length-append, length-take, length-drop, length-replicate, get_or-append}
use lib.Seq.{get_or-append-add, get_or-take, get_or-drop}
use Rattle.round.specs.Category.{category_of}
use Rattle.lists.specs.Lists.{tabulate, tabulate_from, joined, sum_of, all_of}
use Rattle.questions.specs.Records.{Head, own_steps}
use Rattle.lists.specs.Numbers.{word}
use Rattle.questions.specs.Steps.{step_lead, step_width, step_count, positions_in, reserved_in, step_code, receiver_in}
use Rattle.questions.specs.Questions.{asked, first_no, institute_allowed, list_questions, institute_questions}
use Rattle.lists.specs.Numbers.{within}
use Rattle.round.specs.Round.{StepRule}
use Rattle.questions.specs.Reading.{step_in, dereserved, steps_in}
use Rattle.reader.specs.Rewritten.{list_body}
use Rattle.lists.proofs.Words.{all_at, both_yes, from_same}
use Rattle.questions.proofs.Passed as passed
use Rattle.lists.proofs.Counting.{sum_of_ext, all_from}

-- the head with another policy
abbrev pub with_policy : ℕ → Head → Head
with_policy p h = record { form = h.form; candidates = h.candidates; institutes = h.institutes; types = h.types; policy = p }

-- what holds of the head with policy 0 and with policy 1
pub by_policy : (P : Head → Type 0) (h : Head) → P (with_policy 0 h) → P (with_policy 1 h) → h.policy ≤ 1 → P h
by_policy P h none one l = go h.policy l
  where
    go : (p : ℕ) → p ≤ 1 → P (with_policy p h)
    go zero l = none
    go (suc zero) l = one
    go (suc (suc p)) l = absurd (omega arith)

-- functions that agree below a number
pub tabulate_same : {A : Type 0} (n : ℕ) (f g : ℕ → A) → ((k : ℕ) → k < n → f k ≡ g k) → tabulate n f ≡ tabulate n g
tabulate_same n f g same = from_same 0 n f g (λ k l. same k (omega arith))

sum_none : (n : ℕ) (f : ℕ → ℕ) → ((k : ℕ) → f k ≡ 0) → sum_of n f ≡ 0
sum_none zero f none = refl
sum_none (suc n) f none = omega (arith, none n, sum_none n f none)

tabulate_none : (s n : ℕ) (f : ℕ → ℕ) → ((k : ℕ) → f k ≡ 0) → tabulate_from s n f ≡ replicate n 0
tabulate_none s zero f none = refl
tabulate_none s (suc n) f none = ap₂ ◌∷◌ (none s) (tabulate_none (suc s) n f none)

below_or_not : (k n : ℕ) → (k < n) ⊎ (n ≤ k)
below_or_not k zero = inr (omega arith)
below_or_not zero (suc n) = inl (omega arith)
below_or_not (suc k) (suc n) = ⊎_elim (λ (l : k < n). inl (omega arith)) (λ (l : n ≤ k). inr (omega arith)) (below_or_not k n)

-- lists of one length, one after the other, and bytes behind them
module _ (width : ℕ) (g : ℕ → List ℕ) where
  pieces_length : (s n : ℕ) → ((k : ℕ) → k < s + n → length (g k) ≡ width) → length (joined (tabulate_from s n g)) ≡ n * width
  pieces_length s zero same = omega arith
  pieces_length s (suc n) same =
      omega (arith, length-append (g s) (joined (tabulate_from (suc s) n g)), same s (omega arith), pieces_length (suc s) n (λ k l. same k (omega arith)))

  module _ (rest : List ℕ) where
    piece_at : (s n : ℕ) → ((k : ℕ) → k < s + n → length (g k) ≡ width)
        → (k x : ℕ) → k < n → x < width → get_or (joined (tabulate_from s n g) ++ rest) (k * width + x) 0 ≡ get_or (g (s + k)) x 0
    piece_at s zero same k x l m = absurd (omega arith)
    piece_at s (suc n) same zero x l m =
        let i : 0 * width + x ≡ x = omega arith in
        ap₂ (λ (file : List ℕ) (i : ℕ). get_or file i 0) (append_assoc (g s) (joined (tabulate_from (suc s) n g)) rest) i
        ∙ (get_or-append (g s) (joined (tabulate_from (suc s) n g) ++ rest) 0 x (omega (arith, same s (omega arith))) ∙ ap (λ (j : ℕ). get_or (g j) x 0) (sym (add-zero s)))
    piece_at s (suc n) same (suc k) x l m =
        let i : suc k * width + x ≡ length (g s) + (k * width + x) = omega (arith, same s (omega arith)) in
        let j : suc s + k ≡ s + suc k = omega arith in
        ap₂ (λ (file : List ℕ) (i : ℕ). get_or file i 0) (append_assoc (g s) (joined (tabulate_from (suc s) n g)) rest) i
        ∙ (get_or-append-add (g s) (joined (tabulate_from (suc s) n g) ++ rest) (k * width + x) 0
        ∙ (piece_at (suc s) n (λ k l. same k (omega arith)) k x (omega arith) m ∙ ap (λ (j : ℕ). get_or (g j) x 0) j))

    behind_pieces : (s n : ℕ) → ((k : ℕ) → k < s + n → length (g k) ≡ width)
        → (x : ℕ) → get_or (joined (tabulate_from s n g) ++ rest) (n * width + x) 0 ≡ get_or rest x 0
    behind_pieces s n same x = rw (← pieces_length s n same) (get_or-append-add (joined (tabulate_from s n g)) rest x 0)

-- the steps of codes 0 to 4, all_from led by its code and its receiver, and bytes behind them
abbrev pub piece_of : Head → List ℕ → ℕ → List ℕ
piece_of h body code = code ∷ receiver_in h body code ∷ take (step_width h) (drop (code * step_width h) body)

list_of : Head → List ℕ → List ℕ → List ℕ
list_of h body extra = joined (tabulate 5 (piece_of h body)) ++ extra

-- where no number stands behind them but 0
module _ (h : Head) (own : own_steps h ≡ false) (body extra : List ℕ) (long : length body ≡ 10 + 10 * h.types) (blank : (x : ℕ) → get_or extra x 0 ≡ 0) where
  abbrev piece : ℕ → List ℕ
  piece code = piece_of h body code

  abbrev list : List ℕ
  list = list_of h body extra

  abbrev h₂ : Head
  h₂ = with_policy 2 h

  lead : step_lead h ≡ 0
  lead = rw own

  width : step_width h ≡ 2 + 2 * h.types
  width = omega (arith, lead)

  piece_length : (k : ℕ) → k < 5 → length (piece k) ≡ step_width h₂
  piece_length k l =
      let few : k ≤ 4 = omega arith in
      omega (arith, width, mul-le-mul_right (step_width h) few, length-take (step_width h) (drop (k * step_width h) body), length-drop (k * step_width h) body)

  list_length : length list ≡ 5 * step_width h₂ + length extra
  unfolding list_of
  list_length =
      length-append (joined (tabulate 5 piece)) extra ∙ ap (λ (n : ℕ). n + length extra) (pieces_length (step_width h₂) piece 0 5 (λ k l. piece_length k (omega arith)))

  byte_of : (k x : ℕ) → k < 5 → x < step_width h₂ → get_or list (k * step_width h₂ + x) 0 ≡ get_or (piece k) x 0
  unfolding list_of
  byte_of k x l m =
      let e : 0 + k ≡ k = omega arith in
      piece_at (step_width h₂) piece extra 0 5 (λ k l. piece_length k (omega arith)) k x l m ∙ ap (λ (k : ℕ). get_or (piece k) x 0) e

  byte_none : (k x : ℕ) → 5 ≤ k → get_or list (k * step_width h₂ + x) 0 ≡ 0
  unfolding list_of
  byte_none k x l =
      let e : k ≡ 5 + (k - 5) = omega arith in
      let d : (5 + (k - 5)) * step_width h₂ + x ≡ 5 * step_width h₂ + ((k - 5) * step_width h₂ + x) = apart (k - 5) in
      ap (λ (k : ℕ). get_or list (k * step_width h₂ + x) 0) e
      ∙ (ap (λ (i : ℕ). get_or list i 0) d
      ∙ (behind_pieces (step_width h₂) piece extra 0 5 (λ k l. piece_length k (omega arith)) ((k - 5) * step_width h₂ + x) ∙ blank ((k - 5) * step_width h₂ + x)))
    where
      apart : (j : ℕ) → (5 + j) * step_width h₂ + x ≡ 5 * step_width h₂ + (j * step_width h₂ + x)
      apart j = omega arith

  word_of : (k y : ℕ) → k < 5 → suc y < step_width h → (i j : ℕ) → i ≡ k * step_width h₂ + suc (suc y) → j ≡ k * step_width h + y → word list i ≡ word body j
  word_of k y l m i j e d = ap₂ (λ (x y : ℕ). x + 256 * y) (one y i j (omega arith) e d) (one (suc y) (suc i) (suc j) m (omega arith) (omega arith))
    where
      one : (y i j : ℕ) → y < step_width h → i ≡ k * step_width h₂ + suc (suc y) → j ≡ k * step_width h + y → get_or list i 0 ≡ get_or body j 0
      one y i j m e d =
          ap (λ (i : ℕ). get_or list i 0) e
          ∙ (byte_of k (suc (suc y)) l (omega (arith, width))
          ∙ (get_or-take (step_width h) (drop (k * step_width h) body) y 0 m ∙ (get_or-drop (k * step_width h) body y 0 ∙ ap (λ (j : ℕ). get_or body j 0) (sym d))))

  word_none : (k x i : ℕ) → 5 ≤ k → i ≡ k * step_width h₂ + x → word list i ≡ 0
  word_none k x i l e =
      let next : suc i ≡ k * step_width h₂ + suc x = omega arith in
      ap₂ (λ (x y : ℕ). x + 256 * y) (ap (λ (i : ℕ). get_or list i 0) e ∙ byte_none k x l) (ap (λ (i : ℕ). get_or list i 0) next ∙ byte_none k (suc x) l)

  -- a step of the list is that of the body
  code_same : (k : ℕ) → k < 5 → step_code h₂ list k ≡ k
  code_same k l = ap (λ (i : ℕ). get_or list i 0) (sym (add-zero (k * step_width h₂))) ∙ byte_of k 0 l (omega arith)

  receiver_same : (k : ℕ) → k < 5 → receiver_in h₂ list k ≡ receiver_in h body k
  receiver_same k l =
      let e : suc (k * step_width h₂) ≡ k * step_width h₂ + 1 = omega arith in
      ap (λ (i : ℕ). get_or list i 0) e ∙ byte_of k 1 l (omega arith)

  positions_same : (k : ℕ) → k < 5 → positions_in h₂ list k ≡ positions_in h body k
  positions_same k l = word_of k 0 l (omega (arith, width)) (k * step_width h₂ + 2) (k * step_width h + step_lead h) (omega arith) (omega (arith, lead))

  reserved_same : (k t : ℕ) → k < 5 → t < h.types → reserved_in h₂ list k t ≡ reserved_in h body k t
  reserved_same k t l m =
      word_of k (2 * suc t) l (omega (arith, width)) (k * step_width h₂ + 2 + 2 * suc t) (k * step_width h + step_lead h + 2 * suc t) (omega arith) (omega (arith, lead))

  step_same : (k : ℕ) → k < 5 → step_in h₂ list k ≡ step_in h body k
  unfolding step_in
  step_same k l =
      let code : step_code h₂ list k ≡ step_code h body k = rw own (code_same k l) in
      let reserved : tabulate h.types (reserved_in h₂ list k) ≡ tabulate h.types (reserved_in h body k) =
      tabulate_same h.types (reserved_in h₂ list k) (reserved_in h body k) (λ t m. reserved_same k t l m) in
      λ i. record { category = category_of (code i); own = positions_same k l i; reserved = reserved i; receiver = receiver_same k l i }

  -- a step behind them has nothing but zeros
  code_none : (k : ℕ) → 5 ≤ k → step_code h₂ list k ≡ 0
  code_none k l = ap (λ (i : ℕ). get_or list i 0) (sym (add-zero (k * step_width h₂))) ∙ byte_none k 0 l

  receiver_none : (k : ℕ) → 5 ≤ k → receiver_in h₂ list k ≡ 0
  receiver_none k l =
      let e : suc (k * step_width h₂) ≡ k * step_width h₂ + 1 = omega arith in
      ap (λ (i : ℕ). get_or list i 0) e ∙ byte_none k 1 l

  positions_none : (k : ℕ) → 5 ≤ k → positions_in h₂ list k ≡ 0
  positions_none k l = word_none k 2 (k * step_width h₂ + 2) l refl

  reserved_none : (k t : ℕ) → 5 ≤ k → reserved_in h₂ list k t ≡ 0
  reserved_none k t l = word_none k (2 + 2 * suc t) (k * step_width h₂ + 2 + 2 * suc t) l (omega arith)

  step_none : (k : ℕ) → 5 ≤ k → step_in h₂ list k ≡ dereserved h.types
  unfolding step_in dereserved
  step_none k l =
      let reserved : tabulate h.types (reserved_in h₂ list k) ≡ replicate h.types 0 =
      tabulate_none 0 h.types (reserved_in h₂ list k) (λ t. reserved_none k t l) in
      λ i. record { category = category_of (code_none k l i); own = positions_none k l i; reserved = reserved i; receiver = receiver_none k l i }

  -- so many steps are in the list
  module _ (c : ℕ) (many : length list ≡ c * step_width h₂) where
    count : step_count h₂ list ≡ c
    count = ap (λ (n : ℕ). n / step_width h₂) many ∙ mul-div_cancel c (omega arith)

    allowed : 1 ≤ c → c ≤ 12 → institute_allowed h₂ (length list) ≡ true
    allowed l m =
        let whole : length list % step_width h₂ ≡ 0 = ap (λ (n : ℕ). n % step_width h₂) many ∙ mul-mod_left c (step_width h₂) in
        (λ i. within 1 12 (count i) && eqb (whole i) 0) ∙ both_yes (both_yes (le-leb 1 c l) (le-leb c 12 m)) refl

    -- where the questions about the body are answered yes, those about the list are
    module _ (all_yes : first_no (institute_questions h body) ≡ 0) where
      five : step_count h body ≡ 5
      five = rw own

      sixth : (leb (sum_of (step_count h body) (positions_in h body)) 1024 ≡ true)
          × (first_no (asked 7 (all_of (step_count h body) (λ k. leb (sum_of h.types (reserved_in h body k)) (positions_in h body k))) ∷ cond (own_steps h) (list_questions h body) []) ≡ 0)
      sixth = passed.yes 5 (leb (sum_of (step_count h body) (positions_in h body)) 1024) _ all_yes

      few : sum_of 5 (positions_in h body) ≤ 1024
      few = leb-true (sum_of 5 (positions_in h body)) 1024 (ap (λ (n : ℕ). leb (sum_of n (positions_in h body)) 1024) (sym five) ∙ sixth.0)

      fit : all_of 5 (λ k. leb (sum_of h.types (reserved_in h body k)) (positions_in h body k)) ≡ true
      fit =
          ap (λ (n : ℕ). all_of n (λ k. leb (sum_of h.types (reserved_in h body k)) (positions_in h body k))) (sym five)
          ∙ (passed.yes 6 (all_of (step_count h body) (λ k. leb (sum_of h.types (reserved_in h body k)) (positions_in h body k))) _ sixth.1).0

      fits : (k : ℕ) → leb (sum_of h.types (reserved_in h₂ list k)) (positions_in h₂ list k) ≡ true
      fits k = ⊎_elim shown none (below_or_not k 5)
        where
          shown : k < 5 → leb (sum_of h.types (reserved_in h₂ list k)) (positions_in h₂ list k) ≡ true
          shown l =
              ap₂ leb (sum_of_ext h.types (reserved_in h₂ list k) (reserved_in h body k) (λ t m. reserved_same k t l m)) (positions_same k l)
              ∙ all_at 5 (λ k. leb (sum_of h.types (reserved_in h body k)) (positions_in h body k)) fit k l

          none : 5 ≤ k → leb (sum_of h.types (reserved_in h₂ list k)) (positions_in h₂ list k) ≡ true
          none l = ap₂ leb (sum_none h.types (reserved_in h₂ list k) (λ t. reserved_none k t l)) (positions_none k l)

      coded : (k : ℕ) → leb (step_code h₂ list k) 4 ≡ true
      coded k = le-leb (step_code h₂ list k) 4 (⊎_elim (λ (l : k < 5). omega (arith, code_same k l)) (λ (l : 5 ≤ k). omega (arith, code_none k l)) (below_or_not k 5))

      -- the list has five steps or six, and all_from of the five hands its vacancies to nobody or to a later one
      module _ (some : (c ≡ 5) ⊎ (c ≡ 6)) (lawful : (k : ℕ) → k < 5 → eqb (receiver_in h body k) 0 || within (k + 2) c (receiver_in h body k) ≡ true) where
        handed : (k : ℕ) → eqb (receiver_in h₂ list k) 0 || within (k + 2) c (receiver_in h₂ list k) ≡ true
        handed k = ⊎_elim shown none (below_or_not k 5)
          where
            shown : k < 5 → eqb (receiver_in h₂ list k) 0 || within (k + 2) c (receiver_in h₂ list k) ≡ true
            shown l = ap (λ (r : ℕ). eqb r 0 || within (k + 2) c r) (receiver_same k l) ∙ lawful k l

            none : 5 ≤ k → eqb (receiver_in h₂ list k) 0 || within (k + 2) c (receiver_in h₂ list k) ≡ true
            none l = ap (λ (r : ℕ). eqb r 0 || within (k + 2) c r) (receiver_none k l)

        sums : sum_of c (positions_in h₂ list) ≤ 1024
        sums = ⊎_elim (λ (e : c ≡ 5). rw e (omega (arith, same, few))) (λ (e : c ≡ 6). rw e (omega (arith, same, few, positions_none 5 (omega arith)))) some
          where
            same : sum_of 5 (positions_in h₂ list) ≡ sum_of 5 (positions_in h body)
            same = sum_of_ext 5 (positions_in h₂ list) (positions_in h body) positions_same

        answered : first_no (institute_questions h₂ list) ≡ 0
        answered =
            let six : leb (sum_of c (positions_in h₂ list)) 1024 ≡ true = le-leb (sum_of c (positions_in h₂ list)) 1024 sums in
            let seven : all_of c (λ k. leb (sum_of h.types (reserved_in h₂ list k)) (positions_in h₂ list k)) ≡ true = all_from c _ (λ k l. fits k) in
            let seventeen : all_of c (λ k. leb (step_code h₂ list k) 4) ≡ true = all_from c _ (λ k l. coded k) in
            let eighteen : all_of c (λ k. eqb (receiver_in h₂ list k) 0 || within (k + 2) c (receiver_in h₂ list k)) ≡ true = all_from c _ (λ k l. handed k) in
            (λ i.
            first_no
            (asked 6 (leb (sum_of (count i) (positions_in h₂ list)) 1024)
            ∷ asked 7 (all_of (count i) (λ k. leb (sum_of h.types (reserved_in h₂ list k)) (positions_in h₂ list k)))
            ∷ asked 17 (all_of (count i) (λ k. leb (step_code h₂ list k) 4))
            ∷ asked 18 (all_of (count i) (λ k. eqb (receiver_in h₂ list k) 0 || within (k + 2) (count i) (receiver_in h₂ list k)))
            ∷ []))
            ∙ (λ i. first_no (asked 6 (six i) ∷ asked 7 (seven i) ∷ asked 17 (seventeen i) ∷ asked 18 (eighteen i) ∷ []))

-- what the steps of a body are as a list
pub record AsList (h : Head) (body : List ℕ) : Type 0 where
  pub allowed_list : institute_allowed (with_policy 2 h) (length (list_body h body)) ≡ true
  pub answered_list : first_no (institute_questions (with_policy 2 h) (list_body h body)) ≡ 0
  pub steps_list : steps_in (with_policy 2 h) (list_body h body) ≡ steps_in h body

zeros : (n x : ℕ) → get_or {A = ℕ} (replicate n 0) x 0 ≡ 0
zeros zero x = refl
zeros (suc n) zero = refl
zeros (suc n) (suc x) = zeros n x

module _ (h : Head) (body : List ℕ) (long : length body ≡ 10 + 10 * h.types) where
  -- under policy 0 the list has the five steps
  module _ (all_yes : first_no (institute_questions (with_policy 0 h) body) ≡ 0) where
    five_many : length (list_of (with_policy 0 h) body []) ≡ 5 * step_width (with_policy 2 h)
    five_many = list_length (with_policy 0 h) refl body [] long (λ x. refl) ∙ add-zero (5 * step_width (with_policy 2 h))

    five_listed : AsList (with_policy 0 h) body
    unfolding list_body list_of steps_in
    five_listed = record {
      allowed_list = allowed (with_policy 0 h) refl body [] long (λ x. refl) 5 five_many (omega arith) (omega arith);
      answered_list = answered (with_policy 0 h) refl body [] long (λ x. refl) 5 five_many all_yes (inl refl) (λ k l. refl);
      steps_list =
          ap (λ (n : ℕ). tabulate n (step_in (with_policy 2 h) (list_of (with_policy 0 h) body [])) ++ []) (count (with_policy 0 h) refl body [] long (λ x. refl) 5 five_many)
          ∙ ap (λ (l : List StepRule). l ++ []) (tabulate_same 5 _ _ (step_same (with_policy 0 h) refl body [] long (λ x. refl)));
    }

  -- under policy 1 the list has step 6 behind them
  module _ (all_yes : first_no (institute_questions (with_policy 1 h) body) ≡ 0) where
    abbrev sixth_step : List ℕ
    sixth_step = 0 ∷ 0 ∷ replicate (step_width (with_policy 1 h)) 0

    empty : (x : ℕ) → get_or sixth_step x 0 ≡ 0
    empty zero = refl
    empty (suc zero) = refl
    empty (suc (suc x)) = zeros (step_width (with_policy 1 h)) x

    six_many : length (list_of (with_policy 1 h) body sixth_step) ≡ 6 * step_width (with_policy 2 h)
    six_many = omega (arith, list_length (with_policy 1 h) refl body sixth_step long empty, length-replicate {A = ℕ} (step_width (with_policy 1 h)) 0)

    lawful : (k : ℕ) → k < 5 → eqb (receiver_in (with_policy 1 h) body k) 0 || within (k + 2) 6 (receiver_in (with_policy 1 h) body k) ≡ true
    lawful zero l = refl
    lawful (suc zero) l = refl
    lawful (suc (suc zero)) l = refl
    lawful (suc (suc (suc zero))) l = refl
    lawful (suc (suc (suc (suc zero)))) l = refl
    lawful (suc (suc (suc (suc (suc k))))) l = absurd (omega arith)

    six_listed : AsList (with_policy 1 h) body
    unfolding list_body list_of steps_in
    six_listed = record {
      allowed_list = allowed (with_policy 1 h) refl body sixth_step long empty 6 six_many (omega arith) (omega arith);
      answered_list = answered (with_policy 1 h) refl body sixth_step long empty 6 six_many all_yes (inr refl) lawful;
      steps_list =
          ap (λ (n : ℕ). tabulate n (step_in (with_policy 2 h) (list_of (with_policy 1 h) body sixth_step)) ++ []) (count (with_policy 1 h) refl body sixth_step long empty 6 six_many)
          ∙ ap₂ (λ (l : List StepRule) (x : StepRule). l ++ (x ∷ []))
          (tabulate_same 5 _ _ (step_same (with_policy 1 h) refl body sixth_step long empty)) (step_none (with_policy 1 h) refl body sixth_step long empty 5 (omega arith));
    }

-- the steps of a lawful body, written as a list
pub as_list : (h : Head) (body : List ℕ) → h.policy ≤ 1 → length body ≡ 10 + 10 * h.types → first_no (institute_questions h body) ≡ 0 → AsList h body
as_list h body l long =
    by_policy (λ h. length body ≡ 10 + 10 * h.types → first_no (institute_questions h body) ≡ 0 → AsList h body) h
    (λ long all_yes. five_listed h body long all_yes) (λ long all_yes. six_listed h body long all_yes) l long
