-- The first placing is the smallest of all placings that place all; and types at places that are the smallest of all for the same places are those
-- of the first placing.
use Prim.Native.Nat.{ℕ, zero, suc, ◌≤◌, ◌<◌}
use mathlib.Core.Path.{◌≡◌, refl, sym, ap, ◌∙◌}
use mathlib.Core.Bool.{Bool, true, false, cond, ◌&&◌}
use mathlib.Core.List.{List, [], ◌∷◌}
use native.Mathlib.Omega.{arith}
use lib.Dec.{eqb, ltb}
use lib.ListN.{length, get_or, get_or-eq_default}
use lib.Seq.{ext_get_or}
use borrow.Author.Tests.{eqb-true, eq-eqb, ltb-true, lt-ltb, ne_eqb}
use Rattle.lists.specs.Lists.{tabulate, count_of, first_of}
use Rattle.lists.proofs.Words.{and_fst, and_snd, length_tabulate, tabulate_at}
use Rattle.lists.specs.Numbers.{holds}
use Rattle.matching.specs.Use.{one_less, use_of, Placing, placed_in}
use Rattle.matching.specs.Use.{typed_at}
use Rattle.lists.specs.Gathers.{gathered}
use Rattle.matching.specs.FirstPlacing.{suits, first_placing, PlacesAll, NoLarger, Smallest, types_of}
use Rattle.matching.specs.FirstPlacing.{SameTyped}
use Rattle.lists.proofs.Counting.{test, less_or, and_true, clash, bit_true, bit_max, count_ext, count_le}
use Rattle.lists.proofs.Counts.{count_full}
use Rattle.lists.proofs.FirstNumber.{first_passes, first_least}
use Rattle.lists.proofs.Gathered.{number_below, place_numbered, gathered_length, gathered_at, gathered_count, gathered_numbers}
use Rattle.matching.proofs.Use.{placing_some, placing_rest_some, placed_in_cons, use_of_given, use_of_everyone}

-- a type that suits
record Suiting (reserved : List ℕ) (m : ℕ) (others : List ℕ) (t : ℕ) : Type 0 where
  held : holds m t ≡ true
  left : 0 < get_or reserved t 0
  rest : use_of (one_less reserved t) others ≡ length others

suiting : (reserved : List ℕ) (m : ℕ) (others : List ℕ) (t : ℕ) → suits reserved m others t ≡ true → Suiting reserved m others t
unfolding suits
suiting reserved m others t e =
    let both = and_fst (holds m t && ltb 0 (get_or reserved t 0)) _ e in
    record {
      held = and_fst (holds m t) _ both;
      left = ltb-true 0 (get_or reserved t 0) (and_snd (holds m t) _ both);
      rest = eqb-true _ _ (and_snd (holds m t && ltb 0 (get_or reserved t 0)) _ e);
    }

suited : (reserved : List ℕ) (m : ℕ) (others : List ℕ) (t : ℕ) → Suiting reserved m others t → suits reserved m others t ≡ true
unfolding suits
suited reserved m others t s = and_true _ _ (and_true _ _ s.held (lt-ltb 0 (get_or reserved t 0) s.left)) (eq-eqb _ _ s.rest)

-- the type that the first of the candidates gets
abbrev first_type : List ℕ → ℕ → List ℕ → ℕ
first_type reserved m others = first_of (length reserved) (suits reserved m others)

first_placing_cons : (reserved : List ℕ) (m : ℕ) (others : List ℕ)
    → first_placing reserved (m ∷ others) ≡ suc (first_type reserved m others) ∷ first_placing (one_less reserved (first_type reserved m others)) others
unfolding first_placing
first_placing_cons reserved m others = refl

first_placing_nil : (reserved : List ℕ) → first_placing reserved [] ≡ []
unfolding first_placing
first_placing_nil reserved = refl

pub first_placing_length : (reserved marks : List ℕ) → length (first_placing reserved marks) ≡ length marks
first_placing_length reserved [] = rw (first_placing_nil reserved)
first_placing_length reserved (m ∷ others) = rw (first_placing_cons reserved m others) (ap suc (first_placing_length (one_less reserved (first_type reserved m others)) others))

placed_in_most : (types : List ℕ) → placed_in types ≤ length types
placed_in_most [] = unfold placed_in in omega arith
placed_in_most (x ∷ types) = omega (arith, placed_in_cons x types, bit_max (ltb 0 x), placed_in_most types)

-- of a placing of all, the type of the first suits, and the others are placed with what is left
all_rest : (reserved : List ℕ) (m : ℕ) (others types : List ℕ) (t : ℕ) → PlacesAll reserved (m ∷ others) (suc t ∷ types)
    → (t < length reserved) × Suiting reserved m others t × PlacesAll (one_less reserved t) others types
all_rest reserved m others types t a =
    let (l, h, r, rest) = placing_rest_some reserved m others types t a.placing in
    let everyone : placed_in types ≡ length others = omega (arith, a.everyone, placed_in_cons (suc t) types, bit_true (ltb 0 (suc t)) (lt-ltb 0 (suc t) (omega arith))) in
    (l, record { held = h; left = r; rest = use_of_everyone (one_less reserved t) others types rest everyone }, record { placing = rest; everyone = everyone })

-- a placing of all leaves nobody out
all_some : (reserved : List ℕ) (m : ℕ) (others types : List ℕ) → PlacesAll reserved (m ∷ others) (0 ∷ types) → ⊥
all_some reserved m others types a = omega (arith, a.everyone, placed_in_cons 0 types, placed_in_most types, a.placing.each)

module _ (reserved : List ℕ) (m : ℕ) (others : List ℕ) (e : use_of reserved (m ∷ others) ≡ suc (length others)) where
  abbrev smallest_type : ℕ
  smallest_type = first_type reserved m others

  first_low : smallest_type < length reserved
  first_low =
      let (u, l, h, r, rest) = use_of_given reserved m others e in
      omega (arith, first_least (length reserved) (suits reserved m others) u (suited reserved m others u record { held = h; left = r; rest = rest }))

  first_suits : Suiting reserved m others smallest_type
  first_suits = suiting reserved m others smallest_type (first_passes (length reserved) (suits reserved m others) first_low)

  -- the first is given the smallest type, and the others the smallest with what is left
  first_then : Smallest (one_less reserved smallest_type) others (first_placing (one_less reserved smallest_type) others) → Smallest reserved (m ∷ others) (suc smallest_type ∷ first_placing (one_less reserved smallest_type) others)
  first_then s =
      let rest = first_placing (one_less reserved smallest_type) others in
      record {
        all = record {
          placing = placing_some reserved m others rest smallest_type first_low first_suits.held first_suits.left s.all.placing;
          everyone = omega (arith, s.all.everyone, placed_in_cons (suc smallest_type) rest, bit_true (ltb 0 (suc smallest_type)) (lt-ltb 0 (suc smallest_type) (omega arith)));
        };
        smallest = smallest;
      }
    where
      smallest : (types : List ℕ) → PlacesAll reserved (m ∷ others) types → NoLarger (suc smallest_type ∷ first_placing (one_less reserved smallest_type) others) types
      smallest [] a i same = absurd (omega (arith, a.placing.each))
      smallest (zero ∷ types) a i same = absurd (all_some reserved m others types a)
      smallest (suc u ∷ types) a zero same =
          omega (arith, first_least (length reserved) (suits reserved m others) u (suited reserved m others u (all_rest reserved m others types u a).1))
      smallest (suc u ∷ types) a (suc i) same =
          let equal : u ≡ smallest_type = omega (arith, same 0 (omega arith)) in
          s.smallest types (rw equal at (all_rest reserved m others types u a).2) i (λ k l. same (suc k) (omega arith))

-- where all can be placed, the first placing is the smallest placing of all
pub first_smallest : (reserved marks : List ℕ) → use_of reserved marks ≡ length marks → Smallest reserved marks (first_placing reserved marks)
first_smallest reserved [] e = rw (first_placing_nil reserved) record {
  all = record {
    placing = record { each = refl; held = λ i t l q. absurd (omega arith); within = λ t l. omega arith };
    everyone = unfold placed_in in refl;
  };
  smallest = λ types a i same. omega arith;
}
first_smallest reserved (m ∷ others) e =
    rw (first_placing_cons reserved m others)
    (first_then reserved m others e
    (first_smallest (one_less reserved (first_type reserved m others)) others (first_suits reserved m others e).rest))

-- there is one smallest placing
same_below : (P Q : List ℕ) → NoLarger P Q → NoLarger Q P → (n i : ℕ) → i < n → get_or P i 0 ≡ get_or Q i 0
same_below P Q p q zero i l = absurd (omega arith)
same_below P Q p q (suc n) i l =
    let before : (k : ℕ) → k < i → get_or P k 0 ≡ get_or Q k 0 = λ k b. same_below P Q p q n k (omega arith) in
    omega (arith, p i before, q i (λ k b. sym (before k b)))

pub smallest_one : (reserved marks P Q : List ℕ) → Smallest reserved marks P → Smallest reserved marks Q → P ≡ Q
smallest_one reserved marks P Q p q =
    ext_get_or 0 P Q (p.all.placing.each ∙ sym q.all.placing.each)
    (λ i l. same_below P Q (p.smallest Q q.all) (q.smallest P p.all) (suc i) i (omega arith))

-- a placing of all the gathered places of a set, back at the places
module _ (X : ℕ → Bool) (reserved marks : List ℕ) where
  abbrev n : ℕ
  n = length marks

  -- the marks of the set, in the order of the places
  abbrev listed : List ℕ
  listed = gathered X (length marks) (λ p. get_or marks p 0)

  -- the type at a place, by those of the list
  abbrev type_at : List ℕ → ℕ → ℕ
  type_at types p = cond (X p) (get_or types (count_of p X) 0) 0

  abbrev types_at : List ℕ → List ℕ
  types_at types = tabulate (length marks) (type_at types)

  -- a type of the set's places, at the places
  type_in_lem : (types : List ℕ) (p : ℕ) → p < n → X p ≡ true → get_or (types_at types) p 0 ≡ get_or types (count_of p X) 0
  type_in_lem types p l x = tabulate_at n (type_at types) 0 p l ∙ rw x

  type_out : (types : List ℕ) (p : ℕ) → X p ≡ false → get_or (types_at types) p 0 ≡ 0
  type_out types p x =
      less_or p n
      (λ l. tabulate_at n (type_at types) 0 p l ∙ rw x)
      (λ l. get_or-eq_default (types_at types) 0 (omega (arith, length_tabulate 0 n (type_at types))))

  -- types at the places, gathered
  places_all : (types : List ℕ) → Placing reserved marks types → ((p : ℕ) → p < n → X p ≡ ltb 0 (get_or types p 0))
      → PlacesAll reserved listed (gathered X n (λ p. get_or types p 0))
  places_all types h typed = record {
    placing = record {
      each = gathered_length X _ n ∙ sym (gathered_length X _ n);
      held = λ i t l e. held i t e (place_numbered X n i (omega (arith, gathered_length X (λ p. get_or marks p 0) n)));
      within = λ t l.
          omega (
            arith,
            rw h.each at (h.within t l),
            gathered_count X (λ p. get_or types p 0) (λ x. eqb x (suc t)) n,
            count_le n (λ p. X p && eqb (get_or types p 0) (suc t)) (λ p. eqb (get_or types p 0) (suc t)) (λ p b e. and_snd (X p) _ e),
          );
    };
    everyone = unfold placed_in in gathered_count X (λ p. get_or types p 0) (ltb 0) n ∙ count_ext n _ X (λ p l. rw (sym (typed p l)) (twice (X p))) ∙ sym (gathered_length X _ n);
  }
    where
      twice : (b : Bool) → b && b ≡ b
      twice true = refl
      twice false = refl

      held : (i t : ℕ) → get_or (gathered X n (λ p. get_or types p 0)) i 0 ≡ suc t → (p : ℕ) × (p < n) × (X p ≡ true) × (count_of p X ≡ i)
          → (t < length reserved) × (holds (get_or listed i 0) t ≡ true)
      held i t e s =
          let (p, l, x, is) = s in
          let type : get_or types p 0 ≡ suc t = sym (gathered_at X (λ p. get_or types p 0) n p l x) ∙ ap (λ k. get_or (gathered X n (λ p. get_or types p 0)) k 0) is ∙ e in
          let mark : get_or listed i 0 ≡ get_or marks p 0 = ap (λ k. get_or listed k 0) (sym is) ∙ gathered_at X (λ p. get_or marks p 0) n p l x in
          rw mark (h.held p t l type)

  -- a placing of all of the list gives each a type
  all_typed : (types : List ℕ) → PlacesAll reserved listed types → (i : ℕ) → i < length types → 0 < get_or types i 0
  unfolding placed_in
  all_typed types a i l = ltb-true 0 _ (count_full (length types) (λ i. ltb 0 (get_or types i 0)) (a.everyone ∙ sym a.placing.each) i l)

  -- types of the list, at the places
  module _ (types : List ℕ) (a : PlacesAll reserved listed types) where
    many : length types ≡ count_of n X
    many = a.placing.each ∙ gathered_length X (λ p. get_or marks p 0) n

    at_typed : (p : ℕ) → p < n → X p ≡ ltb 0 (get_or (types_at types) p 0)
    at_typed p l =
        test (X p)
        (λ x. rw (type_in_lem types p l x) (x ∙ sym (lt-ltb 0 _ (all_typed types a (count_of p X) (omega (arith, many, number_below X p n l x))))))
        (λ x. rw (type_out types p x) x)

    at_placing : Placing reserved marks (types_at types)
    at_placing = record {
      each = length_tabulate 0 n (type_at types);
      held = held;
      within = λ t l. omega (arith, a.placing.within t l, as_many t);
    }
      where
        held : (p t : ℕ) → p < length marks → get_or (types_at types) p 0 ≡ suc t → (t < length reserved) × (holds (get_or marks p 0) t ≡ true)
        held p t l e =
            test (X p)
            (λ x.
            rw (← gathered_at X (λ p. get_or marks p 0) n p l x)
            (a.placing.held (count_of p X) t (omega (arith, gathered_length X (λ p. get_or marks p 0) n, number_below X p n l x)) (sym (type_in_lem types p l x) ∙ e)))
            (λ x. absurd (omega (arith, type_out types p x)))

        as_many : (t : ℕ) → count_of (length (types_at types)) (λ p. eqb (get_or (types_at types) p 0) (suc t)) ≡ count_of (length types) (λ i. eqb (get_or types i 0) (suc t))
        as_many t =
            rw (length_tabulate 0 n (type_at types))
            (count_ext n _ _ at
            ∙ sym (gathered_count X (λ p. get_or types (count_of p X) 0) (λ x. eqb x (suc t)) n)
            ∙ rw (gathered_numbers X n types many))
          where
            at : (p : ℕ) → p < n → eqb (get_or (types_at types) p 0) (suc t) ≡ (X p && eqb (get_or types (count_of p X) 0) (suc t))
            at p l =
                test (X p)
                (λ x. rw (type_in_lem types p l x, x))
                (λ x. rw (type_out types p x, x) (ne_eqb 0 (suc t) (λ z. omega arith)))

-- types at places that are the smallest for the same places, gathered
module _ (X : ℕ → Bool) (reserved marks types : List ℕ) (h : Placing reserved marks types) (typed : (p : ℕ) → X p ≡ ltb 0 (get_or types p 0))
    (least : (others : List ℕ) → Placing reserved marks others → ((p : ℕ) → X p ≡ ltb 0 (get_or others p 0)) → NoLarger types others) where
  abbrev taken : List ℕ
  taken = gathered X (length marks) (λ p. get_or types p 0)

  smallest_gathered : Smallest reserved (listed X reserved marks) taken
  smallest_gathered = record { all = places_all X reserved marks types h (λ p l. typed p); smallest = smallest }
    where
      smallest : (others : List ℕ) → PlacesAll reserved (listed X reserved marks) others → NoLarger taken others
      smallest others a i same =
          less_or i (count_of (length marks) X)
          (λ l. at (place_numbered X (length marks) i l))
          (λ l. omega (arith, get_or-eq_default taken 0 {n = i} (omega (arith, gathered_length X (λ p. get_or types p 0) (length marks)))))
        where
          n : ℕ
          n = length marks

          there : List ℕ
          there = types_at X reserved marks others

          there_typed : (p : ℕ) → X p ≡ ltb 0 (get_or there p 0)
          there_typed p =
              less_or p n (at_typed X reserved marks others a p)
              (λ l.
              let none : get_or types p 0 ≡ 0 = get_or-eq_default types 0 (omega (arith, h.each)) in
              let out : get_or there p 0 ≡ 0 = get_or-eq_default there 0 (omega (arith, length_tabulate 0 n (type_at X reserved marks others))) in
              typed p ∙ rw (none, out))

          before : (p : ℕ) → p < n → X p ≡ true → count_of p X ≡ i → (q : ℕ) → q < p → get_or types q 0 ≡ get_or there q 0
          before p l x is q b =
              test (X q)
              (λ y.
              let less : count_of q X < i = omega (arith, number_below X q p b y) in
              sym (gathered_at X (λ p. get_or types p 0) n q (omega arith) y) ∙ same (count_of q X) less ∙ sym (type_in_lem X reserved marks others q (omega arith) y))
              (λ y. omega (arith, type_out X reserved marks others q y, none q y))
            where
              none : (q : ℕ) → X q ≡ false → get_or types q 0 ≡ 0
              none q y = less_or 0 (get_or types q 0) (λ some. clash (lt-ltb 0 _ some) (sym (typed q) ∙ y)) (λ most. omega arith)

          at : (p : ℕ) × (p < n) × (X p ≡ true) × (count_of p X ≡ i) → get_or taken i 0 ≤ get_or others i 0
          at s =
              let (p, l, x, is) = s in
              let mine : get_or taken i 0 ≡ get_or types p 0 = ap (λ k. get_or taken k 0) (sym is) ∙ gathered_at X (λ p. get_or types p 0) n p l x in
              let theirs : get_or there p 0 ≡ get_or others i 0 = type_in_lem X reserved marks others p l x ∙ ap (λ k. get_or others k 0) is in
              omega (arith, mine, theirs, least there (at_placing X reserved marks others a) there_typed p (before p l x is))

  -- they are those of the first placing
  first_gathered : taken ≡ first_placing reserved (listed X reserved marks)
  first_gathered =
      smallest_one reserved (listed X reserved marks) taken _ smallest_gathered
      (first_smallest reserved (listed X reserved marks)
      (use_of_everyone reserved (listed X reserved marks) taken smallest_gathered.all.placing smallest_gathered.all.everyone))

  first_types : types ≡ types_of reserved marks X
  unfolding types_of
  first_types =
      ext_get_or 0 _ _ (h.each ∙ sym (length_tabulate 0 (length marks) _))
      (λ p b.
      let l : p < length marks = omega (arith, h.each) in
      at p l ∙ rw (← first_gathered) (sym (tabulate_at (length marks) (λ p. cond (X p) (get_or taken (count_of p X) 0) 0) 0 p l)))
    where
      at : (p : ℕ) → p < length marks → get_or types p 0 ≡ cond (X p) (get_or taken (count_of p X) 0) 0
      at p l =
          test (X p)
          (λ x. rw x (sym (gathered_at X (λ p. get_or types p 0) (length marks) p l x)))
          (λ x. rw x (less_or 0 (get_or types p 0) (λ some. clash (lt-ltb 0 _ some) (sym (typed p) ∙ x)) (λ most. omega arith)))

-- a placing of the same places that is the smallest of them all
pub record SmallestAt (reserved marks before after : List ℕ) : Type 0 where
  pub placing : Placing reserved marks after
  pub same : SameTyped after before
  pub smallest : (others : List ℕ) → Placing reserved marks others → SameTyped others before → NoLarger after others

-- it has the types of the first placing
pub types_first : (reserved marks before after : List ℕ) → SmallestAt reserved marks before after → after ≡ types_of reserved marks (typed_at before)
types_first reserved marks before after s =
    first_types (typed_at before) reserved marks after s.placing (λ p. sym (s.same p)) (λ others h t. s.smallest others h (λ p. sym (t p)))
