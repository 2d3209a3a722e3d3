-- Reading records of one kind, one after the other: what holds after some of them.
use Prim.Native.Nat.{ℕ, suc, ◌+◌, ◌*◌, ◌-◌, ◌<◌, ◌≤◌}
use mathlib.Core.Path.{◌≡◌, refl, sym, ap, ◌∙◌}
use mathlib.Core.Bool.{Bool, true, false, cond, ◌&&◌}
use mathlib.Core.List.{List, ◌++◌}
use native.Mathlib.Omega.{arith}
use native.Mathlib.Nat.{add-suc, mul-le-mul}
use native.Mathlib.Numerals.{add-one}
use Rattle.std.specs.Prelude.{Result, Ok, Err}
use borrow.Author.Tests.{leb-true, eqb-true, ne_eqb, ltb-true, ltb-false}
use lib.Dec.{leb, eqb, ltb}
use lib.ListN.{length, get_or, set, take, replicate, length-set, length-append, get_or-append}
use lib.Seq.{get_or-set_same, get_or-set_other, get_or-take, length-take-le}
use Rattle.std.proofs.lemmas.List.{get_or-append_right}
use Rattle.questions.specs.declared.form.Form.{Form}
use Rattle.questions.specs.declared.form.Form.TheVariants.{Narrow, Wide}
use Rattle.questions.specs.Form.{entry_width}
use Rattle.questions.specs.Records.{Head, length_at, next_at, start_of}
use Rattle.questions.specs.Questions.{even, row_allowed, institute_allowed, length_allowed, first_no, questions_at}
use Rattle.questions.specs.Refusal.{Verdict, refused, verdict_from}
use Rattle.questions.specs.Read.{InRange}
use Rattle.reader.specs.declared.refusal.Refusal.{Refusal}
use Rattle.reader.specs.Parts.{onward, RecordRead, StartsTo, RunRead}
use Rattle.lists.proofs.Words.{below_suc, and_fst}
use Rattle.questions.proofs.Steps.{width_most}
use Rattle.questions.proofs.Answers as answers
use Rattle.reader.proofs.Found.{some_number, refused_found}

-- the verdict by what a record comes to: on the rest, or its refusal
pub judged : {number start end : ℕ} {r : Result ℕ Refusal} (rest : ℕ → Verdict) → RecordRead number start end r
    → onward r rest ≡ cond (eqb number 0) (rest end) (refused number start)
judged {r = Ok e} rest got = let p = got.found e refl in rw (p.0, p.1)
judged {number} {r = Err f} rest got =
    let p = got.refused_at f refl in
    rw (p.0, p.1, ne_eqb number 0 (λ z. some_number f.question (p.0 ∙ z)))

-- a lawful body has at most 1,024 bytes
body_most : (h : Head) → InRange h → (kind len : ℕ) → length_allowed h kind len ≡ true → len ≤ 1024
body_most h y kind len e = go (eqb kind 1) (eqb kind 2) (eqb kind 3) e
  where
    row : (form : Form) → 2 + 16 * entry_width form ≤ 50
    row Narrow = omega arith
    row Wide = omega arith

    go : (a b c : Bool)
        → cond a (eqb len 8) (cond b (institute_allowed h len) (cond c (row_allowed h.form len) (leb len (2 * h.candidates) && even len))) ≡ true
        → len ≤ 1024
    go true b c e = omega (arith, eqb-true len 8 e)
    go false true c e =
        let fits = answers.length_institute h len e in
        omega (arith, fits.by_width, mul-le-mul fits.most (width_most h y.types_most))
    go false false true e = omega (arith, (answers.length_candidate h len e).most, row h.form)
    go false false false e = omega (arith, leb-true len (2 * h.candidates) (and_fst (leb len (2 * h.candidates)) (even len) e), y.candidates_most)

module _ (file : List ℕ) (h : Head) (kind first count from : ℕ) where
  -- after i records, the next is due at a byte; the part of the table that they go to
  pub record Run (i here : ℕ) (part : List ℕ) : Type 0 where
    pub some : i ≤ count
    pub inside : here ≤ length file
    pub low : here ≤ 1028 * (1 + (first + i))
    pub sized : length part ≡ count
    pub rest : (kinds : List ℕ) → verdict_from file h (replicate (count - i) kind ++ kinds) here ≡ verdict_from file h (replicate count kind ++ kinds) from
    pub due : (a : ℕ) → from ≡ start_of file a → here ≡ start_of file (a + i)
    pub told : from ≡ start_of file (1 + first) → (k : ℕ) → k < i → get_or part k 0 ≡ start_of file (1 + first + k)

  module _ {i here : ℕ} {part : List ℕ} (run : Run i here part) where
    -- the whole table: before the part it is as it was
    pub run_done : (before behind : List ℕ) → count ≤ i → first + count ≤ 2512 → 2512 ≤ length before
        → RunRead file h kind first count from before (Ok here) (take first before ++ (part ++ behind))
    run_done before behind m few room =
        let none : count - i ≡ 0 = omega (arith, run.some) in
        let all : i ≡ count = omega (arith, run.some) in
        record {
          part = record {
            verdict_of_is = λ kinds. rw none at (run.rest kinds);
            inside = λ end e. let q : here ≡ end = cc in rw q at run.inside;
            ends = λ a end d e. let q : here ≡ end = cc in sym q ∙ (run.due a d ∙ ap (λ (n : ℕ). start_of file (a + n)) all);
          };
          low = λ end e. let q : here ≡ end = cc in omega (arith, run.low);
          told = λ end e d s. record {
            room = omega (arith, length-append (take first before) (part ++ behind), length-append part behind, kept, run.sized);
            starts_at = λ k l. go d s k l (ltb k first) refl;
          };
        }
      where
        kept : length (take first before) ≡ first
        kept = length-take-le first before (omega arith)

        go : from ≡ start_of file (1 + first) → StartsTo file first before → (k : ℕ) → k < first + count → (b : Bool) → ltb k first ≡ b
            → get_or (take first before ++ (part ++ behind)) k 0 ≡ start_of file (1 + k)
        go d s k l true e =
            let below : k < first = ltb-true k first e in
            get_or-append (take first before) (part ++ behind) 0 k (omega (arith, kept))
            ∙ get_or-take first before k 0 below
            ∙ s.starts_at k below
        go d s k l false e =
            let from_on : first ≤ k = ltb-false k first e in
            let there : 1 + first + (k - first) ≡ 1 + k = omega arith in
            get_or-append_right (take first before) (part ++ behind) first k 0 kept from_on
            ∙ get_or-append part behind 0 (k - first) (omega (arith, run.sized))
            ∙ run.told d (k - first) (omega (arith, run.some))
            ∙ ap (start_of file) there

    -- the next record
    module _ (l : i < count) {r : Result ℕ Refusal} (got : RecordRead (first_no (questions_at file h kind here)) here (next_at file here) r) where
      onward_from : (kinds : List ℕ) → onward r (verdict_from file h (replicate (count - suc i) kind ++ kinds)) ≡ verdict_from file h (replicate count kind ++ kinds) from
      unfolding verdict_from
      onward_from kinds =
          let e : count - i ≡ suc (count - suc i) = omega arith in
          judged (verdict_from file h (replicate (count - suc i) kind ++ kinds)) got
          ∙ (ap (λ (n : ℕ). verdict_from file h (replicate n kind ++ kinds) here) (sym e) ∙ run.rest kinds)

      pub run_refused : {f : Refusal} (before table : List ℕ) → r ≡ Err f → RunRead file h kind first count from before (Err f) table
      run_refused {f} before table e = record {
        part = record {
          verdict_of_is = λ kinds. ap (λ (p : Result ℕ Refusal). onward p (verdict_from file h (replicate (count - suc i) kind ++ kinds))) (sym e) ∙ onward_from kinds;
          inside = λ end d. refused_found (sym d);
          ends = λ a end q d. refused_found (sym d);
        };
        low = λ end d. refused_found (sym d);
        told = λ end d. refused_found (sym d);
      }

      next_told : from ≡ start_of file (1 + first) → (k : ℕ) → k < suc i → get_or (set part i here) k 0 ≡ start_of file (1 + first + k)
      next_told d =
          below_suc (λ k. get_or (set part i here) k 0 ≡ start_of file (1 + first + k)) i
          (λ k m. get_or-set_other part i k here 0 (λ (e : k ≡ i). absurd (omega arith)) ∙ run.told d k m)
          (get_or-set_same part i here 0 (omega (arith, run.sized)) ∙ run.due (1 + first) d)

      pub run_more : {end : ℕ} → r ≡ Ok end → InRange h → Run (i + 1) end (set part i here)
      unfolding start_of
      run_more {end} e y =
          let p = got.found end e in
          let lead = answers.lead_yes file h kind here p.0 in
          rw add-one (record {
            some = omega arith;
            inside = omega (arith, p.1, lead.body_there);
            low = omega (arith, p.1, run.low, body_most h y kind (length_at file here) lead.allowed);
            sized = length-set part i here ∙ run.sized;
            rest = λ kinds. ap (λ (p : Result ℕ Refusal). onward p (verdict_from file h (replicate (count - suc i) kind ++ kinds))) (sym e) ∙ onward_from kinds;
            due = λ a d. rw add-suc (p.1 ∙ ap (next_at file) (run.due a d));
            told = next_told;
          })
