-- The review as C and Rust call it: what it says goes out as four numbers (document 02, Points 5 to 7).
use Rattle.std.specs.Prelude.{Result, Ok, Err, ℕ, ◌≡◌, List, [], ◌∷◌, take}
use Rattle.round.specs.Category.{code_of}
use Rattle.questions.specs.Records.{form_of}
use Rattle.questions.specs.Reading.{round_of}
use Rattle.allotment.specs.Outcome.{answer_after, Accepted}
use Rattle.review.specs.declared.Judgement.{Judgement}
use Rattle.review.specs.declared.Judgement.TheVariants.{Passes, WrongSeat, BetterEntry}
use Rattle.reader.specs.declared.refusal.Refusal.{Refusal}
use Rattle.questions.specs.Numbered.{number_of}
use Rattle.offers.specs.Listed.{list_size}
use Rattle.review.specs.Outcome.{Reviewed, Passing}
use Rattle.review.specs.Promise.{Promise}

-- the four numbers of what a review says: 0; 1, the number of the refusal and its byte; 2 and the candidate; 3, the candidate and the entry's
-- institute and code; the numbers that are left are 0
abbrev pub numbers_of : Result Judgement Refusal → List ℕ
numbers_of (Ok Passes) = 0 ∷ 0 ∷ 0 ∷ 0 ∷ []
numbers_of (Err f) = 1 ∷ number_of f.question ∷ f.offset ∷ 0 ∷ []
numbers_of (Ok (WrongSeat candidate)) = 2 ∷ candidate ∷ 0 ∷ 0 ∷ []
numbers_of (Ok (BetterEntry candidate entry)) = 3 ∷ candidate ∷ entry.institute ∷ code_of entry.category ∷ []

-- the list with which the answer area begins after an accepted allotment of the file, whatever areas that call was lent, passes unless the review is
-- refused
unfoldable pub UnitsListPasses : List ℕ → List ℕ → List ℕ → Type 0
UnitsListPasses file list work =
    (answer workThen : List ℕ) → Accepted file answer workThen →
    list ≡ take (list_size (form_of file) (round_of file)) (answer_after file answer workThen) →
    Reviewed file list work → Passing file list work

-- of a call: the numbers it leaves are those of a judgement that keeps the whole promise, and the unit's own list passes
pub record Exported (file list work result workNow : List ℕ) : Type 0 where
  pub told : Result Judgement Refusal
  pub numbers : result ≡ numbers_of told
  pub promise : Promise file list work told workNow
  pub units_list : UnitsListPasses file list work
