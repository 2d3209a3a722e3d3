-- The call as C and Rust make it: the answer goes out as three numbers (document 01, "The questions, in order": "The answer is either ..").
use Rattle.std.specs.Prelude.{ℕ, ◌≡◌, List, [], ◌∷◌}
use Rattle.allotment.specs.declared.Answer.{Answer}
use Rattle.allotment.specs.declared.Answer.TheVariants.{Allotted, Refused}
use Rattle.allotment.specs.Promise.{Promise}

-- the three numbers of an answer: 0 and the offers, or 1, the number of the refusal and its byte
abbrev pub numbers_of : Answer → List ℕ
numbers_of (Allotted offers) = 0 ∷ offers ∷ 0 ∷ []
numbers_of (Refused number offset) = 1 ∷ number ∷ offset ∷ []

-- of a call: the numbers it leaves are those of an answer that keeps the whole promise
pub record Exported (file answer work result answerNow workNow : List ℕ) : Type 0 where
  pub told : Answer
  pub numbers : result ≡ numbers_of told
  pub promise : Promise file answer work told answerNow workNow
