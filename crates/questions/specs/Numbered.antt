-- The questions that the code answers with, by number (document 01, "The questions, in order"; document 02, Points 5 to 7).
use Rattle.std.specs.Prelude.{ℕ, Result, Ok, Err}
use Rattle.questions.specs.declared.question.Question.{Question}
use Rattle.questions.specs.declared.question.Question.TheVariants.{Lead, Kind, Length, Body, Head, Positions, Reserved, Marks, Entries, SameEntries, Places, SamePlaces, End, Areas, List, Input, Categories, Receivers}

-- the number of a question
abbrev pub number_of : Question → ℕ
number_of Lead = 1
number_of Kind = 2
number_of Length = 3
number_of Body = 4
number_of Head = 5
number_of Positions = 6
number_of Reserved = 7
number_of Marks = 8
number_of Entries = 9
number_of SameEntries = 10
number_of Places = 11
number_of SamePlaces = 12
number_of End = 13
number_of Areas = 14
number_of List = 15
number_of Input = 16
number_of Categories = 17
number_of Receivers = 18

-- the number of the question that was answered no, 0 where each was answered yes
abbrev pub number_in : {A : Type 0} → Result A Question → ℕ
number_in (Ok what) = 0
number_in (Err question) = number_of question
