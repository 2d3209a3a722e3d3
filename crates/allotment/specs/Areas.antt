-- The bytes of the answer area and its size (document 01, "Offers": "The answer area gets ..", and question 14; document 02,
-- Points 1, 3, 6 and 7).
use Rattle.std.specs.Prelude.{ℕ, suc, ◌+◌, ◌*◌, Bool, cond, List, ◌++◌, get_or}
use Rattle.lists.specs.Lists.{tabulate, joined}
use Rattle.round.specs.Round.{Round}
use Rattle.questions.specs.declared.form.Form.{Form}
use Rattle.questions.specs.declared.form.Form.TheVariants.{Narrow, Wide}
use Rattle.questions.specs.Form.{seat_width}
use Rattle.choice.specs.Account.{StepAccount, account_of, closing_place}
use Rattle.offers.specs.Areas.{word_bytes, seat_bytes}
use Rattle.offers.specs.Process.{Seat, no_seat, candidate_count, institute_count, seats, account_at_end, types_used}

-- the number of an institute's closing places, and their bytes: twelve where the institutes list their own steps, else six
unfoldable pub closing_count : Bool → ℕ
closing_count listed = cond listed 12 6

unfoldable pub closing_width : Bool → ℕ
closing_width listed = cond listed 24 12

-- the closing places of institute j at so many steps from the first: by the account of its choice from all offers ever made to it, when the
-- process has ended; 0 for a step that it has not
unfoldable pub places_to : ℕ → Round → ℕ → List ℕ
places_to count r j = let steps : List StepAccount = account_at_end r j in tabulate count (λ k. closing_place (account_of steps (suc k)))

-- its closing places
abbrev pub closing_places : Round → ℕ → List ℕ
closing_places r j = places_to (closing_count r.steps_listed) r j

-- their bytes
unfoldable pub closing_bytes : Round → ℕ → List ℕ
closing_bytes r j = let places : List ℕ = closing_places r j in joined (tabulate (closing_count r.steps_listed) (λ k. word_bytes (get_or places k 0)))

-- what the answer area gets: for each candidate the seat, in the form of the file, then for each institute its closing places, then for each
-- candidate the type used or 0
unfoldable pub answer_bytes : Form → Round → List ℕ
answer_bytes form r =
    let list : List Seat = seats r in
    joined (tabulate (candidate_count r) (λ i. seat_bytes form (get_or list i no_seat)))
    ++ joined (tabulate (institute_count r) (closing_bytes r))
    ++ types_used r

-- the bytes of the answer area that question 14 asks for, by the numbers of candidates and institutes and whether these list their own steps
abbrev pub size_for : Form → Bool → ℕ → ℕ → ℕ
size_for Narrow listed n m = 3 * n + closing_width listed * m
size_for Wide listed n m = 5 * n + closing_width listed * m

abbrev pub answer_size : Form → Round → ℕ
answer_size form r = size_for form r.steps_listed (candidate_count r) (institute_count r)

-- the type that stands for candidate i of n in an answer area with the closing places of m institutes
abbrev pub type_standing : Form → Bool → ℕ → ℕ → List ℕ → ℕ → ℕ
type_standing form listed n m area i = get_or area (seat_width form * n + closing_width listed * m + i) 0
