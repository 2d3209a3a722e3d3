-- The starred rounds of document 01, "Worked rounds", with the closing places and types of document 02, Points 1 and 3, file A in the wide form of its
-- Point 6 and, in both forms, with the step list of its Point 7, and two rounds with more than one placing: one table of file bytes, what a call on them
-- gives and what is printed, and one theorem, computed on the definitions from the bytes to the answer, both areas and the text.
use Prim.Native.Nat.{ℕ}
use Prim.Native.String.{String}
use mathlib.Core.Path.{◌≡◌, refl}
use mathlib.Core.List.{List, [], ◌∷◌, ◌++◌, map}
use lib.ListN.{length, drop, replicate}
use Rattle.questions.specs.Records.{start_of, form_of}
use Rattle.questions.specs.Questions.{questions_at}
use Rattle.questions.specs.Refusal.{verdict, verdict_from}
use Rattle.questions.specs.Reading.{step_in, dereserved, steps_in, entry_in, row_in, candidate_in, institute_from, round_of}
use Rattle.lists.specs.Lists.{greatest_of, joined}
use Rattle.lists.specs.Numbers.{holds}
use Rattle.matching.specs.Use.{one_less, use_of}
use Rattle.lists.specs.Gathers.{gathered}
use Rattle.matching.specs.FirstPlacing.{suits, first_placing, types_of}
use Rattle.matching.specs.ForUse.{raises, taken_before, taken_for_use}
use Rattle.choice.specs.Step.{remaining, taken_by_merit, taken}
use Rattle.choice.specs.Choice.{considers, positions_at, taken_at, vacant_at, advance, advance_all, nothing_done, choose}
use Rattle.choice.specs.Account.{account_at, account_from, account, closing_place}
use Rattle.offers.specs.Rows.{rank_in}
use Rattle.offers.specs.Offers.{place_on, steps_on, account_on}
use Rattle.offers.specs.Process.{made_to, chosen, seat_by, seats_after, may_offer, turn, turns, tried, offers_made, seats, account_at_end, type_by, types_used}
use Rattle.offers.specs.Areas.{word_bytes}
use Rattle.allotment.specs.Areas.{closing_count, closing_width, places_to, closing_bytes, answer_bytes}
use Rattle.reader.specs.Calls.{Outcome, said, refused}
use Rattle.allotment.specs.Outcome.{outcome, answer_after, work_after}
use Rattle.text.specs.Ascii.{ascii}
use Rattle.text.specs.Decimal.{decimal_by}
use Rattle.page.specs.Page.{places_line, page, printed_for, printed}

abbrev pub Bytes : Type 0
Bytes = List ℕ

-- the head of file A: 3 candidates, 1 institute, 1 type, policy 1
abbrev head_of_a : Bytes
head_of_a = 0x08 ∷ 0x00 ∷ 0x01 ∷ 0x00 ∷ 0x03 ∷ 0x00 ∷ 0x01 ∷ 0x00 ∷ 0x01 ∷ 0x00 ∷ 0x01 ∷ 0x00 ∷ []

-- the same under policy 0
abbrev under_policy0 : Bytes
under_policy0 = 0x08 ∷ 0x00 ∷ 0x01 ∷ 0x00 ∷ 0x03 ∷ 0x00 ∷ 0x01 ∷ 0x00 ∷ 0x01 ∷ 0x00 ∷ 0x00 ∷ 0x00 ∷ []

-- its institute: one open position, reserved for type 1, and one OBC position
abbrev institute_of_a : Bytes
institute_of_a = 0x14 ∷ 0x00 ∷ 0x02 ∷ 0x00 ∷ 0x01 ∷ 0x00 ∷ 0x01 ∷ 0x00 ∷ 0x00 ∷ 0x00 ∷ 0x00 ∷ 0x00 ∷ 0x00 ∷ 0x00 ∷ 0x00 ∷ 0x00 ∷ 0x01 ∷ 0x00 ∷ 0x00 ∷ 0x00 ∷ 0x00 ∷ 0x00 ∷ 0x00 ∷ 0x00 ∷ []

-- the same with two of the one open position reserved
abbrev reserved_two : Bytes
reserved_two = 0x14 ∷ 0x00 ∷ 0x02 ∷ 0x00 ∷ 0x01 ∷ 0x00 ∷ 0x02 ∷ 0x00 ∷ 0x00 ∷ 0x00 ∷ 0x00 ∷ 0x00 ∷ 0x00 ∷ 0x00 ∷ 0x00 ∷ 0x00 ∷ 0x01 ∷ 0x00 ∷ 0x00 ∷ 0x00 ∷ 0x00 ∷ 0x00 ∷ 0x00 ∷ 0x00 ∷ []

-- general, no mark, listing open
abbrev general_open : Bytes
general_open = 0x04 ∷ 0x00 ∷ 0x03 ∷ 0x00 ∷ 0x00 ∷ 0x00 ∷ 0x01 ∷ 0x00 ∷ []

-- general, no mark, listing OBC
abbrev general_obc : Bytes
general_obc = 0x04 ∷ 0x00 ∷ 0x03 ∷ 0x00 ∷ 0x00 ∷ 0x00 ∷ 0x01 ∷ 0x03 ∷ []

-- OBC, no mark, listing open and OBC
abbrev obc_both : Bytes
obc_both = 0x06 ∷ 0x00 ∷ 0x03 ∷ 0x00 ∷ 0x03 ∷ 0x00 ∷ 0x01 ∷ 0x00 ∷ 0x01 ∷ 0x03 ∷ []

-- OBC, no mark, listing only open
abbrev obc_open : Bytes
obc_open = 0x04 ∷ 0x00 ∷ 0x03 ∷ 0x00 ∷ 0x03 ∷ 0x00 ∷ 0x01 ∷ 0x00 ∷ []

-- general, type 1, listing open
abbrev marked_open : Bytes
marked_open = 0x04 ∷ 0x00 ∷ 0x03 ∷ 0x00 ∷ 0x00 ∷ 0x01 ∷ 0x01 ∷ 0x00 ∷ []

-- file A in the wide form: its head, and its candidates with entries of three bytes
abbrev wide_head_of_a : Bytes
wide_head_of_a = 0x08 ∷ 0x00 ∷ 0x05 ∷ 0x00 ∷ 0x03 ∷ 0x00 ∷ 0x01 ∷ 0x00 ∷ 0x01 ∷ 0x00 ∷ 0x01 ∷ 0x00 ∷ []

abbrev wide_general_open : Bytes
wide_general_open = 0x05 ∷ 0x00 ∷ 0x06 ∷ 0x00 ∷ 0x00 ∷ 0x00 ∷ 0x01 ∷ 0x00 ∷ 0x00 ∷ []

abbrev wide_obc_both : Bytes
wide_obc_both = 0x08 ∷ 0x00 ∷ 0x06 ∷ 0x00 ∷ 0x03 ∷ 0x00 ∷ 0x01 ∷ 0x00 ∷ 0x00 ∷ 0x01 ∷ 0x00 ∷ 0x03 ∷ []

abbrev wide_marked_open : Bytes
wide_marked_open = 0x05 ∷ 0x00 ∷ 0x06 ∷ 0x00 ∷ 0x00 ∷ 0x01 ∷ 0x01 ∷ 0x00 ∷ 0x00 ∷ []

-- file A with its steps written as a list: its heads under policy 2 in both forms, and its institute with a list of six steps, OBC handing to the sixth
abbrev list_head_of_a : Bytes
list_head_of_a = 0x08 ∷ 0x00 ∷ 0x01 ∷ 0x00 ∷ 0x03 ∷ 0x00 ∷ 0x01 ∷ 0x00 ∷ 0x01 ∷ 0x00 ∷ 0x02 ∷ 0x00 ∷ []

abbrev wide_list_head_of_a : Bytes
wide_list_head_of_a = 0x08 ∷ 0x00 ∷ 0x05 ∷ 0x00 ∷ 0x03 ∷ 0x00 ∷ 0x01 ∷ 0x00 ∷ 0x01 ∷ 0x00 ∷ 0x02 ∷ 0x00 ∷ []

abbrev list_of_a : Bytes
list_of_a = 0x24 ∷ 0x00 ∷ 0x07 ∷ 0x00 ∷ 0x00 ∷ 0x00 ∷ 0x01 ∷ 0x00 ∷ 0x01 ∷ 0x00 ∷ 0x01 ∷ 0x00 ∷ 0x00 ∷ 0x00 ∷ 0x00 ∷ 0x00 ∷ 0x02 ∷ 0x00 ∷ 0x00 ∷ 0x00 ∷ 0x00 ∷ 0x00 ∷ 0x03 ∷ 0x06 ∷ 0x01 ∷ 0x00 ∷ 0x00 ∷ 0x00 ∷ 0x04 ∷ 0x00 ∷ 0x00 ∷ 0x00 ∷ 0x00 ∷ 0x00 ∷ 0x00 ∷ 0x00 ∷ 0x00 ∷ 0x00 ∷ 0x00 ∷ 0x00 ∷ []

-- the merit list 1, 2, 3
abbrev merit_of_a : Bytes
merit_of_a = 0x06 ∷ 0x00 ∷ 0x04 ∷ 0x00 ∷ 0x01 ∷ 0x00 ∷ 0x02 ∷ 0x00 ∷ 0x03 ∷ 0x00 ∷ []

-- the merit list 1, 2, 2
abbrev merit_twice : Bytes
merit_twice = 0x06 ∷ 0x00 ∷ 0x04 ∷ 0x00 ∷ 0x01 ∷ 0x00 ∷ 0x02 ∷ 0x00 ∷ 0x02 ∷ 0x00 ∷ []

-- the merit list 1, 2, 3 without its last byte
abbrev merit_cut : Bytes
merit_cut = 0x06 ∷ 0x00 ∷ 0x04 ∷ 0x00 ∷ 0x01 ∷ 0x00 ∷ 0x02 ∷ 0x00 ∷ 0x03 ∷ []

-- 3 candidates, 1 institute, 2 types, policy 0
abbrev head_of_types : Bytes
head_of_types = 0x08 ∷ 0x00 ∷ 0x01 ∷ 0x00 ∷ 0x03 ∷ 0x00 ∷ 0x01 ∷ 0x00 ∷ 0x02 ∷ 0x00 ∷ 0x00 ∷ 0x00 ∷ []

-- two open positions, one for type 1 and one for type 2
abbrev institute_of_types : Bytes
institute_of_types = 0x1e ∷ 0x00 ∷ 0x02 ∷ 0x00 ∷ 0x02 ∷ 0x00 ∷ 0x01 ∷ 0x00 ∷ 0x01 ∷ 0x00 ∷ 0x00 ∷ 0x00 ∷ 0x00 ∷ 0x00 ∷ 0x00 ∷ 0x00 ∷ 0x00 ∷ 0x00 ∷ 0x00 ∷ 0x00 ∷ 0x00 ∷ 0x00 ∷ 0x00 ∷ 0x00 ∷ 0x00 ∷ 0x00 ∷ 0x00 ∷ 0x00 ∷ 0x00 ∷ 0x00 ∷ 0x00 ∷ 0x00 ∷ 0x00 ∷ 0x00 ∷ []

-- general, types 1 and 2, listing open
abbrev both_types : Bytes
both_types = 0x04 ∷ 0x00 ∷ 0x03 ∷ 0x00 ∷ 0x00 ∷ 0x03 ∷ 0x01 ∷ 0x00 ∷ []

-- general, type 2, listing open
abbrev second_type : Bytes
second_type = 0x04 ∷ 0x00 ∷ 0x03 ∷ 0x00 ∷ 0x00 ∷ 0x02 ∷ 0x01 ∷ 0x00 ∷ []

-- 2 candidates, 1 institute, 2 types, policy 0
abbrev head_of_two : Bytes
head_of_two = 0x08 ∷ 0x00 ∷ 0x01 ∷ 0x00 ∷ 0x02 ∷ 0x00 ∷ 0x01 ∷ 0x00 ∷ 0x02 ∷ 0x00 ∷ 0x00 ∷ 0x00 ∷ []

-- the merit lists 1, 2 and 2, 1
abbrev merit_of_two : Bytes
merit_of_two = 0x04 ∷ 0x00 ∷ 0x04 ∷ 0x00 ∷ 0x01 ∷ 0x00 ∷ 0x02 ∷ 0x00 ∷ []

abbrev merit_turned : Bytes
merit_turned = 0x04 ∷ 0x00 ∷ 0x04 ∷ 0x00 ∷ 0x02 ∷ 0x00 ∷ 0x01 ∷ 0x00 ∷ []

-- 1 candidate, 1 institute, no type, policy 0
abbrev head_of_one : Bytes
head_of_one = 0x08 ∷ 0x00 ∷ 0x01 ∷ 0x00 ∷ 0x01 ∷ 0x00 ∷ 0x01 ∷ 0x00 ∷ 0x00 ∷ 0x00 ∷ 0x00 ∷ 0x00 ∷ []

-- one open position
abbrev one_open : Bytes
one_open = 0x0a ∷ 0x00 ∷ 0x02 ∷ 0x00 ∷ 0x01 ∷ 0x00 ∷ 0x00 ∷ 0x00 ∷ 0x00 ∷ 0x00 ∷ 0x00 ∷ 0x00 ∷ 0x00 ∷ 0x00 ∷ []

-- no positions
abbrev no_positions : Bytes
no_positions = 0x0a ∷ 0x00 ∷ 0x02 ∷ 0x00 ∷ 0x00 ∷ 0x00 ∷ 0x00 ∷ 0x00 ∷ 0x00 ∷ 0x00 ∷ 0x00 ∷ 0x00 ∷ 0x00 ∷ 0x00 ∷ []

-- general, no mark, listing nothing
abbrev empty_row : Bytes
empty_row = 0x02 ∷ 0x00 ∷ 0x03 ∷ 0x00 ∷ 0x00 ∷ 0x00 ∷ []

-- the merit list 1
abbrev merit_of_one : Bytes
merit_of_one = 0x02 ∷ 0x00 ∷ 0x04 ∷ 0x00 ∷ 0x01 ∷ 0x00 ∷ []

-- the empty merit list
abbrev merit_of_none : Bytes
merit_of_none = 0x00 ∷ 0x00 ∷ 0x04 ∷ 0x00 ∷ []

-- a call on a file, or what the document says of one: the answer, both areas afterwards, and what the program prints for the file
pub record Call : Type 0 where
  pub answer : Outcome ℕ
  pub answer_area : Bytes
  pub work_area : Bytes
  pub text : Bytes

-- both areas are lent full of this byte, with room to spare
abbrev pub lent : ℕ → Bytes
lent size = replicate size 0xff

unfoldable pub called : Bytes → Call
called file = record {
  answer = outcome file 40 32;
  answer_area = answer_after file (lent 40) (lent 32);
  work_area = work_after file (lent 40) (lent 32);
  text = printed file;
}

abbrev seat : ℕ → ℕ → Bytes
seat institute step = institute ∷ step ∷ []

-- where the file is wide, a two-byte institute, the step and a zero byte
abbrev wide_seat : ℕ → ℕ → Bytes
wide_seat institute step = institute ∷ 0 ∷ step ∷ 0 ∷ []

abbrev overwritten : Bytes → ℕ → Bytes
overwritten bytes size = bytes ++ drop (length bytes) (lent size)

-- allotted: so many offers, each candidate's seat, the one institute's closing places, each candidate's type; 8 work bytes a candidate are 0
abbrev allots : ℕ → List Bytes → List ℕ → List ℕ → String → Call
allots offers list closing types text = record {
  answer = said offers;
  answer_area = overwritten (joined list ++ joined (map word_bytes closing) ++ types) 40;
  work_area = overwritten (joined (map (λ s. replicate 8 0) list)) 32;
  text = ascii text;
}

-- refused: the number and the byte; both areas stay; the line printed
abbrev refuses : ℕ → ℕ → String → Call
refuses number offset text = record { answer = refused number offset; answer_area = lent 40; work_area = lent 32; text = ascii text }

pub record Case : Type 0 where
  pub file : Bytes
  pub expected : Call

abbrev shows : List Bytes → Call → Case
shows records expected = record { file = joined records; expected = expected }

abbrev table : List Case
table =
    -- A
    shows (head_of_a ∷ institute_of_a ∷ general_open ∷ obc_both ∷ marked_open ∷ merit_of_a ∷ []) (allots 4 (seat 0 0 ∷ seat 1 4 ∷ seat 1 1 ∷ []) (0 ∷ 0 ∷ 0 ∷ 2 ∷ 0 ∷ 0 ∷ []) (0 ∷ 0 ∷ 1 ∷ []) "offers 4\n1 0 0 0\n2 1 4 0\n3 1 1 1\nclosing 1 0 0 0 2 0 0\n")
    ∷
    -- A in the wide form
    shows (wide_head_of_a ∷ institute_of_a ∷ wide_general_open ∷ wide_obc_both ∷ wide_marked_open ∷ merit_of_a ∷ []) (allots 4 (wide_seat 0 0 ∷ wide_seat 1 4 ∷ wide_seat 1 1 ∷ []) (0 ∷ 0 ∷ 0 ∷ 2 ∷ 0 ∷ 0 ∷ []) (0 ∷ 0 ∷ 1 ∷ []) "offers 4\n1 0 0 0\n2 1 4 0\n3 1 1 1\nclosing 1 0 0 0 2 0 0\n")
    ∷
    -- A with a list of its steps
    shows (list_head_of_a ∷ list_of_a ∷ general_open ∷ obc_both ∷ marked_open ∷ merit_of_a ∷ []) (allots 4 (seat 0 0 ∷ seat 1 4 ∷ seat 1 1 ∷ []) (0 ∷ 0 ∷ 0 ∷ 2 ∷ 0 ∷ 0 ∷ 0 ∷ 0 ∷ 0 ∷ 0 ∷ 0 ∷ 0 ∷ []) (0 ∷ 0 ∷ 1 ∷ []) "offers 4\n1 0 0 0\n2 1 4 0\n3 1 1 1\nclosing 1 0 0 0 2 0 0 0 0 0 0 0 0\n")
    ∷
    -- the same in the wide form
    shows (wide_list_head_of_a ∷ list_of_a ∷ wide_general_open ∷ wide_obc_both ∷ wide_marked_open ∷ merit_of_a ∷ []) (allots 4 (wide_seat 0 0 ∷ wide_seat 1 4 ∷ wide_seat 1 1 ∷ []) (0 ∷ 0 ∷ 0 ∷ 2 ∷ 0 ∷ 0 ∷ 0 ∷ 0 ∷ 0 ∷ 0 ∷ 0 ∷ 0 ∷ []) (0 ∷ 0 ∷ 1 ∷ []) "offers 4\n1 0 0 0\n2 1 4 0\n3 1 1 1\nclosing 1 0 0 0 2 0 0 0 0 0 0 0 0\n")
    ∷
    -- A with candidate 2 listing only open
    shows (head_of_a ∷ institute_of_a ∷ general_open ∷ obc_open ∷ marked_open ∷ merit_of_a ∷ []) (allots 3 (seat 1 6 ∷ seat 0 0 ∷ seat 1 1 ∷ []) (0 ∷ 0 ∷ 0 ∷ 0 ∷ 0 ∷ 1 ∷ []) (0 ∷ 0 ∷ 1 ∷ []) "offers 3\n1 1 6 0\n2 0 0 0\n3 1 1 1\nclosing 1 0 0 0 0 0 1\n")
    ∷
    -- the same under policy 0
    shows (under_policy0 ∷ institute_of_a ∷ general_open ∷ obc_open ∷ marked_open ∷ merit_of_a ∷ []) (allots 3 (seat 0 0 ∷ seat 0 0 ∷ seat 1 1 ∷ []) (0 ∷ 0 ∷ 0 ∷ 0 ∷ 0 ∷ 0 ∷ []) (0 ∷ 0 ∷ 1 ∷ []) "offers 3\n1 0 0 0\n2 0 0 0\n3 1 1 1\nclosing 1 0 0 0 0 0 0\n")
    ∷
    -- open 2, one position each for types 1 and 2; merit 1, 2, 3 with types {1,2}, {1}, {2}
    shows (head_of_types ∷ institute_of_types ∷ both_types ∷ marked_open ∷ second_type ∷ merit_of_a ∷ []) (allots 3 (seat 1 1 ∷ seat 1 1 ∷ seat 0 0 ∷ []) (0 ∷ 0 ∷ 0 ∷ 0 ∷ 0 ∷ 0 ∷ []) (2 ∷ 1 ∷ 0 ∷ []) "offers 3\n1 1 1 2\n2 1 1 1\n3 0 0 0\nclosing 1 0 0 0 0 0 0\n")
    ∷
    -- the same positions; merit 1, 2, both with types {1,2}
    shows (head_of_two ∷ institute_of_types ∷ both_types ∷ both_types ∷ merit_of_two ∷ []) (allots 2 (seat 1 1 ∷ seat 1 1 ∷ []) (0 ∷ 0 ∷ 0 ∷ 0 ∷ 0 ∷ 0 ∷ []) (1 ∷ 2 ∷ []) "offers 2\n1 1 1 1\n2 1 1 2\nclosing 1 0 0 0 0 0 0\n")
    ∷
    -- the same with merit 2, 1
    shows (head_of_two ∷ institute_of_types ∷ both_types ∷ both_types ∷ merit_turned ∷ []) (allots 2 (seat 1 1 ∷ seat 1 1 ∷ []) (0 ∷ 0 ∷ 0 ∷ 0 ∷ 0 ∷ 0 ∷ []) (2 ∷ 1 ∷ []) "offers 2\n1 1 1 2\n2 1 1 1\nclosing 1 0 0 0 0 0 0\n")
    ∷
    -- one candidate with an empty row
    shows (head_of_one ∷ one_open ∷ empty_row ∷ merit_of_one ∷ []) (allots 0 (seat 0 0 ∷ []) (0 ∷ 0 ∷ 0 ∷ 0 ∷ 0 ∷ 0 ∷ []) (0 ∷ []) "offers 0\n1 0 0 0\nclosing 1 0 0 0 0 0 0\n")
    ∷
    -- one candidate listing open, no positions
    shows (head_of_one ∷ no_positions ∷ general_open ∷ merit_of_one ∷ []) (allots 1 (seat 0 0 ∷ []) (0 ∷ 0 ∷ 0 ∷ 0 ∷ 0 ∷ 0 ∷ []) (0 ∷ []) "offers 1\n1 0 0 0\nclosing 1 0 0 0 0 0 0\n")
    ∷
    -- one candidate listing open, absent from the merit list, one open position
    shows (head_of_one ∷ one_open ∷ general_open ∷ merit_of_none ∷ []) (allots 1 (seat 0 0 ∷ []) (0 ∷ 0 ∷ 0 ∷ 0 ∷ 0 ∷ 0 ∷ []) (0 ∷ []) "offers 1\n1 0 0 0\nclosing 1 0 0 0 0 0 0\n")
    ∷
    -- the empty file
    shows ([]) (refuses 1 0 "refused 1 at 0\n")
    ∷
    -- A cut to 71 bytes
    shows (head_of_a ∷ institute_of_a ∷ general_open ∷ obc_both ∷ marked_open ∷ merit_cut ∷ []) (refuses 4 62 "refused 4 at 62\n")
    ∷
    -- A with one byte more
    shows (head_of_a ∷ institute_of_a ∷ general_open ∷ obc_both ∷ marked_open ∷ merit_of_a ∷ (0 ∷ []) ∷ []) (refuses 13 72 "refused 13 at 72\n")
    ∷
    -- A, open reserved 2 of 1
    shows (head_of_a ∷ reserved_two ∷ general_open ∷ obc_both ∷ marked_open ∷ merit_of_a ∷ []) (refuses 7 12 "refused 7 at 12\n")
    ∷
    -- A, candidate 1 listing 1 3
    shows (head_of_a ∷ institute_of_a ∷ general_obc ∷ obc_both ∷ marked_open ∷ merit_of_a ∷ []) (refuses 9 36 "refused 9 at 36\n")
    ∷
    -- A, last merit number 2
    shows (head_of_a ∷ institute_of_a ∷ general_open ∷ obc_both ∷ marked_open ∷ merit_twice ∷ []) (refuses 12 62 "refused 12 at 62\n")
    ∷
    -- both
    shows (head_of_a ∷ institute_of_a ∷ general_obc ∷ obc_both ∷ marked_open ∷ merit_twice ∷ []) (refuses 9 36 "refused 9 at 36\n")
    ∷
    []

pub starred : map (λ c. called c.file) table ≡ map (λ c. c.expected) table
unfolding called start_of form_of questions_at verdict verdict_from step_in dereserved steps_in entry_in row_in candidate_in institute_from round_of holds one_less greatest_of use_of raises taken_before taken_for_use remaining taken_by_merit taken gathered suits first_placing types_of considers positions_at taken_at vacant_at advance advance_all nothing_done choose account_at account_from account closing_place rank_in place_on steps_on account_on made_to chosen seat_by seats_after may_offer turn turns tried offers_made seats account_at_end type_by types_used closing_count closing_width places_to closing_bytes answer_bytes outcome answer_after work_after decimal_by places_line page printed_for printed
starred = refl
