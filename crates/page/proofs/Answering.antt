-- The page of an accepted file: its head is there, the page fits, and what is read off its answer area is the page of its round.
use Prim.Native.Nat.{ℕ, ◌+◌, ◌<◌, ◌≤◌}
use mathlib.Core.Path.{◌≡◌, sym, ap, ap₂, ◌∙◌}
use mathlib.Core.List.{List}
use native.Mathlib.Omega.{arith}
use lib.ListN.{length, get_or, take, drop, length-append}
use mir.Syntax.{w8, w64}
use mir.Val as val
use Rattle.questions.specs.declared.head.Head.{Head as CodeHead}
use Rattle.questions.specs.declared.form.Form.{Form}
use Rattle.questions.specs.Records.{Head, head_in, head_of, own_steps, form_of, length_at}
use Rattle.questions.specs.Reading.{round_of}
use Rattle.questions.specs.Read.{as_head, InRange}
use Rattle.questions.proofs.Answers as answers
use Rattle.questions.proofs.Forms.{institutes_few}
use Rattle.questions.proofs.Passed.{passed}
use Rattle.reader.proofs.Sound.{head_fits, sound, listed_round, length_candidates, length_institutes}
use Rattle.offers.specs.Process.{candidate_count, institute_count}
use Rattle.allotment.specs.Areas.{size_for, answer_bytes}
use Rattle.offers.specs.Areas.{seat_in}
use Rattle.allotment.proofs.Files.AreaSeats.{length_answer}
use Rattle.text.specs.declared.Text.{Text}
use Rattle.text.specs.Put.{Fits, Put}
use Rattle.page.specs.Page.{page}
use Rattle.page.specs.Reads.{page_in, Answered}
use Rattle.page.proofs.Stands.{digits_few, page_stands}
use Rattle.page.proofs.Short.{page_short}

module _ {file : List ℕ} {offers : ℕ} {answer : List ℕ} (known : Answered file offers answer) where
  lead : answers.LeadYes file (head_of file) 1 0
  lead = answers.lead_yes file (head_of file) 1 0 (passed file known.accepted).head_yes

  head_length : length_at file 0 ≡ 8
  head_length = answers.length_head (head_of file) (length_at file 0) lead.allowed

  pub head_there : 12 ≤ length file
  head_there = omega (arith, lead.body_there, head_length)

  -- the numbers that stand in the head
  module _ {form : Form} {h : CodeHead} (formed : form ≡ form_of file) (read : as_head h ≡ head_in form (take 8 (drop 4 file))) where
    same_head : as_head h ≡ head_of file
    same_head = read ∙ ap₂ (λ (f : Form) (n : ℕ). head_in f (take n (drop 4 file))) formed (sym head_length)

    range : InRange (as_head h)
    range = rw same_head (head_fits file (passed file known.accepted))

    candidates_many : h.candidates ≡ candidate_count (round_of file)
    candidates_many = ap (λ (k : Head). k.candidates) same_head ∙ sym (length_candidates file)

    institutes_many : h.institutes ≡ institute_count (round_of file)
    institutes_many = ap (λ (k : Head). k.institutes) same_head ∙ sym (length_institutes file)

    pub candidates_most : h.candidates ≤ 512
    candidates_most = range.candidates_most

    pub institutes_most_is : h.institutes ≤ 1000
    institutes_most_is = omega (arith, range.institutes_most_is, institutes_few h.form)

    same_form : h.form ≡ form_of file
    same_form = ap (λ (k : Head). k.form) same_head

    seats_few : (i : ℕ) → i < h.candidates → ((seat_in h.form answer i).institute < 10000) × ((seat_in h.form answer i).step < 100)
    seats_few i l =
        rw (same_form, known.stands)
        (digits_few (form_of file) (round_of file) (sound file known.accepted) known.rest i (omega (arith, candidates_many)))

    same_listed : own_steps (as_head h) ≡ (round_of file).steps_listed
    same_listed = ap own_steps same_head ∙ sym (listed_round file)

    pub answer_there : size_for h.form (own_steps (as_head h)) h.candidates h.institutes ≤ length answer
    answer_there =
        rw (same_form, same_listed, candidates_many, institutes_many)
        (omega (
          arith,
          ap length known.stands,
          length-append (answer_bytes (form_of file) (round_of file)) known.rest,
          length_answer (form_of file) (round_of file),
        ))

    pub page_fits : {area : Text} → area.len + 94208 ≤ length area.area.now → val.Fits w64 offers → ((i : ℕ) → val.Fits w8 (get_or answer i 0))
        → Fits area (page_in h.form (own_steps (as_head h)) offers h.candidates h.institutes answer)
    page_fits l few bytes = record {
      room = omega (
        arith,
        page_short answer (λ i. omega (arith, bytes i)) h.form (own_steps (as_head h)) candidates_most institutes_most_is seats_few offers (omega arith),
      );
    }

    page_read : page_in h.form (own_steps (as_head h)) offers h.candidates h.institutes answer ≡ page (round_of file)
    page_read =
        rw (same_form, same_listed, known.counted, candidates_many, institutes_many, known.stands)
        (page_stands (form_of file) (round_of file) (sound file known.accepted) known.rest)

    pub answered_put : {area now : Text} → Put area (page_in h.form (own_steps (as_head h)) offers h.candidates h.institutes answer) now → Put area (page (round_of file)) now
    answered_put p = rw page_read at p
