-- The list that an accepted allotment leaves in its answer area passes the review.
use Prim.Native.Nat.{ℕ, suc, ◌+◌, ◌*◌}
use mathlib.Core.Path.{◌≡◌, ◌∙◌, ap}
use mathlib.Core.List.{List}
use native.Mathlib.Omega.{arith}
use lib.ListN.{take}
use lib.Seq.{get_or-take}
use Rattle.questions.specs.declared.form.Form.{Form}
use Rattle.questions.specs.declared.form.Form.TheVariants.{Narrow, Wide}
use Rattle.questions.specs.Form.{seat_width}
use Rattle.questions.specs.Records.{form_of}
use Rattle.questions.specs.Reading.{round_of}
use Rattle.lists.proofs.Tabulate.{tabulate_cong}
use Rattle.offers.specs.Process.{candidate_count}
use Rattle.offers.specs.Areas.{seat_in, seats_in}
use Rattle.allotment.specs.Outcome.{answer_after}
use Rattle.allotment.proofs.Files.Accepting.{seats_after_lem}
use Rattle.std.specs.Prelude.{Result}
use Rattle.reader.specs.declared.refusal.Refusal.{Refusal}
use Rattle.review.specs.declared.Judgement.{Judgement}
use Rattle.review.specs.Outcome.{list_for}
use Rattle.review.specs.Promise.{Promise}
use Rattle.tazbilk.specs.Reviewing.{UnitsListPasses}

-- a list is read from the first bytes of an area alone
front_seats : (form : Form) (n : ℕ) (area : List ℕ) → seats_in form n (take (seat_width form * n) area) ≡ seats_in form n area
unfolding seats_in seat_in
front_seats Narrow n area =
    tabulate_cong n (seat_in Narrow (take (2 * n) area)) (seat_in Narrow area)
    (λ i l k. record {
      institute = get_or-take (2 * n) area (2 * i) 0 (omega arith) k;
      step = get_or-take (2 * n) area (2 * i + 1) 0 (omega arith) k;
    })
front_seats Wide n area =
    tabulate_cong n (seat_in Wide (take (4 * n) area)) (seat_in Wide area)
    (λ i l k. record {
      institute = get_or-take (4 * n) area (4 * i) 0 (omega arith) k + 256 * get_or-take (4 * n) area (suc (4 * i)) 0 (omega arith) k;
      step = get_or-take (4 * n) area (4 * i + 2) 0 (omega arith) k + 256 * get_or-take (4 * n) area (suc (4 * i + 2)) 0 (omega arith) k;
    })

pub units_list_lem : {file list work : List ℕ} {told : Result Judgement Refusal} {workNow : List ℕ} → Promise file list work told workNow → UnitsListPasses file list work
unfolding UnitsListPasses
units_list_lem {file} promise answer workThen accepted is reviewed =
    promise.own_list reviewed
    (ap (list_for file) is ∙ front_seats (form_of file) (candidate_count (round_of file)) (answer_after file answer workThen) ∙ seats_after_lem file answer workThen accepted)
