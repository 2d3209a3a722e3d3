-- The types that stand in an answer area (document 02, Point 3).
use Rattle.std.specs.Prelude.{ℕ, suc, ◌<◌, ◌≡◌, List}
use Rattle.questions.specs.declared.form.Form.{Form}
use Rattle.round.specs.Round.{Round}
use Rattle.choice.specs.Account.{type_used, account_of}
use Rattle.offers.specs.Offers.{place_on}
use Rattle.offers.specs.Process.{no_seat, candidate_count, institute_count, account_at_end}
use Rattle.offers.specs.FirstTypes.{FirstTypes}
use Rattle.allotment.specs.Areas.{type_standing}
use Rattle.offers.specs.Areas.{seat_in}

-- beside the seat at step k of institute j, both from 0, stands the type that the step used for the candidate, by the account of the institute's
-- choice from all offers ever made to it; beside no seat stands 0; and these accounts have the first placings
pub record Published (form : Form) (r : Round) (area : List ℕ) : Type 0 where
  pub seated : (i j k : ℕ) → i < candidate_count r → seat_in form area i ≡ record { institute = suc j; step = suc k }
      → type_standing form r.steps_listed (candidate_count r) (institute_count r) area i ≡ type_used (account_of (account_at_end r j) (suc k)) (place_on r j i)
  pub unseated : (i : ℕ) → i < candidate_count r → seat_in form area i ≡ no_seat → type_standing form r.steps_listed (candidate_count r) (institute_count r) area i ≡ 0
  pub first : FirstTypes r
