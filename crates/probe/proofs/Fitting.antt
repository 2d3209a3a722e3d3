-- A body that fits has steps that a choice can go by. Assumes nothing.
use Prim.Native.Nat.{ℕ}
use mathlib.Core.Path.{◌≡◌, sym, ap, ◌∙◌}
use mathlib.Core.Bool.{Bool, true, false, cond, not}
use mathlib.Core.List.{List, []}
use lib.Dec.{leb, eqb}
use lib.ListN.{length}
use borrow.Author.Tests.{leb-true, eqb-true}
use Rattle.questions.specs.declared.head.Head.{Head as CodeHead}
use Rattle.questions.specs.Records.{Head, own_steps}
use Rattle.questions.specs.Questions.{institute_allowed, list_questions, first_no}
use Rattle.questions.specs.Read.{as_head, LawfulSteps}
use Rattle.lists.proofs.Words.{and_fst, and_snd, was_yes}
use Rattle.questions.proofs.Answers.{list_yes, institute_body, steps_lawful}
use Rattle.probe.specs.Probe.{head_with, body_fits}

body_lawful : (h : Head) (body : List ℕ) → body_fits h body ≡ true → LawfulSteps h body
body_lawful h body e =
    let asked : ℕ = first_no (cond (own_steps h) (list_questions h body) []) in
    let rest = and_snd (leb h.types 8) _ e in
    let last = and_snd (leb h.policy 2) _ rest in
    let long = institute_body h body (leb-true h.types 8 (and_fst _ _ e)) (and_fst (institute_allowed h (length body)) (eqb asked 0) last) in
    let none : asked ≡ 0 = eqb-true asked 0 (and_snd (institute_allowed h (length body)) (eqb asked 0) last) in
    steps_lawful h body long (λ own. list_yes h body (sym (ap (λ (b : Bool). first_no (cond b (list_questions h body) [])) own) ∙ none))

-- by what code has found
pub lawful : (types policy : ℕ) (body : List ℕ) {k : CodeHead} → as_head k ≡ head_with types policy → {b : Bool}
    → b ≡ body_fits (head_with types policy) body → not b ≡ false → LawfulSteps (as_head k) body
lawful types policy body head told t = rw head (body_lawful (head_with types policy) body (was_yes told t))
