-- A table of rules that is written one after the other: what each says, and the rules of the whole.
use Prim.Native.Nat.{ℕ, ◌≤◌, ◌<◌}
use mathlib.Core.Path.{◌≡◌, sym, ap, ◌∙◌}
use mathlib.Core.Bool.{true, false}
use mathlib.Core.List.{List, [], ◌∷◌, ◌++◌, append-nil, map-append}
use native.Mathlib.Omega.{arith}
use lib.Dec.{eqb}
use lib.ListN.{length, get_or, set, take, replicate, length-map, length-append}
use lib.Seq.{take_at, ext_get_or}
use borrow.Author.Tests.{eq-eqb}
use Rattle.std.proofs.lemmas.List.{take_more_set, get_or-map, take-replicate}
use Rattle.std.proofs.lemmas.List.Elements.{All-push}
use Rattle.questions.specs.Records.{Head}
use Rattle.lists.specs.Lists.{tabulate}
use Rattle.lists.proofs.Words.{length_tabulate, tabulate_at}
use Rattle.round.specs.Category.{category_of}
use Rattle.round.specs.declared.entry.Category.TheVariants.{Open}
use Rattle.round.specs.declared.rule.Rule.{Rule}
use Rattle.round.specs.Round.{StepRule}
use Rattle.questions.specs.Steps.{step_count, positions_in, reserved_in, step_code, receiver_in}
use Rattle.questions.specs.Reading.{step_in, dereserved, steps_in}
use Rattle.round.specs.Rules.{rule_of, rules_in, RuleTable}
use Rattle.reader.specs.RulesRead.{RuleRead, RulesRead}
use Rattle.questions.specs.Read.{LawfulSteps}
use Rattle.questions.proofs.Steps.{five_steps}

-- a rule of no positions, and what stands beyond the last rule
abbrev none : Rule
none = record { category = Open; receiver = 0; positions = 0; reserved = replicate 8 0 }

abbrev no_rule : Rule
no_rule = record { category = Open; receiver = 0; positions = 0; reserved = [] }

-- the rule of step 6 under policy 1
last_rule : (types : ℕ) → types ≤ 8 → rule_of types none ≡ dereserved types
unfolding dereserved
last_rule types few =
    ap (λ (reserved : List ℕ). record { category = Open; own = 0; reserved = reserved; receiver = 0 }) (take-replicate types 8 0 few)

-- the first t numbers are F 0, .., F (t - 1)
abbrev pub ReservedTo : (ℕ → ℕ) → ℕ → List ℕ → Type 0
ReservedTo F t items = (s : ℕ) → s < t → get_or items s 0 ≡ F s

all_reserved : (F : ℕ → ℕ) (n t : ℕ) (items rest : List ℕ) → length items ≡ n → length items ≤ t → ReservedTo F t items → take n (items ++ rest) ≡ tabulate n F
all_reserved F n t items rest long all r =
    take_at items rest n long
    ∙ ext_get_or 0 items (tabulate n F) (long ∙ sym (length_tabulate 0 n F))
    (λ s b. let low : s < n = omega arith in r s (omega arith) ∙ sym (tabulate_at n F 0 s low))

-- the rule of a step
pub rule_read : (h : Head) (body : List ℕ) (k t : ℕ) (items rest : List ℕ) {code receiver own : ℕ} → length items ≡ h.types → length items ≤ t
    → ReservedTo (reserved_in h body k) t items
    → code ≡ step_code h body k → receiver ≡ receiver_in h body k → own ≡ positions_in h body k → own < 65536
    → RuleRead h body k (record { category = category_of code; receiver = receiver; positions = own; reserved = items ++ rest })
unfolding step_in
rule_read h body k t items rest long all r ec er eo small = record {
  rule_is = rw (all_reserved (reserved_in h body k) h.types t items rest long all r, ec, er, eo);
  own_most = omega arith;
}

-- the first k rules are those of the steps of a body
abbrev pub RulesTo : Head → List ℕ → ℕ → List Rule → Type 0
RulesTo h body k items = (i : ℕ) (d : Rule) → i < k → RuleRead h body i (get_or items i d)

module _ {h : Head} {body : List ℕ} (lawful : LawfulSteps h body) (k : ℕ) (items rest : List Rule) (long : length items ≡ step_count h body)
    (all : length items ≤ k) (s : RulesTo h body k items) where
  items_table : RuleTable h.types items
  unfolding step_in
  items_table = record {
    types_most = lawful.long.types_most;
    steps_most = omega (arith, long, lawful.long.steps_most);
    handed_on = λ i d l.
        omega (arith, ap (λ (r : StepRule). r.receiver) (s i d (omega arith)).rule_is, lawful.handed_on i (omega arith));
    own_most = λ i d l. (s i d (omega arith)).own_most;
  }

  items_rules : rules_in h.types items ≡ tabulate (step_count h body) (step_in h body)
  items_rules =
      ext_get_or (rule_of h.types no_rule) _ _ (length-map items (rule_of h.types) ∙ long ∙ sym (length_tabulate 0 (step_count h body) (step_in h body)))
      (λ i l.
      let low : i < step_count h body = omega (arith, length-map items (rule_of h.types)) in
      get_or-map (rule_of h.types) items i no_rule (rule_of h.types no_rule) (omega arith)
      ∙ (s i no_rule (omega arith)).rule_is
      ∙ sym (tabulate_at (step_count h body) (step_in h body) (rule_of h.types no_rule) i low))

  -- the rules of a body's own steps
  pub body_rules : {n : ℕ} → n ≡ step_count h body → eqb h.policy 1 ≡ false → RulesRead h body (take n (items ++ rest))
  unfolding steps_in
  body_rules {n} e other =
      rw (take_at items rest n (long ∙ sym e))
      record { table_of = items_table; rules_of = rw (other, append-nil) items_rules }

  -- under policy 1 the body has five steps, and behind them stands step 6
  pub six_rules : 12 ≤ length (items ++ rest) → h.policy ≡ 1 → RulesRead h body (take 6 (set (items ++ rest) 5 none))
  unfolding steps_in
  six_rules room one =
      let same : eqb h.policy 1 ≡ true = eq-eqb h.policy 1 one in
      let five : step_count h body ≡ 5 = five_steps h body (rw one) in
      let six : take 6 (set (items ++ rest) 5 none) ≡ items ++ none ∷ [] =
      take_more_set (items ++ rest) 5 none (omega arith)
      ∙ ap (λ (rules : List Rule). rules ++ none ∷ []) (take_at items rest 5 (long ∙ five)) in
      rw six record {
        table_of = record {
          types_most = lawful.long.types_most;
          steps_most = omega (arith, length-append items (none ∷ []));
          handed_on = All-push (λ rule. rule.receiver ≤ 12) items none items_table.handed_on (omega arith);
          own_most = All-push (λ rule. rule.positions ≤ 65535) items none items_table.own_most (omega arith);
        };
        rules_of =
            rw same
            (map-append (rule_of h.types) items (none ∷ [])
            ∙ ap (λ (rules : List StepRule). rules ++ rule_of h.types none ∷ []) items_rules
            ∙ ap (λ (rule : StepRule). tabulate (step_count h body) (step_in h body) ++ rule ∷ []) (last_rule h.types lawful.long.types_most));
      }
