use Rattle.std.proofs.Common.{get_or, nat_eq}
use mathlib.Core.Bool.{cond}
use Rattle.lists.proofs.Written.{Written}
use Rattle.sweeps.proofs.process.drop_holders.Given as goal

abbrev pub invariant-loop-i : goal.invariant-loop-i
invariant-loop-i l = Written l.initial.holders l.holders (λ q. cond (nat_eq (get_or l.steps q 0) 0) 0 (get_or l.initial.holders q 0)) l.i
