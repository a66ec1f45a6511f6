use Rattle.records.specs.Breaks.{Keep, breach_at}
use Rattle.records.specs.Rules.{held}
use Rattle.records.proofs.rules.check_each.Given as goal

abbrev pub invariant-loop-k : goal.invariant-loop-k
invariant-loop-k g l = let r = g.R.Record in Keep (breach_at r.line r.among r.blank (held l.sofar) l.these) l.k
