-- A first break is told in one way. Assumes nothing.
use Rattle.std.proofs.Common.{◌≡◌, ℕ, List, Option, arith}
use Rattle.std.proofs.lemmas.Bool.{cases_order}
use Rattle.records.specs.declared.record.NodeRecord.{NodeRecord}
use Rattle.records.specs.declared.fault.Refusal.{Refusal}
use Rattle.records.specs.Breaks.{FirstBreak, Keep}
use Rattle.records.specs.Rules.{FirstUncalled}

-- the lowest node that calls a definition which is not there is one node
pub one_call : {nodes : List NodeRecord} {defs j k : ℕ} → FirstUncalled nodes defs j → FirstUncalled nodes defs k → j ≡ k
one_call {j = j} {k = k} x y = grind (arith, cases_order j k, x.below k, y.below j, x.here, y.here)

module _ {broken : ℕ → Option ℕ} {n : ℕ} where
  -- records that keep the rules have no first break
  pub apart : {tells : Refusal} → FirstBreak broken n tells → Keep broken n → ⊥
  apart x keep = cc (x.here, keep x.place x.within)

  pub same_break : {s t : Refusal} → FirstBreak broken n s → FirstBreak broken n t → s ≡ t
  same_break x y = grind (arith, cases_order x.place y.place, x.below y.place, y.below x.place, x.here, y.here, x.says, y.says)
