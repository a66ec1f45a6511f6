-- A making has one answer, but for want of memory. Assumes nothing.
use Rattle.std.proofs.Common.{◌≡◌, List, Result, arith}
use Rattle.records.specs.declared.fault.Fault.{Fault}
use Rattle.records.specs.declared.fault.Refusal.{Refusal}
use Rattle.records.specs.declared.record.NodeRecord.{NodeRecord}
use Rattle.records.specs.declared.record.DefRecord.{DefRecord}
use Rattle.records.proofs.Breaks.{apart, one_call, same_break}
use Rattle.records.proofs.Makings as making
use Rattle.records.specs.Makings.Makes.{made, refused, no_memory}
use Rattle.jobs.proofs.Fits.{sound_as}
use Rattle.jobs.specs.declared.table.Table.{Table}
use Rattle.jobs.specs.Making.{Broken, Kept, Makes, Only}

module _ {nodes : List NodeRecord} {defs : List DefRecord} where
  -- the first break is told in one way
  pub one_refusal : {s t : Refusal} → Broken nodes defs s → Broken nodes defs t → s ≡ t
  one_refusal x y = grind (arith, apart, same_break, one_call)

  -- no rule is both kept and broken
  pub unbroken : {tells : Refusal} → Kept nodes defs → Broken nodes defs tells → ⊥
  unbroken all x = grind (arith, apart, all.every_call)

  pub only : {r : Result Table Fault} → Makes nodes defs r → Only nodes defs r
  only = making.only (λ s t. one_refusal) (λ tells. unbroken)

-- what a making answers, for `grind`
pub ruleset answers = (only, made, refused, no_memory, sound_as)
