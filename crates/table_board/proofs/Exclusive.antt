-- A making has one answer, but for want of memory. Assumes nothing.
use Rattle.std.proofs.Common.{◌≡◌, List, Result, arith}
use Rattle.records.specs.declared.fault.Fault.{Fault}
use Rattle.records.specs.declared.fault.Refusal.{Refusal}
use Rattle.records.specs.declared.record.PolicyRecord.{PolicyRecord}
use Rattle.records.specs.declared.record.BadRecord.{BadRecord}
use Rattle.records.specs.declared.record.EdgeRecord.{EdgeRecord}
use Rattle.records.proofs.Breaks.{apart, same_break}
use Rattle.records.proofs.Makings as making
use Rattle.records.specs.Makings.Makes.{made, refused, no_memory}
use Rattle.table_board.specs.declared.table.TableBoard.{TableBoard}
use Rattle.table_board.specs.Making.{Broken, Kept, Makes, Only}

module _ {policies : List PolicyRecord} {bads : List BadRecord} {edges : List EdgeRecord} where
  -- the first break is told in one way
  one_refusal : {s t : Refusal} → Broken policies bads edges s → Broken policies bads edges t → s ≡ t
  one_refusal x y = grind (arith, apart, same_break)

  -- no rule is both kept and broken
  unbroken : {tells : Refusal} → Kept policies bads edges → Broken policies bads edges tells → ⊥
  unbroken all x = grind (arith, apart)

  pub only : {r : Result TableBoard Fault} → Makes policies bads edges r → Only policies bads edges r
  only = making.only (λ s t. one_refusal) (λ tells. unbroken)

-- what a making answers, for `grind`
pub ruleset answers = (only, made, refused, no_memory)
