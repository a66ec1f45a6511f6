-- A making has one answer, but for want of memory. Assumes nothing.
use Rattle.std.proofs.Common.{◌≡◌, Result, arith}
use Rattle.records.specs.declared.fault.Fault.{Fault}
use Rattle.records.specs.declared.fault.Refusal.{Refusal}
use Rattle.records.specs.Makings.{Makes, Only}

-- where a first break is told in one way, and no rule is both kept and broken
pub only : {T Kept : Type 0} {Broken : Refusal → Type 0} {Holds : T → Type 0} {r : Result T Fault} → ((s t : Refusal) → Broken s → Broken t → s ≡ t) → ((t : Refusal) → Kept → Broken t → ⊥) → Makes Kept Broken Holds r → Only Kept Broken r
only one apart x = record { broken = λ tells first. grind (arith, one, apart); kept = λ all. grind (arith, apart) }
