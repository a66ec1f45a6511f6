-- A fault is known by what it tells. Assumes nothing.
use Rattle.std.proofs.Common.{◌≡◌, arith}
use Rattle.records.specs.declared.fault.Fault.{Fault}
use Rattle.records.specs.Faults.{told}

pub told_apart : (f g : Fault) → told f ≡ told g → f ≡ g
told_apart f g e = grind arith
