-- What the making of something from records answers. Assumes nothing.
use Rattle.std.specs.Prelude.{◌≡◌, ◌⊎◌, Some, None, Ok, Err, Result}
use Rattle.records.specs.declared.fault.Fault.{Fault}
use Rattle.records.specs.declared.fault.Layer.TheVariants.{Table}
use Rattle.records.specs.declared.fault.Refusal.{Refusal}
use Rattle.records.specs.Faults.{answer, refusal, told}

module _ {T : Type 0} (Kept : Type 0) (Broken : Refusal → Type 0) (Holds : T → Type 0) where
  -- what is to be made where all rules are kept, else the refusal of the first break; or that memory is wanting, once all rules are kept
  pub data Makes : Result T Fault → Type 0 where
    made : {x : T} → Kept → Holds x → Makes (Ok x)
    refused : {fault : Fault} → Broken (told fault) → Makes (Err fault)
    no_memory : {fault : Fault} → Kept → told fault ≡ refusal 99 Table 0 → Makes (Err fault)

module _ {T : Type 0} (Kept : Type 0) (Broken : Refusal → Type 0) where
  -- a break has no other answer than its refusal, and records that keep all rules are refused for want of memory only
  pub record Only (r : Result T Fault) : Type 0 where
    pub broken : (tells : Refusal) → Broken tells → answer r ≡ Some tells
    pub kept : Kept → (answer r ≡ None) ⊎ (answer r ≡ Some (refusal 99 Table 0))
