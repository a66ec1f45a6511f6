-- The first of some records that breaks a rule. Assumes nothing.
use Rattle.std.specs.Prelude.{◌≡◌, ℕ, ◌<◌, List, take, Some, None, Option, Result, MatchResult, slice_index_or}
use Rattle.records.specs.declared.fault.Layer.TheVariants as layer
use Rattle.records.specs.declared.fault.Refusal.{Refusal}
use Rattle.records.specs.Faults.{refusal, told}
use Rattle.records.specs.declared.record.Line.{Line}
use Rattle.records.specs.declared.fault.Fault.{Fault}
use Rattle.records.specs.Rules.{Records, breach}

-- each of the first n records keeps the rules, where `broken` gives the rule that a record breaks, if it breaks one
abbrev pub Keep : (ℕ → Option ℕ) → ℕ → Type 0
Keep broken n = (k : ℕ) → k < n → broken k ≡ None

-- the first of n records that breaks a rule, and what is told of it
pub record FirstBreak (broken : ℕ → Option ℕ) (n : ℕ) (tells : Refusal) : Type 0 where
  pub place : ℕ
  pub rule : ℕ
  pub within : place < n
  pub below : Keep broken place
  pub here : broken place ≡ Some rule
  pub says : tells ≡ refusal rule layer.Table place

-- a test of n records answers that each keeps the rules, or tells the first break
abbrev pub Tested : {T : Type 0} → (ℕ → Option ℕ) → ℕ → Result T Fault → Type 0
Tested broken n r = MatchResult r (λ _. Keep broken n) (λ fault. FirstBreak broken n (told fault))

-- the first rule that record k breaks after some records, among which those that stand before it take the place of those of their kind
abbrev pub breach_at : {R : Type 0} → (R → Line) → (Records → List R → Records) → R → Records → List R → ℕ → Option ℕ
breach_at line among blank rs these k = breach (among rs (take k these)) (line (slice_index_or these k blank))
