-- Fields as they are read. Assumes nothing.
use Rattle.std.proofs.Common.{◌≡◌, ℕ, List, ◌++◌, Some, None, Option, Bor, sym, ap, ◌∙◌, arith}
use Rattle.std.proofs.lemmas.List.{append_cancel_left}
use Rattle.std.specs.Int.{IsInRange}
use Rattle.records.specs.Written.{written}
use Rattle.texts.specs.Fields.{Small, Past, Reads, Number, Field, field}

-- the number behind a key
pub field_from : {text : List ℕ} (key rest : List ℕ) → text ≡ key ++ rest → (r : Option (ℕ × Bor (List ℕ))) → Reads (Number rest) r → Reads (Field text key) r
field_from key rest e None none =
    λ n tail found. none n tail (record { small = found.small; past = found.past; reads = append_cancel_left key rest (written n ++ tail) (sym e ∙ found.reads) })
field_from key rest e (Some p) found =
    record { small = found.small; past = found.past; reads = e ∙ ap (λ r. key ++ r) found.reads }

-- a space and the end of a line are no digits
pub space : IsInRange 48 57 32 → ⊥
space h = omega (arith, h)

pub line_end : IsInRange 48 57 10 → ⊥
line_end h = omega (arith, h)

-- where no such field is read, none stands; the first part shows grind what to look for
pub no_field : {text key : List ℕ} {End : List ℕ → List ℕ} → ((n : ℕ) (rest : List ℕ) → ¬ (Field text key n (End rest))) → (m : ℕ) (rest : List ℕ) → Small m → Past (End rest) → text ≡ field key m (End rest) → (written m ++ End rest ≡ written m ++ End rest) × ⊥
no_field nothing m rest small past e = absurd (nothing m rest (record { small = small; past = past; reads = e }))
