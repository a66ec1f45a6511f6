-- A text begins with the line of one record only. Assumes nothing.
use Rattle.std.proofs.Common.{◌≡◌, ℕ, List, length, drop, sym, ap, ◌∙◌, arith, length-drop}
use Rattle.records.specs.declared.record.Line.{Line}
use Rattle.texts.proofs.Fields.{space, line_end}
use Rattle.texts.proofs.Lines.{same_letter}
use Rattle.texts.proofs.Numbers.{same_number}
use Rattle.texts.specs.Lines.{Formed, LineAt, line_of}

lines_apart : (l m : Line) (r s : List ℕ) → Formed l → Formed m → line_of l r ≡ line_of m s → (l ≡ m) × (r ≡ s)
lines_apart l m r s f g e = grind (arith, same_number, same_letter, space, line_end)

-- one line stands at a place, with one end
pub same_line : {text : List ℕ} {at : ℕ} {l m : Line} {j k : ℕ} → LineAt text at l j → LineAt text at m k → (l ≡ m) × (j ≡ k)
same_line {text} {at} {l} {m} {j} {k} x y =
    let both = lines_apart l m (drop j text) (drop k text) x.formed y.formed (sym x.reads ∙ y.reads) in
    (both.0, omega (arith, ap length both.1, length-drop j text, length-drop k text, x.within, y.within))
