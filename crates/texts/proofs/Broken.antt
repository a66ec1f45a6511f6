-- The first rule that a line breaks. Assumes nothing.
use Rattle.std.proofs.Common.{◌≡◌, ℕ, ◌≤◌, false, Some, None, Option, arith}
use Rattle.records.specs.declared.fault.Layer.TheVariants.{Table}
use Rattle.records.specs.declared.record.Line.{Line}
use Rattle.records.specs.declared.fault.Refusal.{Refusal}
use Rattle.records.specs.Faults.{at_place, refusal}
use Rattle.records.specs.Rules.{Records, breach}
use Rattle.texts.specs.Contents.{Room, broken, has_room}

-- a line that breaks no rule keeps those of its record
pub breach_from : (room : Room) (rs : Records) (line : Line) → broken room rs line ≡ None → breach rs line ≡ None
unfolding broken
breach_from room rs line e = grind arith

-- what an answer tells at a place
pub no_breach : (place : ℕ) (o : Option ℕ) → None ≡ at_place place o → o ≡ None
no_breach place o e = grind arith

pub one_breach : (place : ℕ) (o : Option ℕ) (x : Refusal) → Some x ≡ at_place place o → (n : ℕ) × (o ≡ Some n) × (x ≡ refusal n Table place)
one_breach place o x e = grind arith

-- the rules of records have numbers up to 4
breach_small : (rs : Records) (line : Line) (n : ℕ) → breach rs line ≡ Some n → n ≤ 4
unfolding breach
breach_small rs line n e = grind arith

-- 7 is told of a good line that finds no place
pub seven_is_room : (room : Room) (rs : Records) (line : Line) → broken room rs line ≡ Some 7 → (breach rs line ≡ None) × (has_room room rs line ≡ false)
unfolding broken
seven_is_room room rs line e = grind (arith, breach_small)
