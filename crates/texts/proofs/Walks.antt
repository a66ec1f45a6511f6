-- The lines of a text in turn. Assumes nothing.
use Rattle.std.proofs.Common.{◌≡◌, ℕ, List, rules}
use Rattle.records.specs.declared.record.Line.{Line}
use Rattle.texts.specs.Lines.{LineAt}
use Rattle.texts.specs.Walks.{StandsNext}
use Rattle.texts.specs.declared.walk.Lines.{Lines}

-- it stands where the walk has come to
pub found_at : {text : List ℕ} {at : ℕ} {line : Line} {old new : Lines} → old.text.now ≡ text → StandsNext at line old new → LineAt text old.at line new.at
found_at is next = search rules
