-- The lines of a text in turn. Assumes nothing.
use Rattle.std.specs.Prelude.{◌≡◌, ℕ, ◌<◌, Bool, false, length, Some, None, Option}
use Rattle.records.specs.declared.record.Line.{Line}
use Rattle.texts.specs.Lines.{LineAt, NoLine, is_node}
use Rattle.texts.specs.declared.walk.Lines.{Lines}

-- the next line stands at this place, and behind it is the place of the one after it
pub record StandsNext (at : ℕ) (l : Line) (old new : Lines) : Type 0 where
  pub place : at ≡ old.at
  pub more : at < length old.text.now
  pub line : LineAt old.text.now at l new.at
  pub text : new.text.now ≡ old.text.now

-- no line stands at this place, and the walk ends
pub record NoneStands (at : ℕ) (old new : Lines) : Type 0 where
  pub place : at ≡ old.at
  pub more : at < length old.text.now
  pub none : NoLine old.text.now at
  pub end : new.at ≡ length old.text.now
  pub text : new.text.now ≡ old.text.now

-- what is given next of the lines of a text
abbrev pub GivesLine : Lines → Option (ℕ × Option Line) → Lines → Type 0
GivesLine old None new = (old.at ≡ length old.text.now) × (new.at ≡ old.at) × (new.text.now ≡ old.text.now)
GivesLine old (Some (at, None)) new = NoneStands at old new
GivesLine old (Some (at, Some line)) new = StandsNext at line old new

-- the line of node n stands there
abbrev pub is_line_of : ℕ → Option Line → Bool
is_line_of n None = false
is_line_of n (Some line) = is_node n line
