-- The letters of kinds. Assumes nothing.
use Rattle.std.specs.Prelude.{◌≡◌, ℕ, ◌≢◌, Result, MatchResult}
use Rattle.records.specs.declared.kind.UnknownKind.{UnknownKind}
use Rattle.records.specs.declared.record.Kind.{Kind}
use Rattle.records.specs.declared.record.Kind.TheVariants.{Empty, Event, Seq, Choice, Frame, Call}

-- the letter of a kind: z, e, s, c, f or d
abbrev pub letter_of : Kind → ℕ
letter_of Empty = 122
letter_of Event = 101
letter_of Seq = 115
letter_of Choice = 99
letter_of Frame = 102
letter_of Call = 100

abbrev pub NoLetter : ℕ → Type 0
NoLetter letter = (kind : Kind) → letter_of kind ≢ letter

-- the kind that has this letter, or an error with a letter that no kind has
abbrev pub ReadsKind : ℕ → Result Kind UnknownKind → Type 0
ReadsKind letter r = MatchResult r (λ kind. letter_of kind ≡ letter) (λ e. (e.0 ≡ letter) × NoLetter letter)
