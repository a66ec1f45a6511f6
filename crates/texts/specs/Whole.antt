-- A text as the lines of its records, one after another. Assumes nothing.
use Rattle.std.specs.Prelude.{◌≡◌, ℕ, ◌<◌, ◌≤◌, List, [], ◌∷◌, ◌++◌, map, length, Some, None, Ok, Option, Result}
use Rattle.records.specs.declared.fault.Fault.{Fault}
use Rattle.records.specs.declared.fault.Layer.TheVariants.{Table}
use Rattle.records.specs.declared.record.Line.{Line}
use Rattle.records.specs.declared.record.Line.TheVariants.{Policy, Bad, Edge, Quota, Mark, Node, Def, Tariff}
use Rattle.records.specs.declared.fault.Refusal.{Refusal}
use Rattle.records.specs.Faults.{answer, refusal}
use Rattle.records.specs.Rules.{AllCalled, FirstUncalled, Records, added}
use Rattle.texts.specs.Contents.{Contents, Room, broken, front, sizes}
use Rattle.texts.specs.Lines.{Formed, line_of}
use Rattle.texts.specs.Readings.{Breaks, NodeAt, Passed, no_records}
use Rattle.texts.specs.declared.lists.Counts.{Counts}

-- lines one after another
abbrev pub text_of : List Line → List ℕ
text_of [] = []
text_of (l ∷ ls) = line_of l (text_of ls)

abbrev pub quota_lines : Option ℕ → List Line
quota_lines None = []
quota_lines (Some k) = Quota k ∷ []

-- the lines of records, in the order of a text
abbrev pub lines_of : Records → List Line
lines_of rs =
    map Policy rs.policies ++ (map Bad rs.bads ++ (map Edge rs.edges ++ (quota_lines rs.quota ++ (map Mark rs.marks ++ (map Node rs.nodes ++ (map Def rs.defs ++ map Tariff rs.tariffs))))))

-- each line has its form, and keeps the rules after those before it
abbrev pub Keeps : Room → Records → List Line → Type 0
Keeps room rs [] = Unit {0}
Keeps room rs (l ∷ ls) = Formed l × (broken room rs l ≡ None) × Keeps room (added rs l) ls

-- the text is the lines of these records, and they keep the rules
pub record Written (room : Room) (text : List ℕ) (rs : Records) : Type 0 where
  pub is : text ≡ text_of (lines_of rs)
  pub keeps : Keeps room no_records (lines_of rs)

-- a text is read whole into records exactly when it is their lines one after another, and they keep the rules
abbrev pub ReadAsWritten : Type 0
ReadAsWritten =
    (room : Room) (text : List ℕ) (rs : Records) → (Passed room text (length text) rs → Written room text rs) × (Written room text rs → Passed room text (length text) rs)

-- a text is accepted exactly with those records whose lines it is, where it is short enough, they keep the rules and what they call is there
pub record Accepts (text : List ℕ) (before after : Contents) (r : Result Counts Fault) : Type 0 where
  pub only_written : (n : Counts) → r ≡ Ok n → Written (sizes before) text (front n after)
  pub all_written : (rs : Records) → length text ≤ 65536 → Written (sizes before) text rs → AllCalled rs.nodes (length rs.defs) (length rs.nodes) → (n : Counts) × (r ≡ Ok n) × (front n after ≡ rs)

-- a text is refused where it is too long, else where a line behind good lines breaks a rule, else where its lowest node with such a call calls a definition which is not there; each with its number and its place
pub record Refuses (text : List ℕ) (before : Contents) (r : Result Counts Fault) : Type 0 where
  pub too_long : 65536 < length text → answer r ≡ Some (refusal 3 Table 65536)
  pub broken_line : (place : ℕ) (rs : Records) (x : Refusal) → length text ≤ 65536 → Passed (sizes before) text place rs → place < length text → Breaks (sizes before) text place rs x → answer r ≡ Some x
  pub undefined_call : (rs : Records) (node place : ℕ) → length text ≤ 65536 → Passed (sizes before) text (length text) rs → FirstUncalled rs.nodes (length rs.defs) node → NodeAt (sizes before) text node place → answer r ≡ Some (refusal 4 Table place)
