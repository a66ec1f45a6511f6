-- What each fault says: its number, its layer and its place. Assumes nothing.
use Rattle.std.specs.Prelude.{ℕ, List, ◌++◌, Some, None, Ok, Err, codes, Option, Result}
use Rattle.records.specs.Written.{written}
use Rattle.records.specs.declared.fault.Refusal.{Refusal}
use Rattle.records.specs.declared.fault.Layer.{Layer}
use Rattle.records.specs.declared.fault.Layer.TheVariants.{Line, Table, Station}
use Rattle.records.specs.declared.fault.Fault.{Fault}
use Rattle.records.specs.declared.fault.Fault.TheVariants.{Form, Order, Limit, Missing, NoRoom, NoMemory, NoJob, StrayPolicy, ShortList, Running, Idle, Offends, JournalFull, StackFull, Mismatch}

abbrev pub refusal : ℕ → Layer → ℕ → Refusal
refusal number layer place = record { number = number; layer = layer; place = place }

-- every promise that answers a fault goes through this definition
abbrev pub told : Fault → Refusal
told (Form place) = refusal 1 Line place
told (Order place) = refusal 2 Table place
told (Limit place) = refusal 3 Table place
told (Missing place) = refusal 4 Table place
told (NoJob job) = refusal 5 Station job
told (StrayPolicy node) = refusal 6 Station node
told (NoRoom place) = refusal 7 Table place
told ShortList = refusal 7 Station 0
told Running = refusal 20 Station 0
told Idle = refusal 21 Station 0
told (Offends policy) = refusal 22 Station policy
told JournalFull = refusal 23 Station 0
told StackFull = refusal 24 Station 0
told Mismatch = refusal 25 Station 0
told NoMemory = refusal 99 Table 0

-- the refusal with this number at this place, if there is one
abbrev pub at_place : ℕ → Option ℕ → Option Refusal
at_place place None = None
at_place place (Some number) = Some (refusal number Table place)

-- what an answer tells: nothing where the call did not refuse
abbrev pub answer : {T : Type 0} → Result T Fault → Option Refusal
answer (Ok _) = None
answer (Err fault) = Some (told fault)

abbrev pub layer_word : Layer → List ℕ
layer_word Line = codes "line"
layer_word Table = codes "table"
layer_word Station = codes "station"

-- a refusal as it is printed
abbrev pub refusal_text : Refusal → List ℕ
refusal_text x = codes "refused=" ++ (written x.number ++ (codes " layer=" ++ (layer_word x.layer ++ (codes " place=" ++ written x.place))))
