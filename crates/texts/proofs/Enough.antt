-- Lists that are as long as their kinds have lines are never too short. Assumes nothing.
use Rattle.std.proofs.Common.{◌≡◌, ℕ, ◌+◌, ◌*◌, ◌≤◌, Bool, true, List, length, Some, Err, Result, arith, eqb-true, ltb-true, rules}
use Rattle.std.proofs.lemmas.List.{get_or_push, length_push}
use Rattle.std.proofs.lemmas.Bool.{lt-ltb}
use Rattle.records.proofs.Kept.{Kept, kept}
use Rattle.records.specs.declared.fault.Fault.{Fault}
use Rattle.records.specs.Faults.{told}
use Rattle.records.specs.declared.record.BadRecord.{BadRecord}
use Rattle.records.specs.declared.record.MarkRecord.{MarkRecord}
use Rattle.records.specs.declared.record.TariffRecord.{TariffRecord}
use Rattle.records.specs.declared.record.Line.{Line}
use Rattle.records.specs.Rules.{Records, added, earlier_bad, earlier_mark, earlier_tariff, rises}
use Rattle.texts.proofs.Broken.{breach_from, seven_is_room}
use Rattle.texts.specs.Contents.{Contents, Room, broken, has_room, sizes}
use Rattle.texts.specs.Readings.{OnlyOutcome, Outcome, Passed}
use Rattle.texts.specs.Reports.{Tallied, blank}
use Rattle.texts.specs.declared.lists.Counts.{Counts}

-- whatever comes next to records that rise by a key has at least as large a key as there are records
abbrev Packed : {X : Type 0} → (X → ℕ) → (X → X → Bool) → X → List X → Type 0
Packed {X} key earlier none xs = (r : X) → rises earlier none xs r ≡ true → length xs ≤ key r

record FittingLists (xs : List BadRecord) (ys : List MarkRecord) (zs : List TariffRecord) : Type 0 where
  bads : Packed (λ (b : BadRecord). 8 * b.policy + b.state) earlier_bad (record { policy = 0; state = 0 }) xs
  marks : Packed (λ (m : MarkRecord). m.event) earlier_mark (record { event = 0 }) ys
  tariffs : Packed (λ (t : TariffRecord). t.event) earlier_tariff (record { event = 0; cost = 0 }) zs

abbrev Fitting : Records → Type 0
Fitting rs = FittingLists rs.bads rs.marks rs.tariffs

fitting_more : (rs : Records) (line : Line) → Fitting rs → Kept rs line → Fitting (added rs line)
fitting_more rs line fit keeps = grind (arith, ltb-true, eqb-true, length_push, get_or_push)

fitting : {room : Room} {text : List ℕ} {at : ℕ} {rs : Records} → Passed room text at rs → Fitting rs
fitting Passed.begin = search rules
fitting {room} (Passed.next {rs = rs} {line = line} passed found good) = fitting_more rs line (fitting passed) (kept rs line (breach_from room rs line good))

-- a good line finds a place in the longest lists
room_enough : (rs : Records) (line : Line) → Fitting rs → Kept rs line → has_room (sizes blank) rs line ≡ true
room_enough rs line fit keeps = grind (arith, ltb-true, eqb-true, lt-ltb)

not_seven : (rs : Records) (line : Line) → Fitting rs → broken (sizes blank) rs line ≡ Some 7 → ⊥
not_seven rs line fit e =
    let good = seven_is_room (sizes blank) rs line e in
    let room = room_enough rs line fit (kept rs line good.0) in
    cc

-- a reading into the longest lists is never refused for a list that is too short
pub never_short : {text : List ℕ} {after : Contents} (fault : Fault) → Outcome text blank after (Err fault) → (told fault).number ≡ 7 → ⊥
never_short fault o seven = grind (arith, not_seven, fitting)

pub tallied : {text : List ℕ} {r : Result Counts Fault} {before : Contents} (after : Contents) → before ≡ blank → Outcome text before after r → OnlyOutcome text before after r → Tallied text r
tallied after is outcome only =
    let read = rw is at outcome in
    record { lists = after; outcome = read; only = λ other answer o. (rw is at only other answer o).0; never_short = λ fault e. never_short fault (rw e at read) }
