-- A text is accepted exactly with the records whose lines it is. Assumes nothing.
use Rattle.std.proofs.Common.{◌≡◌, ℕ, List, length, ◌≤◌, take, Some, None, Ok, Result, sym, refl, ap, ◌∙◌, subst, arith}
use Rattle.std.proofs.lemmas.List.{length-take-le}
use Rattle.records.proofs.Kept.{some_none}
use Rattle.std.proofs.lemmas.Bool.{both_ways}
use Rattle.records.specs.declared.fault.Fault.{Fault}
use Rattle.records.specs.declared.fault.Refusal.{Refusal}
use Rattle.records.specs.Rules.{AllCalled, FirstUncalled, Records, call_there, node_at}
use Rattle.texts.proofs.Outcomes.{one_outcome}
use Rattle.texts.proofs.Whole.{read_is_written, written_is_read}
use Rattle.texts.specs.Contents.{Contents, front, sizes}
use Rattle.texts.specs.Readings.{Outcome, ReadTo, Refused}
use Rattle.texts.specs.Whole.{Accepts, Written}
use Rattle.texts.specs.declared.lists.Counts.{Counts}

abbrev Called : Records → Type 0
Called rs = AllCalled rs.nodes (length rs.defs) (length rs.nodes)

module _ {text : List ℕ} {before : Contents} where
  module _ {rs : Records} (written : Written (sizes before) text rs) where
    -- a text that is written whole is read to its end, with one list of records
    same_records : {after : Contents} {counts : Counts} → ReadTo text before after (length text) counts → front counts after ≡ rs
    same_records read = (one_outcome (sizes before) text _ _ _ rs None None read.passed (written_is_read (sizes before) text rs written) refl refl).1

    not_broken : {after : Contents} {x : Refusal} → Refused text before after x → ⊥
    not_broken {x = x} r =
        some_none x (one_outcome (sizes before) text _ _ _ rs (Some x) None r.read.passed (written_is_read (sizes before) text rs written) (r.more, r.breaks) refl).2

    not_uncalled : {after : Contents} {counts : Counts} {node : ℕ} → Called rs → ReadTo text before after (length text) counts → FirstUncalled (front counts after).nodes counts.defs node → ⊥
    not_uncalled {after} {counts} {node} called read first =
        let all = subst Called (sym (same_records read)) called in
        let long = length-take-le counts.defs after.defs read.defs.within in
        let nodes = take counts.nodes after.nodes in
        both_ways (call_there counts.defs (node_at nodes node)) first.here (ap (λ d. call_there d (node_at nodes node)) (sym long) ∙ all node first.within)

    all_written : {after : Contents} {r : Result Counts Fault} → length text ≤ 65536 → Called rs → Outcome text before after r → (n : Counts) × (r ≡ Ok n) × (front n after ≡ rs)
    all_written short called (Outcome.too_long long kept is) = absurd (omega arith)
    all_written short called (Outcome.broken_line _ broken) = absurd (not_broken broken)
    all_written short called (Outcome.undefined_call _ read first at is) = absurd (not_uncalled called read first)
    all_written short called (Outcome.accepted {counts = counts} _ read all) = (counts, refl, same_records read)

  written_of : {after : Contents} {n : Counts} → Outcome text before after (Ok n) → Written (sizes before) text (front n after)
  written_of (Outcome.accepted short read called) = read_is_written _ _ _ read.passed

  pub accepts : {after : Contents} {r : Result Counts Fault} → Outcome text before after r → Accepts text before after r
  accepts o =
      record {
        only_written = λ n e. written_of (rw e at o);
        all_written = λ rs short written called. all_written written short called o;
      }
