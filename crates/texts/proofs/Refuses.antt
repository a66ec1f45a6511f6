-- A text is refused where it breaks a rule, with that rule's number and place. Assumes nothing.
use Rattle.std.proofs.Common.{◌≡◌, ℕ, ◌<◌, List, length, take, Some, None, Option, Result, sym, refl, ap, ◌∙◌, subst, arith}
use Rattle.std.proofs.lemmas.List.{length-take-le}
use Rattle.std.proofs.lemmas.Bool.{both_ways}
use Rattle.records.proofs.Breaks.{one_call}
use Rattle.records.proofs.Kept.{some_none}
use Rattle.records.specs.declared.fault.Fault.{Fault}
use Rattle.records.specs.declared.fault.Layer.TheVariants.{Table}
use Rattle.records.specs.declared.fault.Refusal.{Refusal}
use Rattle.records.specs.Faults.{refusal}
use Rattle.records.specs.Rules.{FirstUncalled, Records, call_there, node_at}
use Rattle.texts.proofs.OneWay.{same_place}
use Rattle.texts.proofs.Outcomes.{one_outcome}
use Rattle.texts.specs.Contents.{Contents, front, sizes}
use Rattle.texts.specs.Readings.{Breaks, NodeAt, Outcome, Passed, ReadTo, Refused}
use Rattle.texts.specs.Whole.{Refuses}
use Rattle.texts.specs.declared.lists.Counts.{Counts}

abbrev Uncalled : Records → ℕ → Type 0
Uncalled rs node = FirstUncalled rs.nodes (length rs.defs) node

module _ {text : List ℕ} {before after : Contents} where
  -- another way to read the text ends as this one does
  same_refusal : {x y : Refusal} {place : ℕ} {rs : Records} → Refused text before after x → Passed (sizes before) text place rs → place < length text → Breaks (sizes before) text place rs y → ◌≡◌ {A = Option Refusal} (Some x) (Some y)
  same_refusal {x} {y} r passed more breaks =
      (one_outcome (sizes before) text _ _ _ _ (Some x) (Some y) r.read.passed passed (r.more, r.breaks) (more, breaks)).2

  not_broken : {y : Refusal} {counts : Counts} {place : ℕ} {rs : Records} → ReadTo text before after (length text) counts → Passed (sizes before) text place rs → place < length text → Breaks (sizes before) text place rs y → ⊥
  not_broken {y} read passed more breaks =
      some_none y (one_outcome (sizes before) text _ _ _ _ (Some y) None passed read.passed (more, breaks) refl).2

  not_whole : {x : Refusal} {rs : Records} → Refused text before after x → Passed (sizes before) text (length text) rs → ⊥
  not_whole {x} r passed =
      some_none x (one_outcome (sizes before) text _ _ _ _ (Some x) None r.read.passed passed (r.more, r.breaks) refl).2

  -- the first node that calls what is not there, in the words of the counts
  moved : {counts : Counts} {rs : Records} {node : ℕ} → ReadTo text before after (length text) counts → Passed (sizes before) text (length text) rs → Uncalled rs node → FirstUncalled (front counts after).nodes counts.defs node
  moved {counts} {rs} {node} read passed first =
      let same = (one_outcome (sizes before) text _ _ _ _ None None read.passed passed refl refl).1 in
      let here : Uncalled (front counts after) node = subst (λ r. Uncalled r node) (sym same) first in
      subst (λ d. FirstUncalled (take counts.nodes after.nodes) d node) (length-take-le counts.defs after.defs read.defs.within) here

  pub refuses : {r : Result Counts Fault} → Outcome text before after r → Refuses text before r
  refuses (Outcome.too_long long kept is) =
      record {
        too_long = λ h. ap (λ x. Some x) is;
        broken_line = λ place rs x short passed more breaks. absurd (omega arith);
        undefined_call = λ rs node place short passed first at. absurd (omega arith);
      }
  refuses (Outcome.broken_line short broken) =
      record {
        too_long = λ long. absurd (omega arith);
        broken_line = λ place rs x h passed more breaks. same_refusal broken passed more breaks;
        undefined_call = λ rs node place h passed first at. absurd (not_whole broken passed);
      }
  refuses (Outcome.undefined_call {counts = counts} {node = j} {place = a} short read lowest stands is) =
      record {
        too_long = λ long. absurd (omega arith);
        broken_line = λ place rs x h passed more breaks. absurd (not_broken read passed more breaks);
        undefined_call = λ rs node place h passed first at.
            let node_is : j ≡ node = one_call lowest (moved read passed first) in
            let place_is : a ≡ place = same_place passed (subst (λ i. NodeAt (sizes before) text i a) node_is stands) at in
            ap (λ x. Some x) (is ∙ ap (λ i. refusal 4 Table i) place_is);
      }
  refuses (Outcome.accepted {counts = counts} short read called) =
      record {
        too_long = λ long. absurd (omega arith);
        broken_line = λ place rs x h passed more breaks. absurd (not_broken read passed more breaks);
        undefined_call = λ rs node place h passed first at.
            let low = moved read passed first in
            let nodes = take counts.nodes after.nodes in
            absurd (both_ways (call_there counts.defs (node_at nodes node)) low.here (called node (omega (arith, low.within, length-take-le counts.nodes after.nodes read.nodes.within))));
      }
