-- A text has one outcome. Assumes nothing.
use Rattle.std.proofs.Common.{◌≡◌, ℕ, ◌≤◌, List, length, take, Some, None, Ok, Err, Option, Result, IsErrAnd, sym, refl, ap, ◌∙◌, subst, ⊎_elim, arith}
use borrow.Author.Tests.{both_ways}
use Rattle.std.proofs.lemmas.List.{length_push, length-take-le, take-append-drop}
use Rattle.std.proofs.lemmas.Result.{err_from_is_err_and}
use Rattle.records.proofs.Breaks.{one_call}
use Rattle.records.proofs.Kept.{some_none}
use Rattle.records.proofs.Told.{told_apart}
use Rattle.records.specs.declared.fault.Fault.{Fault}
use Rattle.records.specs.declared.fault.Layer.TheVariants.{Table}
use Rattle.records.specs.declared.record.Line.{Line}
use Rattle.records.specs.declared.record.Line.TheVariants.{Node}
use Rattle.records.specs.declared.record.NodeRecord.{NodeRecord}
use Rattle.records.specs.declared.fault.Refusal.{Refusal}
use Rattle.records.specs.Faults.{refusal, told}
use Rattle.records.specs.Rules.{AllCalled, FirstUncalled, Records, added, call_there, node_at}
use Rattle.texts.proofs.Apart.{same_line}
use Rattle.texts.proofs.Outcomes.{Ends, Onward, linear, one_outcome}
use Rattle.texts.proofs.Places.{goes_on, node_counts}
use Rattle.texts.specs.Contents.{Contents, Overwritten, Room, front, sizes}
use Rattle.texts.specs.Lines.{LineAt}
use Rattle.texts.specs.Readings.{AllThere, NodeAt, OnlyOutcome, Outcome, Passed, ReadTo, Refused, UndefinedCall}
use Rattle.texts.specs.declared.lists.Counts.{Counts}

-- a list with the same front and the same rest
same_column : {X : Type 0} {before xs ys : List X} {n m : ℕ} → Overwritten before xs n → Overwritten before ys m → take n xs ≡ take m ys → (n ≡ m) × (xs ≡ ys)
same_column {xs = xs} {ys} {n} {m} p q e = grind (arith, ap length e, length-take-le n xs p.within, length-take-le m ys q.within, take-append-drop n xs, take-append-drop m ys)

-- two readings that come to the same records
same_read : {text : List ℕ} {before xs ys : Contents} {at place : ℕ} {n m : Counts} → ReadTo text before xs at n → ReadTo text before ys place m → front n xs ≡ front m ys → (n ≡ m) × (xs ≡ ys)
same_read p q e = grind (arith, same_column p.policies q.policies, same_column p.bads q.bads, same_column p.edges q.edges, same_column p.marks q.marks, same_column p.nodes q.nodes, same_column p.defs q.defs, same_column p.tariffs q.tariffs)

-- two readings that end
record SameEnd (xs ys : Contents) (n m : Counts) (o p : Option Refusal) : Type 0 where
  end : o ≡ p
  counts : n ≡ m
  lists : xs ≡ ys

same_end : {text : List ℕ} {before xs ys : Contents} {at place : ℕ} {n m : Counts} (o p : Option Refusal) → ReadTo text before xs at n → ReadTo text before ys place m → Ends (sizes before) text at (front n xs) o → Ends (sizes before) text place (front m ys) p → SameEnd xs ys n m o p
same_end {text} {before} o p x y e f =
    let same = one_outcome (sizes before) text _ _ _ _ o p x.passed y.passed e f in
    let lists = same_read x y same.1 in
    record { end = same.2; counts = lists.0; lists = lists.1 }

-- later lines take no nodes away
grows : (rs : Records) (line : Line) → length rs.nodes ≤ length (added rs line).nodes
grows rs line = grind (arith, length_push)

module _ {room : Room} {text : List ℕ} where
  onward_grows : {at end : ℕ} {rs last : Records} → Onward room text at rs end last → length rs.nodes ≤ length last.nodes
  onward_grows Onward.here = omega arith
  onward_grows (Onward.step {rs = rs} {line = line} found good on) = omega (arith, grows rs line, onward_grows on)

  -- behind the line of a node there are more nodes
  no_further : {at end : ℕ} {rs last : Records} {node : NodeRecord} {stop : ℕ} → Onward room text at rs end last → LineAt text at (Node node) stop → length rs.nodes ≡ length last.nodes → at ≡ end
  no_further on found e = grind (arith, same_line, onward_grows, length_push)

  module _ {all : Records} (whole : Passed room text (length text) all) where
    count_at : {n at : ℕ} → (x : NodeAt room text n at) → length x.before.nodes ≡ n
    count_at x = sym (node_counts room x.before x.node (goes_on x.passed whole x.found)) ∙ x.number

    -- the line of a node stands at one place
    pub same_place : {n at place : ℕ} → NodeAt room text n at → NodeAt room text n place → at ≡ place
    same_place x y =
        ⊎_elim (λ on. no_further on x.found (count_at x ∙ sym (count_at y))) (λ on. sym (no_further on y.found (count_at y ∙ sym (count_at x)))) (linear room text x.passed y.passed)

module _ {text : List ℕ} {before : Contents} where
  both_whole : {xs ys : Contents} {n m : Counts} → ReadTo text before xs (length text) n → ReadTo text before ys (length text) m → (n ≡ m) × (xs ≡ ys)
  both_whole p q = let same = same_end None None p q refl refl in (same.counts, same.lists)

  both_broken : {xs ys : Contents} {x y : Refusal} → Refused text before xs x → Refused text before ys y → (x ≡ y) × (xs ≡ ys)
  both_broken {x = x} {y} p q = let same = same_end (Some x) (Some y) p.read q.read (p.more, p.breaks) (q.more, q.breaks) in let end = same.end in ((cc), same.lists)

  -- a line that breaks a rule, or the end of the text
  not_both : {xs ys : Contents} {x : Refusal} {counts : Counts} → Refused text before xs x → ReadTo text before ys (length text) counts → ⊥
  not_both {x = x} r read = some_none x (same_end (Some x) None r.read read (r.more, r.breaks) refl).end

  module _ {xs ys : Contents} {n m : Counts} {node : ℕ} (p : ReadTo text before xs (length text) n) (q : ReadTo text before ys (length text) m) (first : FirstUncalled (front n xs).nodes n.defs node) where
    moved : FirstUncalled (front m ys).nodes m.defs node
    moved =
        let same = both_whole p q in
        subst (λ (c : Counts). FirstUncalled (take c.nodes ys.nodes) c.defs node) same.0 (subst (λ (ls : Contents). FirstUncalled (take n.nodes ls.nodes) n.defs node) same.1 first)

    -- a call that is not there, or all calls there
    not_all_called : AllCalled (front m ys).nodes m.defs m.nodes → ⊥
    not_all_called all =
        let here = moved in
        both_ways (call_there m.defs (node_at (take m.nodes ys.nodes) node)) here.here (all node (omega (arith, here.within, length-take-le m.nodes ys.nodes q.nodes.within)))

    -- the lowest such node has its line at one place
    one_call_place : {k a b : ℕ} → FirstUncalled (front m ys).nodes m.defs k → NodeAt (sizes before) text node a → NodeAt (sizes before) text k b → a ≡ b
    one_call_place {a = a} first' at at' = same_place p.passed (subst (λ i. NodeAt (sizes before) text i a) (one_call moved first') at) at'

  pub one_way : {xs ys : Contents} {r s : Result Counts Fault} → Outcome text before xs r → Outcome text before ys s → (r ≡ s) × (xs ≡ ys)
  one_way (Outcome.too_long {fault = f} _ kept told_f) (Outcome.too_long {fault = g} _ kept' told_g) = (ap (λ x. Err x) (told_apart f g (told_f ∙ sym told_g)), kept ∙ sym kept')
  one_way (Outcome.too_long long _ _) (Outcome.broken_line short _) = absurd (omega arith)
  one_way (Outcome.too_long long _ _) (Outcome.undefined_call short _ _ _ _) = absurd (omega arith)
  one_way (Outcome.too_long long _ _) (Outcome.accepted short _ _) = absurd (omega arith)
  one_way (Outcome.broken_line short _) (Outcome.too_long long _ _) = absurd (omega arith)
  one_way (Outcome.broken_line {fault = f} _ p) (Outcome.broken_line {fault = g} _ q) = let same = both_broken p q in (ap (λ x. Err x) (told_apart f g same.0), same.1)
  one_way (Outcome.broken_line _ p) (Outcome.undefined_call _ q _ _ _) = absurd (not_both p q)
  one_way (Outcome.broken_line _ p) (Outcome.accepted _ q _) = absurd (not_both p q)
  one_way (Outcome.undefined_call short _ _ _ _) (Outcome.too_long long _ _) = absurd (omega arith)
  one_way (Outcome.undefined_call _ p _ _ _) (Outcome.broken_line _ q) = absurd (not_both q p)
  one_way (Outcome.undefined_call {fault = f} _ p first at told_f) (Outcome.undefined_call {fault = g} _ q first' at' told_g) =
      let place = one_call_place p q first first' at at' in
      (ap (λ x. Err x) (told_apart f g (told_f ∙ ap (λ i. refusal 4 Table i) place ∙ sym told_g)), (both_whole p q).1)
  one_way (Outcome.undefined_call _ p first _ _) (Outcome.accepted _ q all) = absurd (not_all_called p q first all)
  one_way (Outcome.accepted short _ _) (Outcome.too_long long _ _) = absurd (omega arith)
  one_way (Outcome.accepted _ p _) (Outcome.broken_line _ q) = absurd (not_both q p)
  one_way (Outcome.accepted _ p all) (Outcome.undefined_call _ q first _ _) = absurd (not_all_called q p first all)
  one_way (Outcome.accepted _ p _) (Outcome.accepted _ q _) = let same = both_whole p q in (ap (λ x. Ok x) same.0, same.1)

  pub only : {after : Contents} {r : Result Counts Fault} → Outcome text before after r → OnlyOutcome text before after r
  only o other answer p = one_way p o

-- a refusal that is passed on
pub passed_on : {text : List ℕ} {before after : Contents} {fault : Fault} (r : Result Counts Fault) → IsErrAnd r (λ f. f ≡ fault) → Outcome text before after (Err fault) → Outcome text before after r
passed_on r e o = let p = err_from_is_err_and r e in rw (p.1, p.2) o

-- the last test of a reading
module _ {text : List ℕ} {before after : Contents} {counts : Counts} {rs : Records} (short : length text ≤ 65536) (read : ReadTo text before after (length text) counts) (is : rs ≡ front counts after) where
  defs : length (front counts after).defs ≡ counts.defs
  defs = length-take-le counts.defs after.defs read.defs.within

  pub uncalled : {fault : Fault} → UndefinedCall text rs (told fault) → Outcome text before after (Err fault)
  uncalled {fault} call =
      let moved = subst (λ r. UndefinedCall text r (told fault)) is call in
      let first = subst (λ d. FirstUncalled (front counts after).nodes d moved.node) defs moved.first in
      Outcome.undefined_call short read first (moved.stands _ _ read.passed first.within) moved.is

  pub called : AllThere rs → Outcome text before after (Ok counts)
  called all =
      let moved = subst AllThere is all in
      let nodes = length-take-le counts.nodes after.nodes read.nodes.within in
      Outcome.accepted short read (subst (λ n. AllCalled (front counts after).nodes counts.defs n) nodes (subst (λ d. AllCalled (front counts after).nodes d (length (front counts after).nodes)) defs moved))
