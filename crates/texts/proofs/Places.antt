-- The line of a node is found again. Assumes nothing.
use Rattle.std.proofs.Common.{◌≡◌, ℕ, ◌<◌, ◌≤◌, true, false, List, length, Some, None, Option, sym, refl, ap, ◌∙◌, subst, ⊎_elim, arith, eqb-true}
use borrow.Author.Tests.{clash}
use Rattle.std.proofs.lemmas.List.{length_push}
use Rattle.std.proofs.lemmas.Bool.{and_parts}
use Rattle.std.proofs.lemmas.Bool.Decides.{nat_tests}
use Rattle.records.proofs.Kept.{kept}
use Rattle.records.specs.declared.record.Line.{Line}
use Rattle.records.specs.declared.record.Line.TheVariants.{Node}
use Rattle.records.specs.declared.record.NodeRecord.{NodeRecord}
use Rattle.records.specs.Rules.{Records, added, no_defs}
use Rattle.texts.proofs.Apart.{same_line}
use Rattle.texts.proofs.Broken.{breach_from}
use Rattle.texts.proofs.Lines.{line_advances}
use Rattle.texts.proofs.Outcomes.{Onward, linear}
use Rattle.texts.specs.Contents.{Room, broken}
use Rattle.texts.specs.Lines.{LineAt, NoLine, is_node}
use Rattle.texts.specs.Readings.{NodeAt, Passed, no_records}
use Rattle.texts.specs.Walks.{GivesLine, is_line_of}
use Rattle.texts.specs.declared.walk.Lines.{Lines}
use Rattle.texts.proofs.Walks.{found_at}

-- no line begins at the end of the text
over : {text : List ℕ} {stop : ℕ} {line : Line} {end : ℕ} → stop ≡ length text → LineAt text stop line end → ⊥
over e found = omega (arith, e, line_advances found, found.within)

module _ {room : Room} {text : List ℕ} where
  ahead : {at stop : ℕ} {rs all : Records} {line : Line} {end : ℕ} → Onward room text at rs stop all → stop ≡ length text → LineAt text at line end → broken room rs line ≡ None
  ahead on e found = grind (arith, over, same_line)

  back : {at stop : ℕ} {rs all : Records} {line : Line} {end : ℕ} → Onward room text stop all at rs → stop ≡ length text → LineAt text at line end → broken room rs line ≡ None
  back on e found = grind (arith, over)

  ahead_end : {at stop : ℕ} {rs all : Records} → Onward room text at rs stop all → NoLine text at → rs ≡ all
  ahead_end on none = grind arith

  back_end : {at stop : ℕ} {rs all : Records} → Onward room text stop all at rs → stop ≡ length text → rs ≡ all
  back_end on e = grind (arith, over)

  -- in a text that is read whole, the line that follows keeps the rules
  pub goes_on : {at : ℕ} {rs all : Records} {line : Line} {end : ℕ} → Passed room text at rs → Passed room text (length text) all → LineAt text at line end → broken room rs line ≡ None
  goes_on p q found = ⊎_elim (λ on. ahead on refl found) (λ on. back on refl found) (linear room text p q)

  -- and where no line follows, that was all
  pub that_is_all : {at : ℕ} {rs all : Records} → Passed room text at rs → Passed room text (length text) all → NoLine text at → rs ≡ all
  that_is_all p q none = ⊎_elim (λ on. ahead_end on none) (λ on. back_end on refl) (linear room text p q)

  at_end : {at : ℕ} {rs all : Records} → Passed room text at rs → Passed room text (length text) all → at ≡ length text → rs ≡ all
  at_end p q e = ⊎_elim (λ on. sym (back_end on e)) (λ on. back_end on refl) (linear room text p q)

-- a good line of a node has the number of nodes before it
pub node_counts : (room : Room) (rs : Records) (r : NodeRecord) → broken room rs (Node r) ≡ None → r.node ≡ length rs.nodes
node_counts room rs r good =
    let order = (kept rs (Node r) (breach_from room rs (Node r) good)).order in
    eqb-true r.node (length rs.nodes) (and_parts (no_defs rs) _ order).1

-- such a line has a record
the_node : (n : ℕ) (line : Line) → is_node n line ≡ true → (r : NodeRecord) × (line ≡ Node r) × (r.node ≡ n)
the_node n line e = grind (arith, nat_tests)

-- a good line that is not that of node n leaves at most n nodes
still_few : (room : Room) (rs : Records) (n : ℕ) (line : Line) → broken room rs line ≡ None → is_node n line ≡ false → length rs.nodes ≤ n → length (added rs line).nodes ≤ n
still_few room rs n line good other few = grind (arith, nat_tests, length_push, node_counts)

-- a reading comes to this place with at most n nodes
pub record Sofar (room : Room) (text : List ℕ) (n at : ℕ) : Type 0 where
  pub before : Records
  pub passed : Passed room text at before
  pub few : length before.nodes ≤ n

abbrev pub Search : List ℕ → ℕ → ℕ → Type 0
Search text n at = (room : Room) (all : Records) → Passed room text (length text) all → n < length all.nodes → Sofar room text n at

-- the walk comes to the next line with at most n nodes
pub record Searched (text : List ℕ) (n : ℕ) (lines : Lines) : Type 0 where
  pub of : lines.text.now ≡ text
  pub search : Search text n lines.at

pub searched_none : {text : List ℕ} {n : ℕ} {lines : Lines} → lines.text.now ≡ text → lines.at ≡ 0 → Searched text n lines
searched_none {text} is begin =
    record { of = is; search = λ room all whole lt. record { before = _; passed = subst (λ at. Passed room text at no_records) (sym begin) Passed.begin; few = omega arith } }

-- where no line stands, the text is not read whole
not_whole : {text : List ℕ} {n at : ℕ} → Search text n at → NoLine text at → (room : Room) (all : Records) → Passed room text (length text) all → n < length all.nodes → ⊥
not_whole search none room all whole lt =
    let old = search room all whole lt in
    omega (arith, old.few, ap (λ (rs : Records). length rs.nodes) (that_is_all old.passed whole none))

-- all lines are passed, so the text has at most n nodes
pub searched_all : {text : List ℕ} {n : ℕ} {lines : Lines} → Searched text n lines → lines.at ≡ length lines.text.now → (room : Room) (all : Records) → Passed room text (length text) all → n < length all.nodes → ⊥
searched_all searched end room all whole lt =
    let old = searched.search room all whole lt in
    let last = end ∙ ap length searched.of in
    omega (arith, old.few, ap (λ (rs : Records). length rs.nodes) (at_end old.passed whole last))

module _ {text : List ℕ} {n : ℕ} {lines : Lines} (searched : Searched text n lines) (after : Lines) (at : ℕ) where
  pub searched_more : (o : Option Line) → GivesLine lines (Some (at, o)) after → is_line_of n o ≡ false → Searched text n after
  searched_more None given other =
      let none = subst (λ t. NoLine t lines.at) searched.of (subst (NoLine lines.text.now) given.place given.none) in
      record { of = given.text ∙ searched.of; search = λ room all whole lt. absurd (not_whole searched.search none room all whole lt) }
  searched_more (Some line) given other =
      let found = found_at searched.of given in
      record {
        of = given.text ∙ searched.of;
        search = λ room all whole lt.
            let old = searched.search room all whole lt in
            let good = goes_on old.passed whole found in
            record { before = _; passed = Passed.next old.passed found good; few = still_few room old.before n line good other old.few };
      }

  pub searched_found : (o : Option Line) → GivesLine lines (Some (at, o)) after → is_line_of n o ≡ true → (room : Room) (all : Records) → Passed room text (length text) all → n < length all.nodes → NodeAt room text n at
  searched_found None given is room all whole lt = absurd (clash is)
  searched_found (Some line) given is room all whole lt =
      let old = searched.search room all whole lt in
      let node = the_node n line is in
      let found = subst (λ l. LineAt text lines.at l after.at) node.1 (found_at searched.of given) in
      subst (NodeAt room text n) (sym given.place) (record { before = old.before; passed = old.passed; node = node.0; number = node.2; end = after.at; found = found })
