-- One line more of a reading. Assumes nothing.
use Rattle.std.proofs.Common.{◌≡◌, ℕ, ◌-◌, ◌≤◌, List, length, drop, Some, None, Option, rules, sym, ap, ◌∙◌, subst, inr, arith}
use Rattle.std.proofs.lemmas.List.{drop-drop}
use Rattle.records.specs.declared.record.Line.{Line}
use Rattle.records.specs.declared.fault.Refusal.{Refusal}
use Rattle.records.specs.Faults.{at_place}
use Rattle.texts.proofs.Broken.{no_breach, one_breach}
use Rattle.texts.proofs.Walks.{found_at}
use Rattle.texts.specs.Contents.{Contents, Grown, Overwritten, broken, contents, sizes}
use Rattle.texts.specs.Lines.{LineAt}
use Rattle.texts.specs.Readings.{Passed, ReadTo, Refused, no_counts}
use Rattle.texts.specs.declared.lists.Counts.{Counts}
use Rattle.texts.specs.Stores.{Put, Same, Unchanged, records_of, room_of}
use Rattle.texts.specs.Walks.{StandsNext}
use Rattle.texts.specs.declared.store.Store.{Store}
use Rattle.texts.specs.declared.walk.Lines.{Lines}

over_none : {X : Type 0} (xs : List X) → Overwritten xs xs 0
over_none xs = search rules

-- lists that agree from n on agree from further on
further : {X : Type 0} (xs ys : List X) (n m : ℕ) → n ≤ m → drop n xs ≡ drop n ys → drop m xs ≡ drop m ys
further xs ys n m le e = grind (arith, drop-drop (m - n) n xs, drop-drop (m - n) n ys)

-- the lists are as long as they were
pub same_sizes : {text : List ℕ} {before after : Contents} {at : ℕ} {counts : Counts} → ReadTo text before after at counts → sizes after ≡ sizes before
same_sizes read = search rules

-- more records in a list that is written over up to its end
over_on : {X : Type 0} {before old new : List X} {n m : ℕ} → Overwritten before old n → Grown old new n m → Overwritten before new m
over_on over grown = search (rules, further)

-- the same lists all the way
same_on : {xs ys zs : Store} → Same xs ys → Same ys zs → Same xs zs
same_on e f = search rules

-- the lines up to the next are read
pub record ReadSoFar (text : List ℕ) (start : Store) (lines : Lines) (store : Store) : Type 0 where
  pub of : lines.text.now ≡ text
  pub same : Same start store
  pub read : ReadTo text (contents start.lists.now) (contents store.lists.now) lines.at store.counts

-- nothing is read yet
pub read_none : {text : List ℕ} {lines : Lines} {start : Store} → lines.text.now ≡ text → lines.at ≡ 0 → start.counts ≡ no_counts → ReadSoFar text start lines start
read_none is begin none =
    record { of = is; same = search rules; read = rw (begin, none) (search (rules, over_none, Passed.begin)) }

module _ {text : List ℕ} {start store : Store} {lines after : Lines} {at : ℕ} {line : Line} (sofar : ReadSoFar text start lines store) (next : StandsNext at line lines after) where
  found : LineAt text lines.at line after.at
  found = found_at sofar.of next

  here : {o : Option Refusal} → o ≡ at_place at (broken (room_of store) (records_of store) line) → o ≡ at_place lines.at (broken (room_of store) (records_of store) line)
  here e = cc

  pub read_more : {then : Store} → None ≡ at_place at (broken (room_of store) (records_of store) line) → Put line store then → ReadSoFar text start after then
  read_more told put =
      let read = sofar.read in
      let good = no_breach lines.at _ (here told) in
      let before = sizes (contents start.lists.now) in
      let more = Passed.next read.passed found (subst (λ s. broken s (records_of store) line ≡ None) (same_sizes read) good) in
      record {
        of = next.text ∙ sofar.of;
        same = same_on sofar.same put.same;
        read = let passed = subst (Passed before text after.at) (sym put.records) more in search (rules, over_on);
      }

  -- the next line breaks a rule
  pub refused_rule : {then : Store} {x : Refusal} → Some x ≡ at_place at (broken (room_of store) (records_of store) line) → Unchanged store then → Refused text (contents start.lists.now) (contents then.lists.now) x
  refused_rule {x = x} told kept =
      let rule = one_breach lines.at (broken (room_of store) (records_of store) line) x (here told) in
      subst (λ ls. Refused text (contents start.lists.now) ls x) (sym kept.contents) (record {
        place = lines.at;
        counts = store.counts;
        read = sofar.read;
        more = omega (arith, ap length sofar.of);
        breaks = inr (record {
          line = line;
          end = after.at;
          found = found;
          number = rule.0;
          rule = subst (λ s. broken s (records_of store) line ≡ Some rule.0) (same_sizes sofar.read) rule.1;
          is = rule.2;
        });
      })
