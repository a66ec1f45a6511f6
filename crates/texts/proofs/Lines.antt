-- Lines as they are read. Assumes nothing.
use Rattle.std.proofs.Common.{◌≡◌, ℕ, ◌+◌, ◌-◌, ◌<◌, ◌≤◌, List, [], ◌++◌, length, drop, Some, Option, MatchOption, Bor, ap, ◌∙◌, arith, append_assoc}
use Rattle.std.proofs.lemmas.List.{length-append, length-drop, drop-drop}
use Rattle.std.proofs.lemmas.List.Prefix.{front_rest}
use Rattle.records.specs.declared.record.Kind.{Kind}
use Rattle.records.specs.declared.record.Line.{Line}
use Rattle.records.specs.declared.record.Line.TheVariants.{Policy, Bad, Edge, Quota, Mark, Node, Def, Tariff}
use Rattle.records.specs.Kinds.{letter_of}
use Rattle.texts.specs.Fields.{Reads}
use Rattle.texts.specs.Lines.{Begins, LineAt, line_of, NoneOf, ReadsLine}

-- a letter is that of one kind
pub same_letter : (j k : Kind) → letter_of j ≡ letter_of k → j ≡ k
same_letter j k e = grind arith

-- what is found first, or else next
or_next : {X : Type 0} (Before Next : Type 0) (Found : X → Type 0) (a b : Option X) (Called : Type 0) → MatchOption a Before Found → MatchOption a Called (λ x. b ≡ Some x) → (Called → MatchOption b Next Found) → MatchOption b (Before × Next) Found
or_next Before Next Found a b Called before called next = grind arith

module _ (text : List ℕ) where
  abbrev pub Found : Line × Bor (List ℕ) → Type 0
  Found p = Begins text p.0 p.1.now

  abbrev pub NoneOfEight : Type 0
  NoneOfEight = ((((((NoneOf Node text × NoneOf Edge text) × NoneOf Policy text) × NoneOf Bad text) × NoneOf Quota text) × NoneOf Mark text) × NoneOf Def text) × NoneOf Tariff text

  no_line : NoneOfEight → (line : Line) (rest : List ℕ) → ¬ (Begins text line rest)
  no_line none line rest found = grind arith

  one_or_none : (r : Option (Line × Bor (List ℕ))) → MatchOption r NoneOfEight Found → Reads (Begins text) r
  one_or_none r one = grind (arith, no_line)

  -- the first that is read of the eight kinds of line
  pub first_of_eight : (a b c d e f g h : Option (Line × Bor (List ℕ))) (B C D E F G H : Type 0) → ReadsLine Node text a → MatchOption a B (λ x. b ≡ Some x) → (B → ReadsLine Edge text b) → MatchOption b C (λ x. c ≡ Some x) → (C → ReadsLine Policy text c) → MatchOption c D (λ x. d ≡ Some x) → (D → ReadsLine Bad text d) → MatchOption d E (λ x. e ≡ Some x) → (E → ReadsLine Quota text e) → MatchOption e F (λ x. f ≡ Some x) → (F → ReadsLine Mark text f) → MatchOption f G (λ x. g ≡ Some x) → (G → ReadsLine Def text g) → MatchOption g H (λ x. h ≡ Some x) → (H → ReadsLine Tariff text h) → Reads (Begins text) h
  first_of_eight a b c d e f g h B C D E F G H node or_b edge or_c policy or_d bad or_e quota or_f mark or_g def or_h tariff =
      let two = or_next (NoneOf Node text) (NoneOf Edge text) Found a b B node or_b edge in
      let three = or_next _ (NoneOf Policy text) Found b c C two or_c policy in
      let four = or_next _ (NoneOf Bad text) Found c d D three or_d bad in
      let five = or_next _ (NoneOf Quota text) Found d e E four or_e quota in
      let six = or_next _ (NoneOf Mark text) Found e f F five or_f mark in
      let seven = or_next _ (NoneOf Def text) Found f g G six or_g def in
      one_or_none h (or_next _ (NoneOf Tariff text) Found g h H seven or_h tariff)

-- a line, and then what follows
pub line_then : (line : Line) (rest : List ℕ) → line_of line rest ≡ line_of line [] ++ rest
line_then line rest = grind (arith, append_assoc)

-- where a line of a text ends
pub line_stands : (text : List ℕ) (at : ℕ) (line : Line) (rest : List ℕ) → at ≤ length text → Begins (drop at text) line rest → LineAt text at line (length text - length rest)
line_stands text at line rest in_text found =
    let whole = line_of line [] in
    let reads = found.reads ∙ line_then line rest in
    let long : length text ≡ at + length whole + length rest = omega (arith, length-drop at text, ap length reads, length-append whole rest) in
    let end : length text - length rest ≡ at + length whole = omega arith in
    let tail : drop (length text - length rest) text ≡ rest = rw (end, ← drop-drop) (front_rest (drop at text) whole rest reads) in
    record {
      formed = found.formed;
      within = omega arith;
      reads = rw tail found.reads;
    }

longer : (line : Line) (rest : List ℕ) → length rest < length (line_of line rest)
longer line rest = grind (arith, length-append {A = ℕ})

-- each line takes some bytes
pub line_advances : {text : List ℕ} {at : ℕ} {line : Line} {end : ℕ} → LineAt text at line end → at < end
line_advances {text} {at} {line} {end} found =
    omega (arith, found.within, ap length found.reads, length-drop at text, length-drop end text, longer line (drop end text))
