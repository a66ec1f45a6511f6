-- A text is read whole exactly when it is the lines of its records. Assumes nothing.
use Rattle.std.proofs.Common.{◌≡◌, ℕ, ◌+◌, ◌≤◌, true, List, [], ◌∷◌, ◌++◌, map, length, drop, None, Option, sym, refl, ap, ◌∙◌, subst, append_assoc, append-nil, arith, eqb-true}
use lib.Seq.{drop-append_seam}
use Rattle.std.proofs.lemmas.List.{nil_from_length, drop_all, drop-drop, length-append, length-drop, map_push}
use Rattle.records.proofs.Kept.{kept}
use Rattle.records.specs.declared.record.Line.{Line}
use Rattle.records.specs.declared.record.Line.TheVariants.{Policy, Bad, Edge, Mark, Node, Def, Tariff}
use Rattle.records.specs.declared.record.PolicyRecord.{PolicyRecord}
use Rattle.records.specs.declared.record.BadRecord.{BadRecord}
use Rattle.records.specs.declared.record.EdgeRecord.{EdgeRecord}
use Rattle.records.specs.declared.record.MarkRecord.{MarkRecord}
use Rattle.records.specs.declared.record.NodeRecord.{NodeRecord}
use Rattle.records.specs.declared.record.DefRecord.{DefRecord}
use Rattle.records.specs.declared.record.TariffRecord.{TariffRecord}
use Rattle.records.specs.Rules.{Records, added, in_order}
use Rattle.texts.proofs.Broken.{breach_from}
use Rattle.texts.proofs.Lines.{line_then}
use Rattle.texts.proofs.Outcomes.{Onward, from_begin}
use Rattle.texts.specs.Contents.{Room}
use Rattle.texts.specs.Lines.{Formed, LineAt, line_of}
use Rattle.texts.specs.Readings.{Passed, no_records}
use Rattle.texts.specs.Whole.{Keeps, ReadAsWritten, Written, lines_of, quota_lines, text_of}

-- the records that lines say, after those before
abbrev said : Records → List Line → Records
said rs [] = rs
said rs (l ∷ ls) = said (added rs l) ls

-- lines, and what follows them
abbrev written_on : List Line → List ℕ → List ℕ
written_on [] rest = rest
written_on (l ∷ ls) rest = line_of l (written_on ls rest)

written_all : (ls : List Line) → written_on ls [] ≡ text_of ls
written_all [] = refl
written_all (l ∷ ls) = ap (line_of l) (written_all ls)

-- the lines from one place to another
record Between (room : Room) (text : List ℕ) (at : ℕ) (rs : Records) (end : ℕ) (last : Records) : Type 0 where
  lines : List Line
  reads : drop at text ≡ written_on lines (drop end text)
  keeps : Keeps room rs lines
  says : said rs lines ≡ last

between : {room : Room} {text : List ℕ} {at end : ℕ} {rs last : Records} → Onward room text at rs end last → Between room text at rs end last
between Onward.here = record { lines = []; reads = refl; keeps = tt; says = refl }
between (Onward.step {line = line} found good on) =
    let more = between on in
    record { lines = line ∷ more.lines; reads = found.reads ∙ ap (line_of line) more.reads; keeps = (found.formed, good, more.keeps); says = more.says }

-- a line in its order comes behind all lines so far
lines_added : (rs : Records) (l : Line) → in_order rs l ≡ true → lines_of (added rs l) ≡ lines_of rs ++ l ∷ []
lines_added rs l e = grind (arith, append_assoc, append-nil, map_push, eqb-true, nil_from_length rs.bads, nil_from_length rs.edges, nil_from_length rs.marks, nil_from_length rs.nodes, nil_from_length rs.defs, nil_from_length rs.tariffs)

-- the lines of what good lines say are those lines
lines_said : (room : Room) (rs : Records) (ls : List Line) → Keeps room rs ls → lines_of (said rs ls) ≡ lines_of rs ++ ls
lines_said room rs [] keeps = sym (append-nil (lines_of rs))
lines_said room rs (l ∷ ls) keeps =
    let order = (kept rs l (breach_from room rs l keeps.1)).order in
    lines_said room (added rs l) ls keeps.2 ∙ ap (λ r. r ++ ls) (lines_added rs l order) ∙ append_assoc (lines_of rs) (l ∷ []) ls

pub read_is_written : (room : Room) (text : List ℕ) (rs : Records) → Passed room text (length text) rs → Written room text rs
read_is_written room text rs passed =
    let all = between (from_begin room text passed) in
    let end : drop (length text) text ≡ [] = drop_all (length text) text (omega arith) in
    let same : lines_of rs ≡ all.lines = ap lines_of (sym all.says) ∙ lines_said room no_records all.lines all.keeps in
    record {
      is = all.reads ∙ ap (written_on all.lines) end ∙ written_all all.lines ∙ ap text_of (sym same);
      keeps = subst (Keeps room no_records) (sym same) all.keeps;
    }

-- a line that is written at a place stands there
stands : (text : List ℕ) (at : ℕ) (l : Line) (rest : List ℕ) → at ≤ length text → Formed l → drop at text ≡ line_of l rest → LineAt text at l (at + length (line_of l [])) × (drop (at + length (line_of l [])) text ≡ rest)
stands text at l rest inside formed e =
    let size = length (line_of l []) in
    let split = e ∙ line_then l rest in
    let behind : drop (at + size) text ≡ rest = sym (drop-drop size at text) ∙ ap (λ t. drop size t) split ∙ drop-append_seam (line_of l []) rest in
    (record { formed = formed; within = omega (arith, ap length split, length-append (line_of l []) rest, length-drop at text); reads = e ∙ ap (line_of l) (sym behind) }, behind)

-- lines that are written and keep the rules are read
read_on : (room : Room) (text : List ℕ) (ls : List Line) (at : ℕ) (rs : Records) → Passed room text at rs → at ≤ length text → drop at text ≡ text_of ls → Keeps room rs ls → Passed room text (length text) (said rs ls)
read_on room text [] at rs passed inside e keeps =
    let end : at ≡ length text = omega (arith, ap length e, length-drop at text) in
    subst (λ k. Passed room text k rs) end passed
read_on room text (l ∷ ls) at rs passed inside e keeps =
    let found = stands text at l (text_of ls) inside keeps.0 e in
    read_on room text ls (at + length (line_of l [])) (added rs l) (Passed.next passed found.0 keeps.1) found.0.within found.1 keeps.2

-- lines say what the first of them say, and then the others
said_append : (rs : Records) (ls ms : List Line) → said rs (ls ++ ms) ≡ said (said rs ls) ms
said_append rs [] ms = refl
said_append rs (l ∷ ls) ms = said_append (added rs l) ls ms

-- lines of one kind say records of that kind
said_policies : (rs : Records) (xs : List PolicyRecord) → said rs (map Policy xs) ≡ record { policies = rs.policies ++ xs; bads = rs.bads; edges = rs.edges; quota = rs.quota; marks = rs.marks; nodes = rs.nodes; defs = rs.defs; tariffs = rs.tariffs }
said_policies rs [] = simp append-nil
said_policies rs (x ∷ xs) = said_policies (added rs (Policy x)) xs ∙ simp append_assoc

said_bads : (rs : Records) (xs : List BadRecord) → said rs (map Bad xs) ≡ record { policies = rs.policies; bads = rs.bads ++ xs; edges = rs.edges; quota = rs.quota; marks = rs.marks; nodes = rs.nodes; defs = rs.defs; tariffs = rs.tariffs }
said_bads rs [] = simp append-nil
said_bads rs (x ∷ xs) = said_bads (added rs (Bad x)) xs ∙ simp append_assoc

said_edges : (rs : Records) (xs : List EdgeRecord) → said rs (map Edge xs) ≡ record { policies = rs.policies; bads = rs.bads; edges = rs.edges ++ xs; quota = rs.quota; marks = rs.marks; nodes = rs.nodes; defs = rs.defs; tariffs = rs.tariffs }
said_edges rs [] = simp append-nil
said_edges rs (x ∷ xs) = said_edges (added rs (Edge x)) xs ∙ simp append_assoc

said_marks : (rs : Records) (xs : List MarkRecord) → said rs (map Mark xs) ≡ record { policies = rs.policies; bads = rs.bads; edges = rs.edges; quota = rs.quota; marks = rs.marks ++ xs; nodes = rs.nodes; defs = rs.defs; tariffs = rs.tariffs }
said_marks rs [] = simp append-nil
said_marks rs (x ∷ xs) = said_marks (added rs (Mark x)) xs ∙ simp append_assoc

said_nodes : (rs : Records) (xs : List NodeRecord) → said rs (map Node xs) ≡ record { policies = rs.policies; bads = rs.bads; edges = rs.edges; quota = rs.quota; marks = rs.marks; nodes = rs.nodes ++ xs; defs = rs.defs; tariffs = rs.tariffs }
said_nodes rs [] = simp append-nil
said_nodes rs (x ∷ xs) = said_nodes (added rs (Node x)) xs ∙ simp append_assoc

said_defs : (rs : Records) (xs : List DefRecord) → said rs (map Def xs) ≡ record { policies = rs.policies; bads = rs.bads; edges = rs.edges; quota = rs.quota; marks = rs.marks; nodes = rs.nodes; defs = rs.defs ++ xs; tariffs = rs.tariffs }
said_defs rs [] = simp append-nil
said_defs rs (x ∷ xs) = said_defs (added rs (Def x)) xs ∙ simp append_assoc

said_tariffs : (rs : Records) (xs : List TariffRecord) → said rs (map Tariff xs) ≡ record { policies = rs.policies; bads = rs.bads; edges = rs.edges; quota = rs.quota; marks = rs.marks; nodes = rs.nodes; defs = rs.defs; tariffs = rs.tariffs ++ xs }
said_tariffs rs [] = simp append-nil
said_tariffs rs (x ∷ xs) = said_tariffs (added rs (Tariff x)) xs ∙ simp append_assoc

said_quota : (policies : List PolicyRecord) (bads : List BadRecord) (edges : List EdgeRecord) (q : Option ℕ) → said (record { policies = policies; bads = bads; edges = edges; quota = None; marks = []; nodes = []; defs = []; tariffs = [] }) (quota_lines q) ≡ record { policies = policies; bads = bads; edges = edges; quota = q; marks = []; nodes = []; defs = []; tariffs = [] }
said_quota policies bads edges q = grind arith

-- the lines of records say those records
said_back : (rs : Records) → said no_records (lines_of rs) ≡ rs
said_back rs = simp (said_append, said_policies, said_bads, said_edges, said_quota, said_marks, said_nodes, said_defs, said_tariffs)

pub written_is_read : (room : Room) (text : List ℕ) (rs : Records) → Written room text rs → Passed room text (length text) rs
written_is_read room text rs written =
    subst (Passed room text (length text)) (said_back rs) (read_on room text (lines_of rs) 0 no_records Passed.begin (omega arith) written.is written.keeps)

pub read_as_written : ReadAsWritten
read_as_written room text rs = (read_is_written room text rs, written_is_read room text rs)
