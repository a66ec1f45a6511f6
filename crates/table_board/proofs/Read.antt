-- What the bads and the edges say of a state. Assumes nothing.
use Rattle.std.proofs.Common.{◌≡◌, ℕ, ◌<◌, cond, ◌&&◌, eqb, List, [], ◌∷◌, length, get_or, set, Some, None, unwrap_or, fold, refl, arith}
use Rattle.std.specs.List.{list_any}
use Rattle.std.proofs.lemmas.Bool.Decides.{nat_tests}
use Rattle.std.proofs.lemmas.Grind.{common_steps}
use Rattle.records.specs.declared.record.BadRecord.{BadRecord}
use Rattle.records.specs.declared.record.EdgeRecord.{EdgeRecord}
use Rattle.boards.specs.Tables.{bad_in, edge_to, is_edge}

pub bad_in-list_any : (bads : List BadRecord) (p q : ℕ) → bad_in bads p q ≡ list_any (λ r. eqb r.policy p && eqb r.state q) bads
bad_in-list_any [] p q = refl
bad_in-list_any (r ∷ bads) p q = grind (arith, bad_in-list_any bads p q)

-- an edge from state q of policy p is written at its event
abbrev pub written : ℕ → ℕ → List ℕ → EdgeRecord → List ℕ
written p q next r = cond (eqb r.policy p && eqb r.from q) (set next r.event r.to) next

length-written : (p q : ℕ) (next : List ℕ) (r : EdgeRecord) → length (written p q next r) ≡ length next
length-written p q next r = grind (arith, nat_tests, common_steps)

get_or-written : (p q e : ℕ) (next : List ℕ) (r : EdgeRecord) → e < length next → get_or (written p q next r) e 0 ≡ unwrap_or (cond (is_edge r p q e) (Some r.to) None) (get_or next e 0)
get_or-written p q e next r low = grind (arith, nat_tests, common_steps)

pub length-fold-written : (edges : List EdgeRecord) (p q : ℕ) (next : List ℕ) → length (fold (written p q) next edges) ≡ length next
length-fold-written [] p q next = refl
length-fold-written (r ∷ edges) p q next = grind (arith, length-written, length-fold-written edges p q)

pub get_or-fold-written : (edges : List EdgeRecord) (p q e : ℕ) (next : List ℕ) → e < length next → get_or (fold (written p q) next edges) e 0 ≡ unwrap_or (edge_to edges p q e) (get_or next e 0)
get_or-fold-written [] p q e next low = refl
get_or-fold-written (r ∷ edges) p q e next low = grind (arith, length-written, get_or-written p q e next r low, get_or-fold-written edges p q e (written p q next r))
