-- Edges that keep the rules are obeyed. Assumes nothing.
use Rattle.std.proofs.Common.{◌≡◌, ℕ, Bool, get_or, zero, suc, ◌+◌, ◌*◌, ◌<◌, true, false, List, [], ◌∷◌, length, take, Some, None, refl, arith}
use Rattle.std.proofs.lemmas.List.{get_or-take, length-take-le}
use Rattle.std.proofs.lemmas.Bool.Decides.{nat_tests}
use Rattle.records.specs.declared.record.PolicyRecord.{PolicyRecord}
use Rattle.records.specs.declared.record.BadRecord.{BadRecord}
use Rattle.records.specs.declared.record.EdgeRecord.{EdgeRecord}
use Rattle.records.specs.Rules.{earlier_edge, rises, rises_edge}
use Rattle.boards.specs.Tables.{edge_to, is_edge}
use Rattle.table_board.specs.Making.{EdgesAreObeyed, Kept, edge_at}
use Rattle.table_board.proofs.Fits.{each_edge}

-- policy, state and event as one number
abbrev key : EdgeRecord → ℕ
key r = 2048 * r.policy + (256 * r.from + r.event)

-- what comes earlier has the lower key
earlier_key : (x y : EdgeRecord) → x.from < 8 → x.event < 256 → earlier_edge x y ≡ true → key x < key y
earlier_key x y state event h = grind (arith, nat_tests)

none_asked : (edges : List EdgeRecord) (p q e : ℕ) → ((j : ℕ) → j < length edges → is_edge (edge_at edges j) p q e ≡ false) → edge_to edges p q e ≡ None
none_asked [] p q e none = refl
none_asked (x ∷ edges) p q e none = grind (arith, none_asked edges p q e (λ j h. none (suc j) (omega arith)), none 0)

-- the last edge that is asked for counts
last_asked : (edges : List EdgeRecord) (k p q e : ℕ) → k < length edges → is_edge (edge_at edges k) p q e ≡ true → ((j : ℕ) → k < j → j < length edges → is_edge (edge_at edges j) p q e ≡ false)
    → edge_to edges p q e ≡ Some (edge_at edges k).to
last_asked [] k p q e within here none = absurd (omega arith)
last_asked (x ∷ edges) zero p q e within here none = grind (arith, none_asked edges p q e (λ j h. none (suc j) (omega arith) (omega arith)))
last_asked (x ∷ edges) (suc k) p q e within here none = grind (arith, last_asked edges k p q e (omega arith) here (λ j h l. none (suc j) (omega arith) (omega arith)))

-- what rises behind some comes after the last of them
rises_last : {X : Type 0} (earlier : X → X → Bool) (none : X) (xs : List X) (k : ℕ) (r : X) → length xs ≡ suc k → rises earlier none xs r ≡ true → earlier (get_or xs k none) r ≡ true
rises_last earlier none xs k r long h = grind (arith, nat_tests)

module _ {policies : List PolicyRecord} {bads : List BadRecord} {edges : List EdgeRecord} (all : Kept policies bads edges) where
  -- each key is above the one before it
  next_key : (k : ℕ) → suc k < length edges → key (edge_at edges k) < key (edge_at edges (suc k))
  next_key k within =
      let x = edge_at edges k in
      let y = edge_at edges (suc k) in
      let line = each_edge all (suc k) within in
      let before = each_edge all k (omega arith) in
      let rises : rises_edge (take (suc k) edges) y ≡ true = grind arith in
      let last = rises_last earlier_edge _ (take (suc k) edges) k y (length-take-le (suc k) edges (omega arith)) rises in
      earlier_key x y (grind (arith, nat_tests)) (grind (arith, nat_tests)) (rw (get_or-take (suc k) edges k _ (omega arith)) at last)

  rising : (k j : ℕ) → k < j → j < length edges → key (edge_at edges k) < key (edge_at edges j)
  rising k zero less within = absurd (omega arith)
  rising k (suc j) less within = grind (arith, next_key j within, rising k j)

pub edges_are_obeyed : EdgesAreObeyed
edges_are_obeyed policies bads edges all k within =
    let r = edge_at edges k in
    last_asked edges k r.policy r.from r.event within (grind (arith, nat_tests)) (λ j less inside. grind (arith, nat_tests, rising all k j less inside))
