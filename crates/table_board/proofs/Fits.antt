-- What records say that keep the rules. Assumes nothing.
use Rattle.std.proofs.Common.{◌≡◌, ℕ, suc, ◌<◌, List, [], ◌∷◌, length, take, unwrap_or, ◌∙◌, arith}
use Rattle.std.specs.List.{Contains}
use Rattle.std.proofs.lemmas.List.{get_or_default, length-take-le}
use Rattle.std.proofs.lemmas.Bool.Decides.{nat_tests}
use Rattle.records.specs.declared.record.Line.TheVariants as line
use Rattle.records.specs.declared.record.PolicyRecord.{PolicyRecord}
use Rattle.records.specs.declared.record.BadRecord.{BadRecord}
use Rattle.records.specs.declared.record.EdgeRecord.{EdgeRecord}
use Rattle.records.proofs.Kept.{Kept as LineKept, kept}
use Rattle.boards.specs.Meanings.{Closed, Sound}
use Rattle.boards.specs.Tables.{edge_to, policy_at, policy_of, tabled}
use Rattle.table_board.specs.Making.{Kept, edge_at, only_board}

-- what a policy record says of its own policy
pub record PolicySays (policies : List PolicyRecord) (bads : List BadRecord) (edges : List EdgeRecord) (r : PolicyRecord) : Type 0 where
  pub start : r.start ≡ (policy_at policies r.policy).start
  pub states : r.states ≡ (policy_at policies r.policy).states
  pub closed : Closed (policy_of policies bads edges r.policy)

-- where the edges of policy p lead is a state, if each of them leads to one
edge_leads : (edges : List EdgeRecord) (p q e n : ℕ) → ((k : ℕ) → k < length edges → (edge_at edges k).policy ≡ p → (edge_at edges k).to < n) → q < n → unwrap_or (edge_to edges p q e) q < n
edge_leads [] p q e n each inside = inside
edge_leads (r ∷ edges) p q e n each inside = grind (arith, nat_tests, edge_leads edges p q e n (λ k h. each (suc k) (omega arith)) inside, each 0)

module _ {policies : List PolicyRecord} {bads : List BadRecord} {edges : List EdgeRecord} (all : Kept policies bads edges) where
  each_policy : (k : ℕ) → k < length policies → LineKept (only_board (take k policies) [] []) (line.Policy (policy_at policies k))
  each_policy k h = kept _ _ (all.every_policy k h)

  pub numbered : (k : ℕ) → k < length policies → (policy_at policies k).policy ≡ k
  numbered k h = grind (arith, nat_tests, length-take-le, each_policy k)

  pub each_edge : (k : ℕ) → k < length edges → LineKept (only_board policies bads (take k edges)) (line.Edge (edge_at edges k))
  each_edge k h = kept _ _ (all.every_edge k h)

  -- the automata are closed, and there are at most eight
  pub tabled_sound : Sound (tabled policies bads edges)
  tabled_sound = record {
    few = grind (arith, nat_tests, length-take-le, each_policy 8);
    closed = λ p there. record {
      some = grind (arith, nat_tests, each_policy p);
      few = grind (arith, nat_tests, each_policy p);
      starts = grind (arith, nat_tests, each_policy p);
      stays = λ q e inside. edge_leads edges p q e (policy_at policies p).states (λ k h same. grind (arith, nat_tests, each_edge k h)) inside;
    };
  }

  pub each_says : (r : PolicyRecord) → Contains policies r → PolicySays policies bads edges r
  each_says r at =
      let same : policy_at policies at.0 ≡ r = get_or_default policies at.0 _ r at.1 ∙ at.2 in
      let number = numbered at.0 at.1 in
      record { start = grind arith; states = grind arith; closed = grind (arith, tabled_sound.closed at.0 at.1) }
