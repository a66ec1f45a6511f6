-- What a scale means, and the laws that it keeps. Assumes nothing.
use Rattle.std.specs.Prelude.{◌≡◌, ℕ, Bool, true, false}

-- the effort of nothing, the effort of a cost, two efforts joined, and whether one is at most another
pub record Measure (S : Type 0) : Type 0 where
  pub nothing : S
  pub of_cost : ℕ → S
  pub joined : S → S → S
  pub at_most : S → S → Bool

-- The order is transitive and total, so two efforts that are each at most the other count alike and may differ. Joining is associative,
-- nothing joins without effect, a joined effort is never below either part, and joining the same effort to both keeps the order.
pub record Laws {S : Type 0} (m : Measure S) : Type 0 where
  pub transitive : (x y z : S) → m.at_most x y ≡ true → m.at_most y z ≡ true → m.at_most x z ≡ true
  pub total : (x y : S) → m.at_most x y ≡ false → m.at_most y x ≡ true
  pub associative : (x y z : S) → m.joined (m.joined x y) z ≡ m.joined x (m.joined y z)
  pub neutral_before : (x : S) → m.joined m.nothing x ≡ x
  pub neutral_behind : (x : S) → m.joined x m.nothing ≡ x
  pub not_below_first : (x y : S) → m.at_most x (m.joined x y) ≡ true
  pub not_below_second : (x y : S) → m.at_most y (m.joined x y) ≡ true
  pub kept_before : (z x y : S) → m.at_most x y ≡ true → m.at_most (m.joined z x) (m.joined z y) ≡ true
  pub kept_behind : (z x y : S) → m.at_most x y ≡ true → m.at_most (m.joined x z) (m.joined y z) ≡ true
