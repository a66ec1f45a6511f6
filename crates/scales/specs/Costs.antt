-- Sum keeps the laws; sums of one cost are equal, since that the cost fits has one proof. Assumes nothing.
use Rattle.std.specs.Prelude.{◌≡◌, ℕ, ◌≤◌}
use Rattle.std.proofs.Common.{ap, subst, rules}
use Rattle.std.proofs.Math.Bridge.{le_prop}
use Rattle.scales.specs.Measures.{Laws}
use Rattle.scales.specs.Scales.{sum}
use Rattle.scales.specs.declared.efforts.Sum.{Sum}

of : (cost : ℕ) → cost ≤ 4294967295 → Sum
of cost fits = record { cost = cost; fits = fits }

pub same_cost : (x y : Sum) → x.cost ≡ y.cost → x ≡ y
unfolding of
same_cost x y e = subst (λ n. (p : n ≤ 4294967295) → x ≡ of n p) e (λ p. ap (of x.cost) (le_prop x.fits p)) y.fits

pub sum_laws : Laws sum
sum_laws = search (rules, same_cost)
