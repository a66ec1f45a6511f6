-- What Sum and Peak mean. Assumes nothing.
use Rattle.std.specs.Prelude.{ℕ, ◌+◌, min, max, nat_le}
use Rattle.std.proofs.Math.Nat.{min-le_right}
use Rattle.scales.specs.declared.efforts.Sum.{Sum}
use Rattle.scales.specs.declared.efforts.Peak.{Peak}
use Rattle.scales.specs.Measures.{Measure}

-- a sum of this cost, which stops at the largest number of 32 bits
abbrev pub sum_of : ℕ → Sum
sum_of cost = record { cost = min cost 4294967295; fits = min-le_right cost 4294967295 }

-- costs are added
abbrev pub sum : Measure Sum
sum = record {
  nothing = sum_of 0;
  of_cost = sum_of;
  joined = λ x y. sum_of (x.cost + y.cost);
  at_most = λ x y. nat_le x.cost y.cost;
}

abbrev pub peak_of : ℕ → Peak
peak_of cost = record { cost = cost }

-- the largest cost counts
abbrev pub peak : Measure Peak
peak = record {
  nothing = peak_of 0;
  of_cost = peak_of;
  joined = λ x y. peak_of (max x.cost y.cost);
  at_most = λ x y. nat_le x.cost y.cost;
}
