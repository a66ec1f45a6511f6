-- What a banded scale means. Assumes nothing.
use Rattle.std.specs.Prelude.{ℕ, ◌/◌, max, nat_le}
use Rattle.scales.specs.Measures.{Measure}
use Rattle.owners.specs.declared.banded.Banded.{Banded}

abbrev pub banded_of : ℕ → Banded
banded_of cost = record { cost = cost }

-- the largest cost counts; efforts are compared by how many whole thousands they have
abbrev pub banded : Measure Banded
banded = record {
  nothing = banded_of 0;
  of_cost = banded_of;
  joined = λ x y. banded_of (max x.cost y.cost);
  at_most = λ x y. nat_le (x.cost / 1000) (y.cost / 1000);
}
