-- Numbers as they are written, in the words of the standard library. Assumes nothing.
use Rattle.std.proofs.Common.{◌≡◌, ℕ, ◌+◌, ◌/◌, ◌%◌, ◌^◌, ◌<◌, cond, eqb, [], ◌∷◌, ◌++◌, decimal, arith, rules}
use Rattle.std.proofs.lemmas.Fmt.{decimal_from_appends, length-decimal-le, decimal_digit, decimal_step}
use Rattle.std.proofs.lemmas.Bool.Decides.{nat_tests}
use Rattle.records.specs.Written.{written_by, written}

pub written_is : (n : ℕ) → n < 2 ^ 64 → written n ≡ decimal n
unfolding written
written_is n small = search (rules, decimal_from_appends written_by (search rules) 20, length-decimal-le 20)

pub written_by_rule : (n : ℕ) → n < 2 ^ 64 → written n ≡ cond (eqb (n / 10) 0) [] (written (n / 10)) ++ ((48 + n % 10) ∷ [])
written_by_rule n wide = grind (arith, nat_tests, written_is, decimal_step, decimal_digit)
