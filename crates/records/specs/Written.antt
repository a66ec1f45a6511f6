-- Numbers as they are written. Assumes nothing.
use Rattle.std.specs.Prelude.{◌≡◌, ℕ, zero, suc, ◌+◌, ◌/◌, ◌%◌, ◌^◌, ◌<◌, if◌then◌else◌, List, [], ◌∷◌, ◌++◌, ◌==◌}

-- the last k digits of n: those of n without its last digit, unless that is 0, and then the last digit
abbrev pub written_by : ℕ → ℕ → List ℕ
written_by zero n = []
written_by (suc k) n = (if n / 10 == 0 then [] else written_by k (n / 10)) ++ ((48 + n % 10) ∷ [])

-- a number of 64 bits has at most twenty digits
unfoldable pub written : ℕ → List ℕ
written n = written_by 20 n

-- a number is written as itself without its last digit, unless that is 0, and then its last digit
abbrev pub WrittenByRule : Type 0
WrittenByRule = (n : ℕ) → n < 2 ^ 64 → written n ≡ (if n / 10 == 0 then [] else written (n / 10)) ++ ((48 + n % 10) ∷ [])
