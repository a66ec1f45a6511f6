-- Numbers and fields that a text begins with. Assumes nothing.
use Rattle.std.specs.Prelude.{◌≡◌, ℕ, ◌^◌, ◌<◌, ◌≤◌, List, ◌++◌, length, slice_index, Some, None, Option}
use Rattle.std.specs.Borrow.{Bor}
use Rattle.std.specs.Int.{IsInRange}
use Rattle.records.specs.Written.{written}

-- a number that a line may have: at most ten digits
abbrev pub Small : ℕ → Type 0
Small n = n < 10 ^ 10

-- no digit comes first
abbrev pub Past : List ℕ → Type 0
Past bytes = IsInRange 48 57 (slice_index bytes 0) → ⊥

-- one to ten digits, and no 0 in front of others
pub record IsSpelled (digits : List ℕ) : Type 0 where
  pub some : 0 < length digits
  pub few : length digits ≤ 10
  pub lead : slice_index digits 0 ≡ 48 → length digits ≡ 1

-- what is read from the front of a text with the bytes behind it; nothing is read where nothing can be
abbrev pub Reads : {T : Type 0} → (T → List ℕ → Type 0) → Option (T × Bor (List ℕ)) → Type 0
Reads {T} Begins None = (x : T) (rest : List ℕ) → ¬ (Begins x rest)
Reads Begins (Some p) = Begins p.0 p.1.now

-- the text begins with this number, and no digit follows
pub record Number (text : List ℕ) (n : ℕ) (rest : List ℕ) : Type 0 where
  pub small : Small n
  pub past : Past rest
  pub reads : text ≡ written n ++ rest

-- a key, its number, and what follows
abbrev pub field : List ℕ → ℕ → List ℕ → List ℕ
field key n rest = key ++ (written n ++ rest)

-- the text begins with this key and its number, and no digit follows
pub record Field (text key : List ℕ) (n : ℕ) (rest : List ℕ) : Type 0 where
  pub small : Small n
  pub past : Past rest
  pub reads : text ≡ field key n rest
