-- Where the policies of a joined board come from. Assumes nothing.
use Rattle.std.specs.Prelude.{ℕ, ◌-◌, if◌then◌else◌, Some, None, Option, nat_lt}
use Rattle.boards.specs.declared.side.Side.{Side}
use Rattle.boards.specs.declared.side.Side.TheVariants.{First, Second}

-- the first board's policies are those below its count, and there are eight in all at most
abbrev pub side_of : ℕ → ℕ → Option Side
side_of count p = if nat_lt p count then Some (First p) else if nat_lt p 8 then Some (Second (p - count)) else None
