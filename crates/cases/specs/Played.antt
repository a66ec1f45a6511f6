-- The table of played cases. Assumes nothing.
use Rattle.std.specs.Prelude.{ℕ, true, false, List, [], ◌∷◌, replicate, slice_set}
use Rattle.jobs.specs.declared.node.Node.{Node}
use Rattle.jobs.specs.declared.node.Node.TheVariants.{Empty, Event, Seq, Choice, Frame, Call}
use Rattle.jobs.specs.Placed.{Sound}
use Rattle.boards.specs.Meanings.{Meaning}
use Rattle.boards.specs.Tables.{tabled}
use Rattle.boards.specs.Quotas.{quota}
use Rattle.boards.specs.Layers.{joined}
use Rattle.cases.specs.Verdicts.{Setting, Case, Verdict, passes, offends, AllHold}

-- policy 0: states 0, 1, 2, start 0; 5 leads from 0 to 1, 7 from 1 to 2, and 2 offends
abbrev pub five_then_seven : Meaning
five_then_seven = tabled
    (record { policy = 0; states = 3; start = 0 } ∷ [])
    (record { policy = 0; state = 2 } ∷ [])
    (record { policy = 0; from = 0; event = 5; to = 1 } ∷ record { policy = 0; from = 1; event = 7; to = 2 } ∷ [])

-- policy 1: at most two events 9
abbrev pub two_nines : Meaning
two_nines = quota 2 (slice_set (replicate 256 false) 9 true)

-- 5 costs 40, 7 costs 5, all others 0
abbrev pub costs : List ℕ
costs = slice_set (slice_set (replicate 256 0) 5 40) 7 5

abbrev pub nodes : List Node
nodes =
    Event 5  -- 0
    ∷ Event 7  -- 1
    ∷ Seq 0 1  -- 2: 5, 7
    ∷ Empty  -- 3
    ∷ Frame 0 3  -- 4
    ∷ Seq 2 4  -- 5: 5, 7, then 0 around nothing
    ∷ Frame 0 0  -- 6: 0 around 5
    ∷ Seq 6 1  -- 7: (0 around 5), then 7
    ∷ Frame 0 7  -- 8: 0 around ((0 around 5), then 7)
    ∷ Call 0  -- 9: X
    ∷ Seq 2 9  -- 10: 5, 7, X
    ∷ Frame 0 10  -- 11: 0 around (5, 7, X)
    ∷ Frame 0 2  -- 12: 0 around (5, 7)
    ∷ Seq 9 12  -- 13: X, then 0 around (5, 7)
    ∷ Frame 0 1  -- 14: 0 around 7
    ∷ Call 1  -- 15: Y
    ∷ Seq 0 15  -- 16: 5, then Y
    ∷ Choice 16 1  -- 17: (5, then Y) or 7
    ∷ Frame 0 15  -- 18: 0 around Y
    ∷ Event 9  -- 19
    ∷ Call 2  -- 20: Z
    ∷ Seq 19 20  -- 21: 9, then Z
    ∷ Choice 3 21  -- 22: nothing or (9, then Z)
    ∷ Frame 1 20  -- 23: 1 around Z
    ∷ []

-- definitions 0, 1, 2 are X = X, Y = (5, then Y) or 7, and Z = nothing or (9, then Z); from 3 on they are the jobs of the cases
abbrev pub bodies : List ℕ
bodies = 9 ∷ 17 ∷ 22 ∷ 5 ∷ 8 ∷ 7 ∷ 11 ∷ 13 ∷ 14 ∷ 18 ∷ 23 ∷ []

abbrev pub setting : Setting
setting = record { nodes = nodes; bodies = bodies; board = joined five_then_seven two_nines; costs = costs }

abbrev case : List ℕ → ℕ → Verdict → Case
case past job verdict = record { past = past; job = job; verdict = verdict }

-- 256 and 257 are the openings of policies 0 and 1, 512 is the closing of policy 0
abbrev pub cases : List Case
cases =
    case [] 3 (offends 0 (5 ∷ 7 ∷ 256 ∷ []) 45)
    ∷ case [] 4 (offends 0 (256 ∷ 256 ∷ 5 ∷ 512 ∷ 7 ∷ []) 45)
    ∷ case [] 5 passes
    ∷ case [] 6 (offends 0 (256 ∷ 5 ∷ 7 ∷ []) 45)
    ∷ case [] 7 passes
    ∷ case (5 ∷ []) 8 (offends 0 (256 ∷ 7 ∷ []) 5)
    ∷ case [] 8 passes
    ∷ case [] 9 (offends 0 (256 ∷ 5 ∷ 7 ∷ []) 45)
    ∷ case [] 10 (offends 1 (257 ∷ 9 ∷ 9 ∷ 9 ∷ []) 0)
    ∷ []

-- the nodes and bodies are those of a table, and every case holds
pub record Played : Type 0 where
  pub table : Sound nodes bodies
  pub holds : AllHold setting cases
