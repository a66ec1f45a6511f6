-- What it means that a job passes, or offends with an effort, after some events. Assumes nothing.
use Rattle.std.specs.Prelude.{◌≡◌, ℕ, ◌<◌, true, List, [], ◌∷◌, length}
use Rattle.jobs.specs.declared.node.Node.{Node}
use Rattle.histories.specs.Histories.{JobStarted}
use Rattle.boards.specs.Meanings.{Meaning, OffendsOn}
use Rattle.scales.specs.Scales.{sum, sum_of}
use Rattle.scales.specs.Efforts.{effort}

-- a table, a board and the costs of the events
pub record Setting : Type 0 where
  pub nodes : List Node
  pub bodies : List ℕ
  pub board : Meaning
  pub costs : List ℕ

-- the job is there, and no started history of it offends a policy
pub record Passes (s : Setting) (past : List ℕ) (job : ℕ) : Type 0 where
  pub there : job < length s.bodies
  pub none : (p : ℕ) (w : List ℕ) → JobStarted s.nodes s.bodies job w → OffendsOn s.board p past w → ⊥

-- this history of the job offends this policy, it has this effort under Sum, and no history of the job that offends a policy costs less
pub record OffendsWith (s : Setting) (past : List ℕ) (job p : ℕ) (w : List ℕ) (cost : ℕ) : Type 0 where
  pub started : JobStarted s.nodes s.bodies job w
  pub offends : OffendsOn s.board p past w
  pub costs : effort sum s.costs w ≡ sum_of cost
  pub least : (p' : ℕ) (w' : List ℕ) → JobStarted s.nodes s.bodies job w' → OffendsOn s.board p' past w' → sum.at_most (sum_of cost) (effort sum s.costs w') ≡ true

-- what a case says: the job passes, or it offends a policy, shown by a history with its cost under Sum
pub data Verdict : Type 0 where
  passes : Verdict
  offends : ℕ → List ℕ → ℕ → Verdict

pub record Case : Type 0 where
  pub past : List ℕ
  pub job : ℕ
  pub verdict : Verdict

abbrev pub VerdictHolds : Setting → List ℕ → ℕ → Verdict → Type 0
VerdictHolds s past job passes = Passes s past job
VerdictHolds s past job (offends p w cost) = OffendsWith s past job p w cost

abbrev pub AllHold : Setting → List Case → Type 0
AllHold s [] = Unit {0}
AllHold s (c ∷ cs) = VerdictHolds s c.past c.job c.verdict × AllHold s cs
