-- The lines of records. Assumes nothing.
use Rattle.std.specs.Prelude.{◌≡◌, ℕ, ◌≤◌, Bool, true, false, ◌&&◌, List, ◌∷◌, ◌++◌, length, drop, codes, ◌==◌, ◌≢◌, Option, MatchOption}
use Rattle.std.specs.Borrow.{Bor}
use Rattle.records.specs.declared.record.Kind.{Kind}
use Rattle.records.specs.declared.record.Kind.TheVariants.{Empty, Event, Seq, Choice, Frame, Call}
use Rattle.records.specs.declared.record.Line.{Line}
use Rattle.records.specs.declared.record.Line.TheVariants.{Policy, Bad, Edge, Quota, Mark, Node, Def, Tariff}
use Rattle.records.specs.Kinds.{letter_of}
use Rattle.texts.specs.Fields.{Small, field}

-- the key and the letter of a kind, and what follows
abbrev pub kind_field : Kind → List ℕ → List ℕ
kind_field kind rest = codes " kind=" ++ (letter_of kind ∷ rest)

-- the line of a record, and what follows
abbrev pub line_of : Line → List ℕ → List ℕ
line_of (Policy r) rest = field (codes "policy=") r.policy (field (codes " states=") r.states (field (codes " start=") r.start (10 ∷ rest)))
line_of (Bad r) rest = field (codes "bad=") r.policy (field (codes " state=") r.state (10 ∷ rest))
line_of (Edge r) rest =
    field (codes "edge=") r.policy (field (codes " from=") r.from (field (codes " event=") r.event (field (codes " to=") r.to (10 ∷ rest))))
line_of (Quota k) rest = field (codes "quota=") k (10 ∷ rest)
line_of (Mark r) rest = field (codes "mark=") r.event (10 ∷ rest)
line_of (Node r) rest =
    field (codes "node=") r.node (kind_field r.kind (field (codes " a=") r.a (field (codes " b=") r.b (10 ∷ rest))))
line_of (Def r) rest = field (codes "def=") r.def (field (codes " node=") r.node (10 ∷ rest))
line_of (Tariff r) rest = field (codes "tariff=") r.event (field (codes " cost=") r.cost (10 ∷ rest))

-- the fields that a kind does not use are 0
abbrev pub unused : Kind → ℕ → ℕ → Bool
unused Empty a b = a == 0 && b == 0
unused Event a b = b == 0
unused Seq a b = true
unused Choice a b = true
unused Frame a b = true
unused Call a b = b == 0

-- numbers of at most ten digits, and unused fields 0
abbrev pub Formed : Line → Type 0
Formed (Policy r) = Small r.policy × Small r.states × Small r.start
Formed (Bad r) = Small r.policy × Small r.state
Formed (Edge r) = Small r.policy × Small r.from × Small r.event × Small r.to
Formed (Quota k) = Small k
Formed (Mark r) = Small r.event
Formed (Node r) = Small r.node × Small r.a × Small r.b × (unused r.kind r.a r.b ≡ true)
Formed (Def r) = Small r.def × Small r.node
Formed (Tariff r) = Small r.event × Small r.cost

-- the line stands in the text from `at` to `end`
pub record LineAt (text : List ℕ) (at : ℕ) (line : Line) (end : ℕ) : Type 0 where
  pub formed : Formed line
  pub within : end ≤ length text
  pub reads : drop at text ≡ line_of line (drop end text)

-- the text begins with this line
pub record Begins (text : List ℕ) (line : Line) (rest : List ℕ) : Type 0 where
  pub formed : Formed line
  pub reads : text ≡ line_of line rest

-- the text begins with no line that is made so
abbrev pub NoneOf : {R : Type 0} → (R → Line) → List ℕ → Type 0
NoneOf {R} make text = (r : R) (rest : List ℕ) → ¬ (Begins text (make r) rest)

-- what is read where lines that are made so are looked for: a line with the bytes behind it
abbrev pub ReadsLine : {R : Type 0} → (R → Line) → List ℕ → Option (Line × Bor (List ℕ)) → Type 0
ReadsLine make text read = MatchOption read (NoneOf make text) (λ p. Begins text p.0 p.1.now)

-- no line of any record stands at `at`
abbrev pub NoLine : List ℕ → ℕ → Type 0
NoLine text at = (line : Line) (rest : List ℕ) → Formed line → drop at text ≢ line_of line rest

-- the line is that of node n
abbrev pub is_node : ℕ → Line → Bool
is_node n (Policy r) = false
is_node n (Bad r) = false
is_node n (Edge r) = false
is_node n (Quota k) = false
is_node n (Mark r) = false
is_node n (Node r) = r.node == n
is_node n (Def r) = false
is_node n (Tariff r) = false
