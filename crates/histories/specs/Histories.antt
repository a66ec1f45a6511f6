-- The complete and the started histories of a table's nodes: the smallest sets with these rules. Assumes nothing.
use Rattle.std.specs.Prelude.{◌≡◌, ℕ, List, [], ◌∷◌, ◌++◌, Some}
use Rattle.std.specs.List.{slice_get}
use Rattle.jobs.specs.declared.node.Node.{Node}
use Rattle.jobs.specs.declared.node.Node.TheVariants.{Empty, Event, Seq, Choice, Frame, Call}
use Rattle.histories.specs.Symbols.{opening, closing}

-- what a node writes when it runs to its end
pub data Complete (nodes : List Node) (bodies : List ℕ) : ℕ → List ℕ → Type 0 where
  empty : {n : ℕ} → slice_get nodes n ≡ Some Empty → Complete nodes bodies n []
  event : {n e : ℕ} → slice_get nodes n ≡ Some (Event e) → Complete nodes bodies n (e ∷ [])
  sequence : {n l r : ℕ} {u v : List ℕ} → slice_get nodes n ≡ Some (Seq l r) → Complete nodes bodies l u → Complete nodes bodies r v → Complete nodes bodies n (u ++ v)
  left : {n l r : ℕ} {u : List ℕ} → slice_get nodes n ≡ Some (Choice l r) → Complete nodes bodies l u → Complete nodes bodies n u
  right : {n l r : ℕ} {u : List ℕ} → slice_get nodes n ≡ Some (Choice l r) → Complete nodes bodies r u → Complete nodes bodies n u
  framed : {n p m : ℕ} {u : List ℕ} → slice_get nodes n ≡ Some (Frame p m) → Complete nodes bodies m u → Complete nodes bodies n (opening p ∷ (u ++ (closing p ∷ [])))
  called : {n d b : ℕ} {u : List ℕ} → slice_get nodes n ≡ Some (Call d) → slice_get bodies d ≡ Some b → Complete nodes bodies b u → Complete nodes bodies n u

-- what a node may have written at some moment; every node has the empty history
pub data Started (nodes : List Node) (bodies : List ℕ) : ℕ → List ℕ → Type 0 where
  nothing : {n : ℕ} {x : Node} → slice_get nodes n ≡ Some x → Started nodes bodies n []
  event : {n e : ℕ} → slice_get nodes n ≡ Some (Event e) → Started nodes bodies n (e ∷ [])
  first : {n l r : ℕ} {u : List ℕ} → slice_get nodes n ≡ Some (Seq l r) → Started nodes bodies l u → Started nodes bodies n u
  second : {n l r : ℕ} {u v : List ℕ} → slice_get nodes n ≡ Some (Seq l r) → Complete nodes bodies l u → Started nodes bodies r v → Started nodes bodies n (u ++ v)
  left : {n l r : ℕ} {u : List ℕ} → slice_get nodes n ≡ Some (Choice l r) → Started nodes bodies l u → Started nodes bodies n u
  right : {n l r : ℕ} {u : List ℕ} → slice_get nodes n ≡ Some (Choice l r) → Started nodes bodies r u → Started nodes bodies n u
  opened : {n p m : ℕ} {u : List ℕ} → slice_get nodes n ≡ Some (Frame p m) → Started nodes bodies m u → Started nodes bodies n (opening p ∷ u)
  framed : {n p m : ℕ} {u : List ℕ} → slice_get nodes n ≡ Some (Frame p m) → Complete nodes bodies n u → Started nodes bodies n u
  called : {n d b : ℕ} {u : List ℕ} → slice_get nodes n ≡ Some (Call d) → slice_get bodies d ≡ Some b → Started nodes bodies b u → Started nodes bodies n u

-- the histories of a job are those of its body
pub record JobStarted (nodes : List Node) (bodies : List ℕ) (job : ℕ) (w : List ℕ) : Type 0 where
  pub body : ℕ
  pub names : slice_get bodies job ≡ Some body
  pub started : Started nodes bodies body w
