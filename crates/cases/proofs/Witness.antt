-- A test that a list is a started history of a node. Assumes nothing.
use Rattle.std.proofs.Common.{◌≡◌, ℕ, zero, suc, Bool, true, false, ◌&&◌, ◌||◌, eqb, List, [], ◌∷◌, ◌++◌, Some, None, Option, refl, inl, inr, append_assoc, arith}
use Rattle.std.specs.List.{slice_get}
use Rattle.std.proofs.lemmas.Bool.Decides.{nat_tests}
use Rattle.std.proofs.lemmas.Bool.{or_cases, false≢true}
use Rattle.jobs.specs.declared.node.Node.{Node}
use Rattle.jobs.specs.declared.node.Node.TheVariants.{Empty, Event, Seq, Choice, Frame, Call}
use Rattle.histories.specs.Symbols.{opening, closing}
use Rattle.histories.specs.Histories.{Complete, Started}

-- the list begins with the symbol, and the test holds of the rest
abbrev after : ℕ → (List ℕ → Bool) → List ℕ → Bool
after s g [] = false
after s g (x ∷ w) = eqb x s && g w

after_true : (s : ℕ) (g : List ℕ → Bool) (w : List ℕ) → after s g w ≡ true → (v : List ℕ) × (w ≡ s ∷ v) × (g v ≡ true)
after_true s g [] h = absurd (false≢true h)
after_true s g (x ∷ w) h = (w, grind (arith, nat_tests), grind arith)

abbrev no_more : List ℕ → Bool
no_more [] = true
no_more (x ∷ w) = false

no_more_true : (w : List ℕ) → no_more w ≡ true → w ≡ []
no_more_true w h = grind arith

-- there is a value, and the test holds of it
abbrev pub holds_of : {X : Type 0} → Option X → (X → Bool) → Bool
holds_of None g = false
holds_of (Some x) g = g x

pub holds_of_true : {X : Type 0} (o : Option X) (g : X → Bool) → holds_of o g ≡ true → (x : X) × (o ≡ Some x) × (g x ≡ true)
holds_of_true None g h = absurd (false≢true h)
holds_of_true (Some x) g h = (x, refl, h)

-- a test of a node, a test of the rest of a list, and the list
abbrev Beginning : Type 0
Beginning = ℕ → (List ℕ → Bool) → List ℕ → Bool

module _ (nodes : List Node) (bodies : List ℕ) where
  -- a complete history of the node begins the list, and the test holds of the rest, given such tests of the parts
  abbrev begins_by : Beginning → (List ℕ → Bool) → List ℕ → Node → Bool
  begins_by t g w Empty = g w
  begins_by t g w (Event e) = after e g w
  begins_by t g w (Seq l r) = t l (t r g) w
  begins_by t g w (Choice l r) = t l g w || t r g w
  begins_by t g w (Frame p m) = after (opening p) (t m (after (closing p) g)) w
  begins_by t g w (Call d) = holds_of (slice_get bodies d) (λ b. t b g w)

  abbrev begins : ℕ → Beginning
  begins zero n g w = false
  begins (suc turns) n g w = holds_of (slice_get nodes n) (begins_by (begins turns) g w)

  -- the list is a started history of the node, given tests of the parts; a framing that is closed again is left out
  abbrev starts_by : Beginning → (ℕ → List ℕ → Bool) → List ℕ → Node → Bool
  starts_by t s w Empty = no_more w
  starts_by t s w (Event e) = no_more w || after e no_more w
  starts_by t s w (Seq l r) = s l w || t l (s r) w
  starts_by t s w (Choice l r) = s l w || s r w
  starts_by t s w (Frame p m) = no_more w || after (opening p) (s m) w
  starts_by t s w (Call d) = no_more w || holds_of (slice_get bodies d) (λ b. s b w)

  abbrev pub starts : ℕ → ℕ → List ℕ → Bool
  starts zero n w = false
  starts (suc turns) n w = holds_of (slice_get nodes n) (starts_by (begins turns) (starts turns) w)

  record Begun (n : ℕ) (g : List ℕ → Bool) (w : List ℕ) : Type 0 where
    done : List ℕ
    rest : List ℕ
    joins : w ≡ done ++ rest
    complete : Complete nodes bodies n done
    holds : g rest ≡ true

  abbrev BeginsRight : Beginning → Type 0
  BeginsRight t = (n : ℕ) (g : List ℕ → Bool) (w : List ℕ) → t n g w ≡ true → Begun n g w

  abbrev StartsRight : (ℕ → List ℕ → Bool) → Type 0
  StartsRight s = (n : ℕ) (w : List ℕ) → s n w ≡ true → Started nodes bodies n w

  handed_on : {k n : ℕ} {g : List ℕ → Bool} {w : List ℕ} → ((u : List ℕ) → Complete nodes bodies k u → Complete nodes bodies n u) → Begun k g w → Begun n g w
  handed_on more x = record { done = x.done; rest = x.rest; joins = x.joins; complete = more x.done x.complete; holds = x.holds }

  begins_by_right : (t : Beginning) → BeginsRight t → (n : ℕ) (g : List ℕ → Bool) (w : List ℕ) (x : Node) → slice_get nodes n ≡ Some x → begins_by t g w x ≡ true → Begun n g w
  begins_by_right t right n g w Empty e h = record { done = []; rest = w; joins = refl; complete = Complete.empty e; holds = h }
  begins_by_right t right n g w (Event s) e h =
      let (v, first, held) = after_true s g w h in
      record { done = s ∷ []; rest = v; joins = first; complete = Complete.event e; holds = held }
  begins_by_right t right n g w (Seq l r) e h =
      let x = right l (t r g) w h in
      let y = right r g x.rest x.holds in
      record { done = x.done ++ y.done; rest = y.rest; joins = grind (arith, append_assoc); complete = Complete.sequence e x.complete y.complete; holds = y.holds }
  begins_by_right t right n g w (Choice l r) e h =
      elim (or_cases (t l g w) (t r g w) h) [
        | inl i ↦ handed_on (λ u. Complete.left e) (right l g w i)
        | inr i ↦ handed_on (λ u. Complete.right e) (right r g w i)
      ]
  begins_by_right t right n g w (Frame p m) e h =
      let (v, first, there) = after_true (opening p) (t m (after (closing p) g)) w h in
      let x = right m (after (closing p) g) v there in
      let (z, last, held) = after_true (closing p) g x.rest x.holds in
      record { done = opening p ∷ (x.done ++ (closing p ∷ [])); rest = z; joins = grind (arith, append_assoc); complete = Complete.framed e x.complete; holds = held }
  begins_by_right t right n g w (Call d) e h =
      let (b, named, there) = holds_of_true (slice_get bodies d) (λ b. t b g w) h in
      handed_on (λ u. Complete.called e named) (right b g w there)

  begins_right : (turns : ℕ) → BeginsRight (begins turns)
  begins_right zero n g w h = absurd (false≢true h)
  begins_right (suc turns) n g w h =
      let (x, is, there) = holds_of_true (slice_get nodes n) (begins_by (begins turns) g w) h in
      begins_by_right (begins turns) (begins_right turns) n g w x is there

  starts_by_right : (t : Beginning) → BeginsRight t → (s : ℕ → List ℕ → Bool) → StartsRight s → (n : ℕ) (w : List ℕ) (x : Node) → slice_get nodes n ≡ Some x → starts_by t s w x ≡ true → Started nodes bodies n w
  starts_by_right t right s ok n w Empty e h = grind (arith, Started.nothing)
  starts_by_right t right s ok n w (Event i) e h = grind (arith, after_true i no_more w, no_more_true, Started.nothing, Started.event)
  starts_by_right t right s ok n w (Seq l r) e h = grind (arith, ok l w, ok r, right l (s r) w, Started.first, Started.second)
  starts_by_right t right s ok n w (Choice l r) e h = grind (arith, ok l w, ok r w, Started.left, Started.right)
  starts_by_right t right s ok n w (Frame p m) e h = grind (arith, ok m, after_true (opening p) (s m) w, no_more_true, Started.nothing, Started.opened)
  starts_by_right t right s ok n w (Call d) e h = grind (arith, ok, holds_of_true (slice_get bodies d) (λ b. s b w), no_more_true, Started.nothing, Started.called)

  -- what the test finds to be started is
  pub starts_right : (turns : ℕ) → StartsRight (starts turns)
  starts_right zero n w h = absurd (false≢true h)
  starts_right (suc turns) n w h =
      let (x, is, there) = holds_of_true (slice_get nodes n) (starts_by (begins turns) (starts turns) w) h in
      starts_by_right (begins turns) (begins_right turns) (starts turns) (starts_right turns) n w x is there
