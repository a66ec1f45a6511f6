-- Complete histories, and beginnings of started ones, are started. Assumes nothing.
use Rattle.std.proofs.Common.{◌≡◌, ℕ, ◌⊎◌, List, [], ◌∷◌, ◌++◌, Some, refl, inl, inr, append-nil}
use Rattle.std.specs.List.{slice_get}
use Rattle.jobs.specs.declared.node.Node.{Node}
use Rattle.jobs.specs.declared.node.Node.TheVariants.{Event, Seq, Frame}
use Rattle.histories.specs.Laws.{BeginningIsStarted, CompleteIsStarted}
use Rattle.histories.specs.Symbols.{opening, closing}
use Rattle.histories.specs.Histories.{Complete, Started}

-- u begins w
abbrev pub Begins : List ℕ → List ℕ → Type 0
Begins u w = (v : List ℕ) × (u ++ v ≡ w)

-- what begins x ++ y begins x, or is x and then something that begins y
abbrev Split : List ℕ → List ℕ → List ℕ → Type 0
Split u x y = Begins u x ⊎ ((z : List ℕ) × (u ≡ x ++ z) × Begins z y)

split_cons : {a b : ℕ} {u x y : List ℕ} → b ≡ a → Split u x y → Split (b ∷ u) (a ∷ x) y
split_cons e (inl (v, h)) = inl (v, cc)
split_cons e (inr (z, h, t)) = inr (z, cc, t)

split : (u x y : List ℕ) → Begins u (x ++ y) → Split u x y
split u [] y h = inr (u, refl, h)
split [] (a ∷ x) y h = inl (a ∷ x, refl)
split (b ∷ u) (a ∷ x) y (v, e) =
    let head : b ≡ a = cc in
    let tail : u ++ v ≡ x ++ y = cc in
    split_cons head (split u x y (v, tail))

begins_nil : (u : List ℕ) → Begins u [] → u ≡ []
begins_nil [] h = refl
begins_nil (a ∷ u) (v, e) = cc

begins_one : (u : List ℕ) (s : ℕ) → Begins u (s ∷ []) → (u ≡ []) ⊎ (u ≡ s ∷ [])
begins_one [] s h = inl refl
begins_one (a ∷ u) s (v, e) =
    let head : a ≡ s = cc in
    let tail : u ++ v ≡ [] = cc in
    let rest : u ≡ [] = begins_nil u (v, tail) in
    inr cc

module _ {nodes : List Node} {bodies : List ℕ} where
  -- whatever has a history is a node
  pub complete_node : {n : ℕ} {w : List ℕ} → Complete nodes bodies n w → (x : Node) × (slice_get nodes n ≡ Some x)
  complete_node (Complete.empty e) = (_, e)
  complete_node (Complete.event e) = (_, e)
  complete_node (Complete.sequence e a b) = (_, e)
  complete_node (Complete.left e a) = (_, e)
  complete_node (Complete.right e a) = (_, e)
  complete_node (Complete.framed e a) = (_, e)
  complete_node (Complete.called e h a) = (_, e)

  pub started_node : {n : ℕ} {w : List ℕ} → Started nodes bodies n w → (x : Node) × (slice_get nodes n ≡ Some x)
  started_node (Started.nothing e) = (_, e)
  started_node (Started.event e) = (_, e)
  started_node (Started.first e a) = (_, e)
  started_node (Started.second e a b) = (_, e)
  started_node (Started.left e a) = (_, e)
  started_node (Started.right e a) = (_, e)
  started_node (Started.opened e a) = (_, e)
  started_node (Started.framed e a) = (_, e)
  started_node (Started.called e h a) = (_, e)

  pub complete_started : {n : ℕ} {w : List ℕ} → Complete nodes bodies n w → Started nodes bodies n w
  complete_started (Complete.empty e) = Started.nothing e
  complete_started (Complete.event e) = Started.event e
  complete_started (Complete.sequence e c d) = Started.second e c (complete_started d)
  complete_started (Complete.left e c) = Started.left e (complete_started c)
  complete_started (Complete.right e c) = Started.right e (complete_started c)
  complete_started (Complete.framed e c) = Started.framed e (Complete.framed e c)
  complete_started (Complete.called e h c) = Started.called e h (complete_started c)

  event_begins : {n e : ℕ} {u : List ℕ} → slice_get nodes n ≡ Some (Event e) → (u ≡ []) ⊎ (u ≡ e ∷ []) → Started nodes bodies n u
  event_begins h (inl q) = rw q (Started.nothing h)
  event_begins h (inr q) = rw q (Started.event h)

  sequence_begins : {n l r : ℕ} {u x y : List ℕ} → slice_get nodes n ≡ Some (Seq l r) → Complete nodes bodies l x → (Begins u x → Started nodes bodies l u) → ((z : List ℕ) → Begins z y → Started nodes bodies r z)
      → Split u x y → Started nodes bodies n u
  sequence_begins h c first second (inl q) = Started.first h (first q)
  sequence_begins h c first second (inr (z, q, t)) = rw q (Started.second h c (second z t))

  closed_begins : {n p m : ℕ} {x z : List ℕ} → slice_get nodes n ≡ Some (Frame p m) → Complete nodes bodies m x → (z ≡ []) ⊎ (z ≡ closing p ∷ []) → Started nodes bodies n (opening p ∷ (x ++ z))
  closed_begins h c (inl q) = rw (q, append-nil) (Started.opened h (complete_started c))
  closed_begins h c (inr q) = rw q (Started.framed h (Complete.framed h c))

  inside_begins : {n p m : ℕ} {u x : List ℕ} → slice_get nodes n ≡ Some (Frame p m) → Complete nodes bodies m x → (Begins u x → Started nodes bodies m u) → Split u x (closing p ∷ []) → Started nodes bodies n (opening p ∷ u)
  inside_begins h c inner (inl q) = Started.opened h (inner q)
  inside_begins {p} h c inner (inr (z, q, t)) = rw q (closed_begins h c (begins_one z (closing p) t))

  framed_begins : {n p m : ℕ} {x : List ℕ} (u : List ℕ) → slice_get nodes n ≡ Some (Frame p m) → Complete nodes bodies m x → ((v : List ℕ) → Begins v x → Started nodes bodies m v)
      → Begins u (opening p ∷ (x ++ (closing p ∷ []))) → Started nodes bodies n u
  framed_begins [] h c inner t = Started.nothing h
  framed_begins {p} {x} (s ∷ u) h c inner (v, q) =
      let head : s ≡ opening p = cc in
      let tail : u ++ v ≡ x ++ (closing p ∷ []) = cc in
      rw head (inside_begins h c (inner u) (split u x (closing p ∷ []) (v, tail)))

  -- what begins a complete history is started
  pub complete_begins : {n : ℕ} {w : List ℕ} (u : List ℕ) → Complete nodes bodies n w → Begins u w → Started nodes bodies n u
  complete_begins u (Complete.empty e) h = rw (begins_nil u h) (Started.nothing e)
  complete_begins u (Complete.event {e = s} e) h = event_begins e (begins_one u s h)
  complete_begins u (Complete.sequence {u = x} {v = y} e c d) h = sequence_begins e c (complete_begins u c) (λ z. complete_begins z d) (split u x y h)
  complete_begins u (Complete.left e c) h = Started.left e (complete_begins u c h)
  complete_begins u (Complete.right e c) h = Started.right e (complete_begins u c h)
  complete_begins u (Complete.framed e c) h = framed_begins u e c (λ v. complete_begins v c) h
  complete_begins u (Complete.called e b c) h = Started.called e b (complete_begins u c h)

  opened_begins : {n p m : ℕ} {x : List ℕ} (u : List ℕ) → slice_get nodes n ≡ Some (Frame p m) → ((v : List ℕ) → Begins v x → Started nodes bodies m v) → Begins u (opening p ∷ x) → Started nodes bodies n u
  opened_begins [] h inner t = Started.nothing h
  opened_begins {p} {x} (s ∷ u) h inner (v, q) =
      let head : s ≡ opening p = cc in
      let tail : u ++ v ≡ x = cc in
      rw head (Started.opened h (inner u (v, tail)))

  -- what begins a started history is started
  pub started_begins : {n : ℕ} {w : List ℕ} (u : List ℕ) → Started nodes bodies n w → Begins u w → Started nodes bodies n u
  started_begins u (Started.nothing e) h = rw (begins_nil u h) (Started.nothing e)
  started_begins u (Started.event {e = s} e) h = event_begins e (begins_one u s h)
  started_begins u (Started.first e s) h = Started.first e (started_begins u s h)
  started_begins u (Started.second {u = x} {v = y} e c s) h = sequence_begins e c (complete_begins u c) (λ z. started_begins z s) (split u x y h)
  started_begins u (Started.left e s) h = Started.left e (started_begins u s h)
  started_begins u (Started.right e s) h = Started.right e (started_begins u s h)
  started_begins u (Started.opened e s) h = opened_begins u e (λ v. started_begins v s) h
  started_begins u (Started.framed e c) h = complete_begins u c h
  started_begins u (Started.called e b s) h = Started.called e b (started_begins u s h)

pub complete_is_started : CompleteIsStarted
complete_is_started nodes bodies n w c = complete_started c

pub beginning_is_started : BeginningIsStarted
beginning_is_started nodes bodies n u v s = started_begins u s (v, refl)
