-- Openings and closings of a table's histories. Assumes nothing.
use Rattle.std.proofs.Common.{◌≡◌, ℕ, ◌+◌, ◌<◌, ◌≤◌, cond, eqb, List, [], ◌∷◌, ◌++◌, sym, ◌∙◌, arith}
use Rattle.jobs.specs.declared.node.Node.{Node}
use Rattle.jobs.specs.Placed.{Sound}
use Rattle.histories.specs.Laws.{CompleteIsBalanced, StartedIsOpenedFirst}
use Rattle.histories.specs.Symbols.{opening, closing, occurrences}
use Rattle.histories.specs.Histories.{Complete, Started}
use Rattle.histories.proofs.Counts.{occurrences-++, occurrences-nil, event_opens_none, event_closes_none, opening_closes_none, opening_opens, closing_opens_none, closing_closes}
use Rattle.histories.proofs.Places.{event_low, policy_low}

-- a history closes policy p as often as it opens it
abbrev pub Balanced : ℕ → List ℕ → Type 0
Balanced p w = occurrences (opening p) w ≡ occurrences (closing p) w

-- what a framing of q around u has of policy p
pub opens_framed : (p q : ℕ) (u : List ℕ) → p < 256 → occurrences (opening p) (opening q ∷ (u ++ (closing q ∷ []))) ≡ cond (eqb q p) 1 0 + occurrences (opening p) u
opens_framed p q u low =
    omega (
      arith,
      opening_opens p q (u ++ (closing q ∷ [])),
      occurrences-++ (opening p) u (closing q ∷ []),
      closing_opens_none p q [] low,
      occurrences-nil (opening p),
    )

pub closes_framed : (p q : ℕ) (u : List ℕ) → q < 256 → occurrences (closing p) (opening q ∷ (u ++ (closing q ∷ []))) ≡ cond (eqb q p) 1 0 + occurrences (closing p) u
closes_framed p q u low =
    omega (
      arith,
      opening_closes_none p q (u ++ (closing q ∷ [])) low,
      occurrences-++ (closing p) u (closing q ∷ []),
      closing_closes p q [],
      occurrences-nil (closing p),
    )

module _ {nodes : List Node} {bodies : List ℕ} (sound : Sound nodes bodies) (p : ℕ) (low : p < 8) where
  pub complete_balanced : {n : ℕ} {w : List ℕ} → Complete nodes bodies n w → Balanced p w
  complete_balanced (Complete.empty e) = occurrences-nil (opening p) ∙ sym (occurrences-nil (closing p))
  complete_balanced (Complete.event {n} {e = s} e) = let small = event_low sound n s e in event_opens_none p s small ∙ sym (event_closes_none p s small)
  complete_balanced (Complete.sequence {u} {v} e c d) =
      omega (arith, complete_balanced c, complete_balanced d, occurrences-++ (opening p) u v, occurrences-++ (closing p) u v)
  complete_balanced (Complete.left e c) = complete_balanced c
  complete_balanced (Complete.right e c) = complete_balanced c
  complete_balanced (Complete.framed {n} {p = q} {m} {u} e c) =
      let few = policy_low sound n q m e in
      omega (arith, complete_balanced c, opens_framed p q u (omega arith), closes_framed p q u (omega arith))
  complete_balanced (Complete.called e h c) = complete_balanced c

  pub started_opened_first : {n : ℕ} {w : List ℕ} → Started nodes bodies n w → occurrences (closing p) w ≤ occurrences (opening p) w
  started_opened_first (Started.nothing e) = omega (arith, occurrences-nil (opening p), occurrences-nil (closing p))
  started_opened_first (Started.event {n} {e = s} e) = let small = event_low sound n s e in omega (arith, event_opens_none p s small, event_closes_none p s small)
  started_opened_first (Started.first e s) = started_opened_first s
  started_opened_first (Started.second {u} {v} e c s) =
      omega (arith, complete_balanced c, started_opened_first s, occurrences-++ (opening p) u v, occurrences-++ (closing p) u v)
  started_opened_first (Started.left e s) = started_opened_first s
  started_opened_first (Started.right e s) = started_opened_first s
  started_opened_first (Started.opened {n} {p = q} {m} {u} e s) =
      let few = policy_low sound n q m e in
      omega (arith, started_opened_first s, opening_opens p q u, opening_closes_none p q u (omega arith))
  started_opened_first (Started.framed e c) = omega (arith, complete_balanced c)
  started_opened_first (Started.called e h s) = started_opened_first s

pub complete_is_balanced : CompleteIsBalanced
complete_is_balanced nodes bodies sound p n w low c = complete_balanced sound p low c

pub started_is_opened_first : StartedIsOpenedFirst
started_is_opened_first nodes bodies sound p n w low s = started_opened_first sound p low s
