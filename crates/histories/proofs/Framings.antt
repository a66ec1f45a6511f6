-- What is left open inside and around a framing, and behind a complete history. Assumes nothing.
use Rattle.std.proofs.Common.{◌≡◌, ℕ, ◌<◌, ◌≤◌, true, false, cond, eqb, List, [], ◌∷◌, ◌++◌, sym, ap, ◌∙◌, arith}
use Rattle.jobs.specs.declared.node.Node.{Node}
use Rattle.jobs.specs.Placed.{Sound}
use Rattle.histories.specs.Symbols.{opening, closing, occurrences, events, LeavesOpen}
use Rattle.histories.specs.Automata.{Automaton, run, OffendsFrom}
use Rattle.histories.specs.Histories.{Complete}
use Rattle.histories.proofs.Counts.{occurrences-++, opening_opens, opening_closes_none, events-framed, events-opening, state-++}
use Rattle.histories.proofs.Balance.{Balanced, complete_balanced, opens_framed, closes_framed}

-- behind what is balanced, a history leaves p open if the rest does
pub open_behind : (p : ℕ) (u v : List ℕ) → Balanced p u → LeavesOpen p (u ++ v) → LeavesOpen p v
open_behind p u v b h = omega (arith, b, h, occurrences-++ (opening p) u v, occurrences-++ (closing p) u v)

pub open_before : (p : ℕ) (u v : List ℕ) → Balanced p u → LeavesOpen p v → LeavesOpen p (u ++ v)
open_before p u v b h = omega (arith, b, h, occurrences-++ (opening p) u v, occurrences-++ (closing p) u v)

-- a framing of another policy leaves p open as its part does
pub open_inside : (p q : ℕ) (u : List ℕ) → q < 8 → eqb q p ≡ false → LeavesOpen p (opening q ∷ u) → LeavesOpen p u
open_inside p q u low other h =
    let none : ◌≡◌ {A = ℕ} (cond (eqb q p) 1 0) 0 = rw other in
    omega (arith, h, none, opening_opens p q u, opening_closes_none p q u (omega arith))

pub open_around : (p q : ℕ) (u : List ℕ) → q < 8 → LeavesOpen p u → LeavesOpen p (opening q ∷ u)
open_around p q u low h = omega (arith, h, opening_opens p q u, opening_closes_none p q u (omega arith))

-- an opening of p leaves it open where what follows closes it no more often than it opens it
pub open_own : (p : ℕ) (u : List ℕ) → p < 8 → eqb p p ≡ true → occurrences (closing p) u ≤ occurrences (opening p) u → LeavesOpen p (opening p ∷ u)
open_own p u low same h =
    let one : ◌≡◌ {A = ℕ} (cond (eqb p p) 1 0) 1 = rw same in
    omega (arith, h, one, opening_opens p p u, opening_closes_none p p u (omega arith))

-- A framed history that offends does so without its last closing too, and has the same events.
pub unclosed : (a : Automaton) (p q s : ℕ) (u : List ℕ) → p < 8 → q < 8 → OffendsFrom a p s (opening q ∷ (u ++ (closing q ∷ []))) → OffendsFrom a p s (opening q ∷ u)
unclosed a p q s u low few h =
    record {
      opens = omega (arith, h.opens, opens_framed p q u (omega arith), closes_framed p q u (omega arith), opening_opens p q u, opening_closes_none p q u (omega arith));
      stands = ap (λ (es : List ℕ). a.offends (run a s es)) (events-opening q u ∙ sym (events-framed q u)) ∙ h.stands;
    }

-- Behind a complete history, a history offends from the state that the complete one leads to.
module _ {nodes : List Node} {bodies : List ℕ} (sound : Sound nodes bodies) (a : Automaton) (p q : ℕ) (low : p < 8) where
  pub offends_behind : {n : ℕ} (u v : List ℕ) → Complete nodes bodies n u → OffendsFrom a p q (u ++ v) → OffendsFrom a p (run a q (events u)) v
  offends_behind u v c h =
      record {
        opens = open_behind p u v (complete_balanced sound p low c) h.opens;
        stands = ap a.offends (sym (state-++ a q u v)) ∙ h.stands;
      }

  pub offends_before : {n : ℕ} (u v : List ℕ) → Complete nodes bodies n u → OffendsFrom a p (run a q (events u)) v → OffendsFrom a p q (u ++ v)
  offends_before u v c h =
      record {
        opens = open_before p u v (complete_balanced sound p low c) h.opens;
        stands = ap a.offends (state-++ a q u v) ∙ h.stands;
      }
