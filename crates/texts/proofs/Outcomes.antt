-- A text is read in one way. Assumes nothing.
use Rattle.std.proofs.Common.{◌≡◌, ℕ, ◌<◌, ◌⊎◌, List, length, Some, None, Option, sym, refl, ap, subst, inl, inr, ⊎_elim, arith}
use Rattle.records.specs.declared.record.Line.{Line}
use Rattle.records.specs.declared.fault.Refusal.{Refusal}
use Rattle.records.specs.Rules.{Records, added}
use Rattle.texts.proofs.Apart.{same_line}
use Rattle.texts.proofs.Lines.{line_advances}
use Rattle.texts.specs.Contents.{Room, broken}
use Rattle.texts.specs.Lines.{LineAt}
use Rattle.texts.specs.Readings.{Breaks, Passed, no_records}

-- a reading ends: at the end of the text, or at a line that breaks a rule
abbrev pub Ends : Room → List ℕ → ℕ → Records → Option Refusal → Type 0
Ends room text at rs None = at ≡ length text
Ends room text at rs (Some x) = (at < length text) × Breaks room text at rs x

-- good lines lead from one place and its records to another
pub data Onward (room : Room) (text : List ℕ) : ℕ → Records → ℕ → Records → Type 0 where
  here : {at : ℕ} {rs : Records} → Onward room text at rs at rs
  step : {at mid end : ℕ} {rs last : Records} {line : Line} → LineAt text at line mid → broken room rs line ≡ None → Onward room text mid (added rs line) end last → Onward room text at rs end last

module _ (room : Room) (text : List ℕ) where
  abbrev Leads : ℕ → Records → ℕ → Records → Type 0
  Leads = Onward room text

  further : {at mid end : ℕ} {rs last : Records} {line : Line} → Leads at rs mid last → LineAt text mid line end → broken room last line ≡ None → Leads at rs end (added last line)
  further Onward.here found good = Onward.step found good Onward.here
  further (Onward.step f g on) found good = Onward.step f g (further on found good)

  pub from_begin : {at : ℕ} {rs : Records} → Passed room text at rs → Leads 0 no_records at rs
  from_begin Passed.begin = Onward.here
  from_begin (Passed.next p found good) = further (from_begin p) found good

  after : {at at' end : ℕ} {rs rs' : Records} {line : Line} → LineAt text at' line end → broken room rs' line ≡ None → Leads at rs at' rs' ⊎ Leads at' rs' at rs → Leads at rs end (added rs' line) ⊎ Leads end (added rs' line) at rs
  after found good (inl on) = inl (further on found good)
  after found good (inr Onward.here) = inl (Onward.step found good Onward.here)
  after {at} {rs = rs} {rs' = rs'} {line = line} found good (inr (Onward.step {mid = mid} {line = other} f g on)) =
      let both = same_line f found in
      inr (subst (λ k. Leads k (added rs' line) at rs) both.1 (subst (λ l. Leads mid (added rs' l) at rs) both.0 on))

  -- of two places that a reading passes, one leads to the other
  pub linear : {at at' : ℕ} {rs rs' : Records} → Passed room text at rs → Passed room text at' rs' → Leads at rs at' rs' ⊎ Leads at' rs' at rs
  linear p Passed.begin = inr (from_begin p)
  linear p (Passed.next q found good) = after found good (linear p q)

  -- where a reading ends, no good line follows
  stuck : (at : ℕ) (rs : Records) (o : Option Refusal) → Ends room text at rs o → {line : Line} {end : ℕ} → LineAt text at line end → broken room rs line ≡ None → ⊥
  stuck at rs o e found good = grind (arith, line_advances, same_line)

  same_fault : (at : ℕ) (rs : Records) (f g : Refusal) → Breaks room text at rs f → Breaks room text at rs g → f ≡ g
  same_fault at rs f g x y = grind (arith, same_line)

  same_end : (at : ℕ) (rs : Records) (o p : Option Refusal) → Ends room text at rs o → Ends room text at rs p → o ≡ p
  same_end at rs None None e f = refl
  same_end at rs None (Some g) e f = absurd (omega (arith, e, f.0))
  same_end at rs (Some f) None e g = absurd (omega (arith, e.0, g))
  same_end at rs (Some f) (Some g) e h = ap (λ x. Some x) (same_fault at rs f g e.1 h.1)

  settle : (at at' : ℕ) (rs rs' : Records) (o o' : Option Refusal) → Ends room text at rs o → Ends room text at' rs' o' → Leads at rs at' rs' → (at ≡ at') × (rs ≡ rs') × (o ≡ o')
  settle at _ rs _ o o' e f Onward.here = (refl, refl, same_end at rs o o' e f)
  settle at at' rs rs' o o' e f (Onward.step found good on) = absurd (stuck at rs o e found good)

pub one_outcome : (room : Room) (text : List ℕ) (at at' : ℕ) (rs rs' : Records) (o o' : Option Refusal) → Passed room text at rs → Passed room text at' rs' → Ends room text at rs o → Ends room text at' rs' o' → (at ≡ at') × (rs ≡ rs') × (o ≡ o')
one_outcome room text at at' rs rs' o o' p q e f =
    ⊎_elim (λ on. settle room text at at' rs rs' o o' e f on) (λ on. let back = settle room text at' at rs' rs o' o f e on in (sym back.0, sym back.1, sym back.2)) (linear room text p q)
