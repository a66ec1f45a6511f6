-- What a line keeps that breaks no rule. Assumes nothing.
use Rattle.std.proofs.Common.{◌≡◌, true, Some, None, Option, arith}
use Rattle.records.specs.declared.record.Line.{Line}
use Rattle.records.specs.Rules.{Records, breach, in_order, in_limits, is_there}

pub some_none : {X : Type 0} (x : X) → ◌≡◌ {A = Option X} (Some x) None → ⊥
some_none x e = cc

pub record Kept (rs : Records) (line : Line) : Type 0 where
  pub order : in_order rs line ≡ true
  pub limits : in_limits rs line ≡ true
  pub there : is_there rs line ≡ true

pub kept : (rs : Records) (line : Line) → breach rs line ≡ None → Kept rs line
unfolding breach
kept rs line e = record { order = grind arith; limits = grind arith; there = grind arith }
