use Rattle.std.proofs.Common.{Some, None}
use Rattle.std.proofs.lemmas.Bool.Decides.{Decides-eqb}
use Rattle.std.proofs.lemmas.Slice.Eq.{strip_prefix_is}
use Rattle.texts.proofs.Fields.{field_from}
use Rattle.texts.proofs.number.field.Goals as goal

pub returns-in_err-strip_prefix : goal.returns-in_err-strip_prefix
returns-in_err-strip_prefix c =
    let none = strip_prefix_is Decides-eqb c.args.text.now c.args.key.now None c.in_err-strip_prefix.ensures.cases in
    rw c.from_residual.ensures (λ n rest found. none _ found.reads)

pub returns : goal.returns
returns c =
    field_from c.args.key.now _ (strip_prefix_is Decides-eqb c.args.text.now c.args.key.now (Some c.in_ok-strip_prefix.field-0) c.in_ok-strip_prefix.ensures.cases) _ c.number.ensures
