use Rattle.std.proofs.Common.{arith, ◌∷◌, [], None}
use Rattle.std.proofs.lemmas.Bool.Decides.{Decides-eqb}
use Rattle.std.proofs.lemmas.List.{append_cancel_left}
use Rattle.std.proofs.lemmas.Slice.Eq.{strip_prefix_is}
use Rattle.texts.proofs.Numbers.{same_number}
use Rattle.texts.proofs.Fields.{line_end}
use Rattle.texts.proofs.number.last_field.Goals as goal

pub returns-in_err-strip_prefix : goal.returns-in_err-strip_prefix
returns-in_err-strip_prefix c =
    let none = strip_prefix_is Decides-eqb c.in_ok-number.rest.now (10 ∷ []) None c.in_err-strip_prefix.ensures.cases in
    grind (arith, same_number, append_cancel_left c.args.key.now, none, line_end)
