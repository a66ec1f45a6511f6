use Rattle.std.proofs.Common.{◌≡◌, fold, rules}
use Rattle.std.proofs.iter.runs.Made.{chains}
use Rattle.texts.proofs.Runs.{pushed, value_folds}
use Rattle.texts.proofs.number.value_of.Goals as goal

pub returns : goal.returns
returns c =
    let spelled = c.is_spelled.ensures.0 c.if-not-is_spelled.false in
    let folds : c.fold-number.result ≡ fold pushed 0 c.args.digits.now = search (rules, chains) in
    (spelled, rw folds (value_folds c.args.digits.now c.requires spelled))
