use Rattle.std.proofs.lemmas.List.{take_rest}
use Rattle.texts.proofs.Lines.{line_stands}
use Rattle.texts.proofs.line.line_at.Goals as goal

pub returns : goal.returns
returns c = line_stands c.args.text.now c.args.at _ _ c.requires (rw take_rest at c.in_ok-line.ensures)
