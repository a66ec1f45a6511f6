use Rattle.std.proofs.Common.{◌&&◌, eqb, sym, ◌∙◌, rules, tests}
use Rattle.std.proofs.lemmas.Iterator.{YieldsList-from_slice}
use Rattle.std.proofs.lemmas.Iterator.Search.{any_from_yields_List}
use Rattle.table_board.proofs.Read.{bad_in-list_any}
use Rattle.table_board.proofs.building.Source.is_bad.Goals as goal

pub returns : goal.returns
returns c =
    any_from_yields_List (λ r. eqb r.policy c.args.policy && eqb r.state c.args.state) _ _ _ c.any.ensures.ran (YieldsList-from_slice c.args.self.now.bads.now cc) (λ x b q k. search (rules, tests))
    ∙ sym (bad_in-list_any c.args.self.now.bads.now c.args.policy c.args.state)
