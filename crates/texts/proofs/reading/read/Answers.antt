use Rattle.std.proofs.Common.{refl, rules}
use Rattle.texts.specs.Contents.{contents}
use Rattle.texts.specs.Readings.{Outcome}
use Rattle.texts.proofs.Accepts.{accepts}
use Rattle.texts.proofs.Refuses.{refuses}
use Rattle.texts.proofs.OneWay.{called, only, passed_on, uncalled}
use Rattle.texts.proofs.reading.read.Goals as goal

pub returns-in_err-check_length : goal.returns-in_err-check_length
returns-in_err-check_length c =
    let long = c.in_err-check_length.ensures in
    let ls = contents c.args.lists.now in
    let o : Outcome c.args.text.now ls ls c.from_residual.result = passed_on _ c.from_residual.ensures.1 (Outcome.too_long long.0 refl long.1) in
    search (rules, only, accepts, refuses)

pub returns-in_err-read_lines : goal.returns-in_err-read_lines
returns-in_err-read_lines c =
    let o = passed_on _ c.from_residual-in_err-read_lines.ensures.1 (Outcome.broken_line c.in_ok-check_length.ensures c.in_err-read_lines.ensures.reads) in
    search (rules, only, accepts, refuses)

pub returns-in_err-check_calls : goal.returns-in_err-check_calls
returns-in_err-check_calls c =
    let o = passed_on _ c.from_residual-in_err-check_calls.ensures.1 (uncalled c.in_ok-check_length.ensures c.in_ok-read_lines.ensures.reads c.sofar.ensures c.in_err-check_calls.ensures) in
    search (rules, only, accepts, refuses)

pub returns : goal.returns
returns c =
    let o = called c.in_ok-check_length.ensures c.in_ok-read_lines.ensures.reads c.sofar.ensures c.in_ok-check_calls.ensures in
    search (rules, only, accepts, refuses)
