use Rattle.texts.proofs.Runs.{all_digits, front, number_is_spelled, number_from_digits}
use Rattle.texts.proofs.number.number.Goals as goal

pub value_of-requires : goal.value_of-requires
value_of-requires c = rw (c.split_at.ensures.front, c.digits_len.ensures, front) (all_digits c.args.text.now)

pub returns-in_err-value_of : goal.returns-in_err-value_of
returns-in_err-value_of c =
    rw c.from_residual.ensures (λ n rest found.
    c.in_err-value_of.ensures (rw (c.split_at.ensures.front, c.digits_len.ensures, front) (number_is_spelled c.args.text.now found)))

pub returns : goal.returns
returns c =
    let is = rw (c.split_at.ensures.front, c.digits_len.ensures, front) at c.in_ok-value_of.ensures in
    rw (is.1, c.split_at.ensures.back, c.digits_len.ensures) (number_from_digits c.args.text.now is.0)
