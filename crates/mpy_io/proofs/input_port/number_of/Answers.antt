use Rattle.mpy_io.proofs.Decimals.{no_decimal, where_failed}
use Rattle.mpy_io.proofs.input_port.number_of.Goals as goal

pub returns-in_err-text-clause-only : goal.returns-in_err-text-clause-only
returns-in_err-text-clause-only c = λ n decimal.
    no_decimal c.args.text.now n (where_failed c.from_utf8.result c.map_err.result c.in_err-text.field-0.0 _ _ c.map_err.ensures.variant c.in_err-text.was c.from_utf8.ensures.cases) decimal
