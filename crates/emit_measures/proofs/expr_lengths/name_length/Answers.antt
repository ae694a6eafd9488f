use Rattle.std.proofs.Common.{true, false, sym, ◌∙◌}
use Rattle.std.specs.Str.{bytes_eq}
use Rattle.emit_measures.proofs.Early.{early_length}
use Rattle.emit_measures.proofs.expr_lengths.name_length.Goals as goal

pub returns-then-is_among : goal.returns-then-is_among
returns-then-is_among c =
    early_length (bytes_eq c.args.name.now) c.args.locals.now c.min.result true c.min.ensures (sym c.is_among.ensures ∙ c.if-is_among.true)

pub returns-else-is_among : goal.returns-else-is_among
returns-else-is_among c =
    early_length (bytes_eq c.args.name.now) c.args.locals.now c.min.result false c.min.ensures (sym c.is_among.ensures ∙ c.if-is_among.false)
