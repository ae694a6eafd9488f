use Rattle.emit_measures.proofs.Faulty.{too_long, too_big}
use Rattle.emit_measures.proofs.text_faults.many_locals_fault.Goals as goal

pub returns-then-text_length-gt-MAX_WIDE_LENGTH : goal.returns-then-text_length-gt-MAX_WIDE_LENGTH
returns-then-text_length-gt-MAX_WIDE_LENGTH c = too_long c.args.locals.now c.args.level c.args.body.now c.text_length.result c.text_length.ensures c.if-text_length-gt-MAX_WIDE_LENGTH.true

pub returns : goal.returns
returns c = too_big c.args.locals.now c.args.level c.args.body.now c.text_length.result c.text_length.ensures c.if-text_length-gt-MAX_WIDE_LENGTH.false c.requires
