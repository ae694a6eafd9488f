use Rattle.py_tokens.specs.declared.lexeme.Class.TheVariants as classes
use Rattle.py_tokens.proofs.Lexemes.{class_finds}
use Rattle.py_tokens.proofs.lexeme.lexeme_at.Goals as goal

pub returns-in-Backslash : goal.returns-in-Backslash
returns-in-Backslash c = class_finds c.args.opt classes.Backslash c.args.bytes.now c.join_at.result c.in-Backslash.ensures (c.join_at.ensures c.args.opt)

pub returns-in-Number : goal.returns-in-Number
returns-in-Number c = class_finds c.args.opt classes.Number c.args.bytes.now c.number_at.result c.in-Number.ensures (c.number_at.ensures c.args.opt)

pub returns-in-Mark : goal.returns-in-Mark
returns-in-Mark c = class_finds c.args.opt classes.Mark c.args.bytes.now c.mark_at.result c.in-Mark.ensures (c.mark_at.ensures c.args.opt)
