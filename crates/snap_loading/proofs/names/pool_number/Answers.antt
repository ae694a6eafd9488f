use Rattle.std.proofs.Common.{arith}
use Rattle.snap_loading.proofs.Numbering.{number_is, number_not, number_none}
use Rattle.snap_loading.proofs.names.pool_number.Goals as goal

pub returns-then-is_text : goal.returns-then-is_text
returns-then-is_text c =
    number_is c.args.library.now.pool c.static_law.ensures.one_to_one (omega (arith, c.static_law.ensures.count)) c.library_law.ensures.first c.args.text.now c.library_law.ensures.one_number c.in-Some.number (c.is_text.ensures.yes c.if-is_text.true)

pub returns-else-is_text : goal.returns-else-is_text
returns-else-is_text c =
    number_not c.args.library.now.pool c.static_law.ensures.one_to_one (omega (arith, c.static_law.ensures.count)) c.library_law.ensures.first c.args.text.now c.number.result c.number.ensures c.in-Some.number c.in-Some.is (c.is_text.ensures.no c.if-is_text.false)

pub returns-in-None : goal.returns-in-None
returns-in-None c =
    number_none c.args.library.now.pool c.static_law.ensures.one_to_one (omega (arith, c.static_law.ensures.count)) c.library_law.ensures.first c.args.text.now c.number.result c.number.ensures c.in-None.is
