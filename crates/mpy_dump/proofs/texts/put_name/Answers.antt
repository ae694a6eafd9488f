use Rattle.std.proofs.Common.{sym, rules}
use Rattle.mpy_dump.proofs.Plain.{plain_text}
use Rattle.mpy_dump.proofs.Putting.{puts_is}
use Rattle.mpy_dump.proofs.texts.put_name.Goals as goal

pub returns-else-has_numbered : goal.returns-else-has_numbered
returns-else-has_numbered g c = puts_is (sym (plain_text c.args.name.now (search rules))) c.put.ensures
