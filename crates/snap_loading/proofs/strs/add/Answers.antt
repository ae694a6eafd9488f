use Rattle.std.proofs.Common.{sym}
use Rattle.snap_loading.proofs.Besides.{add_new}
use Rattle.snap_loading.proofs.strs.add.Goals as goal

pub returns-in_ok-insert-in-None : goal.returns-in_ok-insert-in-None
returns-in_ok-insert-in-None c =
    add_new c.args.strs.now.entries c.insert.new.self.entries c.in_ok-from_slice-in-None.field-0 c.args.number c.args.text.now c.in_ok-from_slice-in-None.ensures.items (sym c.in-None.ensures) c.in_ok-insert-in-None.ensures.entries
