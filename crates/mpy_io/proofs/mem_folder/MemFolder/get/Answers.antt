use Rattle.std.proofs.Common.{rules}
use Rattle.mpy_io.proofs.Places.{got_none, got_some}
use Rattle.mpy_io.proofs.mem_folder.MemFolder.get.Goals as goal

pub returns-in_err-place : goal.returns-in_err-place
returns-in_err-place c =
    got_none c.from_residual.result c.args.name.now c.deref.result.now c.self.inside.files.items c.args.self.now.files c.from_residual.ensures (search rules) c.deref.ensures.value (search rules)

pub returns : goal.returns
returns c =
    got_some c.as_slice.result.now c.args.name.now c.deref.result.now c.self.inside.files.items c.in_ok-place.place c.index.result.now c.args.self.now.files (search rules) (search rules) (search rules) c.deref.ensures.value (search rules)
