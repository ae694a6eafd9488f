use Rattle.std.proofs.Common.{sym, subst}
use Rattle.mpy_endings.specs.image_open.mpy_tree.File.{IsFile}
use Rattle.mpy_endings.specs.image_open.bc_verify.Verified.{IsVerified}
use Rattle.command_files.proofs.opening.verified.Goals as goal

pub returns-in-Ok-verify : goal.returns-in-Ok-verify
returns-in-Ok-verify c = (
  subst (IsFile c.args.bytes.now) (sym c.in-Ok-verify.ensures.same) c.in-Ok.ensures.found,
  subst IsVerified (sym c.in-Ok-verify.ensures.same) c.in-Ok-verify.ensures.verified,
)

pub returns-in-Fault : goal.returns-in-Fault
returns-in-Fault c = record {
  read = c.in-Ok.raw;
  file = c.in-Ok.ensures.found;
  first = c.in-Err.ensures.fault c.in-Fault.fault c.in-Fault.is;
}
