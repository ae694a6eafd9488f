use Rattle.std.proofs.Common.{subst, sym}
use Rattle.manifest_files.specs.Quiet.{IsQuiet, AreQuiet}
use Rattle.manifest_files.proofs.Quiet.{keep_one}
use Rattle.manifest_files.proofs.kept.keep.Goals as goal

pub returns : goal.returns
returns c = λ files h is.
    subst (AreQuiet files) (sym c.in_ok-insert.ensures.entries)
    (keep_one files c.in_ok-from_slice.field-0 c.args.left c.args.quiet.now.entries (subst (IsQuiet files c.args.left) (sym c.in_ok-from_slice.ensures.items) is) h)
