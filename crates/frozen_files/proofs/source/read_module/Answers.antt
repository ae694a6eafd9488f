use Rattle.std.proofs.Common.{subst}
use Rattle.image_freeze.specs.image_open.bc_verify.Verified.{IsVerified}
use Rattle.source_files.proofs.library_files_lemmas.Read.{same_read, not_read}
use Rattle.frozen_files.proofs.source.read_module.Goals as goal

pub returns-in-Ok : goal.returns-in-Ok
returns-in-Ok c =
    let m = c.requires.0 in
    record {
      file = c.in-Ok.ensures.found;
      verified = subst IsVerified (same_read c.read.result c.in-Ok.raw m c.in-Ok.is (c.read.ensures.only m c.requires.1.file)) c.requires.1.verified;
    }

pub unreachable-requires : goal.unreachable-requires
unreachable-requires c =
    let m = c.requires.0 in
    not_read c.read.result c.in-Err-Fault.field-0 c.in-Err-Fault.field-0-0 m c.in-Err-Fault.is c.in-Err-Fault.field-0-is (c.read.ensures.only m c.requires.1.file)
