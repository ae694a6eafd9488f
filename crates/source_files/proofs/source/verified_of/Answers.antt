use Rattle.std.proofs.Common.{sym, subst}
use Rattle.library_files.specs.bc_library.bc_verify.Verified.{IsVerified}
use Rattle.library_files.proofs.Read.{same_read, not_read}
use Rattle.source_files.proofs.Given.{verified_as}
use Rattle.source_files.proofs.source.verified_of.Goals as goal

pub known_verified-requires : goal.known_verified-requires
known_verified-requires c =
    let m = c.requires.0 in
    subst IsVerified (same_read c.read.result c.in-Ok.raw m c.in-Ok.is (c.read.ensures.only m c.requires.1.file)) c.requires.1.verified

pub returns-in-Ok : goal.returns-in-Ok
returns-in-Ok c =
    let m = c.requires.0 in
    verified_as c.args.bytes.now c.in-Ok.raw c.known_verified.result c.in-Ok.ensures.found
    (subst IsVerified (same_read c.read.result c.in-Ok.raw m c.in-Ok.is (c.read.ensures.only m c.requires.1.file)) c.requires.1.verified) c.known_verified.ensures

pub unreachable-requires : goal.unreachable-requires
unreachable-requires c =
    let m = c.requires.0 in
    not_read c.read.result c.in-Err-Fault.field-0 c.in-Err-Fault.field-0-0 m c.in-Err-Fault.is c.in-Err-Fault.field-0-is (c.read.ensures.only m c.requires.1.file)
