use Rattle.std.proofs.Common.{refl}
use Rattle.library_files.proofs.Read.{same_read, not_read, of_module}
use Rattle.library_files.proofs.module_files.bytes_entry.Goals as goal

pub returns-in-Ok : goal.returns-in-Ok
returns-in-Ok c =
    of_module c.args.bytes.now c.in-Ok.raw _ c.module_entry.result refl c.in-Ok.ensures.found
    (λ m file. same_read c.read.result c.in-Ok.raw m c.in-Ok.is (c.read.ensures.only m file)) c.module_entry.ensures

pub returns-in-Err-Fault : goal.returns-in-Err-Fault
returns-in-Err-Fault c m v =
    not_read c.read.result c.in-Err-Fault.field-0 c.in-Err-Fault.field-0-0 m c.in-Err-Fault.is c.in-Err-Fault.field-0-is (c.read.ensures.only m v.file)
