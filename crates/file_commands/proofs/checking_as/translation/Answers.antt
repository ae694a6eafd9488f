use Rattle.std.proofs.Common.{Err, ap, subst}
use Rattle.file_commands.specs.Texts.{HoldsText}
use Rattle.file_commands.proofs.CheckedAs.{is_there, unread, long_source, refused_by}
use Rattle.file_commands.proofs.checking_as.translation.Goals as goal

pub returns-in-Err-Fault-clause-refused : goal.returns-in-Err-Fault-clause-refused
returns-in-Err-Fault-clause-refused c files source file told has holds =
    let fault = c.in-Err-Fault.fault in
    let first = c.in-Err-Fault.ensures.first fault (ap Err c.in-Err-Fault.field-0-is) in
    rw c.in-Err-Fault.field-0-is (unread c.args.level files source file told (is_there files source c.args.text has) c.args.bytes.now holds fault first)

pub returns-in-Some-clause-refused : goal.returns-in-Some-clause-refused
returns-in-Some-clause-refused c =
    refused_by c.args.level c.codes_compared.result c.args.text c.in-Some.text c.deref.result.now c.args.bytes.now c.in-Ok.have c.in-Some.is c.deref.ensures.value c.in-Ok.ensures.found c.codes_compared.ensures.refused

pub returns-clause-refused : goal.returns-clause-refused
returns-clause-refused c files source file told has holds =
    let own = c.resolves_law.ensures.tree c.in-Ok.have c.module_law.ensures in
    long_source c.args.level files source file told c.args.bytes.now holds c.in-Ok.have c.in-Ok.ensures.found own.0 own.1
    (subst (HoldsText files source) c.in-None.is has) c.too_long.result c.too_long.ensures
