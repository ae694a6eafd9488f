use Rattle.std.proofs.Common.{inr, ap, Err}
use Rattle.run_commands.proofs.Resumption.{first_fault}
use Rattle.run_commands.proofs.resuming.load_state.Goals as goal

pub returns-in-Err-Fault-clause-refused : goal.returns-in-Err-Fault-clause-refused
returns-in-Err-Fault-clause-refused c = λ files name holds.
    inr (record {
      bytes = c.args.bytes.now;
      holds = holds;
      first = first_fault c.args.library.now c.args.bytes.now (Err c.in-Err-Fault.field-0) c.in-Err-Fault.ensures.header c.in-Err-Fault.ensures.form c.in-Err-Fault.ensures.state c.in-Err-Fault.fault
          (ap Err c.in-Err-Fault.field-0-is);
      tabled = c.tables_law.ensures;
    })
