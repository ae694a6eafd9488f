use Rattle.vm_starting.proofs.Programs.{Laws, exists, finds_all}
use Rattle.vm_starting.proofs.shown_program.program_law.Goals as goal

pub returns-clause-exists : goal.returns-clause-exists
returns-clause-exists c shelf is =
    let laws : Laws = record {
      once = record { one_start = c.listing_law.ensures.one_start };
      library = c.stored_law.ensures.library;
      rooms = c.module_law.ensures.rooms;
    } in
    exists laws shelf is

pub returns-clause-finds : goal.returns-clause-finds
returns-clause-finds c p means = finds_all p means
