use Rattle.vm_starting.proofs.shown_program.runnable_law.Goals as goal

pub returns : goal.returns
returns c = record {
  distinct = c.modules_law.ensures.distinct;
  are_modules = c.modules_law.ensures.files;
  are_verified = c.modules_law.ensures.verified;
}
