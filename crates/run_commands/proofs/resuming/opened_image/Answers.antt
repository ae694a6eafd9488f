use Rattle.run_commands.proofs.resuming.opened_image.Goals as goal

pub returns-in-Ok-clause-holds : goal.returns-in-Ok-clause-holds
returns-in-Ok-clause-holds c = record {
  distinct = c.modules_law.ensures.distinct;
  are_modules = c.modules_law.ensures.files;
  are_verified = c.modules_law.ensures.verified;
}
