use Rattle.run_commands.proofs.ready.image_ready.Goals as goal

pub returns-in-Ok-image_library-clause-there : goal.returns-in-Ok-image_library-clause-there
returns-in-Ok-image_library-clause-there c = rw c.in-Ok.ensures c.in-Ok-image_library.ensures.there
