use Rattle.run_commands.proofs.Suspending.{cut, written}
use Rattle.run_commands.proofs.saving.save_state.Goals as goal

pub returns-in-Ok-write-clause-saves : goal.returns-in-Ok-write-clause-saves
returns-in-Ok-write-clause-saves g c =
    written c.args.library.now c.args.vm.now c.args.steps c.args.snap.now (g.F.Folder.files c.args.folder.now) (g.F.Folder.files c.write.new.self) c.in-Ok.bytes.items c.deref.result.now c.deref.ensures.value
    (record {
      is = c.in-Ok.ensures.saved;
      fits = c.in-Ok.ensures.fits;
      few_bytes = c.in-Ok.ensures.few_bytes;
      few_steps = c.in-Ok.ensures.few_steps;
      few_calls = c.in-Ok.ensures.few_calls;
      held = c.held_law.ensures;
    }) c.in-Ok-write.ensures.ok

pub returns-in-Ok-clause-saves : goal.returns-in-Ok-clause-saves
returns-in-Ok-clause-saves g c =
    cut c.args.library.now c.args.vm.now c.args.steps c.args.snap.now (g.F.Folder.files c.args.folder.now) (g.F.Folder.files c.write.new.self) c.in-Ok.bytes.items c.deref.result.now c.deref.ensures.value
    (record {
      is = c.in-Ok.ensures.saved;
      fits = c.in-Ok.ensures.fits;
      few_bytes = c.in-Ok.ensures.few_bytes;
      few_steps = c.in-Ok.ensures.few_steps;
      few_calls = c.in-Ok.ensures.few_calls;
      held = c.held_law.ensures;
    }) c.in-Err.ensures.err
