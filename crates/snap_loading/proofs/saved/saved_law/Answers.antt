use Rattle.snap_loading.proofs.Gathering.{gathered, some_calls}
use Rattle.snap_loading.proofs.Saving.{few_parts, has_room, has_modules, some_parts}
use Rattle.snap_loading.proofs.saved.saved_law.Goals as goal

pub returns-clause-room : goal.returns-clause-room
returns-clause-room c shelf vm is saved =
    let p = c.program_law.ensures.exists shelf is.runnable in has_room shelf vm p.0 saved (gathered shelf vm p.0 is saved p.1)

pub returns-clause-registered : goal.returns-clause-registered
returns-clause-registered c shelf vm is saved =
    let p = c.program_law.ensures.exists shelf is.runnable in
    has_modules shelf vm p.0 p.1 (is.runs saved.goes_on p.0 p.1) (gathered shelf vm p.0 is saved p.1)

pub returns-clause-some_frames : goal.returns-clause-some_frames
returns-clause-some_frames c shelf vm is saved =
    let p = c.program_law.ensures.exists shelf is.runnable in
    some_parts shelf vm.arena vm.modules vm.frames.calls vm.paid (some_calls p.0 vm.frames.calls (is.runs saved.goes_on p.0 p.1).state.running.fits)

pub returns-clause-few_frames : goal.returns-clause-few_frames
returns-clause-few_frames c shelf vm saved = few_parts shelf vm.arena vm.modules vm.frames.calls vm.paid saved.within.few_calls
