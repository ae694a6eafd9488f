use Rattle.vm_starting.specs.Programs.{IsProgramOf}
use Rattle.snap_loading.proofs.Fitted.{least_program, least_means, least_is, least_runs}
use Rattle.snap_loading.proofs.Gathering.{gathered}
use Rattle.snap_loading.proofs.Partwise.{frames_are_fine}
use Rattle.snap_loading.proofs.Standing.{Laws}
use Rattle.snap_loading.proofs.suspended.saved_frames_law.Goals as goal

pub returns : goal.returns
returns c shelf vm tabled is saved =
    let laws : Laws = record {
      code = c.code_law.ensures;
      rooms = c.rooms_law.ensures.least;
      stands = c.frames_law.ensures.stands;
      waits = c.frames_law.ensures.waits;
      marks = c.frames_law.ensures.marks;
    } in
    let given = c.program_law.ensures.exists shelf is.runnable in
    let p = least_program given.0 given.1.means in
    let program : IsProgramOf shelf p = least_runs given.0 given.1.means shelf given.1 in
    frames_are_fine laws c.rows_law.ensures.as_many c.entries_law.ensures p (least_means given.0 given.1.means) vm (gathered shelf vm p is saved program) (is.runs saved.goes_on p program)
    (least_is given.0 given.1.means) shelf program.shelf_is tabled.rows
