use Rattle.snap_loading.proofs.Stated.{safe}
use Rattle.snap_loading.proofs.Standing.{Laws}
use Rattle.snap_loading.proofs.safe.safe_law.Goals as goal

pub returns : goal.returns
returns c shelf s heap modules calls p is fits shaped has decodes program rooms =
    let laws : Laws = record {
      code = c.code_law.ensures;
      rooms = c.rooms_law.ensures.least;
      stands = c.frames_law.ensures.stands;
      waits = c.frames_law.ensures.waits;
      marks = c.frames_law.ensures.marks;
    } in
    safe laws shelf s heap modules calls p is fits shaped has decodes program rooms
