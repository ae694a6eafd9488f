use Rattle.vm_fetching.specs.frame_moves.Shown.{view_of}
use Rattle.vm_states.proofs.Readying as readying
use Rattle.vm_states.proofs.ready.ready_law.Goals as goal

pub returns-clause-row : goal.returns-clause-row
returns-clause-row c p s first others means run are = readying.row_there p s first others means run are c.rows_law.ensures.as_many

pub returns-clause-verified : goal.returns-clause-verified
returns-clause-verified c p s first others row means run are = readying.verified_row p s first others means run are row

pub returns-clause-starts : goal.returns-clause-starts
returns-clause-starts c p s first others row means run are = readying.starts_at p s first others means run are row

pub returns-clause-ready : goal.returns-clause-ready
returns-clause-ready c p s first others row fetched means run are is fetches =
    let laws : readying.Laws = record {
      runs = c.rows_law.ensures.runs;
      file = c.rows_law.ensures.file;
      finds = c.standing_law.ensures.finds;
      goes_on = c.standing_law.ensures.goes_on;
      rooms = c.room_law.ensures.stands;
      step = c.step_law.ensures.step;
      next = c.step_law.ensures.next;
      slots = λ t call. c.tops_law.ensures.slots (view_of t) call;
      entries = λ t call. c.tops_law.ensures.entries (view_of t) call;
      locals = λ t call. c.tops_law.ensures.locals (view_of t) call;
    } in
    readying.ready laws p s first others means run are row is fetched fetches
