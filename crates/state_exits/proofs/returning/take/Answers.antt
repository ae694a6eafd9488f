use Rattle.std.proofs.Common.{sym, ◌∙◌, subst}
use Rattle.vm_states.specs.bc_library.Shelf.{Shelf}
use Rattle.vm_states.specs.bc_rows.Rows.{IsRow}
use Rattle.vm_states.specs.frame_moves.Shown.{view_of}
use Rattle.state_exits.proofs.Returns.{same_calls}
use Rattle.state_exits.proofs.Taking.{some_waits, room, next_is, begins}
use Rattle.state_exits.proofs.Takes.{no_row, row_here, row_verified, row_starts, fetched_here}
use Rattle.state_exits.proofs.returning.take.Goals as goal

pub running-module_number-requires : goal.running-module_number-requires
running-module_number-requires c = let h = c.requires.waits in some_waits h.0 c.args.v c.args.frames.now h.3

pub unreachable-requires : goal.unreachable-requires
unreachable-requires c =
    let h = c.requires.waits in
    no_row h.0 h.1 c.args.v c.args.frames.now h.3 c.args.rows.now (h.2 ∙ sym c.requires.rows) c.running-module_number.result.0 c.running-module_number.result.1 c.running-module_number.ensures.module_number c.running-module_number.ensures.code
    c.rows_law.ensures.as_many c.in_default.ensures.none

pub offset-requires : goal.offset-requires
offset-requires c = let h = c.requires.waits in some_waits h.0 c.args.v c.args.frames.now h.3

pub fetch-fetched-requires-clause-row : goal.fetch-fetched-requires-clause-row
fetch-fetched-requires-clause-row c =
    let h = c.requires.waits in
    let n = c.running-module_number.result.0 in
    let k = c.running-module_number.result.1 in
    let row = c.in-Some.row.now in
    row_verified h.0 h.1 c.args.v c.args.frames.now h.3 c.args.library.now h.2 n k c.running-module_number.ensures.module_number c.running-module_number.ensures.code row
    (subst (λ (z : Shelf). IsRow z n k row) c.requires.rows c.in-Some.ensures.is)

pub fetch-fetched-requires-clause-starts : goal.fetch-fetched-requires-clause-starts
fetch-fetched-requires-clause-starts c =
    let h = c.requires.waits in
    let n = c.running-module_number.result.0 in
    let k = c.running-module_number.result.1 in
    let row = c.in-Some.row.now in
    row_starts h.0 h.1 c.args.v c.args.frames.now h.3 c.args.library.now h.2 n k c.running-module_number.ensures.module_number c.running-module_number.ensures.code row
    (subst (λ (z : Shelf). IsRow z n k row) c.requires.rows c.in-Some.ensures.is) c.offset.result c.offset.ensures

pub receive-requires : goal.receive-requires
receive-requires c = let h = c.requires.waits in room h.0 h.1 c.args.v c.args.frames.now h.3 c.room_law.ensures.stands (λ t d. c.tops_law.ensures.slots (view_of t) d)

pub returns-clause-settles : goal.returns-clause-settles
returns-clause-settles c p means same waits =
    let s = c.args.frames.now in
    let v = c.args.v in
    let n = c.running-module_number.result.0 in
    let k = c.running-module_number.result.1 in
    let row = c.in-Some.row.now in
    let is = subst (λ (z : Shelf). IsRow z n k row) c.requires.rows c.in-Some.ensures.is in
    let at = c.running-module_number.ensures.module_number in
    let code = c.running-module_number.ensures.code in
    let row_is = row_here p means v s waits c.args.library.now same n k at code row is in
    let fetched = fetched_here p means v s waits c.args.library.now same n k at code row is c.offset.result c.offset.ensures c.fetch-fetched.result c.fetch-fetched.ensures in
    record {
      steps = λ w. c.receive.ensures.state p.tables w (next_is p means v s waits row row_is c.fetch-fetched.result fetched c.rows_law.ensures.runs c.step_law.ensures.next);
      placed = λ placed. c.receive.ensures.placed (view_of p.tables) (begins p means v s waits row row_is c.fetch-fetched.result fetched c.rows_law.ensures.runs c.standing_law.ensures.there) placed;
    }

pub returns-clause-same : goal.returns-clause-same
returns-clause-same c = same_calls c.args.frames.now c.receive.new.frames _ c.receive.ensures.moved
