use Rattle.bc_library.specs.bc_flow.Verified as flow
use Rattle.bc_library.specs.bc_verify.Body.{flow_of}
use Rattle.snap_states.proofs.Shaping.{row_short, row_verified, row_says, body_in}
use Rattle.snap_states.proofs.shapes.shapes_in.Goals as goal

pub items_of-requires-clause-decodes : goal.items_of-requires-clause-decodes
items_of-requires-clause-decodes c = (c.requires.2.is_row.list.items, c.requires.2.is_row.listed.is_list)

pub items_of-requires-clause-short : goal.items_of-requires-clause-short
items_of-requires-clause-short c = row_short c.args.library.now c.modules_law.ensures.files c.modules_law.ensures.verified c.requires.0 c.requires.1 c.args.row.now c.requires.2

pub unreachable-requires : goal.unreachable-requires
unreachable-requires c =
    let items = c.in_ok-listed.listed.items.items in
    let offsets = c.in_ok-listed.listed.offsets.items in
    let body = body_in c.args.row.now items c.len.result in
    let says = row_says c.args.library.now c.requires.0 c.requires.1 c.args.row.now c.requires.2 items offsets c.len.result c.len.ensures c.in_ok-listed.ensures in
    let v = row_verified c.args.library.now c.modules_law.ensures.files c.modules_law.ensures.verified c.requires.0 c.requires.1 c.args.row.now c.requires.2 body offsets says in
    let none : flow.Verified (flow_of body) → ⊥ = rw c.in-Err.is at c.in_ok-states.ensures.none in
    none v

pub returns : goal.returns
returns c = λ m k is. record {
  placed = is.code;
  there = is.there;
  says = row_says c.args.library.now m k c.args.row.now is c.in_ok-listed.listed.items.items c.in_ok-listed.listed.offsets.items c.len.result c.len.ensures c.in_ok-listed.ensures;
  holds = rw c.in-Ok.is at c.in_ok-states.ensures.holds;
  least = rw c.in-Ok.is at c.in_ok-states.ensures.least;
  reached = rw c.in-Ok.is at c.in_ok-states.ensures.reached;
}
