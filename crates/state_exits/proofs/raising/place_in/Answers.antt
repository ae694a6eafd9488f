use Rattle.state_exits.proofs.Places.{place_found}
use Rattle.state_exits.proofs.raising.place_in.Goals as goal

pub returns : goal.returns
returns c = place_found c.args.row.now c.args.frames.now.calls c.offset.result c.line_of-line.result c.offset.ensures c.line_of-line.ensures
