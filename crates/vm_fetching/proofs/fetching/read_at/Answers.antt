use Rattle.std.proofs.Common.{arith}
use Rattle.frame_moves.proofs.bc_labels_lemmas.Pieces.{found, reads, within}
use Rattle.vm_fetching.proofs.Reading.{next_at}
use Rattle.vm_fetching.proofs.fetching.read_at.Goals as goal

pub decode_at-requires : goal.decode_at-requires
decode_at-requires c = let w = within c.args.bytes.now c.requires.starts.0 c.args.at c.requires.starts.1 c.requires.starts.2 in omega (arith, w)

pub unreachable-requires : goal.unreachable-requires
unreachable-requires c =
    let r = reads c.args.bytes.now c.requires.starts.0 c.args.at c.decode_at.result c.requires.starts.1 c.requires.starts.2 c.decode_at.ensures.only in
    c.in_default.not-Ok (r.0, r.1) r.2

pub overflow_cast-result : goal.overflow_cast-result
overflow_cast-result c =
    let f = found c.args.bytes.now c.requires.starts.0 c.args.at c.decode_at.result c.in-Ok.instr c.in-Ok.end c.requires.starts.1 c.requires.starts.2 c.decode_at.ensures.only c.in-Ok.is in
    let m = f.1 in
    omega (arith, m)

pub returns-clause-reads : goal.returns-clause-reads
returns-clause-reads c l ls st = (found c.args.bytes.now l c.args.at c.decode_at.result c.in-Ok.instr c.in-Ok.end ls st c.decode_at.ensures.only c.in-Ok.is).0

pub returns-clause-next : goal.returns-clause-next
returns-clause-next c l ls st = (next_at c.args.bytes.now l c.args.at c.decode_at.result c.in-Ok.instr c.in-Ok.end ls st c.decode_at.ensures.only c.in-Ok.is).0

pub returns-clause-behind : goal.returns-clause-behind
returns-clause-behind c =
    (next_at c.args.bytes.now c.requires.starts.0 c.args.at c.decode_at.result c.in-Ok.instr c.in-Ok.end c.requires.starts.1 c.requires.starts.2 c.decode_at.ensures.only c.in-Ok.is).1
