use Rattle.std.proofs.Common.{◌<◌, ◌∙◌, length, sym, arith}
use Rattle.bc_flow.specs.Views.{behind_of}
use Rattle.bc_flow.proofs.Loops.{marked_on, marked_off}
use Rattle.bc_flow.proofs.rules.are_marked.Goals as goal

pub returns-then-not-is_marked : goal.returns-then-not-is_marked
returns-then-not-is_marked c =
    let es = behind_of c.args.edge.entries in
    let lt : c.loop-i.i < length es = omega (arith, c.loop-i-test.true, c.len-i-end.ensures) in
    sym (c.loop-i.invariant ∙ marked_off c.args.edge.to es c.loop-i.i c.entry.result c.is_marked.result lt (c.entry.ensures c.entry.result) c.is_marked.ensures c.if-not-is_marked.true)

pub loop-i-preserved : goal.loop-i-preserved
loop-i-preserved c =
    let es = behind_of c.args.edge.entries in
    let lt : c.loop-i.i < length es = omega (arith, c.loop-i-test.true, c.len-i-end.ensures) in
    c.loop-i.invariant ∙ marked_on c.args.edge.to es c.loop-i.i c.entry.result c.is_marked.result lt (c.entry.ensures c.entry.result) c.is_marked.ensures c.if-not-is_marked.false
