use Rattle.std.proofs.Common.{◌<◌, ◌∙◌, length, sym, arith}
use Rattle.bc_flow.specs.Views.{behind_of}
use Rattle.bc_flow.proofs.Loops.{arriving_on, arriving_off}
use Rattle.bc_flow.proofs.walk.same_arrive.Goals as goal

pub returns-then-not-same_entry : goal.returns-then-not-same_entry
returns-then-not-same_entry c =
    let ds = behind_of c.args.edge.entries in
    let es = behind_of c.args.other.entries in
    let in_ds : c.loop-i.i < length ds = omega (arith, c.loop-i-test.true, c.len-count.ensures) in
    let in_es : c.loop-i.i < length es = omega (arith, c.loop-i-test.true, c.len.ensures, c.if-len-count.false) in
    sym (c.loop-i.invariant ∙ arriving_off ds es c.args.edge.to c.args.other.to c.loop-i.i c.entry.result c.entry-in-loop-i.result c.same_entry.result in_ds in_es (c.entry.ensures c.entry.result) (c.entry-in-loop-i.ensures c.entry-in-loop-i.result) c.same_entry.ensures c.if-not-same_entry.true)

pub loop-i-preserved : goal.loop-i-preserved
loop-i-preserved c =
    let ds = behind_of c.args.edge.entries in
    let es = behind_of c.args.other.entries in
    let in_ds : c.loop-i.i < length ds = omega (arith, c.loop-i-test.true, c.len-count.ensures) in
    let in_es : c.loop-i.i < length es = omega (arith, c.loop-i-test.true, c.len.ensures, c.if-len-count.false) in
    c.loop-i.invariant ∙ arriving_on ds es c.args.edge.to c.args.other.to c.loop-i.i c.entry.result c.entry-in-loop-i.result c.same_entry.result in_ds in_es (c.entry.ensures c.entry.result) (c.entry-in-loop-i.ensures c.entry-in-loop-i.result) c.same_entry.ensures c.if-not-same_entry.false
