use Rattle.std.proofs.Common.{◌<◌, ◌∙◌, length, sym, arith}
use Rattle.bc_flow.specs.Views.{behind_of}
use Rattle.bc_flow.proofs.Loops.{entries_on, entries_off}
use Rattle.bc_flow.proofs.walk.same_entries.Goals as goal

pub returns-then-not-same_entry : goal.returns-then-not-same_entry
returns-then-not-same_entry c =
    let ds = c.args.entries.now in
    let es = behind_of c.args.edge.entries in
    let lt : c.loop-i.i < length es = omega (arith, c.loop-i-test.true, c.len-count.ensures) in
    let in_ds : c.loop-i.i < length ds = omega (arith, c.loop-i-test.true, c.if-entries-count.false) in
    sym (c.loop-i.invariant ∙ entries_off ds es c.args.edge.to c.loop-i.i c.entry.result _ c.same_entry.result in_ds lt (c.entry.ensures c.entry.result) c.same_entry.ensures c.if-not-same_entry.true)

pub loop-i-preserved : goal.loop-i-preserved
loop-i-preserved c =
    let ds = c.args.entries.now in
    let es = behind_of c.args.edge.entries in
    let lt : c.loop-i.i < length es = omega (arith, c.loop-i-test.true, c.len-count.ensures) in
    let in_ds : c.loop-i.i < length ds = omega (arith, c.loop-i-test.true, c.if-entries-count.false) in
    c.loop-i.invariant ∙ entries_on ds es c.args.edge.to c.loop-i.i c.entry.result _ c.same_entry.result in_ds lt (c.entry.ensures c.entry.result) c.same_entry.ensures c.if-not-same_entry.false
