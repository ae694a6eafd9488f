use Rattle.mpy_writer.specs.File.{labelled}
use Rattle.mpy_writer.specs.Layouts.{IsLaidOut}
use Rattle.mpy_writer.specs.Writable.{IsNumberedCode}
use Rattle.mpy_writer.proofs.Lists.{seen, zip_seen}
use Rattle.mpy_writer.proofs.code.layouts.Goals as goal

pub layout_of-requires-clause-sound : goal.layout_of-requires-clause-sound
layout_of-requires-clause-sound c = seen IsNumberedCode (λ x. x.now) c.args.codes.now c.loop-code.code-index c.code-item.result c.requires.sound c.loop-code-test.true c.code-item.is

pub loop-code-preserved : goal.loop-code-preserved
loop-code-preserved c =
    zip_seen (λ code layout. IsLaidOut (labelled c.args.tables.now code) layout) (λ x. x.now) c.args.codes.now c.loop-code.all.items c.push.new.self.items c.loop-code.code-index c.code-item.result c.in_ok-layout_of.field-0
    c.loop-code-test.true c.code-item.is c.loop-code.invariant c.in_ok-layout_of.ensures.ok c.in_ok-push.ensures.items
