use Rattle.std.proofs.Common.{◌++◌, ◌≡◌, List, ℕ, All, sym, ap, subst, ◌∙◌, arith}
use Rattle.std.specs.List.{flat_map}
use Rattle.std.proofs.lemmas.List.Elements.{All-get_or}
use Rattle.mpy_base.specs.declared.limits.TheConstants.{MAX_DEPTH}
use Rattle.mpy_writer.specs.mpy_tree.File.{IsModule}
use Rattle.mpy_writer.specs.Writable.{IsFine}
use Rattle.image_freeze.specs.declared.named.Named.{Named}
use Rattle.image_freeze.proofs.Loops.{added_all, added_more}
use Rattle.image_freeze.proofs.Parts.{all_named, named_bytes}
use Rattle.image_freeze.proofs.modules.write_modules.Goals as goal

pub write_module-requires-clause-read : goal.write_module-requires-clause-read
write_module-requires-clause-read c =
    subst (λ (m : Named). IsModule m.held) (sym c.module-item.is) (All-get_or (λ (m : Named). IsModule m.held) c.args.modules.now c.loop-module.module-index c.module-item.result c.loop-module-test.true c.requires.read)

pub write_module-requires-clause-fine : goal.write_module-requires-clause-fine
write_module-requires-clause-fine c =
    subst (λ (m : Named). All (IsFine MAX_DEPTH) m.held.objects) (sym c.module-item.is) (All-get_or (λ (m : Named). All (IsFine MAX_DEPTH) m.held.objects) c.args.modules.now c.loop-module.module-index c.module-item.result c.loop-module-test.true c.requires.fine)

pub loop-module-preserved : goal.loop-module-preserved
loop-module-preserved c =
    let f = named_bytes c.args.pool.now in
    added_more f c.args.modules.now c.loop-module.module-index c.module-item.result c.args.out.now.items c.loop-module.out.items c.write_module.new.out.items (flat_map f c.args.modules.now) c.loop-module-test.true c.module-item.is c.in_ok-write_module.ensures c.loop-module.invariant

pub returns : goal.returns
returns c =
    let f = named_bytes c.args.pool.now in
    let all = added_all f c.args.modules.now c.loop-module.module-index c.args.out.now.items c.loop-module.out.items (flat_map f c.args.modules.now) (omega (arith, c.loop-module-test.false)) c.loop-module.invariant in
    all ∙ ap (λ (z : List ℕ). c.args.out.now.items ++ z) (all_named c.args.pool.now c.args.modules.now)
