use Rattle.std.proofs.Common.{◌≡◌, ◌+◌, ℕ, length, refl, ap, ◌∙◌, arith}
use Rattle.std.proofs.lemmas.Result.{err_from_is_err_and}
use Rattle.mpy_base.specs.declared.limits.TheConstants.{MAX_DEPTH}
use Rattle.mpy_writer.specs.mpy_tree.Raw.{Module}
use Rattle.mpy_merge.specs.Far.{HasFarCode}
use Rattle.mpy_merge.specs.declared.fault.MergeFault.TheVariants.{TooFar}
use Rattle.mpy_merge.specs.Faults.{IsFirstFarIn}
use Rattle.mpy_merge.proofs.Filed.{exit}
use Rattle.mpy_merge.proofs.Parts.{objects_more, front_few, few_more, written_none, written_more, first_far, written_all}
use Rattle.mpy_merge.proofs.codes.write_parts.Goals as goal

pub loop-place-init : goal.loop-place-init
loop-place-init c = (refl, written_none MAX_DEPTH c.args.tables.now c.args.modules.now c.args.out.now.items)

pub write_part-requires-clause-few : goal.write_part-requires-clause-few
write_part-requires-clause-few c =
    let modules = c.args.modules.now in
    let place = c.loop-place.place in
    let more = objects_more modules place c.index-modules-place.result c.loop-place-test.true c.index-modules-place.is in
    omega (arith, more, front_few modules (place + 1), c.loop-place.invariant.0, c.requires.few)

pub returns-in_err-write_part-clause-fault : goal.returns-in_err-write_part-clause-fault
returns-in_err-write_part-clause-fault c =
    let p = err_from_is_err_and c.from_residual.result c.from_residual.ensures.1 in
    let tables = c.args.tables.now in
    let modules = c.args.modules.now in
    let m = c.index-modules-place.result in
    exit (λ f. (f ≡ TooFar c.loop-place.place) × HasFarCode tables c.loop-place.base m m.code) (λ f. (place : ℕ) × (f ≡ TooFar place) × IsFirstFarIn tables modules place) _ _ _ p.1 p.2 c.in_err-write_part.ensures.fault
    (λ f h. (c.loop-place.place, h.0, first_far MAX_DEPTH tables modules c.loop-place.place c.loop-place.base m c.args.out.now.items c.loop-place.out.items c.loop-place-test.true c.index-modules-place.is c.loop-place.invariant.0 c.loop-place.invariant.1 h.1))

pub overflow_cast-base : goal.overflow_cast-base
overflow_cast-base c =
    let same = c.objects.ensures ∙ ap (λ (z : Module). z.objects) c.module.ensures in
    let few = few_more c.args.modules.now c.loop-place.place c.index-modules-place.result c.objects.result.now c.loop-place.base c.loop-place-test.true c.index-modules-place.is same c.loop-place.invariant.0 c.requires.few in
    omega (arith, few)

pub overflow_add-base : goal.overflow_add-base
overflow_add-base c =
    let same = c.objects.ensures ∙ ap (λ (z : Module). z.objects) c.module.ensures in
    let few = few_more c.args.modules.now c.loop-place.place c.index-modules-place.result c.objects.result.now c.loop-place.base c.loop-place-test.true c.index-modules-place.is same c.loop-place.invariant.0 c.requires.few in
    omega (arith, few)

pub loop-place-preserved : goal.loop-place-preserved
loop-place-preserved c =
    let tables = c.args.tables.now in
    let modules = c.args.modules.now in
    let place = c.loop-place.place in
    let m = c.index-modules-place.result in
    let more = objects_more modules place m c.loop-place-test.true c.index-modules-place.is in
    let size = ap length (c.objects.ensures ∙ ap (λ (z : Module). z.objects) c.module.ensures) in (
      omega (arith, more, size, c.loop-place.invariant.0),
      written_more MAX_DEPTH tables modules place c.loop-place.base m c.args.out.now.items c.loop-place.out.items c.write_part.new.out.items c.loop-place-test.true c.index-modules-place.is c.loop-place.invariant.0 c.loop-place.invariant.1 c.in_ok-write_part.ensures.ok,
    )

pub returns-clause-ok : goal.returns-clause-ok
returns-clause-ok c = written_all MAX_DEPTH c.args.tables.now c.args.modules.now c.loop-place.place c.args.out.now.items c.loop-place.out.items c.loop-place-test.false c.loop-place.invariant.1
