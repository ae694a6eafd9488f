use Rattle.std.proofs.Common.{◌≡◌, ◌+◌, ◌<◌, ℕ, List, length, map, take, Some, sym, ap, ◌∙◌, arith}
use Rattle.std.specs.Prelude.{slice_get}
use Rattle.std.proofs.lemmas.List.{length-map, length-take-le, take_all}
use Rattle.mpy_base.specs.declared.limits.TheConstants.{MAX_MODULES}
use Rattle.arena_heap.specs.declared.value.ModuleNo.{ModuleNo}
use Rattle.vm_starting.specs.vm_states.prim_modules.declared.entry.Entry.{Entry}
use Rattle.vm_starting.specs.vm_states.prim_modules.Registry.{Registry}
use Rattle.snap_states.specs.Decoded.{entry_of}
use Rattle.snap_loading.proofs.Putting.{take_long}
use Rattle.snap_loading.proofs.Readied.{module_more}
use Rattle.snap_loading.proofs.making.modules_of.Goals as goal

pub loop-at-init : goal.loop-at-init
loop-at-init c = c.in_ok-modules.ensures

pub register-requires : goal.register-requires
register-requires c =
    let shelf = c.args.lookup.now.library.now in
    let s = c.args.lookup.now.snapshot.now in
    let all : length c.as_slice-numbers.result.now ≡ length s.modules = ap length c.as_slice-numbers.ensures in
    let long = take_long (entry_of shelf s) s.modules c.loop-at.at (omega (arith, all, c.loop-at-test.true)) in
    let entries : length c.loop-at.modules.entries ≡ c.loop-at.at = ap (λ (r : Registry). length r.entries) c.loop-at.invariant ∙ long in
    let room : c.loop-at.modules.room ≡ MAX_MODULES + 1 = ap (λ (r : Registry). r.room) c.loop-at.invariant in
    omega (arith, entries, room, all, c.loop-at-test.true, c.requires.few)

pub loop-at-preserved : goal.loop-at-preserved
loop-at-preserved c =
    let s = c.args.lookup.now.snapshot.now in
    let at : slice_get s.modules c.loop-at.at ≡ Some c.number_at-number.result =
    ap (λ (ns : List ℕ). slice_get ns c.loop-at.at) (sym c.as_slice-numbers.ensures) ∙ c.number_at-number.ensures in
    module_more c.args.lookup.now.library.now s c.loop-at.modules c.register.new.self c.loop-at.at c.number_at-number.result c.object_name-name.result c.cell_of-cell.result
    c.loop-at.invariant at c.object_name-name.ensures c.cell_of-cell.ensures c.register.ensures

pub returns : goal.returns
returns c =
    let shelf = c.args.lookup.now.library.now in
    let s = c.args.lookup.now.snapshot.now in
    let all : length c.as_slice-numbers.result.now ≡ length s.modules = ap length c.as_slice-numbers.ensures in
    c.loop-at.invariant
    ∙ ap (λ (ns : List ℕ). let r : Registry = record { entries = map (entry_of shelf s) ns; room = MAX_MODULES + 1 } in r)
    (take_all c.loop-at.at s.modules (omega (arith, all, c.loop-at-test.false)))
