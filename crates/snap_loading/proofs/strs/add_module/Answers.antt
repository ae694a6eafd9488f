use Rattle.std.proofs.Common.{List, ap, ◌∙◌, arith}
use Rattle.std.specs.Prelude.{position}
use Rattle.std.specs.Option.{option_map, option_or}
use Rattle.std.proofs.lemmas.List.{take_all}
use Rattle.bc_library.specs.mpy_tree.declared.module.Constant.{Constant}
use Rattle.bc_library.specs.Constants.{constants_of, numbered}
use Rattle.snap_states.specs.Decoded.{is_str}
use Rattle.snap_loading.specs.Texts.{beside}
use Rattle.snap_loading.proofs.Besides.{constant_at, many, strs_more}
use Rattle.snap_loading.proofs.strs.add_module.Goals as goal

pub loop-object-preserved : goal.loop-object-preserved
loop-object-preserved c = λ n at other.
    let m = c.args.module_number in
    let x = constant_at c.args.library.now m c.args.count c.loop-object.object c.requires c.loop-object-test.true n at in
    strs_more m (constants_of n.held) c.loop-object.object x.0 other (beside c.args.strs.now.entries other) (beside c.loop-object.strs.entries other) (beside c.add_constant.new.strs.entries other) x.1
    (c.loop-object.invariant n at other) (c.in_ok-add_constant.ensures n x.0 at x.1 other)

pub returns : goal.returns
returns c = λ n at other.
    c.loop-object.invariant n at other
    ∙ ap (λ (xs : List Constant). option_or (beside c.args.strs.now.entries other) (option_map (numbered c.args.module_number) (position (is_str other) xs)))
    (take_all c.loop-object.object (constants_of n.held) (omega (arith, many c.args.library.now c.args.module_number c.args.count c.requires n at, c.loop-object-test.false)))
