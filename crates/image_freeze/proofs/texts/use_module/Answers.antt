use Rattle.std.proofs.Common.{[], ◌∷◌, refl}
use Rattle.std.specs.Option.{option_copied, option_to_list}
use Rattle.std.specs.List.{filter_map}
use Rattle.std.proofs.lemmas.Result.{err_from_is_err_and}
use Rattle.mpy_writer.specs.mpy_tree.Raw as raws
use Rattle.image_open.specs.bc_library.Texts.{last_part}
use Rattle.image_freeze.specs.Uses.{PassesTable}
use Rattle.image_freeze.proofs.Exits.{exit, if_fault_more, on_ok_more}
use Rattle.image_freeze.proofs.Uses.{ModuleUsed, all_of, name_passes, part_passes, table_passes, table_used}
use Rattle.image_freeze.proofs.texts.use_module.Goals as goal
use Rattle.image_freeze.proofs.texts.use_module.Goals.{After-use_table}

pub returns-in_err-use_text-clause-fault : goal.returns-in_err-use_text-clause-fault
returns-in_err-use_text-clause-fault c =
    let p = err_from_is_err_and c.from_residual.result c.from_residual.ensures.1 in
    let m = c.args.module.now in
    exit (PassesTable c.args.pool.now (c.bytes-name.result.now ∷ [])) (PassesTable c.args.pool.now (all_of m.name m.held.qstrs)) _ _ _ p.1 p.2 c.in_err-use_text.ensures.fault
    (name_passes c.args.pool.now m.name m.held.qstrs (record { given = c.bytes-name.result.now; part = last_part c.bytes-name.result.now; table = m.held.qstrs; given_is = c.bytes-name.ensures; part_is = refl; table_is = refl }))

pub returns-in_err-use_some-clause-fault : goal.returns-in_err-use_some-clause-fault
returns-in_err-use_some-clause-fault c =
    let p = err_from_is_err_and c.from_residual-in_err-use_some.result c.from_residual-in_err-use_some.ensures.1 in
    let m = c.args.module.now in
    let part = option_copied c.last_part.result in
    exit (PassesTable c.use_text.new.pool (option_to_list part)) (PassesTable c.args.pool.now (all_of m.name m.held.qstrs)) _ _ _ p.1 p.2 c.in_err-use_some.ensures.fault
    (part_passes c.args.pool.now c.use_text.new.pool m.name m.held.qstrs (record { given = c.bytes-name.result.now; part = part; table = m.held.qstrs; given_is = c.bytes-name.ensures; part_is = c.last_part.ensures; table_is = refl }) c.in_ok-use_text.ensures.ok)

abbrev used : (c : After-use_table) → ModuleUsed c.args.pool.now c.args.module.now.name c.args.module.now.held.qstrs
used c = record { given = c.bytes-name.result.now; part = option_copied c.last_part.result; table = c.qstrs.result.now; given_is = c.bytes-name.ensures; part_is = c.last_part.ensures; table_is = c.qstrs.ensures }

pub returns-clause-ok : goal.returns-clause-ok
returns-clause-ok c =
    let m = c.args.module.now in
    on_ok_more _ _ c.use_table.result c.use_table.ensures.ok
    (λ e. table_used c.args.pool.now c.use_text.new.pool c.use_some.new.pool c.use_table.new.pool m.name m.held.qstrs (used c) c.in_ok-use_text.ensures.ok c.in_ok-use_some.ensures.ok e)

pub returns-clause-fault : goal.returns-clause-fault
returns-clause-fault c =
    let m = c.args.module.now in
    if_fault_more (PassesTable c.use_some.new.pool (filter_map raws.text_of c.qstrs.result.now)) (PassesTable c.args.pool.now (all_of m.name m.held.qstrs)) c.use_table.result c.use_table.ensures.fault
    (table_passes c.args.pool.now c.use_text.new.pool c.use_some.new.pool m.name m.held.qstrs (used c) c.in_ok-use_text.ensures.ok c.in_ok-use_some.ensures.ok)
