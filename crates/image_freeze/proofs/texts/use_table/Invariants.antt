use Rattle.std.proofs.Common.{◌≡◌, drop}
use Rattle.std.specs.List.{filter_map}
use Rattle.mpy_writer.specs.mpy_tree.Raw as raws
use Rattle.image_open.specs.bc_library.Texts.{with_texts}
use Rattle.image_freeze.proofs.texts.use_table.Given as goal

abbrev pub invariant-loop-qstr : goal.invariant-loop-qstr
invariant-loop-qstr l = with_texts l.pool (filter_map raws.text_of (drop l.qstr-index l.qstrs)) ≡ with_texts l.initial.pool (filter_map raws.text_of l.qstrs)
