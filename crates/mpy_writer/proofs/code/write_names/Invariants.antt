use Rattle.std.proofs.Common.{◌≡◌, ◌++◌, map, drop}
use Rattle.mpy_tree.specs.bc_prelude.Names.{spelling}
use Rattle.mpy_writer.specs.Tables.{text_number}
use Rattle.mpy_writer.proofs.code.write_names.Given as goal

abbrev pub invariant-loop-arg : goal.invariant-loop-arg
invariant-loop-arg l =
    l.out.items ++ spelling (map (text_number l.tables) (drop l.arg-index l.arg-items)) ≡ l.initial.out.items ++ spelling (map (text_number l.tables) l.arg-items)
