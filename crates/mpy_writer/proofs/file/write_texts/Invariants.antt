use Rattle.std.proofs.Common.{◌≡◌, ◌++◌, drop, map}
use Rattle.std.specs.List.{flat_map}
use Rattle.mpy_tree.specs.Canonical.{qstr_bytes}
use Rattle.mpy_writer.specs.File.{qstr_of}
use Rattle.mpy_writer.proofs.file.write_texts.Given as goal

abbrev pub invariant-loop-n : goal.invariant-loop-n
invariant-loop-n l = l.out.items ++ flat_map qstr_bytes (map qstr_of (drop l.n l.texts.texts)) ≡ l.initial.out.items ++ flat_map qstr_bytes (map qstr_of l.texts.texts)
