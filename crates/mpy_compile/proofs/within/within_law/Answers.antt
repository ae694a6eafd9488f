use Rattle.std.proofs.Common.{arith}
use Rattle.emit_module.specs.py_meaning.Plain.{plain_tree}
use Rattle.mpy_compile.proofs.Nested.{block_nested}
use Rattle.mpy_compile.proofs.Accepted.{all_within, shallow_behind}
use Rattle.mpy_compile.proofs.within.within_law.Goals as goal

pub returns : goal.returns
returns c file level tree formed faultless within = record {
  formed = formed;
  faultless = faultless;
  within = c.limits_law.ensures.named file level 0 tree (all_within c.within_law.ensures within);
  nested = let deep = block_nested 0 (plain_tree tree) (omega arith) (shallow_behind within) in omega (arith, deep);
}
