-- Canonical files.
use Rattle.std.specs.Prelude.{ℕ, List}
use Rattle.mpy_writer.specs.mpy_tree.declared.module.ModuleCode.{ModuleCode}
use Rattle.mpy_writer.specs.mpy_tree.Resolved.{ReadsAs}
use Rattle.mpy_writer.specs.File.{IsWritten}

-- the file is read as a module, and is what is written for this module anew: its tables have each text and each object
-- once, in the order of first use, each number is as short as it may be, as few offsets are wide as may be, and each line
-- table has the changes of the lines alone
pub record IsCanonical (bytes : List ℕ) : Type 0 where
  pub whole : ModuleCode
  pub reads : ReadsAs bytes whole
  pub written : IsWritten whole bytes
