-- Units whose sources are accepted.
use Rattle.std.specs.Prelude.{◌≡◌}
use Rattle.py_meaning.specs.py_tree.declared.stmt.Module.{Module}
use Rattle.emit_measures.specs.bc_scheme.py_meaning.Program.{Source, Unit, Single, Merge, Units, Part, Parts}
use Rattle.tr_source.specs.Accepted.{source_of, IsAccepted}

-- the source of an accepted tree
pub record IsAcceptedSource (source : Source) : Type 0 where
  pub tree : Module
  pub source_is : source ≡ source_of source.file source.level tree
  pub accepted : IsAccepted source.level tree

abbrev mutual
  pub IsAcceptedUnit : Unit → Type 0
  IsAcceptedUnit (Single source) = IsAcceptedSource source
  IsAcceptedUnit (Merge units) = AreAcceptedUnits units

  pub AreAcceptedUnits : Units → Type 0
  AreAcceptedUnits (Part unit) = IsAcceptedUnit unit
  AreAcceptedUnits (Parts unit units) = IsAcceptedUnit unit × AreAcceptedUnits units
