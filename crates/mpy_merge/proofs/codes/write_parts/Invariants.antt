use Rattle.std.proofs.Common.{◌≡◌, length, take}
use Rattle.mpy_base.specs.declared.limits.TheConstants.{MAX_DEPTH}
use Rattle.mpy_merge.specs.Merged.{all_objects}
use Rattle.mpy_merge.proofs.Parts.{Written}
use Rattle.mpy_merge.proofs.codes.write_parts.Given as goal

abbrev pub invariant-loop-place : goal.invariant-loop-place
invariant-loop-place l = (l.base ≡ length (all_objects (take l.place l.modules))) × Written MAX_DEPTH l.tables l.modules l.place l.initial.out.items l.out.items
