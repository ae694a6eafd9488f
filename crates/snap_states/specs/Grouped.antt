-- The conditions on all but the paid steps, in two parts.
use Rattle.std.specs.Prelude.{◌<◌, ◌≤◌, List, length, reverse, None}
use Rattle.mpy_base.specs.declared.limits.TheConstants.{MAX_CALLS}
use Rattle.bc_library.specs.Shelf.{Shelf}
use Rattle.snap_grammar.specs.declared.parts.FramePart.{FramePart}
use Rattle.snap_grammar.specs.declared.parts.Snapshot.{Snapshot}
use Rattle.snap_states.specs.States.{AreFineFrames, AreFineObjects, AreRegisteredParts}

-- there are frames, and no more than there may be
pub record HasCount (frames : List FramePart) : Type 0 where
  pub some : 0 < length frames
  pub few : length frames ≤ MAX_CALLS

-- the objects, the registered modules and the frames
pub record HasGroups (shelf : Shelf) (s : Snapshot) : Type 0 where
  pub objects : AreFineObjects shelf s
  pub registered : AreRegisteredParts s
  pub frames : AreFineFrames shelf s None (reverse s.frames)
