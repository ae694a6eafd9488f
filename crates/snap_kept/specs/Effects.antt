-- Worlds whose values are plain, and locals.
use Rattle.std.specs.Prelude.{◌≡◌, Option, Some, None}
use Rattle.std.specs.List.{AllByRecursion as Each}
use Rattle.bc_progress.specs.bc_machine.Library.{Library}
use Rattle.bc_progress.specs.mpy_base.World.{object}
use Rattle.bc_progress.specs.mpy_base.Val.{Val, PlainWorld}
use Rattle.bc_progress.specs.py_values.Shown.{PlainHeap}
use Rattle.bc_progress.specs.py_effects.Names.{Locals}
use Rattle.snap_kept.specs.Values.{title_of, IsPlain, AreFine}

module _ (library : Library) where
  -- a local, if it isn't empty
  abbrev pub IsLocal : PlainHeap → Option Val → Type 0
  IsLocal heap (Some v) = IsPlain library heap v
  IsLocal heap None = Unit {0}

  -- the locals of a call
  abbrev pub AreLocals : PlainHeap → Locals → Type 0
  AreLocals heap locals = Each (IsLocal heap) locals

  -- each object holds what it should, and each registered number is that of a module of this name
  pub record IsSound (w : PlainWorld) : Type 0 where
    pub heap : AreFine library w.heap
    pub titles : Each (λ m. title_of (object w.heap.objects (m.1)) ≡ Some (m.0)) w.modules
