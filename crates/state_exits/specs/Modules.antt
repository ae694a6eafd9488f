-- The names of a program's modules, and the modules that are registered while it runs.
use Rattle.std.specs.Prelude.{◌≡◌, ◌<◌, ℕ, List, ◌∷◌, length, All, Some, IsSome, codes, slice_get}
use Rattle.vm_states.specs.mpy_base.World.{Heap}
use Rattle.prim_faults.specs.arena_heap.declared.value.Value.{Value}
use Rattle.prim_faults.specs.arena_heap.declared.value.StrNo.TheVariants as strs
use Rattle.bc_progress.specs.py_effects.Heaps.{Formed, Registered}
use Rattle.vm_states.specs.bc_library.Shelf as shelves
use Rattle.vm_states.specs.bc_machine.Library.{Name}
use Rattle.prim_faults.specs.prim_walks.Plain.{plain_name, plain_heap}
use Rattle.vm_states.specs.prim_modules.Registry.{Registry, plain_modules}
use Rattle.vm_states.specs.frame_exits.declared.names.ModuleName.{ModuleName}
use Rattle.vm_states.specs.frame_exits.Left.{HasLast}
use Rattle.vm_states.specs.Means.{Program}
use Rattle.state_exits.specs.Own.{AreOwn}

module _ (p : Program) where
  -- these are the names of the program's modules by their numbers. Their texts, and those of their last parts, are told
  pub record AreNames (names : List ModuleName) : Type 0 where
    pub as_many : length names ≡ length p.shelf.modules
    pub names_are : (number : ℕ) (m : ModuleName) → slice_get names number ≡ Some m
        → p.tables.module_name number ≡ plain_name p.tables.texts p.tables.tuples m.name
    pub told : All (λ m. IsSome (p.tables.texts (strs.Pool m.name))) names
    pub last : All (HasLast p.tables.texts p.tables.tuples) names

  -- what a module of the program is registered as
  abbrev pub registered_names : List Name
  registered_names = codes "__main__" ∷ shelves.names p.shelf

  -- the registered modules are modules of the program: each has its names in the heap, where names stand in dicts. There is room
  -- for all of the program's, and for the main one
  pub record AreRegistered (heap : Heap Value ℕ) (modules : Registry) : Type 0 where
    pub formed : Formed (plain_heap p.tables.texts p.tables.tuples heap)
    pub registered : Registered (plain_modules p.tables.texts p.tables.tuples modules) (plain_heap p.tables.texts p.tables.tuples heap)
    pub own : AreOwn registered_names (plain_modules p.tables.texts p.tables.tuples modules)
    pub room : length p.shelf.modules < modules.room
