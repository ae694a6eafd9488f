-- Modules that have some of these names.
use Rattle.std.specs.Prelude.{ℕ, List, All, Contains, bytes_eq}
use Rattle.std.specs.List.{IsDistinct}
use Rattle.std.specs.Map.{keys_of}
use Rattle.vm_states.specs.bc_machine.Library.{Name}

-- names of modules and their objects: each is one of these names, and none stands twice
pub record AreOwn (names : List Name) (modules : List (Name × ℕ)) : Type 0 where
  pub named : All (λ m. Contains names m.0) modules
  pub once : IsDistinct bytes_eq (keys_of modules)
