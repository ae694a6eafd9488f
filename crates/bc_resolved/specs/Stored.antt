-- Libraries as files hold them, and what the machine runs for each.
use Rattle.std.specs.Prelude.{◌≡◌, List, [], ◌∷◌}
use Rattle.bc_verify.specs.mpy_tree.Raw as raw
use Rattle.bc_verify.specs.mpy_tree.File.{IsModule}
use Rattle.bc_verify.specs.mpy_tree.Resolved.{ResolvedModule, Resolves}
use Rattle.bc_verify.specs.Verified.{IsVerified}
use Rattle.bc_progress.specs.bc_machine.Library as libraries
use Rattle.bc_progress.specs.bc_machine.Library.{Name, Module, Entry, Holds, Library, module_of}

-- the machine's module of a module that a file holds: that of its tree
pub record IsMachineModule (m : raw.Module) (machine : Module) : Type 0 where
  pub tree : ResolvedModule
  pub resolves : Resolves m tree
  pub machine_is : machine ≡ module_of tree

-- what is found under a name: a file's module, or that it was refused
pub data Stored : Type 0 where
  Kept : raw.Module → Stored
  Refused : Stored

-- what the machine finds there
abbrev pub IsEntryOf : Stored → Entry → Type 0
IsEntryOf (Kept m) entry = (machine : Module) × IsMachineModule m machine × (entry ≡ Holds machine)
IsEntryOf Refused entry = entry ≡ libraries.Refused

-- the machine's library: the same names in the same order
abbrev pub IsLibraryOf : List (Name × Stored) → Library → Type 0
IsLibraryOf [] library = library ≡ []
IsLibraryOf (stored ∷ others) library =
    (entry : Entry) × (behind : Library) × (library ≡ (stored.0, entry) ∷ behind) × IsEntryOf stored.1 entry × IsLibraryOf others behind

-- modules, entries and libraries that resolve to the same trees
abbrev pub ResolveAlike : raw.Module → raw.Module → Type 0
ResolveAlike a b = (tree : ResolvedModule) × Resolves a tree × Resolves b tree

-- two entries: both refused, or modules that resolve alike
abbrev pub AreAlike : Stored → Stored → Type 0
AreAlike (Kept a) (Kept b) = ResolveAlike a b
AreAlike Refused Refused = Unit {0}
AreAlike a b = ⊥

-- entries of the same names, alike one by one
abbrev pub AllAlike : List (Name × Stored) → List (Name × Stored) → Type 0
AllAlike [] [] = Unit {0}
AllAlike (a ∷ first) (b ∷ second) = (a.0 ≡ b.0) × AreAlike a.1 b.1 × AllAlike first second
AllAlike first second = ⊥

-- each module is one that a file holds, or a verified one of these
abbrev pub OfModule : (raw.Module → Type 0) → Stored → Type 0
OfModule P (Kept m) = P m
OfModule P Refused = Unit {0}

-- the fact P holds of each module that is stored
abbrev pub AllModules : (raw.Module → Type 0) → List (Name × Stored) → Type 0
AllModules P [] = Unit {0}
AllModules P (stored ∷ others) = OfModule P stored.1 × AllModules P others

-- the module is verified, and one that a file holds
abbrev pub IsVerifiedFile : raw.Module → Type 0
IsVerifiedFile m = IsModule m × IsVerified m
