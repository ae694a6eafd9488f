-- The library of an image's bytes over a library below and its main module, or why there is none.
use Rattle.std.specs.Prelude.{◌≡◌, ℕ, List, Some, None, slice_get}
use Rattle.mpy_base.specs.declared.refused.Refused.{Refused}
use Rattle.mpy_base.specs.declared.refused.Refused.TheVariants as refused
use Rattle.image_open.specs.mpy_tree.Raw.{Module}
use Rattle.image_open.specs.bc_library.declared.fault.Member.TheVariants as members
use Rattle.image_open.specs.bc_library.Shelf.{Shelf, member_of}
use Rattle.image_open.specs.image_grammar.Opening.{FirstFault}
use Rattle.image_open.specs.image_grammar.Base.{base_of}
use Rattle.image_open.specs.Opens.{Opens}
use Rattle.image_runs.specs.declared.fault.MainFault.{MainFault}
use Rattle.image_runs.specs.declared.fault.MainFault.TheVariants.{Image, NoMain}

-- the bytes are opened over the library below as the library, and its module of this name, of the image or below, is at the place
pub record HoldsMain (below : Shelf) (bytes main : List ℕ) (shelf : Shelf) (place : ℕ) : Type 0 where
  pub opens : Opens below bytes shelf
  pub found : member_of shelf main ≡ Some (members.Module place)

-- the module at the place has this name
abbrev pub IsMainAt : (main : List ℕ) → (place : ℕ) → Module → Shelf → Type 0
IsMainAt main place m shelf = slice_get shelf.modules place ≡ Some (record { name = main; held = m })

-- the bytes are opened so, and no module of the library has this name
pub record LacksMain (below : Shelf) (bytes main : List ℕ) : Type 0 where
  pub shelf : Shelf
  pub opens : Opens below bytes shelf
  pub none : member_of shelf main ≡ None

-- why there is no main module: the first fault of bytes that are no image over the library below, or that no module has this name
abbrev pub RefusesMain : (below : Shelf) → (bytes main : List ℕ) → MainFault → Type 0
RefusesMain below bytes main (Image fault) = FirstFault (base_of below) bytes fault
RefusesMain below bytes main (NoMain name) = (name ≡ main) × LacksMain below bytes main

-- a fault of the call is such a one; want of memory says nothing
abbrev pub FaultIs : (MainFault → Type 0) → Refused MainFault → Type 0
FaultIs Fault (refused.Fault fault) = Fault fault
FaultIs Fault refused.NoMemory = Unit {0}
