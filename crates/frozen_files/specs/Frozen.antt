-- The image of a manifest's sources over a library, or why there is none.
use Rattle.std.specs.Prelude.{◌≡◌, ℕ, List, Option, Result, Ok, Err, Vec}
use Rattle.std.specs.declared.alloc.Global.{Global}
use Rattle.mpy_base.specs.declared.refused.Refused.{Refused}
use Rattle.mpy_io.specs.Files.{FileOf}
use Rattle.image_freeze.specs.image_open.bc_library.Shelf.{Shelf}
use Rattle.manifest_files.specs.image_grammar.declared.fault.ImageFault.{ImageFault}
use Rattle.manifest_files.specs.image_grammar.Base.{base_of}
use Rattle.image_freeze.specs.image_open.Opens.{Opens, with_entries}
use Rattle.image_freeze.specs.declared.named.Named.{Named}
use Rattle.image_freeze.specs.Fronts.{front_of}
use Rattle.image_freeze.specs.Frozen.{FreezeFault, entries_of, image_bytes}
use Rattle.manifest_files.specs.declared.frozen_fault.FrozenFault.{FrozenFault}
use Rattle.manifest_files.specs.declared.frozen_fault.FrozenFault.TheVariants.{Sources, Image}
use Rattle.manifest_files.specs.FrozenFaults.{FaultIs}
use Rattle.frozen_files.specs.Sources.{HoldsSources, RefusesSources}

-- in this version, over the library below
module _ (version : ℕ) (below : Shelf) (files : Option FileOf) (manifest : List ℕ) where
  -- the bytes are the image of the modules of the manifest's sources, which is opened over the library below as the library of its
  -- modules and these
  pub record HoldsFrozen (bytes : List ℕ) : Type 0 where
    pub modules : List Named
    pub sources : HoldsSources files manifest modules
    pub bytes_are : bytes ≡ image_bytes (front_of version (base_of below)) (base_of below) (entries_of modules)
    pub opens : Opens below bytes (with_entries below (entries_of modules))

  -- the modules of the manifest's sources have no image: this is their fault
  pub record RefusesImage (fault : ImageFault) : Type 0 where
    pub modules : List Named
    pub sources : HoldsSources files manifest modules
    pub fault_is : FreezeFault (front_of version (base_of below)) (base_of below) (entries_of modules) fault

  -- the manifest's sources have no image, for that fault
  abbrev pub RefusesFrozen : FrozenFault → Type 0
  RefusesFrozen (Sources fault) = RefusesSources files manifest fault
  RefusesFrozen (Image fault) = RefusesImage fault

  -- what freezing the manifest of this name answers: the image, or why there is none
  abbrev pub Freezes : Result (Vec ℕ Global) (Refused FrozenFault) → Type 0
  Freezes (Ok bytes) = HoldsFrozen bytes.items
  Freezes (Err refusal) = FaultIs RefusesFrozen refusal
