-- The sources of a manifest and their modules, or why there are none.
use Rattle.std.specs.Prelude.{◌≡◌, ◌⊎◌, ℕ, false, List, ◌∷◌, ◌++◌, Option, Some, None, IfSome}
use Rattle.std.specs.List.{AllZip}
use Rattle.mpy_base.specs.declared.source.SourceFault.{SourceFault}
use Rattle.mpy_io.specs.Files.{FileOf}
use Rattle.image_freeze.specs.image_open.mpy_tree.Raw.{Module}
use Rattle.source_files.specs.mpy_compile.Compiled.{CompilesTo, IsFault}
use Rattle.source_files.specs.library_files.Comes.{IsVerifiedFile}
use Rattle.manifest_lines.specs.declared.entry.Entry.{Entry}
use Rattle.manifest_files.specs.declared.fault.ManifestFault.{ManifestFault}
use Rattle.manifest_files.specs.Answers.{OfRead, is_read_fault}
use Rattle.manifest_files.specs.Entries as manifests
use Rattle.manifest_files.specs.Quiet.{IsOfTree}
use Rattle.image_freeze.specs.declared.named.Named.{Named}
use Rattle.manifest_files.specs.declared.frozen_fault.SourcesFault.{SourcesFault}
use Rattle.manifest_files.specs.declared.frozen_fault.SourcesFault.TheVariants.{Manifest, Absent, Unaccepted, Unread}
use Rattle.manifest_files.specs.FrozenFaults.{of_manifest}

-- a folder that tells its files has this under the name
abbrev pub MayHold : Option FileOf → List ℕ → Option (List ℕ) → Type 0
MayHold files name content = IfSome files (λ file. file name ≡ content)

-- the manifest
-- ============

-- in a folder that tells its files these are the entries of the manifest of this name
abbrev pub MayList : Option FileOf → (manifest : List ℕ) → List Entry → Type 0
MayList files manifest entries = IfSome files (λ file. manifests.AreEntries file manifest entries)

-- the manifest of this name has such a fault; a read that failed was of this manifest, or of one that it includes, straight or over others
pub record RefusesManifest (files : Option FileOf) (manifest : List ℕ) (fault : SourcesFault) : Type 0 where
  pub cause : ManifestFault
  pub fault_is : fault ≡ of_manifest manifest cause
  pub first : is_read_fault cause ≡ false → IfSome files (λ file. manifests.IsFault file manifest cause)
  pub reads : OfRead (λ other. IfSome files (λ file. IsOfTree file manifest other)) cause

-- the source of an entry
-- ======================

-- the text compiles at the entry's level and under its stored name to a file of this module, which is verified
pub record IsModuleOf (entry : Entry) (text : List ℕ) (m : Module) : Type 0 where
  pub bytes : List ℕ
  pub compiles : CompilesTo entry.opt text entry.source bytes
  pub is : IsVerifiedFile bytes m

-- the folder has the entry's source, which is one of this module, and the module has the entry's name
pub record HoldsSource (files : Option FileOf) (entry : Entry) (m : Named) : Type 0 where
  pub text : List ℕ
  pub holds : MayHold files entry.path (Some text)
  pub is : IsModuleOf entry text m.held
  pub name_is : m.name ≡ entry.«module»

-- the folder has the entry's source, and that has this first fault
pub record IsFaulty (files : Option FileOf) (entry : Entry) (fault : SourceFault) : Type 0 where
  pub text : List ℕ
  pub holds : MayHold files entry.path (Some text)
  pub is : IsFault entry.opt text entry.source fault

-- why there is no module of the entry's source, which is told by its path
abbrev pub RefusesEntry : Option FileOf → Entry → SourcesFault → Type 0
RefusesEntry files entry (Manifest fault) = ⊥
RefusesEntry files entry (Absent name) = (name ≡ entry.path) × MayHold files entry.path None
RefusesEntry files entry (Unaccepted name fault) = (name ≡ entry.path) × IsFaulty files entry fault
RefusesEntry files entry (Unread name) = name ≡ entry.path

-- all sources
-- ===========

-- the first of the entries of whose source there is no module, and why: there are modules of those in front of it
pub record IsFirstRefused (files : Option FileOf) (entries : List Entry) (fault : SourcesFault) : Type 0 where
  pub before : List Entry
  pub entry : Entry
  pub behind : List Entry
  pub parts : entries ≡ before ++ entry ∷ behind
  pub modules : List Named
  pub sources : AllZip (HoldsSource files) before modules
  pub refused : RefusesEntry files entry fault

-- the modules of the manifest's sources, in order
pub record HoldsSources (files : Option FileOf) (manifest : List ℕ) (modules : List Named) : Type 0 where
  pub entries : List Entry
  pub are : MayList files manifest entries
  pub sources : AllZip (HoldsSource files) entries modules

-- one of the entries of the manifest is the first of whose source there is no module
pub record RefusesSource (files : Option FileOf) (manifest : List ℕ) (fault : SourcesFault) : Type 0 where
  pub entries : List Entry
  pub are : MayList files manifest entries
  pub first : IsFirstRefused files entries fault

-- why there are no modules of the manifest's sources: all of the manifest is read before the first source
abbrev pub RefusesSources : Option FileOf → (manifest : List ℕ) → SourcesFault → Type 0
RefusesSources files manifest fault = RefusesManifest files manifest fault ⊎ RefusesSource files manifest fault
