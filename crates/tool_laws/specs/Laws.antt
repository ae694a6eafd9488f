-- What lower laws say, in one.
use Rattle.std.specs.Prelude.{◌≡◌, ℕ, List, All, Ok}
use Rattle.mpy_base.specs.declared.source.SourceFault.{SourceFault}
use Rattle.mpy_io.specs.Files.{FileOf}
use Rattle.mpy_tree.specs.Raw.{Module}
use Rattle.mpy_tree.specs.File.{IsFile}
use Rattle.mpy_tree.specs.Resolved.{ResolvedModule, Resolves}
use Rattle.mpy_reader.specs.declared.fault.FileFault.{FileFault}
use Rattle.mpy_reader.specs.Reading.{FirstFault}
use Rattle.bc_verify.specs.declared.fault.VerifyFault.{VerifyFault}
use Rattle.bc_verify.specs.Verified.{IsVerified, IsFirstFault}
use Rattle.bc_library.specs.Shelf.{Shelf}
use Rattle.image_grammar.specs.declared.entry.Entry.{Entry}
use Rattle.image_grammar.specs.declared.fault.ImageFault.{ImageFault}
use Rattle.image_grammar.specs.Base.{base_of}
use Rattle.image_grammar.specs.Image.{IsImage}
use Rattle.image_grammar.specs.Opening as images
use Rattle.image_open.specs.Opens.{IsOpenedOf, Opens}
use Rattle.manifest_files.specs.Entries.{Answer, IsAnswer}
use Rattle.image_freeze.specs.Frozen.{FreezeFault}
use Rattle.command_files.specs.mpy_compile.Compiled.{CompilesTo, IsFault}
use Rattle.source_files.specs.Sources.{IsModuleOf, LoadsFromSources}
use Rattle.library_files.specs.Loads.{Loading, LoadsFrom}
use Rattle.board_plan.specs.declared.plan.Plan.{Plan}
use Rattle.board_plan.specs.declared.plan.PlanFault.{PlanFault}
use Rattle.board_plan.specs.Plans.{IsPlan, HasFault}

-- bytes are a file of one module or have one fault, and a module is verified or has one first fault
pub record FileLaws : Type 0 where
  pub one_module : (bytes : List ℕ) (m n : Module) → IsFile bytes m → IsFile bytes n → m ≡ n
  pub one_fault : (bytes : List ℕ) (f g : FileFault) → FirstFault bytes f → FirstFault bytes g → f ≡ g
  pub not_both : (bytes : List ℕ) (m : Module) (fault : FileFault) → IsFile bytes m → FirstFault bytes fault → ⊥
  pub one_first : (m : Module) (f g : VerifyFault) → IsFirstFault m f → IsFirstFault m g → f ≡ g
  pub never_verified : (m : Module) (f : VerifyFault) → IsFirstFault m f → IsVerified m → ⊥

-- a module resolves to one tree, and a source compiles to one file or has one first fault
pub record SourceLaws : Type 0 where
  pub one_tree : (m : Module) (a b : ResolvedModule) → Resolves m a → Resolves m b → a ≡ b
  pub one_file : (level : ℕ) (source stored a b : List ℕ) → CompilesTo level source stored a → CompilesTo level source stored b → a ≡ b
  pub one_fault : (level : ℕ) (source stored : List ℕ) (f g : SourceFault) → IsFault level source stored f → IsFault level source stored g → f ≡ g
  pub not_both : (level : ℕ) (source stored bytes : List ℕ) (fault : SourceFault) → CompilesTo level source stored bytes
      → IsFault level source stored fault → ⊥

-- a manifest has one answer, and modules have one fault for which they have no image
pub record ManifestLaws : Type 0 where
  pub one_answer : (files : FileOf) (name : List ℕ) (first second : Answer) → IsAnswer files name first → IsAnswer files name second → first ≡ second
  pub one_fault : (front : List ℕ) (below : images.Base) (entries : List Entry) (f g : ImageFault) → FreezeFault front below entries f
      → FreezeFault front below entries g → f ≡ g

-- over what images are opened as, bytes are opened as one library, or have one first fault
pub record ImageLaws : Type 0 where
  pub one_image : (below : images.Base) (bytes : List ℕ) (a b : List Entry) → images.image below bytes (Ok a) → images.image below bytes (Ok b) → a ≡ b
  pub one_fault : (below : images.Base) (bytes : List ℕ) (f g : ImageFault) → images.FirstFault below bytes f → images.FirstFault below bytes g → f ≡ g
  pub not_both : (below : images.Base) (bytes : List ℕ) (entries : List Entry) (fault : ImageFault) → images.image below bytes (Ok entries)
      → images.FirstFault below bytes fault → ⊥
  pub read : (opened : List (List ℕ)) (below : Shelf) (bytes : List ℕ) (entries : List Entry) → IsOpenedOf opened below
      → IsImage (base_of below) entries bytes → All (λ entry. IsVerified entry.held) entries → images.image (base_of below) bytes (Ok entries)
  pub one_library : (opened : List (List ℕ)) (below : Shelf) (bytes : List ℕ) (a b : Shelf) → IsOpenedOf opened below → Opens below bytes a
      → Opens below bytes b → a ≡ b

-- lines are one plan or have one fault
pub record PlanLaws : Type 0 where
  pub one : (text : List (List ℕ)) (plan other : Plan) → IsPlan text plan → IsPlan text other → plan ≡ other
  pub one_fault : (text : List (List ℕ)) (fault other : PlanFault) → HasFault text fault → HasFault text other → fault ≡ other
  pub not_both : (text : List (List ℕ)) (plan : Plan) (fault : PlanFault) → IsPlan text plan → HasFault text fault → ⊥

-- a source has one module of one size, and from a main module loading ends in one way, from files and from sources
pub record LoadLaws : Type 0 where
  pub one_module : (level : ℕ) (path source : List ℕ) (m n : Module) (size other : ℕ) → IsModuleOf level path source m size
      → IsModuleOf level path source n other → (m ≡ n) × (size ≡ other)
  pub from_sources : (level : ℕ) (files : FileOf) (base : List ℕ) (main : Module) (size : ℕ) (some other : Loading)
      → LoadsFromSources level files base main size some → LoadsFromSources level files base main size other → some ≡ other
  pub from_files : (files : FileOf) (base : List ℕ) (main : Module) (size : ℕ) (some other : Loading)
      → LoadsFrom files base main size some → LoadsFrom files base main size other → some ≡ other
