-- What the file or the source of a name comes to as a library with a main module.
use Rattle.std.proofs.Common.{◌≡◌, ◌⊎◌, ◌<◌, ◌≤◌, inl, inr, ℕ, Bool, true, false, List, length, Option, Some, None, refl, sym, ap, subst, ◌∙◌}
use Rattle.std.specs.Prelude.{Result, Ok, Err}
use Rattle.mpy_base.specs.declared.limits.TheConstants.{MAX_READ_BYTES}
use Rattle.mpy_base.specs.declared.source.SourceFault.{SourceFault}
use Rattle.mpy_io.specs.Files.{FileOf}
use Rattle.bc_library.specs.declared.fault.Member.{Member}
use Rattle.bc_library.specs.declared.fault.Member.TheVariants as members
use Rattle.mpy_tree.specs.Raw.{Module}
use Rattle.mpy_tree.specs.File.{IsFile}
use Rattle.bc_library.specs.Shelf.{Shelf, member_of}
use Rattle.mpy_reader.specs.declared.fault.FileFault.{FileFault}
use Rattle.mpy_reader.specs.declared.fault.FileFault.TheVariants.{TooBig}
use Rattle.image_grammar.specs.declared.fault.ImageFault.{ImageFault}
use Rattle.image_grammar.specs.Base.{base_of as images_base}
use Rattle.image_grammar.specs.Opening.{FirstFault}
use Rattle.image_open.specs.Opens.{IsOpenedOf, Opens}
use Rattle.image_runs.specs.declared.fault.MainFault.TheVariants as mains
use Rattle.library_files.specs.Loads as loads
use Rattle.library_files.specs.Loads.{Loading, Loaded, LoadsFrom, main_name}
use Rattle.command_files.specs.mpy_compile.Compiled.{CompilesTo, IsFault}
use Rattle.source_files.specs.Sources.{stored, IsModuleOf, LoadsFromSources}
use Rattle.mpy_endings.specs.declared.ending.Ending.{Ending}
use Rattle.mpy_endings.specs.declared.ending.Ending.TheVariants.{Done, Unaccepted, Unread, Unverified, Unmerged, Unopened, Unfrozen, Unboarded, Different, Stopped, ReadFault, WriteFault, Unwritten, NoMemory, Absent}
use Rattle.mpy_endings.specs.declared.ending.Stop.TheVariants.{Past, LibraryFault, LibraryUnaccepted, Raised, Memory, Steps, Unsaved, Unresumed}
use Rattle.mpy_endings.specs.Ending.{IsSettled}
use Rattle.command_files.specs.Folder.{IsNotRead}
use Rattle.command_files.specs.Opened.{HoldsModule}
use Rattle.command_files.specs.Source.{HoldsFaulty}
use Rattle.command_files.proofs.Long.{not_read as refuses_unread}
use Rattle.meant_commands.specs.run_commands.declared.ready.Ready.{Ready}
use Rattle.meant_commands.specs.run_commands.Base.{base_of}
use Rattle.meant_commands.specs.run_commands.Go.{RefusesSources, SourceLoadsOf}
use Rattle.meant_commands.specs.run_commands.Ready.{FirstOf, GoLibrary, ImageStart, IsFirst, RunLibrary, begins_image, not_read, of_file, of_image}
use Rattle.meant_commands.specs.run_commands.Run.{FileLibrary, HoldsMain, LoadsOf, RefusesLibrary}
use Rattle.tool_laws.specs.Laws.{FileLaws, ImageLaws, LoadLaws, SourceLaws}
use Rattle.tool_laws.specs.Runs.{AnswersOnce, IsSettledAnswer}
use Rattle.tool_laws.proofs.ImageFiles.{never_faulty, never_long}
use Rattle.tool_laws.proofs.Opened.{Refused, never_refused, none_there, one_refused, refused_of, same_content}

-- the first module of a library is the main one
abbrev first_of : Shelf → Ready
first_of shelf = record { library = shelf; place = 0; main = main_name }

-- what an end of loading comes to
abbrev pub answer_by : Loading → Result Ready Ending
answer_by (Loaded shelf) = Ok (first_of shelf)
answer_by (loads.Past limit) = Err (Stopped (Past limit))
answer_by (loads.Unaccepted source) = Err (Stopped (LibraryUnaccepted source))

same_ready : (a b : Ready) → a.library ≡ b.library → a.place ≡ b.place → a.main ≡ b.main → a ≡ b
same_ready a b library place main = λ i. record { library = library i; place = place i; main = main i }

first_is : (ready : Ready) → IsFirst ready → Ok ready ≡ answer_by (Loaded ready.library)
first_is ready h = ap (λ (r : Ready). Ok r) (same_ready ready (first_of ready.library) refl h.place_is h.main_is)

-- a source
-- ========

module _ (own : SourceLaws) (load : LoadLaws) (level : ℕ) (files : FileOf) (name : List ℕ) where
  one_loading : (some other : Loading) → SourceLoadsOf level (Some files) name some → SourceLoadsOf level (Some files) name other → some ≡ other
  one_loading some other h k =
      let source = same_content (files name) h.holds.source k.holds.source h.holds.holds k.holds.holds in
      let here = subst (λ (z : List ℕ). IsModuleOf level name z h.main h.size) source h.holds.is in
      let one = load.one_module level name k.holds.source h.main k.main h.size k.size here k.holds.is in
      let main = subst (λ (m : Module). LoadsFromSources level files (base_of name) m h.size some) one.0 h.loads in
      load.from_sources level files (base_of name) k.main k.size some other (subst (λ (n : ℕ). LoadsFromSources level files (base_of name) k.main n some) one.1 main) k.loads

  -- loading ends so, the source isn't accepted, or it is absent
  abbrev pub SourceSo : Result Ready Ending → Type 0
  SourceSo answer =
      ((end : Loading) × SourceLoadsOf level (Some files) name end × (answer ≡ answer_by end))
      ⊎ (((fault : SourceFault) × HoldsFaulty level (Some files) name (stored name) fault × (answer ≡ Err (Unaccepted fault)))
      ⊎ ((files name ≡ None) × (answer ≡ Err Absent)))

  refused_source : (ending : Ending) → IsSettled ending → RefusesSources level (Some files) name ending → SourceSo (Err ending)
  refused_source Done s p = absurd p
  refused_source (Unaccepted fault) s p = inr (inl (fault, p, refl))
  refused_source (Unread fault) s p = absurd p
  refused_source (Unverified fault) s p = absurd p
  refused_source (Unmerged fault) s p = absurd p
  refused_source (Unopened fault) s p = absurd p
  refused_source (Unfrozen fault) s p = absurd p
  refused_source (Unboarded fault) s p = absurd p
  refused_source (Different difference) s p = absurd p
  refused_source (Stopped (Past limit)) s p = inl (loads.Past limit, p, refl)
  refused_source (Stopped (LibraryFault path)) s p = absurd s
  refused_source (Stopped (LibraryUnaccepted source)) s p = inl (loads.Unaccepted source, p.0, refl)
  refused_source (Stopped Raised) s p = absurd p
  refused_source (Stopped Memory) s p = absurd p
  refused_source (Stopped (Steps count)) s p = absurd p
  refused_source (Stopped Unsaved) s p = absurd p
  refused_source (Stopped (Unresumed fault)) s p = absurd p
  refused_source ReadFault s p = absurd s
  refused_source WriteFault s p = absurd p
  refused_source Unwritten s p = absurd p
  refused_source NoMemory s p = absurd s
  refused_source Absent s p = inr (inr (p, refl))

  pub source_so : (answer : Result Ready Ending) → IsSettledAnswer answer → GoLibrary level (Some files) name answer → SourceSo answer
  source_so (Ok ready) s p = inl (Loaded ready.library, p.0, first_is ready p.1)
  source_so (Err ending) s p = refused_source ending s p

  never_source : (end : Loading) (fault : SourceFault) → SourceLoadsOf level (Some files) name end → HoldsFaulty level (Some files) name (stored name) fault → ⊥
  never_source end fault h k =
      let source = same_content (files name) h.holds.source k.source h.holds.holds k.holds in
      own.not_both level k.source (stored name) h.holds.is.bytes fault (subst (λ (z : List ℕ). CompilesTo level z (stored name) h.holds.is.bytes) source h.holds.is.compiles) k.is

  pub one_source : AnswersOnce (GoLibrary level (Some files) name)
  one_source one other s t p q = by (source_so one s p) (source_so other t q) where
    by : SourceSo one → SourceSo other → one ≡ other
    by (inl x) (inl y) = x.2 ∙ (ap answer_by (one_loading x.0 y.0 x.1 y.1) ∙ sym y.2)
    by (inl x) (inr (inl y)) = absurd (never_source x.0 y.0 x.1 y.1)
    by (inl x) (inr (inr y)) = absurd (none_there (files name) x.1.holds.source y.0 x.1.holds.holds)
    by (inr (inl x)) (inl y) = absurd (never_source y.0 x.0 y.1 x.1)
    by (inr (inl x)) (inr (inl y)) =
        let source = same_content (files name) x.1.source y.1.source x.1.holds y.1.holds in
        let first = subst (λ (z : List ℕ). IsFault level z (stored name) x.0) source x.1.is in
        x.2 ∙ (ap (λ (f : SourceFault). Err (Unaccepted f)) (own.one_fault level y.1.source (stored name) x.0 y.0 first y.1.is) ∙ sym y.2)
    by (inr (inl x)) (inr (inr y)) = absurd (none_there (files name) x.1.source y.0 x.1.holds)
    by (inr (inr x)) (inl y) = absurd (none_there (files name) y.1.holds.source x.0 y.1.holds.holds)
    by (inr (inr x)) (inr (inl y)) = absurd (none_there (files name) y.1.source x.0 y.1.holds)
    by (inr (inr x)) (inr (inr y)) = x.1 ∙ sym y.1

-- a file
-- ======

module _ (laws : FileLaws) (load : LoadLaws) (files : FileOf) (name : List ℕ) where
  module_of : (m : Module) (size : ℕ) → HoldsMain (Some files) name m size → HoldsModule (Some files) name m
  module_of m size h = record { bytes = h.bytes; holds = h.holds; file = h.file; verified = h.verified }

  one_file_loading : (some other : Loading) → LoadsOf (Some files) name some → LoadsOf (Some files) name other → some ≡ other
  one_file_loading some other h k =
      let bytes = same_content (files name) h.holds.bytes k.holds.bytes h.holds.holds k.holds.holds in
      let same = laws.one_module k.holds.bytes h.main k.main (subst (λ (z : List ℕ). IsFile z h.main) bytes h.holds.file) k.holds.file in
      let size : h.size ≡ k.size = h.holds.size_is ∙ (ap (λ (z : List ℕ). length z) bytes ∙ sym k.holds.size_is) in
      let main = subst (λ (m : Module). LoadsFrom files (base_of name) m h.size some) same h.loads in
      load.from_files files (base_of name) k.main k.size some other (subst (λ (n : ℕ). LoadsFrom files (base_of name) k.main n some) size main) k.loads

  -- loading ends so, or the file is refused
  abbrev pub FileSo : Result Ready Ending → Type 0
  FileSo answer =
      ((end : Loading) × LoadsOf (Some files) name end × (answer ≡ answer_by end))
      ⊎ ((ending : Ending) × Refused files name ending × (answer ≡ Err ending))

  refused_file : (ending : Ending) → IsSettled ending → RefusesLibrary (Some files) name ending → FileSo (Err ending)
  refused_file Done s p = absurd p
  refused_file (Unaccepted fault) s p = absurd p
  refused_file (Unread fault) s p = inr (Unread fault, refused_of files name (Unread fault) s p, refl)
  refused_file (Unverified fault) s p = inr (Unverified fault, refused_of files name (Unverified fault) s p, refl)
  refused_file (Unmerged fault) s p = absurd p
  refused_file (Unopened fault) s p = absurd p
  refused_file (Unfrozen fault) s p = absurd p
  refused_file (Unboarded fault) s p = absurd p
  refused_file (Different difference) s p = absurd p
  refused_file (Stopped (Past limit)) s p = inl (loads.Past limit, p, refl)
  refused_file (Stopped (LibraryFault path)) s p = absurd s
  refused_file (Stopped (LibraryUnaccepted source)) s p = absurd p
  refused_file (Stopped Raised) s p = absurd p
  refused_file (Stopped Memory) s p = absurd p
  refused_file (Stopped (Steps count)) s p = absurd p
  refused_file (Stopped Unsaved) s p = absurd p
  refused_file (Stopped (Unresumed fault)) s p = absurd p
  refused_file ReadFault s p = absurd s
  refused_file WriteFault s p = absurd p
  refused_file Unwritten s p = absurd p
  refused_file NoMemory s p = absurd s
  refused_file Absent s p = inr (Absent, refused_of files name Absent s p, refl)

  pub file_so : (answer : Result Ready Ending) → IsSettledAnswer answer → FirstOf (FileLibrary (Some files) name) answer → FileSo answer
  file_so (Ok ready) s p = inl (Loaded ready.library, p.0, first_is ready p.1)
  file_so (Err ending) s p = refused_file ending s p

  both_files : (one other : Result Ready Ending) → FileSo one → FileSo other → one ≡ other
  both_files one other (inl x) (inl y) = x.2 ∙ (ap answer_by (one_file_loading x.0 y.0 x.1 y.1) ∙ sym y.2)
  both_files one other (inl x) (inr y) = absurd (never_refused laws files name x.1.main y.0 (module_of x.1.main x.1.size x.1.holds) y.1)
  both_files one other (inr x) (inl y) = absurd (never_refused laws files name y.1.main x.0 (module_of y.1.main y.1.size y.1.holds) x.1)
  both_files one other (inr x) (inr y) = x.2 ∙ (ap (λ (e : Ending). Err e) (one_refused laws files name x.0 y.0 x.1 y.1) ∙ sym y.2)

-- an image
-- ========

-- what the main module of a library is to be run as
abbrev main_answer : (shelf : Shelf) (main : List ℕ) → Option Member → Result Ready Ending
main_answer shelf main None = Err (Unopened (mains.NoMain main))
main_answer shelf main (Some (members.Module place)) = Ok (record { library = shelf; place = place; main = main })
main_answer shelf main (Some members.Refused) = Err NoMemory

module _ (of_images : ImageLaws) (opened : List (List ℕ)) (below : Shelf) (is_opened : IsOpenedOf opened below) (main bytes : List ℕ) where
  -- the bytes are opened as a library, or have a first fault
  abbrev ImageSo : Result Ready Ending → Type 0
  ImageSo answer =
      ((shelf : Shelf) × Opens below bytes shelf × (answer ≡ main_answer shelf main (member_of shelf main)))
      ⊎ ((fault : ImageFault) × FirstFault (images_base below) bytes fault × (answer ≡ Err (Unopened (mains.Image fault))))

  main_is : (ready : Ready) → ready.main ≡ main → member_of ready.library main ≡ Some (members.Module ready.place)
      → Ok ready ≡ main_answer ready.library main (member_of ready.library main)
  main_is ready is found =
      ap (λ (r : Ready). Ok r) (same_ready ready (record { library = ready.library; place = ready.place; main = main }) refl refl is)
      ∙ ap (λ (m : Option Member). main_answer ready.library main m) (sym found)

  image_so : (answer : Result Ready Ending) → IsSettledAnswer answer → ImageStart below main bytes answer → ImageSo answer
  image_so (Ok ready) s p = inl (ready.library, p.0.opens, main_is ready p.1 p.0.found)
  image_so (Err (Unopened (mains.Image fault))) s p = inr (fault, p, refl)
  image_so (Err (Unopened (mains.NoMain missing))) s p =
      inl (p.1.shelf, p.1.opens, ap (λ (n : List ℕ). Err (Unopened (mains.NoMain n))) p.0 ∙ ap (λ (m : Option Member). main_answer p.1.shelf main m) (sym p.1.none))
  image_so (Err NoMemory) s p = absurd s
  image_so (Err Done) s p = absurd p
  image_so (Err (Unaccepted fault)) s p = absurd p
  image_so (Err (Unread fault)) s p = absurd p
  image_so (Err (Unverified fault)) s p = absurd p
  image_so (Err (Unmerged fault)) s p = absurd p
  image_so (Err (Unfrozen fault)) s p = absurd p
  image_so (Err (Unboarded fault)) s p = absurd p
  image_so (Err (Different difference)) s p = absurd p
  image_so (Err (Stopped stop)) s p = absurd p
  image_so (Err ReadFault) s p = absurd p
  image_so (Err WriteFault) s p = absurd p
  image_so (Err Unwritten) s p = absurd p
  image_so (Err Absent) s p = absurd p

  both_images : (one other : Result Ready Ending) → ImageSo one → ImageSo other → one ≡ other
  both_images one other (inl x) (inl y) =
      let shelf = of_images.one_library opened below bytes x.0 y.0 is_opened x.1 y.1 in
      x.2 ∙ (ap (λ (s : Shelf). main_answer s main (member_of s main)) shelf ∙ sym y.2)
  both_images one other (inl x) (inr y) = absurd (never_faulty of_images opened below is_opened bytes x.0 y.0 x.1 y.1)
  both_images one other (inr x) (inl y) = absurd (never_faulty of_images opened below is_opened bytes y.0 x.0 y.1 x.1)
  both_images one other (inr x) (inr y) =
      x.2 ∙ (ap (λ (f : ImageFault). Err (Unopened (mains.Image f))) (of_images.one_fault (images_base below) bytes x.0 y.0 x.1 y.1) ∙ sym y.2)

-- a file or an image
-- ==================

module _ (laws : FileLaws) (load : LoadLaws) (of_images : ImageLaws) (opened : List (List ℕ)) (below : Shelf) (is_opened : IsOpenedOf opened below) (main : List ℕ) (files : FileOf) (name : List ℕ) where
  -- bytes that begin as an image are too many to be read, or come to what an image comes to
  abbrev ImageOr : (bytes : List ℕ) → Result Ready Ending → Type 0
  ImageOr bytes answer =
      ((MAX_READ_BYTES < length bytes) × (answer ≡ Err (Unread TooBig)))
      ⊎ ((length bytes ≤ MAX_READ_BYTES) × ImageSo of_images opened below is_opened main bytes answer)

  -- nothing is there, a file is, or an image
  abbrev RunSo : Result Ready Ending → Type 0
  RunSo answer =
      ((files name ≡ None) × (answer ≡ Err Absent))
      ⊎ (((bytes : List ℕ) × (files name ≡ Some bytes) × (begins_image bytes ≡ false) × FileSo laws load files name answer)
      ⊎ ((bytes : List ℕ) × (files name ≡ Some bytes) × (begins_image bytes ≡ true) × ImageOr bytes answer))

  long_so : (answer : Result Ready Ending) (fault : FileFault) (bytes : List ℕ) → fault ≡ TooBig → files name ≡ Some bytes → MAX_READ_BYTES < length bytes
      → answer ≡ Err (Unread fault) → (begins : Bool) → begins_image bytes ≡ begins → RunSo answer
  long_so answer fault bytes big at long e false begins =
      inr (inl (bytes, at, begins, inr (Unread fault, refused_of files name (Unread fault) tt (refuses_unread (Some files) name (Unread fault) (big, (bytes, at, long))), e)))
  long_so answer fault bytes big at long e true begins =
      inr (inr (bytes, at, begins, inl (long, e ∙ ap (λ (f : FileFault). Err (Unread f)) big)))

  unread_so : (answer : Result Ready Ending) (ending : Ending) → IsSettledAnswer answer → IsNotRead (Some files) name ending → answer ≡ Err ending → RunSo answer
  unread_so answer Absent s p e = inl (p, e)
  unread_so answer (Unread fault) s p e = long_so answer fault p.1.0 p.0 p.1.1 p.1.2 e (begins_image p.1.0) refl
  unread_so answer ReadFault s p e = absurd (subst IsSettledAnswer e s)
  unread_so answer NoMemory s p e = absurd (subst IsSettledAnswer e s)
  unread_so answer Done s p e = absurd p
  unread_so answer (Unaccepted fault) s p e = absurd p
  unread_so answer (Unverified fault) s p e = absurd p
  unread_so answer (Unmerged fault) s p e = absurd p
  unread_so answer (Unopened fault) s p e = absurd p
  unread_so answer (Unfrozen fault) s p e = absurd p
  unread_so answer (Unboarded fault) s p e = absurd p
  unread_so answer (Different difference) s p e = absurd p
  unread_so answer (Stopped stop) s p e = absurd p
  unread_so answer WriteFault s p e = absurd p
  unread_so answer Unwritten s p e = absurd p

  run_so : (answer : Result Ready Ending) → IsSettledAnswer answer → RunLibrary below main (Some files) name answer → RunSo answer
  run_so answer s (not_read ending p e) = unread_so answer ending s p e
  run_so answer s (of_file bytes at begins p) = inr (inl (bytes, at, begins, file_so laws load files name answer s p))
  run_so answer s (of_image bytes at short begins p) = inr (inr (bytes, at, begins, inr (short, image_so of_images opened below is_opened main bytes answer s p)))

  both_or : (bytes : List ℕ) (one other : Result Ready Ending) → ImageOr bytes one → ImageOr bytes other → one ≡ other
  both_or bytes one other (inl x) (inl y) = x.1 ∙ sym y.1
  both_or bytes one other (inl x) (inr y) = absurd (never_long (Some bytes) bytes bytes refl refl y.0 x.0)
  both_or bytes one other (inr x) (inl y) = absurd (never_long (Some bytes) bytes bytes refl refl x.0 y.0)
  both_or bytes one other (inr x) (inr y) = both_images of_images opened below is_opened main bytes one other x.1 y.1

  never_both : (x y : List ℕ) → files name ≡ Some x → files name ≡ Some y → begins_image x ≡ false → begins_image y ≡ true → ⊥
  never_both x y at there other begins = let wrong : false ≡ true = sym other ∙ (ap begins_image (same_content (files name) x y at there) ∙ begins) in cc

  pub one_run_library : AnswersOnce (RunLibrary below main (Some files) name)
  one_run_library one other s t p q = by (run_so one s p) (run_so other t q) where
    by : RunSo one → RunSo other → one ≡ other
    by (inl x) (inl y) = x.1 ∙ sym y.1
    by (inl x) (inr (inl y)) = absurd (none_there (files name) y.0 x.0 y.1)
    by (inl x) (inr (inr y)) = absurd (none_there (files name) y.0 x.0 y.1)
    by (inr (inl x)) (inl y) = absurd (none_there (files name) x.0 y.0 x.1)
    by (inr (inl x)) (inr (inl y)) = both_files laws load files name one other x.3 y.3
    by (inr (inl x)) (inr (inr y)) = absurd (never_both x.0 y.0 x.1 y.1 x.2 y.2)
    by (inr (inr x)) (inl y) = absurd (none_there (files name) x.0 y.0 x.1)
    by (inr (inr x)) (inr (inl y)) = absurd (never_both y.0 x.0 y.1 x.1 y.2 x.2)
    by (inr (inr x)) (inr (inr y)) =
        let bytes = same_content (files name) x.0 y.0 x.1 y.1 in
        both_or y.0 one other (subst (λ (z : List ℕ). ImageOr z one) bytes x.3) y.3
