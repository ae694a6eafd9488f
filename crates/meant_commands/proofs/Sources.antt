-- Loading from sources ends in one way.
use Rattle.std.proofs.Common.{◌≡◌, ℕ, List, length, Option, Some, None, Result, Ok, Err, sym, ap, ap₂, subst, ◌∙◌}
use Rattle.meant_files.specs.mpy_base.declared.source.SourceFault.{SourceFault}
use Rattle.meant_files.specs.mpy_io.Files.{FileOf}
use Rattle.library_files.specs.bc_library.mpy_tree.Raw.{Module}
use Rattle.library_files.specs.bc_library.mpy_tree.File.{IsFile}
use Rattle.meant_files.specs.pkg_paths.Finds.{NamedFile, first_there}
use Rattle.meant_files.specs.pkg_paths.Paths.{candidates}
use Rattle.file_commands.specs.mpy_compile.Compiled.{CompilesTo, IsFault}
use Rattle.library_files.specs.declared.entry.Entry.{Entry}
use Rattle.library_files.specs.declared.entry.Entry.TheVariants as entries
use Rattle.library_files.specs.declared.limit.UnacceptedSource.{UnacceptedSource}
use Rattle.library_files.specs.Comes.{FileComesTo}
use Rattle.library_files.specs.Imports.{Imports}
use Rattle.library_files.specs.Loads.{Loading}
use Rattle.library_files.proofs.Once.{with_once}
use Rattle.meant_files.specs.source_files.Sources.{IsModuleOf, SourceComesTo, source_ending, stored, ComesToSource, LoadsFromSources}

-- what the crates below say
pub record Below : Type 0 where
  pub one_module : (bytes : List ℕ) (m n : Module) → IsFile bytes m → IsFile bytes n → m ≡ n
  pub one_file : (level : ℕ) (source kept a b : List ℕ) → CompilesTo level source kept a → CompilesTo level source kept b → a ≡ b
  pub one_fault : (level : ℕ) (source kept : List ℕ) (f g : SourceFault) → IsFault level source kept f → IsFault level source kept g → f ≡ g
  pub not_both : (level : ℕ) (source kept bytes : List ℕ) (fault : SourceFault) → CompilesTo level source kept bytes → IsFault level source kept fault → ⊥

module _ (below : Below) (level : ℕ) where
  -- a source has one module
  pub module_once : (path source : List ℕ) (m n : Module) (s t : ℕ) → IsModuleOf level path source m s → IsModuleOf level path source n t → (m ≡ n) × (s ≡ t)
  module_once path source m n s t p q =
      let same : p.bytes ≡ q.bytes = below.one_file level source (stored path) p.bytes q.bytes p.compiles q.compiles in (
        below.one_module q.bytes m n (subst (λ z. IsFile z m) same p.is.file) q.is.file,
        p.size_is ∙ (ap length same ∙ sym q.size_is),
      )

  pub apart : (path source : List ℕ) (m : Module) (size : ℕ) (fault : SourceFault) → IsModuleOf level path source m size → IsFault level source (stored path) fault → ⊥
  apart path source m size fault p q = below.not_both level source (stored path) p.bytes fault p.compiles q

  entry_once : (path source : List ℕ) (a b : Entry) → SourceComesTo level path source (Ok a) → SourceComesTo level path source (Ok b) → a ≡ b
  entry_once path source (entries.Held m s) (entries.Held n t) h k = let both = module_once path source m n s t h k in ap₂ entries.Held both.0 both.1
  entry_once path source (entries.Held m s) entries.Refused h k = absurd k
  entry_once path source (entries.Held m s) entries.Absent h k = absurd k
  entry_once path source entries.Refused b h k = absurd h
  entry_once path source entries.Absent b h k = absurd h

  not_refused : (path source : List ℕ) (a : Entry) (fault : SourceFault) → SourceComesTo level path source (Ok a) → IsFault level source (stored path) fault → ⊥
  not_refused path source (entries.Held m s) fault h k = apart path source m s fault h k
  not_refused path source entries.Refused fault h k = h
  not_refused path source entries.Absent fault h k = h

  unaccepted_once : (s t : UnacceptedSource) → s.path ≡ t.path → s.fault ≡ t.fault → s ≡ t
  unaccepted_once s t paths faults = ap₂ (λ (p : List ℕ) (f : SourceFault). record { path = p; fault = f }) paths faults

  file_once : (file : Option NamedFile) (a b : Result Entry UnacceptedSource) → FileComesTo (SourceComesTo level) file a → FileComesTo (SourceComesTo level) file b → a ≡ b
  file_once None (Ok a) (Ok b) h k = ap Ok (h ∙ sym k)
  file_once None (Ok a) (Err s) h k = absurd k
  file_once None (Err s) b h k = absurd h
  file_once (Some file) (Ok a) (Ok b) h k = ap Ok (entry_once file.0 file.1 a b h k)
  file_once (Some file) (Ok a) (Err s) h k = absurd (not_refused file.0 file.1 a s.fault h k.1)
  file_once (Some file) (Err s) (Ok b) h k = absurd (not_refused file.0 file.1 b s.fault k h.1)
  file_once (Some file) (Err s) (Err t) h k = ap Err (unaccepted_once s t (h.0 ∙ sym k.0) (below.one_fault level file.1 (stored file.0) s.fault t.fault h.1 k.1))

  pub loads_once : ((m : Module) (some others : List (List ℕ)) → Imports m some → Imports m others → some ≡ others)
      → (files : FileOf) (base : List ℕ) (main : Module) (size : ℕ) (some other : Loading) → LoadsFromSources level files base main size some → LoadsFromSources level files base main size other → some ≡ other
  loads_once one_list files base main size some other h k =
      with_once (ComesToSource level files base) (λ name a b. file_once (first_there files (candidates base name source_ending)) a b) one_list main size some other h k
