-- The file of a source is the file of the unit that its text is read as.
use Rattle.std.proofs.Common.{◌≡◌, ℕ, List, refl, sym, ap, ◌∙◌, subst}
use Rattle.tr_source.specs.bc_scheme.mpy_tree.declared.module.ModuleCode.{ModuleCode}
use Rattle.tr_source.specs.bc_scheme.mpy_tree.File.{IsFile}
use Rattle.tr_source.specs.bc_scheme.mpy_tree.Raw as raw
use Rattle.tr_source.specs.bc_scheme.mpy_tree.Resolved.{ResolvedModule, Resolves}
use Rattle.bc_resolved.specs.bc_verify.Verified.{IsVerified}
use Rattle.tr_source.specs.py_tree.declared.stmt.Module.{Module}
use Rattle.tr_source.specs.py_tree.Formed.{IsFormed}
use Rattle.meant_runs.specs.py_scopes.Scopes.{IsFaultless}
use Rattle.py_source.specs.declared.source.Accepted.{Accepted}
use Rattle.py_source.specs.Source as sources
use Rattle.tr_source.specs.bc_scheme.py_meaning.Program.{Source, Single}
use Rattle.tr_source.specs.bc_scheme.py_meaning.Meaning.{source_of}
use Rattle.tr_source.specs.bc_scheme.Link.{translated}
use Rattle.tr_source.specs.bc_scheme.Translation.{Translates}
use Rattle.tr_source.specs.Accepted.{IsAccepted}
use Rattle.frozen_files.specs.mpy_compile.emit_module.First.{AreWithin}
use Rattle.frozen_files.specs.mpy_compile.emit_module.Module.{IsResolved}
use Rattle.frozen_files.specs.mpy_compile.Compiled.{CompilesTo}
use Rattle.meant_runs.proofs.trans_laws_lemmas.Itself.{fits_itself}
use Rattle.meant_runs.specs.Units.{IsUnitFile}
use Rattle.meant_files.specs.Readings.{IsReading}

-- what the crates below say
pub record Below : Type 0 where
  pub one_file : (bytes : List ℕ) (m n : raw.Module) → IsFile bytes m → IsFile bytes n → m ≡ n
  pub one_tree : (whole : ModuleCode) (m n : ResolvedModule) → IsResolved whole m → IsResolved whole n → m ≡ n
  pub one_reading : (level : ℕ) (text : List ℕ) (first second : Accepted) → sources.IsAccepted level text first → sources.IsAccepted level text second → first ≡ second
  pub formed : (level : ℕ) (text : List ℕ) (accepted : Accepted) → sources.IsAccepted level text accepted → IsFormed accepted.tree
  pub faultless : (level : ℕ) (text : List ℕ) (accepted : Accepted) → sources.IsAccepted level text accepted → IsFaultless accepted.tree
  pub within : (file : List ℕ) (level : ℕ) (tree : Module) → IsFormed tree → IsFaultless tree → AreWithin (source_of file level tree) → IsAccepted level tree
  pub verified : (file : List ℕ) (level : ℕ) (tree : Module) (m : ResolvedModule) (held : raw.Module) → IsAccepted level tree → Translates (source_of file level tree) m → Resolves held m → IsVerified held

module _ (b : Below) (level : ℕ) (text stored bytes : List ℕ) (c : CompilesTo level text stored bytes) where
  -- the tree that the file is read as
  abbrev read : ResolvedModule
  read = c.file.reads.tree

  abbrev accepted : Accepted
  accepted = c.compiled.accepted

  pub resolves : (m : raw.Module) → IsFile bytes m → Resolves m read
  resolves m is = subst (λ (held : raw.Module). Resolves held read) (b.one_file bytes c.file.reads.reads.0 m c.file.reads.reads.1 is) c.file.reads.reads.2

  pub translates : Translates (source_of stored level accepted.tree) read
  translates =
      let same = b.one_tree c.whole c.compiled.translated.resolved read c.compiled.translated.is (record { source = c.file.reads.source; code = c.file.reads.code }) in
      subst (Translates (source_of stored level accepted.tree)) same c.compiled.translated.translates

  pub unit_file : (m : raw.Module) (source : Source) → IsFile bytes m → IsReading level text stored source → IsUnitFile (Single source) m
  unit_file m source is reading =
      let same : accepted ≡ reading.accepted = b.one_reading level text accepted reading.accepted c.compiled.is reading.is_accepted in
      let source_is : source_of stored level accepted.tree ≡ source = ap (λ (a : Accepted). source_of stored level a.tree) same ∙ sym reading.source_is in
      record {
        tree = read;
        resolves = resolves m is;
        want = read;
        is_module = translated (subst (λ (s : Source). Translates s read) source_is translates);
        stored = refl;
        fits = fits_itself read.code;
      }

  pub reading : (source : Source) × IsReading level text stored source
  reading = (source_of stored level accepted.tree, record { accepted = accepted; is_accepted = c.compiled.is; source_is = refl })

  pub is_accepted : IsAccepted level accepted.tree
  is_accepted = b.within stored level accepted.tree (b.formed level text accepted c.compiled.is) (b.faultless level text accepted c.compiled.is) c.compiled.within

  pub is_verified : (m : raw.Module) → IsFile bytes m → IsVerified m
  is_verified m is = b.verified stored level accepted.tree read m is_accepted translates (resolves m is)

  pub file_there : (m : raw.Module) × IsFile bytes m
  file_there = (c.file.reads.reads.0, c.file.reads.reads.1)
