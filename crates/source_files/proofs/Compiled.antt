-- The file of a source is that of a verified module.
use Rattle.std.proofs.Common.{◌≡◌, ℕ, List, subst}
use Rattle.mpy_reader.specs.mpy_tree.declared.module.ModuleCode.{ModuleCode}
use Rattle.mpy_reader.specs.mpy_tree.Raw as raw
use Rattle.mpy_reader.specs.mpy_tree.Resolved.{ResolvedModule, Resolves}
use Rattle.library_files.specs.bc_library.bc_verify.Verified.{IsVerified}
use Rattle.mpy_compile.specs.py_tree.declared.stmt.Module.{Module}
use Rattle.mpy_compile.specs.py_tree.Formed.{IsFormed}
use Rattle.mpy_compile.specs.py_scopes.Scopes.{IsFaultless}
use Rattle.mpy_compile.specs.py_source.declared.source.Accepted.{Accepted}
use Rattle.mpy_compile.specs.py_source.Source as sources
use Rattle.mpy_compile.specs.bc_scheme.py_meaning.Meaning.{source_of}
use Rattle.mpy_compile.specs.bc_scheme.Translation.{Translates}
use Rattle.mpy_compile.specs.tr_source.Accepted.{IsAccepted}
use Rattle.mpy_compile.specs.emit_module.First.{AreWithin}
use Rattle.mpy_compile.specs.emit_module.Module.{IsResolved}
use Rattle.mpy_compile.specs.Compiled.{CompilesTo}
use Rattle.library_files.specs.Comes.{IsVerifiedFile}

-- what the crates below say
pub record Below : Type 0 where
  pub one_tree : (whole : ModuleCode) (m n : ResolvedModule) → IsResolved whole m → IsResolved whole n → m ≡ n
  pub formed : (level : ℕ) (text : List ℕ) (accepted : Accepted) → sources.IsAccepted level text accepted → IsFormed accepted.tree
  pub faultless : (level : ℕ) (text : List ℕ) (accepted : Accepted) → sources.IsAccepted level text accepted → IsFaultless accepted.tree
  pub within : (file : List ℕ) (level : ℕ) (tree : Module) → IsFormed tree → IsFaultless tree → AreWithin (source_of file level tree) → IsAccepted level tree
  pub verified : (file : List ℕ) (level : ℕ) (tree : Module) (m : ResolvedModule) (held : raw.Module) → IsAccepted level tree → Translates (source_of file level tree) m → Resolves held m → IsVerified held

pub verified_file : Below → (level : ℕ) (text stored bytes : List ℕ) → CompilesTo level text stored bytes → (m : raw.Module) × IsVerifiedFile bytes m
verified_file b level text stored bytes c =
    let accepted : Accepted = c.compiled.accepted in
    let tree : ResolvedModule = c.file.reads.tree in
    let reads = c.file.reads.reads in
    let same : c.compiled.translated.resolved ≡ tree = b.one_tree c.whole c.compiled.translated.resolved tree c.compiled.translated.is (record { source = c.file.reads.source; code = c.file.reads.code }) in
    let translates = subst (Translates (source_of stored level accepted.tree)) same c.compiled.translated.translates in
    let within = b.within stored level accepted.tree (b.formed level text accepted c.compiled.is) (b.faultless level text accepted c.compiled.is) c.compiled.within in
    (reads.0, record { file = reads.1; verified = b.verified stored level accepted.tree tree reads.0 within translates reads.2 })
