-- What a source gives.
use Rattle.std.proofs.Common.{◌≡◌, ◌<◌, ℕ, List, length, inl, sym, subst, arith}
use Rattle.mpy_base.specs.declared.limits.TheConstants.{MAX_READ_BYTES}
use Rattle.mpy_base.specs.declared.source.SourceFault.{SourceFault}
use Rattle.mpy_base.specs.Fault.{too_long}
use Rattle.mpy_reader.specs.mpy_tree.File.{IsFile}
use Rattle.mpy_reader.specs.mpy_tree.Raw.{Module}
use Rattle.library_files.specs.bc_library.bc_verify.Verified.{IsVerified}
use Rattle.mpy_compile.specs.Compiled.{CompilesTo, IsFault}
use Rattle.library_files.specs.Comes.{IsVerifiedFile}
use Rattle.source_files.specs.Sources.{stored, IsModuleOf}

pub verified_as : (bytes : List ℕ) (raw made : Module) → IsFile bytes raw → IsVerified raw → made ≡ raw → IsVerifiedFile bytes made
verified_as bytes raw made file verified same = record { file = subst (IsFile bytes) (sym same) file; verified = subst IsVerified (sym same) verified }

pub module_of : (level : ℕ) (path source file bytes : List ℕ) (m : Module) (size : ℕ) → bytes ≡ file → CompilesTo level source (stored path) file → IsVerifiedFile bytes m → size ≡ length file
    → IsModuleOf level path source m size
module_of level path source file bytes m size same compiles is size_is = record {
  bytes = file;
  compiles = compiles;
  is = subst (λ (z : List ℕ). IsVerifiedFile z m) same is;
  size_is = size_is;
}

-- a file that is too long to be read is a source that is too long
pub long_fault : (level : ℕ) (source kept : List ℕ) (fault : SourceFault) → MAX_READ_BYTES < length source → fault ≡ too_long → IsFault level source kept fault
long_fault level source kept fault long is = inl (inl (inl (omega (arith, long), is)))
