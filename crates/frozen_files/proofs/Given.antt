-- What an entry's source gives.
use Rattle.std.proofs.Common.{◌≡◌, ◌+◌, ◌<◌, ℕ, List, length, replicate, Option, Some, None, IfSome, Result, Ok, Err, refl, sym, subst, inl, arith}
use Rattle.std.proofs.lemmas.List.{length-replicate}
use Rattle.mpy_base.specs.declared.limits.TheConstants.{MAX_READ_BYTES, MAX_SOURCE_BYTES}
use Rattle.mpy_base.specs.declared.refused.Refused.{Refused}
use Rattle.mpy_base.specs.declared.refused.Refused.TheVariants as refused
use Rattle.mpy_base.specs.declared.source.SourceFault.{SourceFault}
use Rattle.mpy_base.specs.Fault.{too_long}
use Rattle.mpy_io.specs.declared.fault.ReadFault.{ReadFault}
use Rattle.mpy_io.specs.declared.fault.ReadFault.TheVariants as reads
use Rattle.mpy_io.specs.Files.{FileOf, Reads}
use Rattle.image_freeze.specs.image_open.mpy_tree.Raw.{Module}
use Rattle.source_files.specs.mpy_compile.Compiled.{Compiles, CompilesTo, IsFault}
use Rattle.source_files.specs.library_files.Comes.{IsVerifiedFile}
use Rattle.manifest_lines.specs.declared.entry.Entry.{Entry}
use Rattle.image_freeze.specs.declared.named.Named.{Named}
use Rattle.manifest_files.specs.declared.frozen_fault.SourcesFault.{SourcesFault}
use Rattle.manifest_files.specs.declared.frozen_fault.SourcesFault.TheVariants.{Manifest, Absent, Unaccepted, Unread}
use Rattle.manifest_files.specs.FrozenFaults.{FaultIs}
use Rattle.frozen_files.specs.Sources.{MayHold, IsModuleOf, HoldsSource, IsFaulty, RefusesEntry}

-- the module of the file that was compiled
pub module_of : (entry : Entry) (text stored bytes read : List ℕ) (m : Module) → stored ≡ entry.source → read ≡ bytes → CompilesTo entry.opt text stored bytes → IsVerifiedFile read m → IsModuleOf entry text m
module_of entry text stored bytes read m s r compiles is = record {
  bytes = bytes;
  compiles = subst (λ (name : List ℕ). CompilesTo entry.opt text name bytes) s compiles;
  is = subst (λ (b : List ℕ). IsVerifiedFile b m) r is;
}

-- why there is no file
pub not_compiled : (entry : Entry) (text stored : List ℕ) (refusal : Refused SourceFault) → stored ≡ entry.source → Compiles entry.opt text stored (Err refusal) → FaultIs (IsFault entry.opt text entry.source) refusal
not_compiled entry text stored (refused.Fault fault) s h = subst (λ (name : List ℕ). IsFault entry.opt text name fault) s h
not_compiled entry text stored refused.NoMemory s h = tt

-- the file that the folder read
at_path : (files : Option FileOf) (asked path : List ℕ) (fault given : ReadFault) → asked ≡ path → fault ≡ given → IfSome files (λ file. Reads (file asked) (Err fault)) → IfSome files (λ file. Reads (file path) (Err given))
at_path files asked path fault given a f h =
    subst (λ (x : ReadFault). IfSome files (λ file. Reads (file path) (Err x))) f (subst (λ (n : List ℕ). IfSome files (λ file. Reads (file n) (Err fault))) a h)

pub not_there : (files : Option FileOf) (entry : Entry) (kept asked : List ℕ) (fault : ReadFault) → kept ≡ entry.path → asked ≡ entry.path → fault ≡ reads.Absent → IfSome files (λ file. Reads (file asked) (Err fault))
    → RefusesEntry files entry (Absent kept)
not_there files entry kept asked fault k a f h = (k, at_path files asked entry.path fault reads.Absent a f h)

some_long : (n : ℕ) → (text : List ℕ) × (n < length text)
some_long n = (replicate (n + 1) 0, omega (arith, length-replicate {A = ℕ} (n + 1) 0))

long_faulty : (files : Option FileOf) (entry : Entry) → IfSome files (λ file. (bytes : List ℕ) × (file entry.path ≡ Some bytes) × (MAX_READ_BYTES < length bytes)) → IsFaulty files entry too_long
long_faulty None entry h = let long = some_long MAX_SOURCE_BYTES in record { text = long.0; holds = tt; is = inl (inl (inl (long.1, refl))) }
long_faulty (Some file) entry h = record { text = h.0; holds = h.1; is = inl (inl (inl (omega (arith, h.2), refl))) }

pub too_long_there : (files : Option FileOf) (entry : Entry) (kept asked : List ℕ) (fault : ReadFault) (told : SourceFault) → kept ≡ entry.path → asked ≡ entry.path → fault ≡ reads.TooLong → told ≡ too_long
    → IfSome files (λ file. Reads (file asked) (Err fault)) → RefusesEntry files entry (Unaccepted kept told)
too_long_there files entry kept asked fault told k a f t h =
    (k, subst (IsFaulty files entry) (sym t) (long_faulty files entry (at_path files asked entry.path fault reads.TooLong a f h)))

pub unaccepted_there : (files : Option FileOf) (entry : Entry) (kept asked text read : List ℕ) (fault : SourceFault) → kept ≡ entry.path → asked ≡ entry.path → read ≡ text → MayHold files asked (Some text)
    → IsFault entry.opt read entry.source fault → RefusesEntry files entry (Unaccepted kept fault)
unaccepted_there files entry kept asked text read fault k a r holds is = (
  k,
  record {
    text = text;
    holds = subst (λ (n : List ℕ). MayHold files n (Some text)) a holds;
    is = subst (λ (t : List ℕ). IsFault entry.opt t entry.source fault) r is;
  },
)

pub source_there : (files : Option FileOf) (entry : Entry) (asked name text read : List ℕ) (m : Module) → asked ≡ entry.path → name ≡ entry.«module» → read ≡ text → MayHold files asked (Some text) → IsModuleOf entry read m
    → HoldsSource files entry (record { name = name; held = m })
source_there files entry asked name text read m a n r holds is = record {
  text = text;
  holds = subst (λ (p : List ℕ). MayHold files p (Some text)) a holds;
  is = subst (λ (t : List ℕ). IsModuleOf entry t m) r is;
  name_is = n;
}
