-- What a file of a module comes to.
use Rattle.std.proofs.Common.{◌≡◌, ◌⊎◌, ◌<◌, ℕ, List, length, Result, Ok, Err, inl, inr, sym, subst, ◌∙◌, arith}
use Rattle.mpy_base.specs.declared.refused.Refused.{Refused}
use Rattle.mpy_base.specs.declared.refused.Refused.TheVariants as refused
use Rattle.mpy_base.specs.declared.limits.TheConstants.{MAX_READ_BYTES}
use Rattle.mpy_base.specs.declared.source.SourceFault.{SourceFault}
use Rattle.mpy_reader.specs.mpy_tree.Raw.{Module}
use Rattle.mpy_reader.specs.mpy_tree.File.{IsFile}
use Rattle.mpy_reader.specs.declared.fault.FileFault.{FileFault}
use Rattle.bc_library.specs.bc_verify.Verified.{IsVerified}
use Rattle.library_files.specs.declared.entry.Entry.{Entry}
use Rattle.library_files.specs.declared.entry.Entry.TheVariants as entries
use Rattle.library_files.specs.Comes.{Answers, BytesComeTo, ModuleComesTo}

pub same_read : (r : Result Module (Refused FileFault)) (raw m : Module) → r ≡ Ok raw → (r ≡ Ok m) ⊎ (r ≡ Err refused.NoMemory) → m ≡ raw
same_read r raw m is (inl ok) = let both : Ok m ≡ Ok raw = sym ok ∙ is in cc
same_read r raw m is (inr err) = absurd (let wrong : Ok raw ≡ Err refused.NoMemory = sym is ∙ err in cc)

pub not_read : (r : Result Module (Refused FileFault)) (e : Refused FileFault) (f : FileFault) (m : Module) → r ≡ Err e → e ≡ refused.Fault f → (r ≡ Ok m) ⊎ (r ≡ Err refused.NoMemory) → ⊥
not_read r e f m is at (inl ok) = let wrong : Err e ≡ Ok m = sym is ∙ ok in cc
not_read r e f m is at (inr err) =
    let both : Err e ≡ Err refused.NoMemory = sym is ∙ err in
    let same : e ≡ refused.NoMemory = cc in
    let wrong : refused.Fault f ≡ refused.NoMemory = sym at ∙ same in
    cc

of_entry : (bytes : List ℕ) (raw : Module) (size : ℕ) (entry : Entry) → size ≡ length bytes → IsFile bytes raw → ((m : Module) → IsFile bytes m → m ≡ raw) → ModuleComesTo raw size (Ok entry)
    → BytesComeTo bytes (Ok entry)
of_entry bytes raw size (entries.Held m count) size_is is one h =
    (record { file = subst (IsFile bytes) (sym h.0) is; verified = subst IsVerified (sym h.0) h.1 }, h.2 ∙ size_is)
of_entry bytes raw size entries.Refused size_is is one h = λ m v. h (subst IsVerified (one m v.file) v.verified)
of_entry bytes raw size entries.Absent size_is is one h = absurd h

pub of_module : (bytes : List ℕ) (raw : Module) (size : ℕ) (r : Result Entry (Refused SourceFault)) → size ≡ length bytes → IsFile bytes raw → ((m : Module) → IsFile bytes m → m ≡ raw)
    → Answers (ModuleComesTo raw size) r → Answers (BytesComeTo bytes) r
of_module bytes raw size (Ok entry) size_is is one h = of_entry bytes raw size entry size_is is one h
of_module bytes raw size (Err (refused.Fault fault)) size_is is one h = absurd h
of_module bytes raw size (Err refused.NoMemory) size_is is one h = tt

pub long_refused : (bytes : List ℕ) → MAX_READ_BYTES < length bytes → BytesComeTo bytes (Ok entries.Refused)
long_refused bytes long m v = let short = v.file.short in omega (arith, long, short)
