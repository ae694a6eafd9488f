-- A file's parts one after another.
use Rattle.std.proofs.Common.{◌≡◌, ◌⊎◌, ℕ, ◌≤◌, List, Result, Ok, Err, refl, sym, ap, subst, inl, inr}
use Rattle.std.specs.Prelude.{IfOk, IsOkAnd}
use Rattle.mpy_base.specs.declared.refused.Refused.{Refused}
use Rattle.mpy_base.specs.declared.refused.Refused.TheVariants as refusals
use Rattle.mpy_base.specs.declared.limits.TheConstants.{MAX_DEPTH}
use Rattle.mpy_tree.specs.declared.module.Constant.{Constant}
use Rattle.mpy_tree.specs.declared.raw.Qstr.{Qstr}
use Rattle.mpy_tree.specs.declared.raw.RawCode.{RawCode}
use Rattle.mpy_tree.specs.Raw.{Module}
use Rattle.mpy_tree.specs.File.{IsModule, IsFile}
use Rattle.mpy_tree.specs.Resolved.{ResolvedModule, Reads, Resolves}
use Rattle.mpy_reader.specs.declared.fault.FileFault.{FileFault}
use Rattle.mpy_reader.specs.Reading.{goes_on, header, count, many, qstr, object, code, parts, file, Gives}
use Rattle.mpy_reader.proofs.Steps.{judged}
use Rattle.mpy_reader.proofs.FoundCodes.{parts_found, file_found}
use Rattle.mpy_reader.proofs.Found.{done, ok_is}
use Rattle.mpy_reader.proofs.TakenCodes.{file_read}
use Rattle.mpy_reader.proofs.Single.{file_single}

abbrev module_of : ℕ → List Qstr → List Constant → RawCode → Module
module_of bits qstrs objects outermost = record { bits = bits; qstrs = qstrs; objects = objects; code = outermost }

pub all_parts : (bytes a b c d e rest : List ℕ) (bits qstr_count object_count : ℕ) (qstrs : List Qstr) (objects : List Constant) (outermost : RawCode)
    → header bytes (Ok (bits, a)) → count a (Ok (qstr_count, b)) → count b (Ok (object_count, c)) → 1 ≤ qstr_count
    → many qstr_count qstr c (Ok (qstrs, d)) → many object_count (object MAX_DEPTH) d (Ok (objects, e)) → code MAX_DEPTH qstr_count e (Ok (outermost, rest))
    → parts bytes (Ok (module_of bits qstrs objects outermost, rest))
unfolding parts
all_parts bytes a b c d e rest bits qstr_count object_count qstrs objects outermost h i j k l m n =
    goes_on (bits, a) h (goes_on (qstr_count, b) i (goes_on (object_count, c) j (judged k (goes_on (qstrs, d) l (goes_on (objects, e) m (goes_on (outermost, rest) n refl))))))

pub is_module : (bytes rest : List ℕ) (m : Module) → parts bytes (Ok (m, rest)) → IsModule m
is_module bytes rest m h = let s = parts_found.found bytes rest m h in (s.0, s.1)

abbrev answer : Module → Result Module (Refused FileFault)
answer m = Ok m

abbrev refusal : FileFault → Result Module (Refused FileFault)
refusal fault = Err (refusals.Fault fault)

abbrev failed : FileFault → Result Module FileFault
failed fault = Err fault

-- what the answer of a call that gives what is read says
pub result_found : (bytes : List ℕ) (r : Result Module (Refused FileFault)) → Gives (λ m. m) r (file bytes) → IfOk r (λ m. IsFile bytes m)
result_found bytes (Ok m) h = file_found bytes m h
result_found bytes (Err e) h = tt

pub result_only : (bytes : List ℕ) (m : Module) (r : Result Module (Refused FileFault)) → Gives (λ m. m) r (file bytes) → IsFile bytes m → (r ≡ Ok m) ⊎ (r ≡ Err refusals.NoMemory)
result_only bytes m (Ok n) h is = inl (ap answer (ok_is n m ((file_single bytes).same (Ok n) (Ok m) h (file_read bytes m is))))
result_only bytes m (Err (refusals.Fault f)) h is = absurd (let e : done m ≡ Err f = (file_single bytes).same (Ok m) (Err f) (file_read bytes m is) h in cc)
result_only bytes m (Err refusals.NoMemory) h is = inr refl

pub result_resolves : (bytes : List ℕ) (tree : ResolvedModule) (r : Result Module (Refused FileFault)) → Gives (λ m. m) r (file bytes) → Reads bytes tree → IsOkAnd r (λ m. Resolves m tree) ⊎ (r ≡ Err refusals.NoMemory)
result_resolves bytes tree r h reads =
    elim (result_only bytes reads.0 r h reads.1) [
      | inl is ↦ inl (subst (λ z. IsOkAnd z (λ m. Resolves m tree)) (sym is) reads.2)
      | inr none ↦ inr none
    ]

pub result_first : (bytes : List ℕ) (fault : FileFault) (r : Result Module (Refused FileFault)) → Gives (λ m. m) r (file bytes) → r ≡ Err (refusals.Fault fault) → file bytes (Err fault)
result_first bytes fault r h e = let P : Result Module (Refused FileFault) → Type 0 = λ z. Gives (λ m. m) z (file bytes) in subst P e h

pub result_fault : (bytes : List ℕ) (fault : FileFault) (r : Result Module (Refused FileFault)) → Gives (λ m. m) r (file bytes) → file bytes (Err fault) → (r ≡ Err (refusals.Fault fault)) ⊎ (r ≡ Err refusals.NoMemory)
result_fault bytes fault (Ok n) h is = absurd (let e : done n ≡ Err fault = (file_single bytes).same (Ok n) (Err fault) h is in cc)
result_fault bytes fault (Err (refusals.Fault f)) h is =
    let e : failed f ≡ failed fault = (file_single bytes).same (Err f) (Err fault) h is in
    let same : f ≡ fault = cc in
    inl (ap refusal same)
result_fault bytes fault (Err refusals.NoMemory) h is = inr refl
