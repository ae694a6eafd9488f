-- A file that is cut off, and one with bytes behind it.
use Rattle.std.proofs.Common.{◌≡◌, ◌≢◌, ℕ, ◌<◌, ◌≤◌, List, [], ◌∷◌, ◌++◌, length, Ok, refl, sym, ap, subst, ◌∙◌, inl, arith, length-append}
use Rattle.std.proofs.lemmas.List.{append-nil}
use Rattle.image_open.specs.mpy_base.declared.limits.TheConstants.{MAX_FILE_BYTES}
use Rattle.mpy_writer.specs.mpy_tree.Raw.{Module}
use Rattle.mpy_writer.specs.mpy_tree.File.{IsFile}
use Rattle.image_open.specs.mpy_reader.declared.fault.FileFault.TheVariants.{BadHeader, Truncated, Trailing, TooBig}
use Rattle.image_open.specs.mpy_reader.Reading.{goes_on, stops, IsHeader, parts, file, FirstFault}
use Rattle.image_open.proofs.mpy_reader_lemmas.Steps.{judged, unjudged}
use Rattle.image_open.proofs.mpy_reader_lemmas.Found.{bind_ok, judge_ok, ok_is}
use Rattle.image_open.proofs.mpy_reader_lemmas.TakenCodes.{file_read}
use Rattle.file_laws.proofs.Cuts.{IsCut}
use Rattle.file_laws.proofs.Fields.{behind_header, behind_header_cut}

-- a file is its header and a text that reads as the module
pub record Parts (bytes : List ℕ) (m : Module) : Type 0 where
  pub bits : ℕ
  pub rest : List ℕ
  pub short : length bytes ≤ MAX_FILE_BYTES
  pub is_header : IsHeader bytes bits rest
  pub is_cut : IsCut (behind_header bits) rest m []

pub parts_of : (bytes : List ℕ) (m : Module) → IsFile bytes m → Parts bytes m
unfolding file parts
parts_of bytes m is =
    let a = judge_ok _ _ _ _ (file_read bytes m is) in
    let b = bind_ok _ _ _ a.1 in
    let d = judge_ok _ _ _ _ b.2 in
    let same : b.0.0 ≡ m = sym (ok_is m b.0.0 d.1) in
    let h = bind_ok _ _ _ b.1 in
    let cut = (behind_header_cut h.0.0).cut h.0.1 b.0.1 b.0.0 h.2 in
    record {
      bits = h.0.0;
      rest = h.0.1;
      short = a.0;
      is_header = h.1;
      is_cut = subst (λ z. IsCut (behind_header h.0.0) h.0.1 z []) same (subst (λ z. IsCut (behind_header h.0.0) h.0.1 b.0.0 z) d.0 cut);
    }

-- the header of a front of four bytes and more
pub record HeaderOf (front behind rest : List ℕ) (bits : ℕ) : Type 0 where
  pub others : List ℕ
  pub is_header : IsHeader front bits others
  pub rest_is : rest ≡ others ++ behind

header_of : (front behind rest : List ℕ) (bits : ℕ) → IsHeader (front ++ behind) bits rest → 4 ≤ length front → HeaderOf front behind rest bits
header_of [] behind rest bits h long = absurd (omega arith)
header_of (a ∷ []) behind rest bits h long = absurd (omega arith)
header_of (a ∷ b ∷ []) behind rest bits h long = absurd (omega arith)
header_of (a ∷ b ∷ c ∷ []) behind rest bits h long = absurd (omega arith)
header_of (a ∷ b ∷ c ∷ d ∷ front) behind rest bits h long =
    let is = h.bytes_are in
    record {
      others = front;
      is_header = record { bytes_are = (cc); some_bits = h.some_bits; few_bits = h.few_bits };
      rest_is = cc;
    }

pub cut_header : (front behind : List ℕ) (m : Module) → IsFile (front ++ behind) m → behind ≢ [] → length front < 4 → FirstFault front BadHeader
unfolding file parts
cut_header front behind m is some few = judged (omega arith) (stops BadHeader (stops BadHeader (inl few) refl) refl)

pub cut_truncated : (front behind : List ℕ) (m : Module) → IsFile (front ++ behind) m → behind ≢ [] → 4 ≤ length front → FirstFault front Truncated
unfolding file parts
cut_truncated front behind m is some long =
    let p = parts_of (front ++ behind) m is in
    let h = header_of front behind p.rest p.bits p.is_header long in
    let text_is : p.is_cut.text ≡ h.others ++ behind = sym (p.is_cut.text_is ∙ append-nil p.is_cut.text) ∙ h.rest_is in
    judged (omega (arith, p.short, length-append front behind))
    (stops Truncated (goes_on (p.bits, h.others) h.is_header (p.is_cut.short h.others behind text_is some)) refl)

pub with_suffix : (bytes suffix : List ℕ) (m : Module) → IsFile bytes m → suffix ≢ [] → length (bytes ++ suffix) ≤ 4194304 → FirstFault (bytes ++ suffix) Trailing
unfolding file parts
with_suffix bytes suffix m is some few =
    let p = parts_of bytes m is in
    let text_is : p.rest ≡ p.is_cut.text = p.is_cut.text_is ∙ append-nil p.is_cut.text in
    let whole : IsHeader (bytes ++ suffix) p.bits (p.rest ++ suffix) =
    record { bytes_are = ap (λ (z : List ℕ). z ++ suffix) p.is_header.bytes_are; some_bits = p.is_header.some_bits; few_bits = p.is_header.few_bits } in
    let read = subst (λ z. behind_header p.bits (z ++ suffix) (Ok (m, suffix))) (sym text_is) (p.is_cut.onward suffix) in
    judged few (goes_on (m, suffix) (goes_on (p.bits, p.rest ++ suffix) whole read) (unjudged some))

pub too_long : (bytes suffix : List ℕ) (m : Module) → IsFile bytes m → 4194304 < length (bytes ++ suffix) → FirstFault (bytes ++ suffix) TooBig
unfolding file
too_long bytes suffix m is long = unjudged (λ short. omega arith)
