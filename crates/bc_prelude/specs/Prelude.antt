-- The prelude: the signature, the size field and the information, which is the names and the line table.
use Rattle.std.specs.Prelude.{◌≡◌, ◌⊎◌, ℕ, ◌+◌, ◌-◌, ◌≤◌, List, ◌++◌, length, take}
use Rattle.bc_prelude.specs.declared.prelude.Prelude.{Prelude}
use Rattle.bc_prelude.specs.declared.signature.Signature.{Signature}
use Rattle.bc_prelude.specs.Chain.{HasNoEnd}
use Rattle.bc_prelude.specs.Signature as signatures
use Rattle.bc_prelude.specs.Signature.{IsSignature, SignaturePasses, SignatureOutside}
use Rattle.bc_prelude.specs.Size as sizes
use Rattle.bc_prelude.specs.Size.{IsSize, SizeEnds, HasCells}
use Rattle.bc_prelude.specs.Names.{AreNames, NamesEnd, NamesPass}

-- the numbers of the signature
abbrev pub signature_in : Prelude → Signature
signature_in prelude = record {
  n_state = prelude.n_state;
  n_exc = prelude.n_exc;
  flags = prelude.flags;
  args = prelude.args;
  kwonly = prelude.kwonly;
  defaults = prelude.defaults;
}

-- the code begins with the prelude
pub record Begins (code : List ℕ) (prelude : Prelude) : Type 0 where
  pub signature : List ℕ
  pub size : List ℕ
  pub names : List ℕ
  pub lines : List ℕ
  pub instructions : List ℕ
  pub indexes : List ℕ
  pub code_is : code ≡ signature ++ (size ++ (names ++ (lines ++ instructions)))
  pub is_signature : IsSignature signature (signature_in prelude)
  pub is_size : IsSize size (length names + length lines)
  pub are_names : AreNames indexes names
  pub count : length indexes ≡ 1 + prelude.args
  pub no_cells : prelude.cells ≡ 0
  pub info_at : prelude.info_at ≡ length signature + length size
  pub lines_at : prelude.lines_at ≡ prelude.info_at + length names
  pub code_at : prelude.code_at ≡ prelude.lines_at + length lines

-- the parts of a code that begins with the prelude
pub record HasParts (code : List ℕ) (prelude : Prelude) (names lines instructions : List ℕ) : Type 0 where
  pub begins : Begins code prelude
  pub names_are : names ≡ begins.names
  pub lines_are : lines ≡ begins.lines
  pub instructions_are : instructions ≡ begins.instructions

-- P holds of the signature that the code begins with and of what follows it
pub record BehindSignature (P : Signature → List ℕ → Type 0) (code : List ℕ) : Type 0 where
  pub text : List ℕ
  pub rest : List ℕ
  pub signature : Signature
  pub code_is : code ≡ text ++ rest
  pub is_signature : IsSignature text signature
  pub holds : P signature rest

-- P holds of the information behind the size field that the bytes begin with
pub record OfInformation (P : List ℕ → Type 0) (bytes : List ℕ) : Type 0 where
  pub text : List ℕ
  pub rest : List ℕ
  pub size : ℕ
  pub bytes_are : bytes ≡ text ++ rest
  pub is_size : IsSize text size
  pub whole : size ≤ length rest
  pub holds : P (take size rest)

-- the code ends inside the prelude, or the information inside the names
abbrev pub PreludeEnds : List ℕ → Type 0
PreludeEnds code =
    HasNoEnd code
    ⊎ BehindSignature (λ signature rest. SizeEnds rest ⊎ OfInformation (NamesEnd (1 + signature.args)) rest) code

-- the prelude has a number past its limits
abbrev pub PreludePasses : List ℕ → Type 0
PreludePasses code =
    SignaturePasses code ⊎ BehindSignature (λ signature rest. OfInformation (NamesPass (1 + signature.args)) rest) code

-- the prelude has flags, keyword-only arguments or cells
abbrev pub PreludeOutside : List ℕ → Type 0
PreludeOutside code = SignatureOutside code ⊎ BehindSignature (λ signature rest. HasCells rest) code

-- what is written of a prelude: its signature and its size field
abbrev pub front_of : Prelude → List ℕ
front_of prelude =
    signatures.spelling (signature_in prelude) ++ sizes.spelling (prelude.code_at - prelude.info_at)

-- a prelude that may be written: its places are those of the shortest spelling
pub record IsWritable (prelude : Prelude) : Type 0 where
  pub signature : signatures.IsWritable (signature_in prelude)
  pub no_cells : prelude.cells ≡ 0
  pub info_at : prelude.info_at ≡ length (front_of prelude)
  pub code_at : prelude.info_at ≤ prelude.code_at
