-- The signature: a chain of a first byte `xSSSSEAA` and further ones `xFSSKAED`.
use Rattle.std.specs.Prelude.{◌≡◌, ◌⊎◌, ℕ, zero, suc, ◌+◌, ◌-◌, ◌*◌, ◌/◌, ◌%◌, ◌^◌, ◌<◌, ◌≤◌, min, List, [], ◌∷◌, ◌++◌, ◌&&◌, ◌==◌, if◌then◌else◌}
use Rattle.bc_prelude.specs.declared.signature.Signature.{Signature}
use Rattle.bc_prelude.specs.Chain.{IsChain, number_of}

-- S, one less than the slots
abbrev pub slots_of : List ℕ → ℕ
slots_of [] = 0
slots_of (first ∷ others) = first / 8 % 16 + 16 * number_of 16 4 others

-- E, the handler entries
abbrev pub handlers_of : List ℕ → ℕ
handlers_of [] = 0
handlers_of (first ∷ others) = first / 4 % 2 + 2 * number_of 2 2 others

-- A, the positional arguments
abbrev pub arguments_of : List ℕ → ℕ
arguments_of [] = 0
arguments_of (first ∷ others) = first % 4 + 4 * number_of 4 2 others

-- F, the flags
abbrev pub flags_of : List ℕ → ℕ
flags_of [] = 0
flags_of (first ∷ others) = number_of 64 2 others

-- K, the keyword-only arguments
abbrev pub kwonly_of : List ℕ → ℕ
kwonly_of [] = 0
kwonly_of (first ∷ others) = number_of 8 2 others

-- D, the defaulted arguments
abbrev pub defaults_of : List ℕ → ℕ
defaults_of [] = 0
defaults_of (first ∷ others) = number_of 1 2 others

-- the numbers keep their limits, 4096 slots and 255 handler entries and arguments
pub record KeepsLimits (text : List ℕ) : Type 0 where
  pub slots : slots_of text < 4096
  pub handlers : handlers_of text ≤ 255
  pub arguments : arguments_of text ≤ 255

-- a number passes its limit
abbrev pub IsBig : List ℕ → Type 0
IsBig text = (4096 ≤ slots_of text) ⊎ (255 < handlers_of text) ⊎ (255 < arguments_of text)

-- the text is a signature with no flags and no keyword-only arguments, and these are its numbers; a count of defaulted arguments
-- past 2^32 - 1 is told as 2^32 - 1
pub record IsSignature (text : List ℕ) (signature : Signature) : Type 0 where
  pub chain : IsChain text
  pub small : KeepsLimits text
  pub no_flags : flags_of text ≡ 0
  pub no_kwonly : kwonly_of text ≡ 0
  pub n_state : signature.n_state ≡ slots_of text + 1
  pub n_exc : signature.n_exc ≡ handlers_of text
  pub flags : signature.flags ≡ 0
  pub args : signature.args ≡ arguments_of text
  pub kwonly : signature.kwonly ≡ 0
  pub defaults : signature.defaults ≡ min (defaults_of text) (2 ^ 32 - 1)

-- the code begins with a signature whose numbers pass their limits
pub record SignaturePasses (code : List ℕ) : Type 0 where
  pub text : List ℕ
  pub rest : List ℕ
  pub code_is : code ≡ text ++ rest
  pub chain : IsChain text
  pub big : IsBig text

-- the code begins with one whose numbers keep them, with flags or keyword-only arguments
pub record SignatureOutside (code : List ℕ) : Type 0 where
  pub text : List ℕ
  pub rest : List ℕ
  pub code_is : code ≡ text ++ rest
  pub chain : IsChain text
  pub small : KeepsLimits text
  pub outside : (0 < flags_of text) ⊎ (0 < kwonly_of text)

-- a signature that may be written
pub record IsWritable (signature : Signature) : Type 0 where
  pub some : 0 < signature.n_state
  pub slots : signature.n_state ≤ 4096
  pub handlers : signature.n_exc ≤ 255
  pub arguments : signature.args ≤ 255
  pub no_flags : signature.flags ≡ 0
  pub no_kwonly : signature.kwonly ≡ 0
  pub defaults : signature.defaults < 2 ^ 32

-- what is left of S, E, A and D in a further byte
abbrev pub further_byte : ℕ → ℕ → ℕ → ℕ → ℕ
further_byte s e a d = 16 * (s % 4) + 4 * (a % 2) + 2 * (e % 2) + d % 2

-- a byte, and further ones while any part is left, with a step for each
unfoldable pub signature_in : ℕ → ℕ → ℕ → ℕ → ℕ → ℕ → List ℕ
signature_in zero byte s e a d = byte ∷ []
signature_in (suc steps) byte s e a d =
    if s == 0 && e == 0 && a == 0 && d == 0
    then byte ∷ []
    else (128 + byte) ∷ signature_in steps (further_byte s e a d) (s / 4) (e / 2) (a / 2) (d / 2)

-- a part is halved by each byte, so these are steps enough
unfoldable pub signature_from : ℕ → ℕ → ℕ → ℕ → ℕ → List ℕ
signature_from byte s e a d = signature_in (s + e + a + d) byte s e a d

-- the shortest spelling
abbrev pub spelling : Signature → List ℕ
spelling signature =
    signature_from (8 * ((signature.n_state - 1) % 16) + 4 * (signature.n_exc % 2) + signature.args % 4)
    ((signature.n_state - 1) / 16) (signature.n_exc / 2) (signature.args / 4) signature.defaults
