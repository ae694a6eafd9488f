-- The size field: a chain of bytes `xIIIIIIC`, the length of the information and the number of cells.
use Rattle.std.specs.Prelude.{◌≡◌, ◌⊎◌, ℕ, zero, suc, ◌+◌, ◌*◌, ◌/◌, ◌%◌, ◌<◌, List, [], ◌∷◌, ◌++◌, length, nat_lt, if◌then◌else◌}
use Rattle.bc_prelude.specs.Chain.{IsChain, HasNoEnd, number_of}

-- the text is the field of information of that length, and of no cells
pub record IsSize (text : List ℕ) (size : ℕ) : Type 0 where
  pub chain : IsChain text
  pub no_cells : number_of 1 2 text ≡ 0
  pub size_is : size ≡ number_of 2 64 text

-- the information passes the end of the bytes
pub record InformationEnds (bytes : List ℕ) : Type 0 where
  pub text : List ℕ
  pub rest : List ℕ
  pub size : ℕ
  pub bytes_are : bytes ≡ text ++ rest
  pub is_size : IsSize text size
  pub short : length rest < size

-- the bytes end in the field or in the information
abbrev pub SizeEnds : List ℕ → Type 0
SizeEnds bytes = HasNoEnd bytes ⊎ InformationEnds bytes

-- the field has cells
pub record HasCells (bytes : List ℕ) : Type 0 where
  pub text : List ℕ
  pub rest : List ℕ
  pub bytes_are : bytes ≡ text ++ rest
  pub chain : IsChain text
  pub cells : 0 < number_of 1 2 text

-- the groups of a length, with a step for each
unfoldable pub size_in : ℕ → ℕ → List ℕ
size_in zero size = (2 * (size % 64)) ∷ []
size_in (suc steps) size =
    if nat_lt size 64 then (2 * (size % 64)) ∷ [] else (128 + 2 * (size % 64)) ∷ size_in steps (size / 64)

-- the shortest spelling
unfoldable pub spelling : ℕ → List ℕ
spelling size = size_in size size
