-- The codes of a module: by their paths, and one after another in preorder, with numbers.
use Rattle.std.specs.Prelude.{◌≡◌, ◌⊎◌, ℕ, zero, suc, ◌+◌, ◌<◌, List, [], ◌∷◌, ◌++◌, length, Option, Some, slice_get, option_and_then}
use Rattle.qstr_pool.specs.mpy_base.declared.limits.TheConstants.{MAX_DEPTH}
use Rattle.mpy_tree.specs.declared.raw.RawCode.{RawCode, out-RawCode}
use Rattle.mpy_tree.specs.Raw.{Module}

-- paths
-- =====

-- the code that a path leads to: each number is a place among the children
abbrev pub code_at : List ℕ → RawCode → Option RawCode
code_at [] code = Some code
code_at (n ∷ path) code = option_and_then (code_at path) (slice_get (out-RawCode code).children n)

-- preorder: a code is before those in it, and those in a child before those in a later one
abbrev pub IsBefore : List ℕ → List ℕ → Type 0
IsBefore path [] = ⊥
IsBefore [] (n ∷ path) = Unit {0}
IsBefore (m ∷ front) (n ∷ path) = (m < n) ⊎ ((m ≡ n) × IsBefore front path)

-- numbers
-- =======

-- a code in preorder: its path, its own bytes, and the numbers of its children
pub record Placed : Type 0 where
  pub path : List ℕ
  pub bytes : List ℕ
  pub children : List ℕ

-- the codes of a code that has a path and a number: it, and those in it
abbrev pub Within : Type 0
Within = List ℕ → ℕ → RawCode → List Placed

-- the codes of children, of which the first has the place and the number
abbrev pub codes_by : Within → List ℕ → ℕ → ℕ → List RawCode → List Placed
codes_by within path place number [] = []
codes_by within path place number (code ∷ codes) =
    within (path ++ place ∷ []) number code
    ++ codes_by within path (suc place) (number + length (within (path ++ place ∷ []) number code)) codes

-- the numbers of children, of which the first has the place and the number
abbrev pub numbers_by : Within → List ℕ → ℕ → ℕ → List RawCode → List ℕ
numbers_by within path place number [] = []
numbers_by within path place number (code ∷ codes) =
    number ∷ numbers_by within path (suc place) (number + length (within (path ++ place ∷ []) number code)) codes

-- a code that has a path and a number, and those in it to that number of levels: each is in front of those in it, and those in
-- a child are in front of those in a later one
unfoldable pub codes_to : ℕ → Within
codes_to zero path number code = []
codes_to (suc levels) path number code =
    record {
      path = path;
      bytes = (out-RawCode code).bytes;
      children = numbers_by (codes_to levels) path 0 (suc number) (out-RawCode code).children;
    }
    ∷ codes_by (codes_to levels) path 0 (suc number) (out-RawCode code).children

-- the codes of a module, whose numbers are their places here; they nest no deeper in a file
abbrev pub codes_of : Module → List Placed
codes_of m = codes_to MAX_DEPTH [] 0 m.code

-- what is said of a place in the list is so of the code that its path leads to
pub record IsPlaced (m : Module) (place : Placed) : Type 0 where
  pub code : RawCode
  pub there : code_at place.path m.code ≡ Some code
  pub bytes : place.bytes ≡ (out-RawCode code).bytes
  pub children : length place.children ≡ length (out-RawCode code).children
