-- The files that a dotted name may have. 47 is `/`.
use Rattle.std.specs.Prelude.{ℕ, List, [], ◌∷◌, ◌++◌, Contains, codes}
use Rattle.std.specs.List.{join_with_byte}
use Rattle.pkg_paths.specs.Plain.{parts_of}

-- the parts of the name, joined with `/` behind the base folder
abbrev pub path_of : (base name : List ℕ) → List ℕ
path_of base name = base ++ join_with_byte 47 (parts_of name)

-- the file of a package of the name
abbrev pub package_file : (base name ending : List ℕ) → List ℕ
package_file base name ending = path_of base name ++ (codes "/__init__" ++ ending)

-- the file of a plain module of the name
abbrev pub plain_file : (base name ending : List ℕ) → List ℕ
plain_file base name ending = path_of base name ++ ending

-- the package's file before the plain one
abbrev pub candidates : (base name ending : List ℕ) → List (List ℕ)
candidates base name ending = package_file base name ending ∷ plain_file base name ending ∷ []

-- no file is in both
abbrev pub AreApart : List (List ℕ) → List (List ℕ) → Type 0
AreApart some others = (file : List ℕ) → Contains some file → Contains others file → ⊥
