-- Lists of names, and what holds one for each function.
use Rattle.std.specs.Prelude.{ℕ, Bool, not, if◌then◌else◌, List, [], ◌∷◌, ◌++◌, Some, None, filter, map, slice_get, Vec}
use Rattle.std.specs.List.{list_any}
use Rattle.std.specs.Str.{bytes_eq}
use Rattle.std.specs.HashSet.{HashSet}
use Rattle.std.specs.declared.alloc.Global.{Global}

-- whether a name is among these
abbrev pub has : List ℕ → List (List ℕ) → Bool
has name names = list_any (bytes_eq name) names

-- each name once, where it first stands
abbrev pub firsts : List (List ℕ) → List (List ℕ)
firsts [] = []
firsts (name ∷ names) = name ∷ filter (λ other. not (bytes_eq name other)) (firsts names)

-- the names with one more, where it isn't among them
abbrev pub added : List (List ℕ) → List ℕ → List (List ℕ)
added names name = if has name names then names else names ++ name ∷ []

-- the names of each function
abbrev pub Table : Type 0
Table = ℕ → List (List ℕ)

-- the bytes of a name
abbrev pub bytes_of : Vec ℕ Global → List ℕ
bytes_of key = key.items

-- the names of a set
abbrev pub names_of : {S : Type 0} → HashSet (Vec ℕ Global) S → List (List ℕ)
names_of set = map bytes_of set.keys

-- the table that a list of sets is, in which a number past the list has no names
abbrev pub names_in : {S : Type 0} → List (HashSet (Vec ℕ Global) S) → Table
names_in sets f = elim (slice_get sets f) [ None ↦ [] | Some set ↦ names_of set ]
