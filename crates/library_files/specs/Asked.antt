-- The names that are asked for where a name is imported. 46 is the dot.
use Rattle.std.specs.Prelude.{◌==◌, ℕ, Bool, false, List, [], ◌∷◌, map, take, codes, if◌then◌else◌}
use Rattle.std.specs.Str.{bytes_eq}
use Rattle.pkg_paths.specs.Plain.{is_plain}

-- the fronts of a name that end before a dot, and the name
abbrev pub prefixes : List ℕ → List (List ℕ)
prefixes [] = [] ∷ []
prefixes (byte ∷ name) =
    let longer = map (λ front. byte ∷ front) (prefixes name) in
    if byte == 46 then [] ∷ longer else longer

-- what a byte of a name adds to the fronts in front of its place
abbrev pub front_before : (name : List ℕ) → (place byte : ℕ) → List (List ℕ)
front_before name place byte = if byte == 46 then take place name ∷ [] else []

-- the first is the name of the built-in module
abbrev pub is_of_port : List (List ℕ) → Bool
is_of_port [] = false
is_of_port (first ∷ others) = bytes_eq (codes "port") first

-- of a plain name each prefix, the shortest first, but none below the built-in module; none of a name that isn't plain
abbrev pub asked_for : List ℕ → List (List ℕ)
asked_for name = if is_plain name then (if is_of_port (prefixes name) then [] else prefixes name) else []
