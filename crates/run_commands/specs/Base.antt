-- The folder of a file, by its name.
use Rattle.std.specs.Prelude.{ℕ, ◌+◌, ◌==◌, List, [], ◌∷◌, take, if◌then◌else◌}

-- the end of the last `/` (47), where other bytes stand in front of these, and the last one there ends at the given place
abbrev pub slash_end : (at found : ℕ) → List ℕ → ℕ
slash_end at found [] = found
slash_end at found (byte ∷ bytes) = slash_end (at + 1) (if byte == 47 then at + 1 else found) bytes

-- how many bytes of a name are its folder's, with the last `/`
abbrev pub base_length : List ℕ → ℕ
base_length name = slash_end 0 0 name

-- the folder in which a file of this name lies, with its `/`, or nothing
abbrev pub base_of : List ℕ → List ℕ
base_of name = take (base_length name) name
