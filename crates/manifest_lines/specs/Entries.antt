-- Entries: the sources that a call names. 46 is the dot, 47 is `/`, 95 is `_`.
use Rattle.std.specs.Prelude.{ℕ, ◌-◌, ◌==◌, Bool, false, not, ◌||◌, if◌then◌else◌, List, [], ◌∷◌, ◌++◌, length, take, drop, map, Option, Some, None, codes}
use Rattle.std.specs.Str.{bytes_eq}
use Rattle.std.specs.List.{list_all}
use Rattle.std.specs.Char.{is_ascii_alphanumeric, is_ascii_digit}
use Rattle.manifest_lines.specs.declared.entry.Entry.{Entry}
use Rattle.manifest_lines.specs.declared.entry.Sources.{Sources}

-- is it a letter, a digit or `_`?
abbrev pub is_name_byte : ℕ → Bool
is_name_byte byte = is_ascii_alphanumeric byte || byte == 95

-- may a name begin so? It begins with no digit
abbrev pub begins_name : List ℕ → Bool
begins_name [] = false
begins_name (byte ∷ bytes) = not (is_ascii_digit byte)

-- letters, digits and `_`, the first of which is no digit
abbrev pub is_name : List ℕ → Bool
is_name text = if begins_name text then list_all is_name_byte text else false

-- a script without its ending
abbrev pub front_of : List ℕ → List ℕ
front_of script = take (length script - 3) script

-- a name with the ending
abbrev pub is_script : List ℕ → Bool
is_script text = if bytes_eq (drop (length text - 3) text) (codes ".py") then is_name (front_of text) else false

-- a package without the name of its own file
abbrev pub without_init : List ℕ → List ℕ
without_init path = if bytes_eq (drop (length path - 9) path) (codes "/__init__") then take (length path - 9) path else path

-- a dot for `/`
abbrev pub dotted : ℕ → ℕ
dotted byte = if byte == 47 then 46 else byte

-- the module of a source: a dot for each `/`
abbrev pub module_of : List ℕ → List ℕ
module_of source = map dotted (without_init (front_of source))

-- what is behind a folder: a path with its `/`, unless it is the folder itself
abbrev pub under : List ℕ → List ℕ
under path = if bytes_eq path (codes ".") then [] else path ++ codes "/"

-- the path of a script in its package
abbrev pub source_of : Sources → List ℕ → List ℕ
source_of sources script = under sources.«package» ++ script

-- the entry of a script, where it is a name with the ending
abbrev pub entry_of : Sources → List ℕ → Option Entry
entry_of sources script = if is_script script then Some (record {
  «module» = module_of (source_of sources script);
  path = under sources.base ++ source_of sources script;
  source = source_of sources script;
  opt = sources.opt;
}) else None

-- what is made of an entry, where there is one
abbrev pub with_entry : Option Entry → (Entry → Option (List Entry)) → Option (List Entry)
with_entry None others = None
with_entry (Some entry) others = others entry

-- the entries of scripts behind those that were found, where each is a name with the ending
abbrev pub entries_from : Sources → List Entry → List (List ℕ) → Option (List Entry)
entries_from sources found [] = Some found
entries_from sources found (script ∷ scripts) = with_entry (entry_of sources script) (λ entry. entries_from sources (found ++ entry ∷ []) scripts)

-- the entries of a call's scripts
abbrev pub entries_of : Sources → Option (List Entry)
entries_of sources = entries_from sources [] sources.scripts
