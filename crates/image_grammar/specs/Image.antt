-- The image of named modules: the grammar of its bytes.
use Rattle.std.specs.Prelude.{◌≡◌, ◌⊎◌, ℕ, ◌+◌, ◌≤◌, List, [], ◌∷◌, ◌++◌, length, Contains, Some}
use Rattle.std.specs.List.{flat_map}
use Rattle.mpy_base.specs.declared.limits.TheConstants.{MAX_IMAGE_BYTES, MAX_MODULES, MAX_TABLE}
use Rattle.mpy_base.specs.Vuint.{Spells}
use Rattle.qstr_pool.specs.declared.table.TheConstants.{STATIC_COUNT}
use Rattle.qstr_pool.specs.Pool.{Texts, text_of}
use Rattle.mpy_reader.specs.mpy_tree.declared.raw.Qstr.{Qstr}
use Rattle.mpy_reader.specs.mpy_tree.declared.raw.Qstr.TheVariants.{Static, Own}
use Rattle.mpy_reader.specs.mpy_tree.File.{Many, IsAscii}
use Rattle.mpy_reader.specs.Body.{IsBody}
use Rattle.bc_library.specs.Texts.{text_numbered, texts_of, with_texts}
use Rattle.image_grammar.specs.declared.entry.Entry.{Entry}
use Rattle.image_grammar.specs.Opening.{Base, pool_below, names_of}

-- a text of the image's own: its length, the text, and a zero byte
pub record IsOwnText (text : List ℕ) (own : List ℕ) : Type 0 where
  pub front : List ℕ
  pub text_is : text ≡ front ++ (own ++ 0 ∷ [])
  pub spells : Spells front (length own)
  pub ascii : IsAscii own

-- an entry of a module's table: the number that its text has in the pool
abbrev pub IsEntry : Texts → List ℕ → Qstr → Type 0
IsEntry pool text (Static number) = Spells text number × (1 ≤ number) × (number ≤ STATIC_COUNT)
IsEntry pool text (Own own) = (number : ℕ) × Spells text number × (text_of pool number ≡ Some own)

-- a module: the number of its name, that of its texts, their numbers, its objects and its code
pub record IsNamed (pool : Texts) (text : List ℕ) (entry : Entry) : Type 0 where
  pub name : List ℕ
  pub qstr_count : List ℕ
  pub numbers : List ℕ
  pub body : List ℕ
  pub text_is : text ≡ name ++ (qstr_count ++ (numbers ++ body))
  pub number : ℕ
  pub spells_name : Spells name number
  pub name_is : text_numbered pool number ≡ Some entry.name
  pub bits : entry.held.bits ≡ 31
  pub counts_qstrs : Spells qstr_count (length entry.held.qstrs)
  pub few_qstrs : length entry.held.qstrs ≤ MAX_TABLE
  pub are_qstrs : Many (IsEntry pool) numbers entry.held.qstrs
  pub is_body : IsBody (length entry.held.qstrs) body (entry.held.objects, entry.held.code)

-- the texts that modules use, in order: of each its name, the last part of a name with a dot, and its table
abbrev pub texts_used : List Entry → List (List ℕ)
texts_used entries = flat_map (λ entry. texts_of entry.name entry.held) entries

-- the header, and the numbers of texts and modules below in version 2
abbrev pub IsFront : Base → List ℕ → Type 0
IsFront below front =
    ((front ≡ 0x4d ∷ 0x49 ∷ 1 ∷ 0x1f ∷ []) × (below.texts ≡ []) × (below.names ≡ []))
    ⊎ ((texts names : List ℕ) × (front ≡ 0x4d ∷ 0x49 ∷ 2 ∷ 0x1f ∷ (texts ++ names))
    × Spells texts (length below.texts) × Spells names (length below.names))

-- no two of the names are equal, those before among them
abbrev pub Differ : List (List ℕ) → List (List ℕ) → Type 0
Differ before [] = Unit {0}
Differ before (name ∷ names) = (Contains before name → ⊥) × Differ (before ++ name ∷ []) names

-- what the image says of the pool and of the modules in it. The pool is the one below with the texts that are used, each
-- once, in the order of their first use.
pub record IsImage (below : Base) (entries : List Entry) (bytes : List ℕ) : Type 0 where
  pub front : List ℕ
  pub text_count : List ℕ
  pub texts : List ℕ
  pub module_count : List ℕ
  pub named : List ℕ
  pub bytes_are : bytes ≡ front ++ (text_count ++ (texts ++ (module_count ++ named)))
  pub is_front : IsFront below front
  pub own : List (List ℕ)
  pub counts_texts : Spells text_count (length own)
  pub are_texts : Many IsOwnText texts own
  pub pool : Texts
  pub pool_is : pool.texts ≡ below.texts ++ own
  pub first_use : pool ≡ with_texts (pool_below below) (texts_used entries)
  pub few_texts : length pool.texts ≤ MAX_TABLE
  pub counts_modules : Spells module_count (length entries)
  pub are_named : Many (IsNamed pool) named entries
  pub few_modules : length below.names + length entries ≤ MAX_MODULES
  pub differ : Differ below.names (names_of entries)
  pub short : length bytes ≤ MAX_IMAGE_BYTES
