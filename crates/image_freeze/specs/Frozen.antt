-- The image that is written of modules, and why there is none.
use Rattle.std.specs.Prelude.{◌≡◌, ◌⊎◌, ℕ, ◌+◌, ◌<◌, List, [], ◌∷◌, ◌++◌, length, map, drop, Contains, unwrap_or}
use Rattle.std.specs.List.{flat_map}
use Rattle.mpy_base.specs.declared.limits.TheConstants.{MAX_DEPTH, MAX_IMAGE_BYTES, MAX_MODULES, MAX_TABLE}
use Rattle.mpy_base.specs.Vuint.{vuint}
use Rattle.qstr_pool.specs.Pool.{Texts}
use Rattle.mpy_writer.specs.mpy_tree.declared.raw.Qstr.{Qstr}
use Rattle.mpy_writer.specs.mpy_tree.declared.raw.Qstr.TheVariants.{Static, Own}
use Rattle.mpy_writer.specs.mpy_tree.Raw.{Module}
use Rattle.mpy_writer.specs.mpy_tree.Canonical.{code_bytes, object_bytes}
use Rattle.mpy_writer.specs.File.{qstr_of}
use Rattle.image_open.specs.bc_library.Texts.{with_texts}
use Rattle.image_open.specs.image_grammar.declared.entry.Entry.{Entry}
use Rattle.image_open.specs.image_grammar.declared.fault.ImageFault.{ImageFault}
use Rattle.image_open.specs.image_grammar.declared.fault.ImageFault.TheVariants.{BadHeader, Truncated, BadNumber, BadModule, Twice, Trailing, TooBig, BadBase}
use Rattle.image_open.specs.image_grammar.Image.{Differ, texts_used}
use Rattle.image_open.specs.image_grammar.Opening.{Base, entry_of, names_of, number_in, pool_below}
use Rattle.image_freeze.specs.declared.named.Named.{Named}

-- a module as an image holds it: a text that every file may name has its number, and small integers have 31 bits
-- ================================================================================================================

-- an entry of a module's table as an image has it: a static text is named by its number
abbrev pub frozen_qstr : Qstr → Qstr
frozen_qstr (Static number) = Static number
frozen_qstr (Own text) = qstr_of text

-- a module as an image has it
abbrev pub frozen : Module → Module
frozen m = record { bits = 31; qstrs = map frozen_qstr m.qstrs; objects = m.objects; code = m.code }

-- the modules of an image with their names
abbrev pub entries_of : List Named → List Entry
entries_of modules = map (λ (m : Named). entry_of m.name (frozen m.held)) modules

-- its bytes
-- =========

-- the number of a text, and 0 of one that has none
abbrev pub text_number : Texts → List ℕ → ℕ
text_number pool text = unwrap_or (number_in pool text) 0

-- the number of an entry's text in the pool
abbrev pub qstr_number : Texts → Qstr → ℕ
qstr_number pool (Static number) = number
qstr_number pool (Own text) = text_number pool text

-- that number as an image has it
abbrev pub number_bytes : Texts → Qstr → List ℕ
number_bytes pool qstr = vuint (qstr_number pool qstr)

-- a text of the image's own: its length, the text, and a zero byte
abbrev pub own_bytes : List ℕ → List ℕ
own_bytes text = vuint (length text) ++ (text ++ 0 ∷ [])

-- the objects of a module, and its code with the bytes that it has
abbrev pub body_bytes : Module → List ℕ
body_bytes m = vuint (length m.objects) ++ (flat_map (object_bytes MAX_DEPTH) m.objects ++ code_bytes MAX_DEPTH m.code)

-- a module: the number of its name, its texts by their numbers, and what is behind them
abbrev pub entry_bytes : Texts → Entry → List ℕ
entry_bytes pool entry =
    vuint (text_number pool entry.name) ++ (vuint (length entry.held.qstrs) ++ (flat_map (number_bytes pool) entry.held.qstrs ++ body_bytes entry.held))

-- the texts below, and behind them those that the modules use, each once, in the order of their first use
abbrev pub pool_of : Base → List Entry → Texts
pool_of below entries = with_texts (pool_below below) (texts_used entries)

-- the image's own texts, and its modules
abbrev pub parts_of : Texts → List (List ℕ) → List Entry → List ℕ
parts_of pool own entries =
    vuint (length own) ++ (flat_map own_bytes own ++ (vuint (length entries) ++ flat_map (entry_bytes pool) entries))

-- the header of version 1
abbrev pub first_front : List ℕ
first_front = 0x4d ∷ 0x49 ∷ 1 ∷ 0x1f ∷ []

-- the header of version 2, and the numbers of texts and modules below
abbrev pub second_front : Base → List ℕ
second_front below = 0x4d ∷ 0x49 ∷ 2 ∷ 0x1f ∷ (vuint (length below.texts) ++ vuint (length below.names))

-- the image of modules, behind this front
abbrev pub image_bytes : List ℕ → Base → List Entry → List ℕ
image_bytes front below entries =
    front ++ parts_of (pool_of below entries) (drop (length below.texts) (pool_of below entries).texts) entries

-- why there is none
-- =================

-- the first of the names that is among those in front of it
abbrev pub IsTwice : List (List ℕ) → List (List ℕ) → List ℕ → Type 0
IsTwice before [] again = ⊥
IsTwice before (name ∷ names) again =
    (Contains before name × (again ≡ name)) ⊎ ((Contains before name → ⊥) × IsTwice (before ++ name ∷ []) names again)

-- too many modules, texts or bytes, and no name twice
pub record IsTooBig (front : List ℕ) (below : Base) (entries : List Entry) : Type 0 where
  pub differ : Differ below.names (names_of entries)
  pub big : (MAX_MODULES < length below.names + length entries)
      ⊎ (MAX_TABLE < length (pool_of below entries).texts)
      ⊎ (MAX_IMAGE_BYTES < length (image_bytes front below entries))

-- the fault of modules that have no image
abbrev pub FreezeFault : List ℕ → Base → List Entry → ImageFault → Type 0
FreezeFault front below entries (Twice name) = IsTwice below.names (names_of entries) name
FreezeFault front below entries TooBig = IsTooBig front below entries
FreezeFault front below entries BadHeader = ⊥
FreezeFault front below entries Truncated = ⊥
FreezeFault front below entries BadNumber = ⊥
FreezeFault front below entries (BadModule index) = ⊥
FreezeFault front below entries Trailing = ⊥
FreezeFault front below entries BadBase = ⊥
