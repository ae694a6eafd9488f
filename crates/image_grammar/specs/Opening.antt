-- An image from its first byte on: its modules, or the first fault. A field is read whole, then its limit is judged, then
-- the rest about it, before the next one is read.
use Rattle.std.specs.Prelude.{◌≡◌, ◌⊎◌, ℕ, ◌+◌, ◌-◌, ◌<◌, ◌≤◌, max, Bool, true, false, List, [], ◌∷◌, ◌++◌, length, map, Contains}
use Rattle.std.specs.Prelude.{Option, Some, None, Result, Ok, Err, nat_lt, ◌==◌, if◌then◌else◌}
use Rattle.std.specs.Option.{option_or}
use Rattle.mpy_base.specs.declared.limits.TheConstants.{MAX_IMAGE_BYTES, MAX_MODULES, MAX_TABLE}
use Rattle.mpy_base.specs.Vuint.{Spells, EndsInside, PassesForm}
use Rattle.qstr_pool.specs.declared.table.TheConstants.{FIRST_OWN}
use Rattle.qstr_pool.specs.Pool.{Texts, number_of}
use Rattle.qstr_pool.specs.Static.{static_number_of}
use Rattle.mpy_reader.specs.mpy_tree.declared.module.Constant.{Constant}
use Rattle.mpy_reader.specs.mpy_tree.declared.raw.Qstr.{Qstr}
use Rattle.mpy_reader.specs.mpy_tree.declared.raw.Qstr.TheVariants as qstrs
use Rattle.mpy_reader.specs.mpy_tree.declared.raw.RawCode.{RawCode}
use Rattle.mpy_reader.specs.mpy_tree.Raw.{Module}
use Rattle.mpy_reader.specs.declared.fault.FileFault.{FileFault}
use Rattle.mpy_reader.specs.declared.fault.FileFault.TheVariants as files
use Rattle.mpy_reader.specs.Reading.{IsText}
use Rattle.mpy_reader.specs.Body as bodies
use Rattle.bc_library.specs.bc_verify.Verified.{IsVerified}
use Rattle.bc_library.specs.Texts.{text_numbered, last_part}
use Rattle.image_grammar.specs.declared.entry.Entry.{Entry}
use Rattle.image_grammar.specs.declared.entry.Opened.{Opened}
use Rattle.image_grammar.specs.declared.names.Table.{Table}
use Rattle.image_grammar.specs.declared.fault.ImageFault.{ImageFault}
use Rattle.image_grammar.specs.declared.fault.ImageFault.TheVariants.{BadHeader, Truncated, BadNumber, BadModule, Twice, Trailing, TooBig, BadBase}
use Rattle.image_grammar.specs.Steps.{Reading, Field, ◌>>=◌, ◌>>◌, pure, refuse, judge, sought, choose, times}

-- what an image lies over: texts behind the static ones, and names of modules
pub record Base : Type 0 where
  pub texts : List (List ℕ)
  pub names : List (List ℕ)

-- no base
abbrev pub nothing_below : Base
nothing_below = record { texts = []; names = [] }

-- numbers
-- =======

-- a number in the form of a file's: Truncated where the bytes end inside it, TooBig where it passes the form
abbrev pub number : List ℕ → Field ℕ
number bytes (Ok found) = (text : List ℕ) × Spells text found.0 × (bytes ≡ text ++ found.1)
number bytes (Err Truncated) = EndsInside bytes
number bytes (Err TooBig) = PassesForm bytes
number bytes (Err BadHeader) = ⊥
number bytes (Err BadNumber) = ⊥
number bytes (Err (BadModule index)) = ⊥
number bytes (Err (Twice name)) = ⊥
number bytes (Err Trailing) = ⊥
number bytes (Err BadBase) = ⊥

-- a number of things, of which there may be `most`
unfoldable pub count : ℕ → List ℕ → Field ℕ
count most bytes = do
  n ← number bytes
  judge (n.0 ≤ most) TooBig
  pure n

-- texts
-- =====

-- `len` bytes in front of the others
pub record IsTaken (len : ℕ) (bytes : List ℕ) (found : List ℕ × List ℕ) : Type 0 where
  pub parts : bytes ≡ found.0 ++ found.1
  pub length_is : length found.0 ≡ len

-- no file may name the text by a static number, and it isn't in the pool
pub record IsNew (pool : Texts) (text : List ℕ) : Type 0 where
  pub own : static_number_of text ≡ None
  pub absent : number_of pool text ≡ None

-- the pool with a text more
abbrev pub with_last : Texts → List ℕ → Texts
with_last pool text = record { first = pool.first; texts = pool.texts ++ text ∷ [] }

-- a further text of the image's own, behind those of the pool
unfoldable pub own_text : Texts → List ℕ → Field Texts
own_text pool bytes = do
  len ← number bytes
  whole ← sought (IsTaken (len.0 + 1) len.1) Truncated
  own ← sought (λ own. IsText own whole.0) BadNumber
  judge (IsNew pool own) BadNumber
  pure (with_last pool own, whole.1)

-- the pool of the texts below alone
abbrev pub pool_below : Base → Texts
pool_below below = record { first = FIRST_OWN; texts = below.texts }

-- the pool of the texts below, and behind them the image's own
unfoldable pub table : Texts → List ℕ → Field Texts
table pool bytes = do
  n ← count (MAX_TABLE - length pool.texts) bytes
  times n.0 own_text pool n.1

-- the numbers of texts
-- ====================

-- the number of the text may stand where `used` texts of the pool were used: no text in front of it wasn't
pub record IsUse (pool : Texts) (used n : ℕ) (text : List ℕ) : Type 0 where
  pub text_is : text_numbered pool n ≡ Some text
  pub in_turn : n ≤ FIRST_OWN + used

-- how many texts of the pool are used once the number `n` is used too, where `used` were before
abbrev pub used_with : ℕ → ℕ → ℕ
used_with used n = max used (n + 1 - FIRST_OWN)

-- the text of the number, and how many texts are used then
unfoldable pub use_of : Texts → ℕ → ℕ → Reading (List ℕ × ℕ)
use_of pool used n = do
  text ← sought (IsUse pool used n) BadNumber
  pure (text, used_with used n)

-- a text that is used without a number of it
unfoldable pub use_at : Texts → ℕ → Option ℕ → Reading ℕ
use_at pool used None = refuse BadNumber
use_at pool used (Some n) = do
  found ← use_of pool used n
  pure found.1

-- the number of a text: the static one, else that in the pool
abbrev pub number_in : Texts → List ℕ → Option ℕ
number_in pool text = option_or (static_number_of text) (number_of pool text)

-- the last part of a name that has a dot counts as used behind the name
unfoldable pub use_part : Texts → ℕ → Option (List ℕ) → Reading ℕ
use_part pool used None = pure used
use_part pool used (Some part) = use_at pool used (number_in pool part)

-- modules
-- =======

-- the names of modules
abbrev pub names_of : List Entry → List (List ℕ)
names_of entries = map (λ entry. entry.name) entries

-- the name of a module, and how many texts are used then
unfoldable pub name : Base → Texts → Opened → List ℕ → Field (List ℕ × ℕ)
name below pool opened bytes = do
  n ← number bytes
  found ← use_of pool opened.used n.0
  judge (Contains (below.names ++ names_of opened.entries) found.0 → ⊥) (Twice found.0)
  used ← use_part pool found.1 (last_part found.0)
  pure ((found.0, used), n.1)

-- the entry of the text that has the number in the pool
abbrev pub qstr_of : ℕ → List ℕ → Qstr
qstr_of n text = if nat_lt n FIRST_OWN then qstrs.Static n else qstrs.Own text

-- a further entry of a module's table
unfoldable pub qstr : Texts → Table → List ℕ → Field Table
qstr pool table bytes = do
  n ← number bytes
  found ← use_of pool table.used n.0
  pure (record { qstrs = table.qstrs ++ qstr_of n.0 found.0 ∷ []; used = found.1 }, n.1)

-- the table of a module's texts
unfoldable pub qstr_table : Texts → ℕ → List ℕ → Field Table
qstr_table pool used bytes = do
  n ← count MAX_TABLE bytes
  times n.0 (qstr pool) (record { qstrs = []; used = used }) n.1

-- the objects and the code of the module at the place `index`, as a file has them. Each fault in them but Truncated is the
-- module's.
abbrev pub body : ℕ → ℕ → List ℕ → Field (List Constant × RawCode)
body index texts bytes (Ok found) = bodies.body texts bytes (Ok found)
body index texts bytes (Err Truncated) = bodies.body texts bytes (Err files.Truncated)
body index texts bytes (Err (BadModule place)) =
    (place ≡ index) × (fault : FileFault) × (fault ≡ files.Truncated → ⊥) × bodies.body texts bytes (Err fault)
body index texts bytes (Err BadHeader) = ⊥
body index texts bytes (Err BadNumber) = ⊥
body index texts bytes (Err (Twice name)) = ⊥
body index texts bytes (Err Trailing) = ⊥
body index texts bytes (Err TooBig) = ⊥
body index texts bytes (Err BadBase) = ⊥

-- the module of a table, objects and a code
abbrev pub module_of : List Qstr → List Constant × RawCode → Module
module_of table parts = record { bits = 31; qstrs = table; objects = parts.0; code = parts.1 }

-- a module with its name
abbrev pub entry_of : List ℕ → Module → Entry
entry_of name m = record { name = name; held = m }

-- the module at the place `index` behind its name, and how many texts are used then
unfoldable pub raw : Texts → ℕ → ℕ → List ℕ → Field (Module × ℕ)
raw pool index used bytes = do
  texts ← qstr_table pool used bytes
  parts ← body index (length texts.0.qstrs) texts.1
  pure ((module_of texts.0.qstrs parts.0, texts.0.used), parts.1)

-- the module at the place `index` behind its name, which must be verified, and how many texts are used then
unfoldable pub held : Texts → ℕ → ℕ → List ℕ → Field (Module × ℕ)
held pool index used bytes = do
  whole ← raw pool index used bytes
  judge (IsVerified whole.0.0) (BadModule index)
  pure whole

-- a further module behind those that were read
unfoldable pub entry : Base → Texts → Opened → List ℕ → Field Opened
entry below pool opened bytes = do
  title ← name below pool opened bytes
  whole ← held pool (length opened.entries) title.0.1 title.1
  pure (record { entries = opened.entries ++ entry_of title.0.0 whole.0.0 ∷ []; used = whole.0.1 }, whole.1)

-- no module yet; all texts below are used
abbrev pub none_opened : Base → Opened
none_opened below = record { entries = []; used = length below.texts }

-- the modules of the image, one after another
unfoldable pub modules : Base → Texts → List ℕ → Field Opened
modules below pool bytes = do
  n ← count (MAX_MODULES - length below.names) bytes
  times n.0 (entry below pool) (none_opened below) n.1

-- the image
-- =========

-- four bytes, of which the third is the version
pub record IsHeader (bytes : List ℕ) (version : ℕ) (rest : List ℕ) : Type 0 where
  pub bytes_are : bytes ≡ 0x4d ∷ 0x49 ∷ version ∷ 0x1f ∷ rest
  pub from_one : 1 ≤ version
  pub known : version ≤ 2

-- the header, and the version that it tells
abbrev pub header : List ℕ → Field ℕ
header bytes = sought (λ found. IsHeader bytes found.0 found.1) BadHeader

-- how many texts and modules lie below
unfoldable pub counts_below : Base → List ℕ → Reading (List ℕ)
counts_below below bytes = do
  texts ← number bytes
  names ← number texts.1
  judge ((texts.0 ≡ length below.texts) × (names.0 ≡ length below.names)) BadBase
  pure names.1

-- nothing lies below
unfoldable pub nothing_is_below : Base → List ℕ → Reading (List ℕ)
nothing_is_below below bytes = do
  judge ((below.texts ≡ []) × (below.names ≡ [])) BadBase
  pure bytes

-- version 1 lies over nothing, and version 2 tells what it lies over
unfoldable pub base : Base → ℕ → List ℕ → Reading (List ℕ)
base below version bytes = choose (version == 1) (nothing_is_below below bytes) (counts_below below bytes)

-- what stands behind the header
unfoldable pub parts : Base → List ℕ → Reading (List Entry)
parts below bytes = do
  pool ← table (pool_below below) bytes
  opened ← modules below pool.0 pool.1
  judge (opened.0.used ≡ length pool.0.texts) BadNumber
  judge (opened.1 ≡ []) Trailing
  pure opened.0.entries

-- a whole image over what lies below
unfoldable pub image : Base → List ℕ → Reading (List Entry)
image below bytes = do
  judge (length bytes ≤ MAX_IMAGE_BYTES) TooBig
  front ← header bytes
  rest ← base below front.0 front.1
  parts below rest

-- the first fault of bytes that are no image of verified modules over what lies below
abbrev pub FirstFault : Base → List ℕ → ImageFault → Type 0
FirstFault below bytes fault = image below bytes (Err fault)
