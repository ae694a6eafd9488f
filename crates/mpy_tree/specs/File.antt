-- The grammar of a file.
use Rattle.std.specs.Prelude.{◌≡◌, ◌⊎◌, ℕ, zero, suc, ◌+◌, ◌*◌, ◌^◌, ◌<◌, ◌≤◌, List, [], ◌∷◌, ◌++◌, length, All, Bool, true, false, ℤ, pos, ◌-ℤ◌, ◌≤ℤ◌, ◌<ℤ◌}
use Rattle.std.specs.Str.Parse.{IsNumeral, digits_value}
use Rattle.qstr_pool.specs.mpy_base.Vuint.{Spells}
use Rattle.qstr_pool.specs.mpy_base.declared.limits.TheConstants.{MAX_FILE_BYTES, MAX_TABLE, MAX_CODE_BYTES, MAX_DEPTH}
use Rattle.bc_ops.specs.declared.listing.Item.{Item}
use Rattle.bc_ops.specs.Listing.{IsListOf}
use Rattle.bc_prelude.specs.declared.prelude.Prelude.{Prelude}
use Rattle.bc_prelude.specs.Prelude.{Begins}
use Rattle.qstr_pool.specs.declared.table.TheConstants.{STATIC_COUNT}
use Rattle.mpy_tree.specs.declared.module.Constant.{Constant}
use Rattle.mpy_tree.specs.declared.module.Constant.TheVariants as constants
use Rattle.mpy_tree.specs.declared.raw.Qstr.{Qstr}
use Rattle.mpy_tree.specs.declared.raw.Qstr.TheVariants.{Static, Own}
use Rattle.mpy_tree.specs.declared.raw.RawCode.{RawCode, roll-RawCode}
use Rattle.mpy_tree.specs.Raw.{Module}

-- a text is one form after another, a value for each
abbrev pub Many : {A : Type 0} → (List ℕ → A → Type 0) → List ℕ → List A → Type 0
Many Form text [] = text ≡ []
Many Form text (x ∷ xs) = (front behind : List ℕ) × Form front x × (text ≡ front ++ behind) × Many Form behind xs

-- each byte is below 128
abbrev pub IsAscii : List ℕ → Type 0
IsAscii text = All (λ byte. byte < 128) text

-- texts
-- =====

-- the number of a text that every file may name
pub record IsStatic (text : List ℕ) (number : ℕ) : Type 0 where
  pub spells : Spells text (2 * number + 1)
  pub from_one : 1 ≤ number
  pub known : number ≤ STATIC_COUNT

-- the length of a text, the text, and a zero byte
pub record IsOwn (text : List ℕ) (own : List ℕ) : Type 0 where
  pub front : List ℕ
  pub text_is : text ≡ front ++ (own ++ 0 ∷ [])
  pub spells : Spells front (2 * length own)
  pub ascii : IsAscii own

-- an entry of the table of texts: the number of a static text, or a text of the file's own
abbrev pub IsQstr : List ℕ → Qstr → Type 0
IsQstr text (Static number) = IsStatic text number
IsQstr text (Own own) = IsOwn text own

-- objects
-- =======

-- the tags
abbrev pub tag_none : ℕ
tag_none = 1

-- the tag of False
abbrev pub tag_false : ℕ
tag_false = 2

-- the tag of True
abbrev pub tag_true : ℕ
tag_true = 3

-- the tag of a text
abbrev pub tag_str : ℕ
tag_str = 5

-- the tag of an integer
abbrev pub tag_int : ℕ
tag_int = 7

-- the tag of a tuple
abbrev pub tag_tuple : ℕ
tag_tuple = 10

-- decimal digits, or a minus and the digits of the opposite
abbrev pub IsDecimal : List ℕ → ℤ → Type 0
IsDecimal text n =
    (IsNumeral 10 text × (n ≡ pos (digits_value 10 text)))
    ⊎ ((digits : List ℕ) × (text ≡ 45 ∷ digits) × IsNumeral 10 digits × (n ≡ pos 0 -ℤ pos (digits_value 10 digits)))

-- from -2^30 to 2^30 - 1
pub record IsSmall (n : ℤ) : Type 0 where
  pub least : (pos 0 -ℤ pos (2 ^ 30)) ≤ℤ n
  pub below : n <ℤ pos (2 ^ 30)

-- a text: its tag, its length, its bytes and a zero byte
pub record IsStr (text : List ℕ) (object : Constant) : Type 0 where
  pub count : List ℕ
  pub own : List ℕ
  pub text_is : text ≡ tag_str ∷ (count ++ (own ++ 0 ∷ []))
  pub spells : Spells count (length own)
  pub ascii : IsAscii own
  pub object_is : object ≡ constants.Str own

-- a small integer: its tag, how many bytes its decimal form has, and these
pub record IsInt (text : List ℕ) (object : Constant) : Type 0 where
  pub count : List ℕ
  pub digits : List ℕ
  pub n : ℤ
  pub text_is : text ≡ tag_int ∷ (count ++ digits)
  pub spells : Spells count (length digits)
  pub decimal : IsDecimal digits n
  pub small : IsSmall n
  pub object_is : object ≡ constants.Int n

-- a tuple: its tag, how many items it has, and these, each in the form `Inner`
pub record IsTuple (Inner : List ℕ → Constant → Type 0) (text : List ℕ) (object : Constant) : Type 0 where
  pub count : List ℕ
  pub spelled : List ℕ
  pub items : List Constant
  pub text_is : text ≡ tag_tuple ∷ (count ++ spelled)
  pub spells : Spells count (length items)
  pub each : Many Inner spelled items
  pub object_is : object ≡ constants.Tuple items

-- an object that is no tuple
abbrev pub IsAtom : List ℕ → Constant → Type 0
IsAtom text object =
    ((text ≡ tag_none ∷ []) × (object ≡ constants.None))
    ⊎ ((text ≡ tag_false ∷ []) × (object ≡ constants.False))
    ⊎ ((text ≡ tag_true ∷ []) × (object ≡ constants.True))
    ⊎ IsStr text object
    ⊎ IsInt text object

-- an object with that number of levels of tuples at most
unfoldable pub IsObject : ℕ → List ℕ → Constant → Type 0
IsObject zero text object = IsAtom text object
IsObject (suc levels) text object = IsAtom text object ⊎ IsTuple (IsObject levels) text object

-- codes
-- =====

-- a code's own bytes: a prelude whose names stand in a table of `texts` texts, and instructions
pub record IsOwnCode (texts : ℕ) (code : List ℕ) : Type 0 where
  pub prelude : Prelude
  pub begins : Begins code prelude
  pub defaults : prelude.defaults ≤ prelude.args
  pub names : All (λ index. index < texts) begins.indexes
  pub items : List Item
  pub listed : IsListOf begins.instructions items

-- the number in front of a code, by its length and by whether children follow its bytes
abbrev pub header_of : ℕ → Bool → ℕ
header_of len false = 8 * len
header_of len true = 8 * len + 4

-- the children: nothing where the header says so, else their number and these
abbrev pub AreChildren : (List ℕ → RawCode → Type 0) → Bool → List ℕ → List RawCode → Type 0
AreChildren Inner false text children = (text ≡ []) × (children ≡ [])
AreChildren Inner true text children =
    (count spelled : List ℕ) × Spells count (length children) × (length children ≤ MAX_TABLE)
    × (text ≡ count ++ spelled) × Many Inner spelled children

-- a code: its header, its own bytes, and its children, each in the form `Inner`
pub record IsElement (Inner : List ℕ → RawCode → Type 0) (texts : ℕ) (text : List ℕ) (code : RawCode) : Type 0 where
  pub header : List ℕ
  pub own : List ℕ
  pub behind : List ℕ
  pub has_children : Bool
  pub children : List RawCode
  pub text_is : text ≡ header ++ (own ++ behind)
  pub spells : Spells header (header_of (length own) has_children)
  pub short : length own ≤ MAX_CODE_BYTES
  pub is_own : IsOwnCode texts own
  pub are_children : AreChildren Inner has_children behind children
  pub code_is : code ≡ roll-RawCode (record { bytes = own; children = children })

-- a code with that number of levels of codes at most, itself among them
unfoldable pub IsCode : ℕ → ℕ → List ℕ → RawCode → Type 0
IsCode zero texts text code = ⊥
IsCode (suc levels) texts text code = IsElement (IsCode levels texts) texts text code

-- files
-- =====

-- the header, the number of texts, the number of objects, the texts, the objects, and the code
pub record IsSpelling (text : List ℕ) (m : Module) : Type 0 where
  pub qstr_count : List ℕ
  pub object_count : List ℕ
  pub qstrs : List ℕ
  pub objects : List ℕ
  pub code : List ℕ
  pub text_is : text ≡ 0x4d ∷ 6 ∷ 0 ∷ m.bits ∷ (qstr_count ++ (object_count ++ (qstrs ++ (objects ++ code))))
  pub some_bits : 1 ≤ m.bits
  pub few_bits : m.bits ≤ 31
  pub counts_qstrs : Spells qstr_count (length m.qstrs)
  pub counts_objects : Spells object_count (length m.objects)
  pub some_qstrs : 1 ≤ length m.qstrs
  pub few_qstrs : length m.qstrs ≤ MAX_TABLE
  pub few_objects : length m.objects ≤ MAX_TABLE
  pub are_qstrs : Many IsQstr qstrs m.qstrs
  pub are_objects : Many (IsObject MAX_DEPTH) objects m.objects
  pub is_code : IsCode MAX_DEPTH (length m.qstrs) code m.code

-- a file is no longer than this
pub record IsFile (bytes : List ℕ) (m : Module) : Type 0 where
  pub short : length bytes ≤ MAX_FILE_BYTES
  pub spelling : IsSpelling bytes m

-- what holds of each module of a file or of an image
abbrev pub IsModule : Module → Type 0
IsModule m = (text : List ℕ) × IsSpelling text m
