-- A file from its first byte on, field by field: what is read, or the first fault. A field is read whole, then its limit
-- is judged, then the rest about it, before the next one is read.
use Rattle.std.specs.Prelude.{◌≡◌, ◌≢◌, ◌⊎◌, ℕ, zero, suc, ◌+◌, ◌/◌, ◌%◌, ◌<◌, ◌≤◌, List, [], ◌∷◌, ◌++◌, length, slice_index}
use Rattle.std.specs.Prelude.{Result, Ok, Err, Bool, true, false, ◌==◌, ℤ}
use Rattle.mpy_base.specs.declared.refused.Refused.{Refused}
use Rattle.mpy_base.specs.declared.refused.Refused.TheVariants as refused
use Rattle.mpy_base.specs.declared.limits.TheConstants.{MAX_FILE_BYTES, MAX_TABLE, MAX_CODE_BYTES, MAX_DEPTH}
use Rattle.mpy_base.specs.Vuint.{Spells, EndsInside, PassesForm}
use Rattle.mpy_tree.specs.bc_ops.declared.listing.Item.{Item}
use Rattle.mpy_tree.specs.bc_ops.Listing.{IsListOf}
use Rattle.mpy_tree.specs.bc_prelude.declared.signature.Signature.{Signature}
use Rattle.mpy_tree.specs.bc_prelude.Chain.{HasNoEnd}
use Rattle.mpy_tree.specs.bc_prelude.Signature.{IsSignature, SignaturePasses, SignatureOutside}
use Rattle.mpy_tree.specs.bc_prelude.Size.{IsSize, SizeEnds, HasCells}
use Rattle.mpy_tree.specs.qstr_pool.declared.table.TheConstants.{STATIC_COUNT}
use Rattle.mpy_tree.specs.declared.module.Constant.{Constant}
use Rattle.mpy_tree.specs.declared.module.Constant.TheVariants as constants
use Rattle.mpy_tree.specs.declared.raw.Qstr.{Qstr}
use Rattle.mpy_tree.specs.declared.raw.Qstr.TheVariants as qstrs
use Rattle.mpy_tree.specs.declared.raw.RawCode.{RawCode, roll-RawCode}
use Rattle.mpy_tree.specs.Raw.{Module}
use Rattle.mpy_tree.specs.File.{IsAscii, IsDecimal, IsSmall, tag_none, tag_false, tag_true, tag_str, tag_int, tag_tuple}
use Rattle.mpy_reader.specs.declared.fault.FileFault.{FileFault}
use Rattle.mpy_reader.specs.declared.fault.FileFault.TheVariants.{BadHeader, Incompatible, Truncated, BadQstr, BadObject, BadCode, BadPrelude, Trailing, TooBig}

-- which value is read, or which fault
abbrev pub Reading : Type 0 → Type 1
Reading A = Result A FileFault → Type 0

-- a reading, and then one that depends on its value
pub data Bind {A B : Type 0} (R : Result A FileFault → Type 0) (Q : A → Result B FileFault → Type 0) (outcome : Result B FileFault) : Type 0 where
  goes_on : (x : A) → R (Ok x) → Q x outcome → Bind R Q outcome
  stops : (fault : FileFault) → R (Err fault) → outcome ≡ Err fault → Bind R Q outcome

-- the first reading, and then the one that its value gives
infixl 10 ◌>>=◌
abbrev pub ◌>>=◌ : {A B : Type 0} → Reading A → (A → Reading B) → Reading B
R >>= Q = Bind R Q

-- the first reading, and then the second, whatever the value of the first
infixl 10 ◌>>◌
abbrev pub ◌>>◌ : {A B : Type 0} → Reading A → Reading B → Reading B
R >> Q = Bind R (λ _. Q)

-- this value, without a look at any byte
abbrev pub pure : {A : Type 0} → A → Reading A
pure x outcome = outcome ≡ Ok x

-- this fault
abbrev pub refuse : {A : Type 0} → FileFault → Reading A
refuse fault outcome = outcome ≡ Err fault

-- it goes on where the fact holds, and else has the fault
abbrev pub judge : Type 0 → FileFault → Reading (Unit {0})
judge Fact fault outcome = (Fact × (outcome ≡ Ok tt)) ⊎ ((Fact → ⊥) × (outcome ≡ Err fault))

-- the first reading where it is true, and else the second
abbrev pub choose : {A : Type 0} → Bool → Reading A → Reading A → Reading A
choose true P Q outcome = P outcome
choose false P Q outcome = Q outcome

-- what a call answers is what is read, unless memory ran out
abbrev pub Fails : {B : Type 0} → Refused FileFault → Reading B → Type 0
Fails (refused.Fault fault) R = R (Err fault)
Fails refused.NoMemory R = Unit {0}

-- what a call answers, seen by `view`, is what is read; and its fault is the one that is read
abbrev pub Gives : {A B : Type 0} → (A → B) → Result A (Refused FileFault) → Reading B → Type 0
Gives view (Ok x) R = R (Ok (view x))
Gives view (Err refusal) R = Fails refusal R

-- a call that gives no value answers Ok where some value is read, and else the fault that is read
abbrev pub Holds : {A B : Type 0} → Result A (Refused FileFault) → Reading B → Type 0
Holds {B = B} (Ok _) R = (x : B) × R (Ok x)
Holds (Err refusal) R = Fails refusal R

-- fields: a value and the bytes behind it
-- ========================================

-- a reading that gives a value and the bytes behind it
abbrev pub Field : Type 0 → Type 1
Field A = Reading (A × List ℕ)

-- one byte
abbrev pub byte : List ℕ → Field ℕ
byte [] = refuse Truncated
byte (first ∷ rest) = pure (first, rest)

-- a number in the form of a file's: Truncated where the bytes end inside it, TooBig where it passes the form
abbrev pub number : List ℕ → Field ℕ
number bytes (Ok found) = (text : List ℕ) × Spells text found.0 × (bytes ≡ text ++ found.1)
number bytes (Err Truncated) = EndsInside bytes
number bytes (Err TooBig) = PassesForm bytes
number bytes (Err fault) = ⊥

-- the first `count` bytes
abbrev pub taken : ℕ → List ℕ → Field (List ℕ)
taken count bytes (Ok found) = (bytes ≡ found.0 ++ found.1) × (length found.0 ≡ count)
taken count bytes (Err Truncated) = length bytes < count
taken count bytes (Err fault) = ⊥

-- a number of things
unfoldable pub count : List ℕ → Field ℕ
count bytes = do
  n ← number bytes
  judge (n.0 ≤ MAX_TABLE) TooBig
  pure n

-- that number of fields, one after another
unfoldable pub many : {A : Type 0} → ℕ → (List ℕ → Field A) → List ℕ → Field (List A)
many zero field bytes = pure ([], bytes)
many (suc n) field bytes = do
  first ← field bytes
  others ← many n field first.1
  pure (first.0 ∷ others.0, others.1)

-- ASCII and a zero byte
pub record IsText (own text : List ℕ) : Type 0 where
  pub ends : text ≡ own ++ 0 ∷ []
  pub ascii : IsAscii own

-- the text in front of the zero byte; or the fault, where it isn't ASCII or doesn't end so
abbrev pub own_of : FileFault → List ℕ → Reading (List ℕ)
own_of fault text (Ok own) = IsText own text
own_of fault text (Err f) = (f ≡ fault) × ((own : List ℕ) → IsText own text → ⊥)

-- a text of `len` bytes and its zero byte
unfoldable pub text : FileFault → ℕ → List ℕ → Field (List ℕ)
text fault len bytes = do
  whole ← taken (len + 1) bytes
  own ← own_of fault whole.0
  pure (own, whole.1)

-- the table of texts
-- ==================

-- the entry that names the static text of the number `number`
unfoldable pub static_qstr : ℕ → List ℕ → Field Qstr
static_qstr number rest = do
  judge ((1 ≤ number) × (number ≤ STATIC_COUNT)) BadQstr
  pure (qstrs.Static number, rest)

-- the entry that spells a text of `len` bytes
unfoldable pub own_qstr : ℕ → List ℕ → Field Qstr
own_qstr len rest = do
  own ← text BadQstr len rest
  pure (qstrs.Own own.0, own.1)

-- an entry of the table of texts: its first number is odd where it names a static text
unfoldable pub qstr : List ℕ → Field Qstr
qstr bytes = do
  n ← number bytes
  choose (n.0 % 2 == 1) (static_qstr (n.0 / 2) n.1) (own_qstr (n.0 / 2) n.1)

-- objects
-- =======

-- a text behind its tag: its length, its bytes and a zero byte
unfoldable pub str : List ℕ → Field Constant
str bytes = do
  n ← number bytes
  own ← text (BadObject tag_str) n.0 n.1
  pure (constants.Str own.0, own.1)

-- the small integer whose decimal form these bytes are, or the fault that there is none
abbrev pub int_of : List ℕ → Reading ℤ
int_of digits (Ok n) = IsDecimal digits n × IsSmall n
int_of digits (Err fault) = (fault ≡ BadObject tag_int) × ((n : ℤ) → IsDecimal digits n → IsSmall n → ⊥)

-- an integer behind its tag: how many bytes its decimal form has, and these
unfoldable pub int : List ℕ → Field Constant
int bytes = do
  n ← number bytes
  digits ← taken n.0 n.1
  value ← int_of digits.0
  pure (constants.Int value, digits.1)

-- a tuple behind its tag: how many items it has, and these
unfoldable pub tuple : (List ℕ → Field Constant) → List ℕ → Field Constant
tuple inner bytes = do
  n ← number bytes
  items ← many n.0 inner n.1
  pure (constants.Tuple items.0, items.1)

-- what stands behind the tag
unfoldable pub object_by : (List ℕ → Field Constant) → ℕ → List ℕ → Field Constant
object_by tuple_field tag rest =
    choose (tag == tag_none) (pure (constants.None, rest))
    (choose (tag == tag_false) (pure (constants.False, rest))
    (choose (tag == tag_true) (pure (constants.True, rest))
    (choose (tag == tag_str) (str rest)
    (choose (tag == tag_int) (int rest)
    (choose (tag == tag_tuple) (tuple_field rest)
    (refuse (BadObject tag)))))))

-- an object with that number of levels of tuples at most
unfoldable pub object : ℕ → List ℕ → Field Constant
object zero bytes = do
  tag ← byte bytes
  object_by (λ _. refuse TooBig) tag.0 tag.1
object (suc levels) bytes = do
  tag ← byte bytes
  object_by (tuple (object levels)) tag.0 tag.1

-- codes
-- =====

-- the signature of a prelude; or the fault that it has no end, is outside its bounds, or passes its form
abbrev pub signature : List ℕ → Field Signature
signature code (Ok found) = (text : List ℕ) × IsSignature text found.0 × (code ≡ text ++ found.1)
signature code (Err BadPrelude) = HasNoEnd code ⊎ SignatureOutside code
signature code (Err TooBig) = SignaturePasses code
signature code (Err fault) = ⊥

-- the size field: the information, and the instructions behind it
abbrev pub information : List ℕ → Field (List ℕ)
information bytes (Ok found) = (text : List ℕ) × IsSize text (length found.0) × (bytes ≡ text ++ (found.0 ++ found.1))
information bytes (Err BadPrelude) = SizeEnds bytes ⊎ HasCells bytes
information bytes (Err fault) = ⊥

-- a number in the information
abbrev pub index : List ℕ → Field ℕ
index bytes (Ok found) = (text : List ℕ) × Spells text found.0 × (bytes ≡ text ++ found.1)
index bytes (Err BadPrelude) = EndsInside bytes
index bytes (Err TooBig) = PassesForm bytes
index bytes (Err fault) = ⊥

-- the number of a text in a table of `texts` texts
unfoldable pub name : ℕ → List ℕ → Field ℕ
name texts bytes = do
  n ← index bytes
  judge (n.0 < texts) BadPrelude
  pure n

-- all of these bytes are a list of instructions, or else the code is bad
abbrev pub instructions : List ℕ → Reading (Unit {0})
instructions bytes (Ok _) = (items : List Item) × IsListOf bytes items
instructions bytes (Err fault) = (fault ≡ BadCode) × ((items : List Item) → IsListOf bytes items → ⊥)

-- a code's own bytes
unfoldable pub own_code : ℕ → List ℕ → Reading (Unit {0})
own_code texts code = do
  numbers ← signature code
  judge (numbers.0.defaults ≤ numbers.0.args) BadPrelude
  parts ← information numbers.1
  names ← many (1 + numbers.0.args) (name texts) parts.0
  instructions parts.1

-- the children of a code that has some, and of one that has none
unfoldable pub children : (List ℕ → Field RawCode) → Bool → List ℕ → Field (List RawCode)
children inner true bytes = do
  n ← count bytes
  many n.0 inner n.1
children inner false bytes = pure ([], bytes)

-- the header and a code's own bytes, with whether children follow
unfoldable pub own : ℕ → List ℕ → Field (List ℕ × Bool)
own texts bytes = do
  header ← number bytes
  judge (header.0 / 8 ≤ MAX_CODE_BYTES) TooBig
  whole ← taken (header.0 / 8) header.1
  judge (header.0 % 4 ≡ 0) BadCode
  own_code texts whole.0
  pure ((whole.0, header.0 / 4 % 2 == 1), whole.1)

-- a code: its header, its own bytes, and its children, each read by `inner`
unfoldable pub element : (List ℕ → Field RawCode) → ℕ → List ℕ → Field RawCode
element inner texts bytes = do
  front ← own texts bytes
  codes ← children inner front.0.1 front.1
  pure (roll-RawCode (record { bytes = front.0.0; children = codes.0 }), codes.1)

-- a code with that number of levels of codes at most, itself among them
unfoldable pub code : ℕ → ℕ → List ℕ → Field RawCode
code zero texts bytes = refuse TooBig
code (suc levels) texts bytes = element (code levels texts) texts bytes

-- the file
-- ========

-- four bytes, of which the last is the bits of small integers
pub record IsHeader (bytes : List ℕ) (bits : ℕ) (rest : List ℕ) : Type 0 where
  pub bytes_are : bytes ≡ 0x4d ∷ 6 ∷ 0 ∷ bits ∷ rest
  pub some_bits : 1 ≤ bits
  pub few_bits : bits ≤ 31

-- four bytes or more that begin with the mark and have no header of this version
pub record IsOther (bytes : List ℕ) : Type 0 where
  pub long : 4 ≤ length bytes
  pub mark : slice_index bytes 0 ≡ 0x4d
  pub other : (bits : ℕ) (rest : List ℕ) → IsHeader bytes bits rest → ⊥

-- the header: BadHeader where it is shorter or has no mark, Incompatible where it is of another version
abbrev pub header : List ℕ → Field ℕ
header bytes (Ok found) = IsHeader bytes found.0 found.1
header bytes (Err BadHeader) = (length bytes < 4) ⊎ (slice_index bytes 0 ≢ 0x4d)
header bytes (Err Incompatible) = IsOther bytes
header bytes (Err fault) = ⊥

-- the fields of a file, one after another
unfoldable pub parts : List ℕ → Field Module
parts bytes = do
  bits ← header bytes
  qstr_count ← count bits.1
  object_count ← count qstr_count.1
  judge (1 ≤ qstr_count.0) BadQstr
  qstrs ← many qstr_count.0 qstr object_count.1
  objects ← many object_count.0 (object MAX_DEPTH) qstrs.1
  outermost ← code MAX_DEPTH qstr_count.0 objects.1
  pure (record { bits = bits.0; qstrs = qstrs.0; objects = objects.0; code = outermost.0 }, outermost.1)

-- a whole file, which isn't longer than one may be, and has nothing behind its fields
unfoldable pub file : List ℕ → Reading Module
file bytes = do
  judge (length bytes ≤ MAX_FILE_BYTES) TooBig
  whole ← parts bytes
  judge (whole.1 ≡ []) Trailing
  pure whole.0

-- the first fault of bytes that are no file
abbrev pub FirstFault : List ℕ → FileFault → Type 0
FirstFault bytes fault = file bytes (Err fault)
