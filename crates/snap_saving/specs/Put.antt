-- The bytes of a snapshot as they are put. What has no spelling, as a number of 2^31 or more, is put as more bytes than a snapshot may
-- have. So all bytes that are put are too many where a part has no spelling, and else they are the spelling.
use Rattle.std.specs.Prelude.{ℕ, ◌+◌, ◌^◌, List, [], ◌∷◌, ◌++◌, length, replicate, Option, Some, None, nat_lt, nat_le, ◌&&◌, if◌then◌else◌, ℤ}
use Rattle.std.specs.List.{flat_map}
use Rattle.std.specs.Int.{w64, to_le_bytes}
use Rattle.mpy_base.specs.Vuint.{vuint}
use Rattle.bc_ops.specs.Signed.{magnitude, signed}
use Rattle.snap_grammar.specs.declared.parts.ValuePart.{ValuePart}
use Rattle.snap_grammar.specs.declared.parts.ValuePart.TheVariants as values
use Rattle.snap_grammar.specs.declared.parts.PairPart.{PairPart}
use Rattle.snap_grammar.specs.declared.parts.ObjectPart.{ObjectPart}
use Rattle.snap_grammar.specs.declared.parts.ObjectPart.TheVariants as objects
use Rattle.snap_grammar.specs.declared.parts.SlotPart.{SlotPart}
use Rattle.snap_grammar.specs.declared.parts.SlotPart.TheVariants as slots
use Rattle.snap_grammar.specs.declared.parts.EntryPart.{EntryPart}
use Rattle.snap_grammar.specs.declared.parts.RolePart.{RolePart}
use Rattle.snap_grammar.specs.declared.parts.RolePart.TheVariants as roles
use Rattle.snap_grammar.specs.declared.parts.FramePart.{FramePart}
use Rattle.snap_grammar.specs.declared.parts.Snapshot.{Snapshot}
use Rattle.snap_grammar.specs.Spelling.{header, mark, most, takes_iterator}

-- so many bytes
unfoldable pub zeros : ℕ → List ℕ
zeros count = replicate count 0

-- what has no spelling: one byte more than a snapshot may have
unfoldable pub overlong : List ℕ
overlong = zeros (most + 1)

-- a number
unfoldable pub number : ℕ → List ℕ
number n = if nat_lt n (2 ^ 31) then vuint n else overlong

-- a signed number
unfoldable pub integer : ℤ → List ℕ
integer z = if nat_lt (magnitude z) (2 ^ 30) then signed z else overlong

-- how many slots of an iterator are left
unfoldable pub left : ℕ → List ℕ
left many = if nat_le 1 many && nat_le many 3 then vuint many else overlong

-- a length, and the bytes
abbrev pub text : List ℕ → List ℕ
text bytes = number (length bytes) ++ bytes

-- how many there are, and these
abbrev pub all_of : {A : Type 0} → (A → List ℕ) → List A → List ℕ
all_of one xs = number (length xs) ++ flat_map one xs

-- an object's number, if there is one
abbrev pub if_kept : Option ℕ → List ℕ
if_kept None = 0 ∷ []
if_kept (Some n) = 1 ∷ number n

-- a value
abbrev pub value : ValuePart → List ℕ
value values.None = 0 ∷ []
value values.False = 1 ∷ []
value values.True = 2 ∷ []
value (values.Int z) = 3 ∷ integer z
value (values.Object n) = 4 ∷ number n
value (values.Str bytes) = 5 ∷ text bytes
value (values.Fixed module_number n) = 6 ∷ (number module_number ++ number n)
value values.Empty = 7 ∷ []
value (values.Named name) = 8 ∷ text name

-- a key and its value
abbrev pub pair : PairPart → List ℕ
pair p = value p.key ++ value p.value

-- an object
abbrev pub object : ObjectPart → List ℕ
object (objects.List room items) = 1 ∷ (number room ++ all_of value items)
object (objects.Dict room pairs) = 2 ∷ (number room ++ all_of pair pairs)
object (objects.Tuple items) = 3 ∷ all_of value items
object (objects.Text bytes) = 4 ∷ text bytes
object (objects.Function module_number code names defaults) = 5 ∷ (number module_number ++ (number code ++ (number names ++ value defaults)))
object (objects.Exception kind args file line name) = 6 ∷ (text kind ++ (value args ++ (text file ++ (number line ++ text name))))
object (objects.Method o method) = 7 ∷ (value o ++ text method)
object (objects.Range start stop step) = 8 ∷ (integer start ++ (integer stop ++ integer step))
object (objects.Module name names) = 9 ∷ (text name ++ number names)

-- a local, or what stands in a slot
abbrev pub slot : SlotPart → List ℕ
slot (slots.Value v) = value v
slot slots.Empty = 9 ∷ []
slot (slots.Iterator over at) = 10 ∷ (value over ++ number at)
slot (slots.Left many over at) = 11 ∷ (left many ++ (value over ++ number at))
slot (slots.Return v) = 13 ∷ value v
slot (slots.Jump target entries iterator) = 14 ∷ (number target ++ (number entries ++ takes_iterator iterator))

-- a handler's entry
abbrev pub entry : EntryPart → List ℕ
entry e = number e.handler ++ (mark e.is_finally ++ (mark e.active ++ (number e.height ++ if_kept e.kept)))

-- what the end of a frame does
abbrev pub role : RolePart → List ℕ
role roles.Main = 0 ∷ []
role roles.Call = 1 ∷ []
role (roles.Import n) = 2 ∷ number n

-- a frame
abbrev pub frame : FramePart → List ℕ
frame f =
    number f.module_number ++ (number f.code ++ (number f.at ++ (number f.names ++ (role f.role
    ++ (all_of slot f.locals ++ (all_of slot f.slots ++ all_of entry f.entries))))))

-- a snapshot
abbrev pub whole : Snapshot → List ℕ
whole s =
    header ++ (number s.cells ++ (number s.bytes ++ (number s.used_cells ++ (number s.used_bytes ++ (to_le_bytes w64 s.paid
    ++ (all_of object s.objects ++ (all_of number s.modules ++ all_of frame s.frames)))))))
