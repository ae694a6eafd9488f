-- How the cells and the bytes of an arena are read as objects, and what is kept of them.
use Rattle.std.specs.Prelude.{ℕ, suc, ◌+◌, ◌*◌, ◌^◌, ◌≤◌, ◌<◌, ◌≡◌, List, length, Option, Some, None, slice_index_or, map, take, drop}
use Rattle.std.specs.List.{range_with_len, All}
use Rattle.arena_heap.specs.declared.value.Value.{Value}
use Rattle.arena_heap.specs.declared.value.Value.TheVariants as values
use Rattle.arena_heap.specs.declared.value.StrNo.TheVariants as strs
use Rattle.arena_heap.specs.declared.value.TextNo.{TextNo}
use Rattle.arena_heap.specs.declared.value.ObjectNo.{ObjectNo}
use Rattle.arena_heap.specs.declared.value.ObjectNo.TheVariants as numbers
use Rattle.arena_heap.specs.declared.cells.Cell.{Cell}
use Rattle.arena_heap.specs.declared.cells.Cell.TheVariants as cells
use Rattle.qstr_pool.specs.mpy_base.World.{ListObject, TupleObject, TextObject, DictObject, FunctionObject, ExceptionObject}
use Rattle.qstr_pool.specs.mpy_base.World.{MethodObject, RangeObject, ModuleObject, Heap, ObjectKind, AList, ATuple, AText, ADict}
use Rattle.qstr_pool.specs.mpy_base.World.{AFunction, AnException, AMethod, ARange, AModule}
use Rattle.qstr_pool.specs.mpy_base.Weights.{IsRoom}
use Rattle.arena_heap.specs.declared.cells.Region.{Region}
use Rattle.arena_heap.specs.Values.{ArenaObject, Sound}
use Rattle.arena_heap.specs.Links.{bucket_of, AreChained}

-- the cell that holds None, as each one does that is taken
abbrev pub blank : Cell
blank = cells.None

-- the cell that holds a value
abbrev pub cell_of : Value → Cell
cell_of values.None = cells.None
cell_of (values.Bool b) = cells.Bool b
cell_of (values.Int z) = cells.Int z
cell_of (values.Str (strs.Pool n)) = cells.Pool n
cell_of (values.Str (strs.Object c)) = cells.Object c
cell_of (values.Fixed c) = cells.Fixed c
cell_of values.Empty = cells.Empty
cell_of (values.List l) = cells.List l
cell_of (values.Dict d) = cells.Dict d
cell_of (values.Tuple t) = cells.Tuple t
cell_of (values.Text t) = cells.Text t
cell_of (values.Fun f) = cells.Fun f
cell_of (values.Exc e) = cells.Exc e
cell_of (values.Method m) = cells.Method m
cell_of (values.Range r) = cells.Range r
cell_of (values.Module m) = cells.Module m
cell_of (values.Built b) = cells.Built b

-- the value in a cell, and None where it holds none
abbrev pub value_of : Cell → Value
value_of (cells.Bool b) = values.Bool b
value_of (cells.Int z) = values.Int z
value_of (cells.Pool n) = values.Str (strs.Pool n)
value_of (cells.Object c) = values.Str (strs.Object c)
value_of (cells.Fixed c) = values.Fixed c
value_of cells.Empty = values.Empty
value_of (cells.List l) = values.List l
value_of (cells.Dict d) = values.Dict d
value_of (cells.Tuple t) = values.Tuple t
value_of (cells.Text t) = values.Text t
value_of (cells.Fun f) = values.Fun f
value_of (cells.Exc e) = values.Exc e
value_of (cells.Method m) = values.Method m
value_of (cells.Range r) = values.Range r
value_of (cells.Module m) = values.Module m
value_of (cells.Built b) = values.Built b
value_of _ = values.None

-- the kind of object that the cell is the first of
abbrev pub kind_at : Cell → Option ObjectKind
kind_at (cells.ListHead r) = Some AList
kind_at (cells.DictHead r) = Some ADict
kind_at (cells.TupleHead k) = Some ATuple
kind_at (cells.TextHead t) = Some AText
kind_at (cells.FunHead name module_no code) = Some AFunction
kind_at (cells.ExcHead kind) = Some AnException
kind_at (cells.MethodHead method) = Some AMethod
kind_at (cells.RangeHead start stop step) = Some ARange
kind_at (cells.ModuleHead name) = Some AModule
kind_at _ = None

-- the number of the object that the cell at this place is the first of
abbrev pub object_in : Cell → ℕ → Option ObjectNo
object_in (cells.ListHead r) n = Some (numbers.List (record { cell = n }))
object_in (cells.DictHead r) n = Some (numbers.Dict (record { cell = n }))
object_in (cells.TupleHead k) n = Some (numbers.Tuple (record { cell = n }))
object_in (cells.TextHead t) n = Some (numbers.Text (record { cell = n }))
object_in (cells.FunHead name module_no code) n = Some (numbers.Fun (record { cell = n }))
object_in (cells.ExcHead kind) n = Some (numbers.Exc (record { cell = n }))
object_in (cells.MethodHead method) n = Some (numbers.Method (record { cell = n }))
object_in (cells.RangeHead start stop step) n = Some (numbers.Range (record { cell = n }))
object_in (cells.ModuleHead name) n = Some (numbers.Module (record { cell = n }))
object_in _ n = None

-- the cell, where it is a head
abbrev pub head_of : Cell → Cell
head_of (cells.ListHead r) = cells.ListHead r
head_of (cells.DictHead r) = cells.DictHead r
head_of (cells.TupleHead k) = cells.TupleHead k
head_of (cells.TextHead t) = cells.TextHead t
head_of (cells.FunHead name module_no code) = cells.FunHead name module_no code
head_of (cells.ExcHead kind) = cells.ExcHead kind
head_of (cells.MethodHead method) = cells.MethodHead method
head_of (cells.RangeHead start stop step) = cells.RangeHead start stop step
head_of (cells.ModuleHead name) = cells.ModuleHead name
head_of _ = blank

-- the heads of objects, by their places
abbrev pub heads : List Cell → ℕ → Cell
heads cells n = head_of (slice_index_or cells n blank)

-- the region of cells that the object with this head at n has now
abbrev pub first : ℕ → Cell → ℕ
first n (cells.ListHead r) = r.start
first n (cells.DictHead r) = r.start
first n (cells.TupleHead k) = suc n
first n (cells.FunHead name module_no code) = suc n
first n (cells.ExcHead kind) = suc n
first n (cells.MethodHead method) = suc n
first n (cells.ModuleHead name) = suc n
first n _ = 0

-- how many cells that region has
abbrev pub size : Cell → ℕ
size (cells.ListHead r) = r.room
size (cells.DictHead r) = 3 * r.room
size (cells.TupleHead k) = k
size (cells.FunHead name module_no code) = 2
size (cells.ExcHead kind) = 2
size (cells.MethodHead method) = 1
size (cells.ModuleHead name) = 1
size _ = 0

-- the region of bytes that it has now
abbrev pub byte_first : ℕ → Cell → ℕ
byte_first n (cells.TextHead t) = t.start
byte_first n _ = 0

-- how many bytes that region has
abbrev pub byte_size : Cell → ℕ
byte_size (cells.TextHead t) = t.len
byte_size _ = 0

-- a list or dict has a room, and no more than it holds
abbrev pub Full : Cell → Type 0
Full (cells.ListHead r) = (r.len ≤ r.room) × IsRoom r.room
Full (cells.DictHead r) = (r.len ≤ r.room) × IsRoom r.room
Full _ = Unit {0}

-- the `size` items from the place `from` on
abbrev pub part : {X : Type 0} → List X → ℕ → ℕ → List X
part xs from size = take size (drop from xs)

-- three cells for each place of a dict: the key and the value of its pair, and two links
abbrev pub pair_in : List Cell → ℕ → Value × Value
pair_in ps i = (value_of (slice_index_or ps (3 * i) blank), value_of (slice_index_or ps (3 * i + 1) blank))

-- the first `n` pairs of a dict's cells
abbrev pub pairs_in : List Cell → ℕ → List (Value × Value)
pairs_in ps n = map (pair_in ps) (range_with_len 0 n)

-- the two links in a cell: 0, or one more than the place of a pair
abbrev pub first_link : Cell → ℕ
first_link (cells.Links first next) = first
first_link _ = 0

-- the second link of a cell
abbrev pub next_link : Cell → ℕ
next_link (cells.Links first next) = next
next_link _ = 0

-- the bucket of the pair at the place `at`
abbrev pub bucket_in : (ℕ → List ℕ) → List Cell → ℕ → ℕ → ℕ
bucket_in texts ps room at = bucket_of texts room (value_of (slice_index_or ps (3 * at) blank))

-- the link to the last pair of a bucket
abbrev pub first_in : List Cell → ℕ → ℕ
first_in ps bucket = first_link (slice_index_or ps (3 * bucket + 2) blank)

-- the link from a pair to the one in front of it in its bucket
abbrev pub next_in : List Cell → ℕ → ℕ
next_in ps at = next_link (slice_index_or ps (3 * at + 2) blank)

-- the links of a dict's cells lead through its pairs, where texts that were made have these bytes
abbrev pub AreLinked : (ℕ → List ℕ) → List Cell → ℕ → ℕ → Type 0
AreLinked texts ps room len = AreChained (bucket_in texts ps room) (first_in ps) (next_in ps) room len

-- the key, where it is a text that was made, lies below a cell
abbrev pub IsBelow : ℕ → Value × Value → Type 0
IsBelow below pair = (t : TextNo) → pair.0 ≡ values.Text t → t.cell < below

-- where the head is that of a dict, its links lead through its pairs
abbrev pub Links : (ℕ → List ℕ) → ℕ → Cell → List Cell → Type 0
Links texts below head whole =
    (r : Region) → head ≡ cells.DictHead r
    → AreLinked texts (part whole r.start (3 * r.room)) r.room r.len × All (IsBelow below) (pairs_in (part whole r.start (3 * r.room)) r.len)

-- the bytes of the texts that were made, by their numbers
abbrev pub texts_in : List Cell → List ℕ → ℕ → List ℕ
texts_in cells bytes n = let head = heads cells n in part bytes (byte_first n head) (byte_size head)

-- the texts' bytes lie among these
abbrev pub HaveBytes : List Cell → List ℕ → Type 0
HaveBytes cells bytes = (n : ℕ) → byte_first n (heads cells n) + byte_size (heads cells n) ≤ length bytes

-- all dicts are linked, and the texts among their keys lie below a cell
pub record Linked (below : ℕ) (cells : List Cell) (bytes : List ℕ) : Type 0 where
  pub few : below ≤ length cells
  pub each : (n : ℕ) → Links (texts_in cells bytes) below (heads cells n) cells

-- all dicts are linked; nothing is said of them once a text that is a key was written later (None)
abbrev pub AreAllLinked : Option ℕ → List Cell → List ℕ → Type 0
AreAllLinked None cells bytes = Unit {0}
AreAllLinked (Some below) cells bytes = Linked below cells bytes

-- the dict that a cell leads to, if it does
abbrev pub dict_in : Cell → Option ℕ
dict_in (cells.Dict d) = Some d.cell
dict_in _ = None

-- the number of the dict that a cell leads to, and 0 where it leads to none
abbrev pub dict_number : Cell → ℕ
dict_number (cells.Dict d) = d.cell
dict_number _ = 0

-- the place of an exception: one that wasn't raised yet has the empty file, line 0 and the empty name
pub record Raised : Type 0 where
  pub file : ℕ
  pub line : ℕ
  pub name : ℕ

-- the place that a cell holds
abbrev pub place_in : Cell → Raised
place_in (cells.Place file line name) = record { file = file; line = line; name = name }
place_in _ = record { file = 1; line = 0; name = 1 }

-- an object from its head, the cells of its region, and its bytes
abbrev pub decode : Cell → List Cell → List ℕ → Option ArenaObject
decode (cells.ListHead r) ps bs = Some (ListObject (map value_of (take r.len ps)) r.room)
decode (cells.DictHead r) ps bs = Some (DictObject (pairs_in ps r.len) r.room)
decode (cells.TupleHead k) ps bs = Some (TupleObject (map value_of ps))
decode (cells.TextHead t) ps bs = Some (TextObject bs)
decode (cells.FunHead name module_no code) ps bs =
    Some (FunctionObject name module_no code (dict_number (slice_index_or ps 0 blank)) (value_of (slice_index_or ps 1 blank)))
decode (cells.ExcHead kind) ps bs =
    let place = place_in (slice_index_or ps 1 blank) in
    Some (ExceptionObject kind (value_of (slice_index_or ps 0 blank)) place.file place.line place.name)
decode (cells.MethodHead method) ps bs = Some (MethodObject (value_of (slice_index_or ps 0 blank)) method)
decode (cells.RangeHead start stop step) ps bs = Some (RangeObject start stop step)
decode (cells.ModuleHead name) ps bs = Some (ModuleObject name (dict_in (slice_index_or ps 0 blank)))
decode _ ps bs = None

-- an object from its head, and from the cells and the bytes of the whole arena
abbrev pub read : ℕ → Cell → List Cell → List ℕ → Option ArenaObject
read n h cells bytes = decode h (part cells (first n h) (size h)) (part bytes (byte_first n h) (byte_size h))

-- the object whose head is the cell of this number, if that is a head
abbrev pub object_at : List Cell → List ℕ → ℕ → Option ArenaObject
object_at cells bytes n = read n (heads cells n) cells bytes

-- the objects of an arena, one for each cell: none where the cell is no head
abbrev pub objects_of : List Cell → List ℕ → List (Option ArenaObject)
objects_of cells bytes = map (object_at cells bytes) (range_with_len 0 (length cells))

-- `c` is one of the `size` numbers from `from` on
pub record In (from size c : ℕ) : Type 0 where
  pub low : from ≤ c
  pub high : c < from + size

-- regions by the number of their object, all below the limit, no two with a place in common
pub record Apart (from size : ℕ → ℕ) (limit : ℕ) : Type 0 where
  pub inside : (n : ℕ) → from n + size n ≤ limit
  pub apart : (n m c : ℕ) → In (from n) (size n) c → In (from m) (size m) c → n ≡ m

-- what is kept of the heads `h` of an arena that uses `cells` cells and `bytes` bytes
pub record Kept (h : ℕ → Cell) (cells bytes : ℕ) : Type 0 where
  pub cells_apart : Apart (λ n. first n (h n)) (λ n. size (h n)) cells
  pub bytes_apart : Apart (λ n. byte_first n (h n)) (λ n. byte_size (h n)) bytes
  -- no head lies in a region
  pub plain : (n c : ℕ) → In (first n (h n)) (size (h n)) c → h c ≡ blank
  pub full : (n : ℕ) → Full (h n)

-- the heap that contracts see
abbrev pub heap_of : List Cell → List ℕ → ℕ → ℕ → Heap Value ℕ
heap_of cells bytes cell_size byte_size =
    record { objects = objects_of cells bytes; bytes = length bytes; cell_size = cell_size; byte_size = byte_size }

-- what is kept of an arena of these sizes, whose vectors have this capacity, and whose keys that are texts lie below a cell
pub record IsArena (keys : Option ℕ) (cells : List Cell) (bytes : List ℕ) (cell_size byte_size cell_capacity byte_capacity : ℕ) : Type 0 where
  pub kept : Kept (heads cells) (length cells) (length bytes)
  pub linked : AreAllLinked keys cells bytes
  pub sound : Sound (objects_of cells bytes)
  pub cells_fit : length cells ≤ cell_size
  pub bytes_fit : length bytes ≤ byte_size
  pub cells_few : cell_size < 2 ^ 32
  pub bytes_few : byte_size < 2 ^ 32
  pub cells_taken : cell_size ≤ cell_capacity
  pub bytes_taken : byte_size ≤ byte_capacity

-- the cells and bytes are kept, dicts are linked, and these objects are held
pub record Holds (keys : Option ℕ) (cells : List Cell) (bytes : List ℕ) (obs : List (Option ArenaObject)) : Type 0 where
  pub kept : Kept (heads cells) (length cells) (length bytes)
  pub linked : AreAllLinked keys cells bytes
  pub objects : objects_of cells bytes ≡ obs

-- a dict's cells were written at its links alone
pub record Relinked (start room : ℕ) (old new : List Cell) : Type 0 where
  pub same_length : length new ≡ length old
  pub same_heads : (c : ℕ) → heads new c ≡ heads old c
  pub outside : (c : ℕ) (d : Cell) → (In start (3 * room) c → ⊥) → slice_index_or new c d ≡ slice_index_or old c d
  pub pairs : (at : ℕ) → at < room → pair_in (part new start (3 * room)) at ≡ pair_in (part old start (3 * room)) at
