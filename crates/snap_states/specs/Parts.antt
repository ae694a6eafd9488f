-- What the objects of a snapshot are, whatever they hold: their kinds, their cells and their bytes.
use Rattle.std.specs.Prelude.{ℕ, ◌+◌, ◌*◌, List, length, map, sum, take, Option, Some, None}
use Rattle.mpy_base.specs.declared.builtin.Builtin.{Builtin}
use Rattle.mpy_base.specs.declared.builtin.Builtin.TheVariants as builtins
use Rattle.mpy_base.specs.World.{ObjectKind, AList, ATuple, AText, ADict, AFunction, AnException, AMethod, ARange, AModule}
use Rattle.snap_grammar.specs.declared.parts.ObjectPart.{ObjectPart}
use Rattle.snap_grammar.specs.declared.parts.ObjectPart.TheVariants as objects

-- the kind of an object
abbrev pub part_kind : ObjectPart → ObjectKind
part_kind (objects.List room items) = AList
part_kind (objects.Dict room pairs) = ADict
part_kind (objects.Tuple items) = ATuple
part_kind (objects.Text bytes) = AText
part_kind (objects.Function m code names defaults) = AFunction
part_kind (objects.Exception kind args file line name) = AnException
part_kind (objects.Method o method) = AMethod
part_kind (objects.Range start stop step) = ARange
part_kind (objects.Module name names) = AModule

-- its cells behind its first
abbrev pub more_cells : ObjectPart → ℕ
more_cells (objects.List room items) = 2 + room
more_cells (objects.Dict room pairs) = 2 + 3 * room
more_cells (objects.Tuple items) = length items
more_cells (objects.Text bytes) = 1
more_cells (objects.Function m code names defaults) = 3
more_cells (objects.Exception kind args file line name) = 5
more_cells (objects.Method o method) = 2
more_cells (objects.Range start stop step) = 3
more_cells (objects.Module name names) = 3

-- its cells
abbrev pub cells_of_part : ObjectPart → ℕ
cells_of_part o = 1 + more_cells o

-- its bytes
abbrev pub bytes_of_part : ObjectPart → ℕ
bytes_of_part (objects.List room items) = 0
bytes_of_part (objects.Dict room pairs) = 0
bytes_of_part (objects.Tuple items) = 0
bytes_of_part (objects.Text bytes) = length bytes
bytes_of_part (objects.Function m code names defaults) = 0
bytes_of_part (objects.Exception kind args file line name) = 0
bytes_of_part (objects.Method o method) = 0
bytes_of_part (objects.Range start stop step) = 0
bytes_of_part (objects.Module name names) = 0

-- the cells of these objects
abbrev pub cells_of_parts : List ObjectPart → ℕ
cells_of_parts os = sum (map cells_of_part os)

-- the bytes of these objects
abbrev pub bytes_of_parts : List ObjectPart → ℕ
bytes_of_parts os = sum (map bytes_of_part os)

-- the cells of the objects in front of the one at a place
abbrev pub cell_of : List ObjectPart → ℕ → ℕ
cell_of os n = cells_of_parts (take n os)

-- whose method a built-in is, if it is one that only lies in a slot or in a bound method
abbrev pub method_of : Builtin → Option ObjectKind
method_of builtins.ListAppend = Some AList
method_of builtins.ListPop = Some AList
method_of builtins.ListInsert = Some AList
method_of builtins.ListExtend = Some AList
method_of builtins.DictGet = Some ADict
method_of builtins.DictKeys = Some ADict
method_of builtins.DictValues = Some ADict
method_of builtins.DictItems = Some ADict
method_of builtins.DictPop = Some ADict
method_of builtins.StrJoin = Some AText
method_of builtins.StrFind = Some AText
method_of builtins.StrStartsWith = Some AText
method_of builtins.StrSplit = Some AText
method_of _ = None
