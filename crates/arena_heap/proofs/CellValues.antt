-- What a cell holds: a value is read back from the cell that holds it.
use Rattle.std.proofs.Common.{◌≡◌, refl}
use Rattle.arena_heap.specs.declared.value.Value.{Value}
use Rattle.arena_heap.specs.declared.value.Value.TheVariants as values
use Rattle.arena_heap.specs.declared.value.StrNo.TheVariants as strs
use Rattle.arena_heap.specs.Cells.{blank, cell_of, value_of, head_of}

pub head_of-cell_of : (v : Value) → head_of (cell_of v) ≡ blank
head_of-cell_of values.None = refl
head_of-cell_of (values.Bool b) = refl
head_of-cell_of (values.Int z) = refl
head_of-cell_of (values.Str (strs.Pool n)) = refl
head_of-cell_of (values.Str (strs.Object c)) = refl
head_of-cell_of (values.Fixed c) = refl
head_of-cell_of values.Empty = refl
head_of-cell_of (values.List l) = refl
head_of-cell_of (values.Dict d) = refl
head_of-cell_of (values.Tuple t) = refl
head_of-cell_of (values.Text t) = refl
head_of-cell_of (values.Fun f) = refl
head_of-cell_of (values.Exc e) = refl
head_of-cell_of (values.Method m) = refl
head_of-cell_of (values.Range r) = refl
head_of-cell_of (values.Module m) = refl
head_of-cell_of (values.Built b) = refl

pub value_of-cell_of : (v : Value) → value_of (cell_of v) ≡ v
value_of-cell_of values.None = refl
value_of-cell_of (values.Bool b) = refl
value_of-cell_of (values.Int z) = refl
value_of-cell_of (values.Str (strs.Pool n)) = refl
value_of-cell_of (values.Str (strs.Object c)) = refl
value_of-cell_of (values.Fixed c) = refl
value_of-cell_of values.Empty = refl
value_of-cell_of (values.List l) = refl
value_of-cell_of (values.Dict d) = refl
value_of-cell_of (values.Tuple t) = refl
value_of-cell_of (values.Text t) = refl
value_of-cell_of (values.Fun f) = refl
value_of-cell_of (values.Exc e) = refl
value_of-cell_of (values.Method m) = refl
value_of-cell_of (values.Range r) = refl
value_of-cell_of (values.Module m) = refl
value_of-cell_of (values.Built b) = refl
