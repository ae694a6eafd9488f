-- Texts in pieces.
use Rattle.std.specs.Prelude.{◌≡◌, ℕ, ◌+◌, ◌≤◌, List, length, Option}
use Rattle.std.specs.Fmt.{decimal}
use Rattle.std.specs.List.{flat_map}
use Rattle.prim_walks.specs.mpy_base.World.{Heap}
use Rattle.prim_walks.specs.arena_heap.declared.value.Value.{Value}
use Rattle.prim_walks.specs.arena_heap.declared.value.StrNo.{StrNo}
use Rattle.prim_walks.specs.arena_heap.declared.value.ConstNo.{ConstNo}
use Rattle.prim_walks.specs.py_primitives.Faults.{fault_text}
use Rattle.prim_faults.specs.declared.fault.Fault.{Fault}
use Rattle.prim_faults.specs.Faults.{plain_fault, name_in}
use Rattle.prim_faults.specs.declared.piece.Piece.{Piece}
use Rattle.prim_faults.specs.declared.piece.Piece.TheVariants.{Text, Number, Name}

-- the bytes of a piece, where a name has these
abbrev pub piece_text : List ℕ → Piece → List ℕ
piece_text name (Text text) = text.now
piece_text name (Number n) = decimal n
piece_text name Name = name

-- the text of pieces, one behind another
abbrev pub wording_text : List ℕ → List Piece → List ℕ
wording_text name pieces = flat_map (piece_text name) pieces

-- the text is the name with a few bytes more at most
abbrev pub AreFew : List Piece → Type 0
AreFew pieces = (name : List ℕ) → length (wording_text name pieces) ≤ 512 + length name

-- the pieces of a fault's text, whatever its name is
abbrev pub IsWordingOf : Fault → List Piece → Type 0
IsWordingOf fault pieces =
    (texts : StrNo → Option (List ℕ)) (tuples : ConstNo → Option (List Value)) (heap : Heap Value ℕ)
    → wording_text (name_in texts tuples heap fault) pieces ≡ fault_text (plain_fault texts tuples heap fault)
