-- The pieces of strs, and the texts that are made of them.
use Rattle.std.specs.Prelude.{◌≡◌, ℕ, ◌+◌, ◌-◌, ◌<◌, ◌≤◌, ◌^◌, List, [], ◌∷◌, ◌++◌, length, take, drop, fold, Option, nat_le, if◌then◌else◌}
use Rattle.mpy_base.specs.World.{TextObject, Heap}
use Rattle.mpy_base.specs.Weights.{Fits, Refused, with_made}
use Rattle.mpy_base.specs.declared.room.NoRoom.{NoRoom}
use Rattle.prim_builtins.specs.arena_heap.declared.value.Value.{Value}
use Rattle.prim_builtins.specs.arena_heap.declared.value.Value.TheVariants as values
use Rattle.prim_builtins.specs.arena_heap.declared.value.StrNo.{StrNo}
use Rattle.prim_builtins.specs.arena_heap.declared.value.StrNo.TheVariants as strs
use Rattle.prim_builtins.specs.arena_heap.declared.value.ConstNo.{ConstNo}
use Rattle.prim_builtins.specs.arena_objects.Iterables.{spelled}
use Rattle.prim_builtins.specs.py_primitives.Methods.{pieces_between, words_of}
use Rattle.prim_builtins.specs.prim_faults.Faults.{IsKnownStr}
use Rattle.prim_str_methods.specs.declared.pieces.Split.{Split}
use Rattle.prim_str_methods.specs.declared.pieces.Split.TheVariants as splits
use Rattle.prim_str_methods.specs.declared.pieces.Piece.{Piece}
use Rattle.prim_str_methods.specs.declared.pieces.Span.{Span}
use Rattle.prim_str_methods.specs.Parts.{cut_bytes, IsCut}

-- the pieces between separators from a place on: behind the last one there are none
abbrev pub between : List ℕ → List ℕ → ℕ → List (List ℕ)
between separator bytes at = if nat_le at (length bytes) then pieces_between 0 separator (drop at bytes) else []

-- where the first of the pieces from a place on stands
pub record IsSpan (pieces : ℕ → List (List ℕ)) (bytes : List ℕ) (from : ℕ) (span : Span) : Type 0 where
  pub first : pieces from ≡ take (span.end - span.start) (drop span.start bytes) ∷ pieces span.next
  pub start : span.start ≤ span.end
  pub end : span.end ≤ length bytes
  pub further : from < span.next
  pub few : span.next ≤ length bytes + 1

module _ (texts : StrNo → Option (List ℕ)) (heap : Heap Value ℕ) where
  -- the pieces of a str from a place on: behind the last one there are none
  abbrev pub pieces_from : Split → Value → ℕ → List (List ℕ)
  pieces_from splits.Words object at = words_of (drop at (spelled texts heap object))
  pieces_from (splits.By separator) object at = between (spelled texts heap separator) (spelled texts heap object) at

-- the separator of a split is a str with bytes
abbrev pub IsSplit : (StrNo → Option (List ℕ)) → (ConstNo → Option (List Value)) → Heap Value ℕ → Split → Type 0
IsSplit texts tuples heap splits.Words = Unit {0}
IsSplit texts tuples heap (splits.By separator) = IsKnownStr texts tuples heap.objects separator × (0 < length (spelled texts heap separator))

-- the first piece from a place on
pub record IsPiece (texts : StrNo → Option (List ℕ)) (tuples : ConstNo
    → Option (List Value)) (heap : Heap Value ℕ) (split : Split) (object : Value) (at : ℕ) (piece : Piece) : Type 0 where
  pub cut : IsCut texts tuples heap piece.cut
  pub of : piece.cut.of ≡ object
  pub first : pieces_from texts heap split object at ≡ cut_bytes texts heap piece.cut ∷ pieces_from texts heap split object piece.next
  pub further : at < piece.next
  pub few : piece.next ≤ 2 ^ 32

-- a text more for each piece that has bytes
abbrev pub with_piece : Heap Value ℕ → List ℕ → Heap Value ℕ
with_piece heap [] = heap
with_piece heap (byte ∷ bytes) = with_made heap (TextObject (byte ∷ bytes))

-- the heap with a text more for each of the pieces
abbrev pub with_pieces : Heap Value ℕ → List (List ℕ) → Heap Value ℕ
with_pieces heap pieces = fold with_piece heap pieces

-- the number of cells that are used behind a piece
abbrev pub cell_behind : ℕ → List ℕ → ℕ
cell_behind cell [] = cell
cell_behind cell (byte ∷ bytes) = cell + 2

-- the number of cells that are used behind pieces
abbrev pub cells_behind : ℕ → List (List ℕ) → ℕ
cells_behind cell pieces = fold cell_behind cell pieces

-- the str of a piece: the text that has this number, or the empty constant
abbrev pub piece_value : ℕ → List ℕ → Value
piece_value cell [] = values.Str (strs.Pool 1)
piece_value cell (byte ∷ bytes) = values.Text (record { cell = cell })

-- the strs of pieces whose texts lie one behind the other from a cell on
abbrev pub piece_values : ℕ → List (List ℕ) → List Value
piece_values cell [] = []
piece_values cell (piece ∷ pieces) = piece_value cell piece ∷ piece_values (cell_behind cell piece) pieces

-- there is room for the text of a piece
abbrev pub FitsPiece : Heap Value ℕ → List ℕ → Type 0
FitsPiece heap [] = Unit {0}
FitsPiece heap (byte ∷ bytes) = Fits heap 2 (length (byte ∷ bytes))

-- and for those of pieces, one after another
abbrev pub FitPieces : Heap Value ℕ → List (List ℕ) → Type 0
FitPieces heap [] = Unit {0}
FitPieces heap (piece ∷ pieces) = FitsPiece heap piece × FitPieces (with_piece heap piece) pieces

-- there is none for the text of a piece
pub record PieceRefused (old new : Heap Value ℕ) (e : NoRoom) (piece : List ℕ) : Type 0 where
  pub some : 0 < length piece
  pub refused : Refused old new e 2 (length piece)

-- the texts of some first pieces fitted, and that of the next doesn't
pub record PiecesRefused (old new : Heap Value ℕ) (e : NoRoom) (pieces : List (List ℕ)) : Type 0 where
  pub done : List (List ℕ)
  pub piece : List ℕ
  pub rest : List (List ℕ)
  pub are : pieces ≡ done ++ piece ∷ rest
  pub fitted : FitPieces old done
  pub refused : PieceRefused (with_pieces old done) new e piece
