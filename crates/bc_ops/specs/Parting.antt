-- Instructions as a loop reads them, each jump with the offset that it goes to, and then with a position in its place.
use Rattle.std.specs.Prelude.{◌≡◌, ℕ, List, [], All}
use Rattle.bc_ops.specs.declared.listing.Target.TheVariants.{Offset}
use Rattle.bc_ops.specs.declared.listing.Item.{Item}
use Rattle.bc_ops.specs.declared.listing.Item.TheVariants.{Jump, Unwind}
use Rattle.bc_ops.specs.Listing.{Piece, IsPiece, joined, starts, target, items_at}

-- the bytes are these instructions, which start at these offsets
pub record IsParted (bytes : List ℕ) (offsets : List ℕ) (items : List Item) : Type 0 where
  pub pieces : List Piece
  pub spelled : All IsPiece pieces
  pub bytes_are : bytes ≡ joined pieces
  pub offsets_are : offsets ≡ starts 0 pieces
  pub items_are : items ≡ items_at [] 0 pieces

-- an item in a code whose instructions start at `starts`, where a jump to an offset goes to a position if it can
abbrev pub placed : List ℕ → Item → Item
placed starts (Jump op (Offset offset)) = Jump op (target starts 0 offset)
placed starts (Unwind (Offset offset) byte) = Unwind (target starts 0 offset) byte
placed starts item = item
