-- How long the line table of a row is.
use Rattle.std.proofs.Common.{ℕ, ◌≤◌, length, ap, arith}
use Rattle.frame_moves.specs.mpy_base.declared.limits.TheConstants.{MAX_CODE_BYTES}
use Rattle.bc_prelude.proofs.Pieces.{parts_short}
use Rattle.bc_rows.specs.mpy_tree.declared.raw.RawCode.{out-RawCode}
use Rattle.bc_rows.proofs.bc_verify_lemmas.Trees as trees
use Rattle.bc_rows.specs.bc_library.Shelf.{Shelf}
use Rattle.bc_rows.specs.declared.row.Row.{Row}
use Rattle.vm_fetching.specs.Fetches.{IsVerifiedRow}
use Rattle.vm_fetching.proofs.Kept.{row_path}

pub table_short : (shelf : Shelf) (i : ℕ) (row : Row) → IsVerifiedRow shelf i row → length row.line_table.now ≤ MAX_CODE_BYTES
table_short shelf i row v =
    let p = row_path shelf i row v in
    let short : length (out-RawCode p.code).bytes ≤ MAX_CODE_BYTES = trees.short_codes v.m v.is_row.code.path p.code v.is_module p.there in
    let parts = parts_short _ _ v.is_row.is_row.begins in
    omega (arith, short, parts, ap length p.bytes, ap length v.is_row.is_row.line_table)
