use Rattle.std.proofs.Common.{◌≡◌, List, Some, map, take, vec_len, ◌∙◌, ap, subst, arith}
use Rattle.std.proofs.lemmas.List.{take_all}
use Rattle.std.proofs.lemmas.List.Elements.{All-get_or}
use Rattle.std.specs.List.{sum_by}
use Rattle.qstr_pool.specs.mpy_base.Weights.{bytes_of, cells_of}
use Rattle.arena_heap.specs.declared.building.Shell.{Shell}
use Rattle.arena_heap.specs.Building.{all_laid, HasRoom, shell_object}
use Rattle.arena_heap.specs.Cells.{Holds}
use Rattle.arena_heap.proofs.Shells.{bytes_more, few_more, fits_more, holds_more, taken_cells}
use Rattle.arena_heap.proofs.building.put_shells.Goals as goal

pub loop-shell-init : goal.loop-shell-init
loop-shell-init c = record {
  holds = c.requires.empty;
  byte_len = c.requires.no_bytes;
  capacity = omega arith;
  byte_capacity = omega arith;
}

pub put_shell-requires-clause-room : goal.put_shell-requires-clause-room
put_shell-requires-clause-room c = All-get_or HasRoom c.args.shells.now c.loop-shell.shell-index _ c.loop-shell-test.true c.requires.rooms

pub put_shell-requires-clause-cells : goal.put_shell-requires-clause-cells
put_shell-requires-clause-cells c =
    let len : vec_len c.loop-shell.cells ≡ sum_by cells_of (map shell_object (take c.loop-shell.shell-index c.args.shells.now)) =
    omega (arith, taken_cells (map shell_object (take c.loop-shell.shell-index c.args.shells.now)) c.loop-shell.invariant.holds) in
    fits_more c.args.shells.now c.loop-shell.shell-index _ c.loop-shell-test.true cells_of _ _ len (omega (arith, c.requires.cells, c.loop-shell.invariant.capacity))

pub put_shell-requires-clause-few_cells : goal.put_shell-requires-clause-few_cells
put_shell-requires-clause-few_cells c =
    let len : vec_len c.loop-shell.cells ≡ sum_by cells_of (map shell_object (take c.loop-shell.shell-index c.args.shells.now)) =
    omega (arith, taken_cells (map shell_object (take c.loop-shell.shell-index c.args.shells.now)) c.loop-shell.invariant.holds) in
    few_more c.args.shells.now c.loop-shell.shell-index _ c.loop-shell-test.true cells_of _ _ len c.requires.few_cells

pub put_shell-requires-clause-bytes : goal.put_shell-requires-clause-bytes
put_shell-requires-clause-bytes c =
    fits_more c.args.shells.now c.loop-shell.shell-index _ c.loop-shell-test.true bytes_of _ _ c.loop-shell.invariant.byte_len (omega (arith, c.requires.bytes, c.loop-shell.invariant.byte_capacity))

pub put_shell-requires-clause-few_bytes : goal.put_shell-requires-clause-few_bytes
put_shell-requires-clause-few_bytes c =
    few_more c.args.shells.now c.loop-shell.shell-index _ c.loop-shell-test.true bytes_of _ _ c.loop-shell.invariant.byte_len c.requires.few_bytes

pub loop-shell-preserved : goal.loop-shell-preserved
loop-shell-preserved c = record {
  holds = holds_more c.args.shells.now c.loop-shell.shell-index _ c.loop-shell-test.true (c.put_shell.ensures.holds _ c.loop-shell.invariant.holds);
  byte_len = bytes_more c.args.shells.now c.loop-shell.shell-index _ c.loop-shell-test.true _ _ c.put_shell.ensures.byte_len c.loop-shell.invariant.byte_len;
  capacity = omega (arith, c.loop-shell.invariant.capacity, c.put_shell.ensures.capacity);
  byte_capacity = omega (arith, c.loop-shell.invariant.byte_capacity, c.put_shell.ensures.byte_capacity);
}

pub returns-clause-holds : goal.returns-clause-holds
returns-clause-holds c =
    subst (λ (ss : List Shell). Holds (Some 0) c.loop-shell.cells.items c.loop-shell.bytes.items (all_laid (map shell_object ss)))
    (take_all c.loop-shell.shell-index c.args.shells.now (omega (arith, c.loop-shell-test.false))) c.loop-shell.invariant.holds

pub returns-clause-len : goal.returns-clause-len
returns-clause-len c = omega (arith, taken_cells (map shell_object c.args.shells.now) (returns-clause-holds c))

pub returns-clause-byte_len : goal.returns-clause-byte_len
returns-clause-byte_len c =
    c.loop-shell.invariant.byte_len
    ∙ ap (λ (ss : List Shell). sum_by bytes_of (map shell_object ss)) (take_all c.loop-shell.shell-index c.args.shells.now (omega (arith, c.loop-shell-test.false)))

pub returns-clause-capacity : goal.returns-clause-capacity
returns-clause-capacity c = c.loop-shell.invariant.capacity

pub returns-clause-byte_capacity : goal.returns-clause-byte_capacity
returns-clause-byte_capacity c = c.loop-shell.invariant.byte_capacity
