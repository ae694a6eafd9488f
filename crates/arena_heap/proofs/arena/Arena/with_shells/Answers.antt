use Rattle.std.proofs.Common.{◌≡◌, ◌≤◌, length, map, arith}
use Rattle.arena_heap.specs.Building.{shell_object}
use Rattle.arena_heap.proofs.Shells.{built_arena, built_seen}
use Rattle.arena_heap.proofs.arena.Arena.with_shells.Goals as goal

pub returns : goal.returns
returns c =
    let le : c.len.result ≤ c.args.used.cells = omega (arith, c.put_shells.ensures.len, c.requires.cells) in
    let is : c.len.result ≡ length c.put_shells.new.cells.items = omega arith in
    let byte_le : c.len-2.result ≤ c.args.used.bytes = omega (arith, c.put_shells.ensures.byte_len, c.requires.bytes) in
    let byte_is : c.len-2.result ≡ length c.put_shells.new.bytes.items = omega arith in
    built_seen (map shell_object c.args.shells.now) c.args.used c.args.room _ _ c.put_shells.ensures.holds c.take_blanks.ensures.items c.take_bytes.ensures.items (omega (arith, le, is)) (omega (arith, byte_le, byte_is))

pub invariant_of-result : goal.invariant_of-result
invariant_of-result c =
    let le : c.len.result ≤ c.args.used.cells = omega (arith, c.put_shells.ensures.len, c.requires.cells) in
    let is : c.len.result ≡ length c.put_shells.new.cells.items = omega arith in
    let byte_le : c.len-2.result ≤ c.args.used.bytes = omega (arith, c.put_shells.ensures.byte_len, c.requires.bytes) in
    let byte_is : c.len-2.result ≡ length c.put_shells.new.bytes.items = omega arith in
    built_arena (map shell_object c.args.shells.now) c.args.used c.args.room _ _ c.put_shells.ensures.holds c.take_blanks.ensures.items c.take_bytes.ensures.items (omega (arith, le, is)) (omega (arith, byte_le, byte_is))
    c.requires.sound c.requires.cells_fit c.requires.bytes_fit _ _ (omega arith) (omega arith)
    (omega (arith, c.in_ok-cells.ensures.capacity, c.put_shells.ensures.capacity, c.take_blanks.ensures.capacity))
    (omega (arith, c.in_ok-bytes.ensures.capacity, c.put_shells.ensures.byte_capacity, c.take_bytes.ensures.capacity))
