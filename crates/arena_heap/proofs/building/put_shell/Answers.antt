use Rattle.std.proofs.Common.{ℕ, ◌+◌, ◌≡◌, List, ◌++◌, length, Some, sym, ◌∙◌, ap, subst₂, arith, length-append}
use Rattle.arena_heap.specs.declared.cells.Cell.{Cell}
use Rattle.arena_heap.specs.Building.{laid, shell_object, shell_text}
use Rattle.arena_heap.specs.Cells.{Holds}
use Rattle.arena_heap.proofs.Shells.{byte_counted, put_cells, shell_cells, shell_made}
use Rattle.arena_heap.proofs.building.put_shell.Goals as goal

pub returns-clause-holds : goal.returns-clause-holds
returns-clause-holds c objects h =
    let s = c.args.shell in
    let cs = c.args.cells.now.items in
    let bs = c.args.bytes.now.items in
    let cell : c.len.result ≡ length cs = omega arith in
    let byte : c.len-2.result ≡ length bs = omega arith in
    let ec : c.take_cells.new.cells.items ≡ cs ++ shell_cells (length cs) (length bs) s =
    c.take_cells.ensures.items ∙ ap (λ (x : List Cell). cs ++ x) (put_cells s c.head-head.ensures c.parts-parts.ensures c.part_count-count.ensures.count c.blank_count.ensures cell byte) in
    let eb : c.put_bytes.new.bytes.items ≡ bs ++ shell_text s = c.put_bytes.ensures.items ∙ ap (λ (x : List ℕ). bs ++ x) c.text.ensures in
    subst₂ (λ (x : List Cell) (y : List ℕ). Holds (Some 0) x y (objects ++ laid (shell_object s))) (sym ec) (sym eb) (shell_made h s c.requires.room)

pub returns-clause-byte_len : goal.returns-clause-byte_len
returns-clause-byte_len c =
    let bs = c.args.bytes.now.items in
    let l : length c.put_bytes.new.bytes.items ≡ length bs + length (shell_text c.args.shell) =
    ap length c.put_bytes.ensures.items ∙ (length-append bs c.text.result.now ∙ ap (λ (x : List ℕ). length bs + length x) c.text.ensures) in
    omega (arith, l, byte_counted c.args.shell)
