use Rattle.std.proofs.Common.{false, true, length, pos, sym, ap, ◌∙◌, arith}
use Rattle.std.specs.List.{flat_map}
use Rattle.std.proofs.lemmas.List.{length-append}
use Rattle.bc_labels.specs.Choice.{instr_of}
use Rattle.mpy_tree.specs.bc_ops.Code.{spelling}
use Rattle.mpy_writer.specs.File.{item_of}
use Rattle.mpy_writer.proofs.Judged.{jump_grown}
use Rattle.mpy_writer.proofs.Positions.{placed_item, few_bytes, length-instr}
use Rattle.mpy_writer.proofs.wide.wide_size.Goals as goal
use Rattle.mpy_writer.proofs.wide.wide_size.Goals.{then-is_jump, else-is_jump}

pub returns-clause-few : goal.returns-clause-few
returns-clause-few c =
    let tables = c.args.tables.now in
    let item = c.args.item.now in
    let bytes = flat_map spelling (instr_of (item_of tables item) (pos 0) false) in
    let none = ap length c.clear.ensures.items in
    let added = ap length c.in_ok-write_draft.ensures in
    let joined = length-append c.clear.new.self.items bytes in
    let size = length-instr (item_of tables item) (pos 0) false in
    let len = c.len.ensures in
    let kept = c.write_draft.new.out.ok.0 in
    let placed = placed_item tables c.requires.fit c.args.count item c.requires.sound in
    elim c.if-is_jump.branch [
      | then-is_jump w ↦
          let growth = w.growth-is in
          let grown = jump_grown tables item (sym c.is_jump.ensures ∙ w.if-is_jump.true) in
          let most = few_bytes c.args.count (item_of tables item) true placed in
          omega (arith, none, added, joined, size, len, kept, growth, grown, most)
      | else-is_jump w ↦
          let growth = w.growth-is in
          let most = few_bytes c.args.count (item_of tables item) false placed in
          omega (arith, none, added, joined, size, len, kept, growth, most)
    ]
