use Rattle.std.proofs.Common.{◌≡◌, ℕ, List, length, replicate, map, ap, ◌∙◌, arith}
use Rattle.mpy_writer.specs.mpy_tree.declared.module.Item.{Item}
use Rattle.mpy_writer.specs.mpy_tree.declared.module.Code.{Code, Code-F, roll-Code}
use Rattle.mpy_merge.proofs.Once.{same_fields}
use Rattle.mpy_merge.proofs.Outermost.{fields, ones}
use Rattle.mpy_merge.proofs.outer.outer_code.Goals as goal

pub returns : goal.returns
returns c =
    let made : Code-F Code = record {
      name = c.in_ok-new.field-0;
      args = c.new-2.result;
      defaults = 0;
      n_state = 1;
      n_exc = 0;
      instrs = c.from_vec.result;
      lines = c.from_vec-2.result;
      children = c.new-3.result;
    } in
    let len = c.len.ensures in
    let size = c.in_ok-items.items.ok.0 in
    let count : c.len.result ≡ length c.in_ok-items.items.items = omega (arith, len, size) in
    let lines = c.from_vec-2.ensures ∙ (c.in_ok-lines.ensures.items_if_clones_equal (λ y same. same) ∙ (ap (λ (n : ℕ). replicate {A = ℕ} n 1) count ∙ (ones c.in_ok-items.items.items ∙ ap (λ (xs : List Item). map (λ _. 1) xs) c.in_ok-items.ensures))) in
    let none : 0 ≡ 0 = omega arith in
    let one : 1 ≡ 1 = omega arith in
    ap roll-Code (same_fields made (fields c.args.modules) c.in_ok-new.ensures c.new-2.ensures none one none (c.from_vec.ensures ∙ c.in_ok-items.ensures) lines c.new-3.ensures)
