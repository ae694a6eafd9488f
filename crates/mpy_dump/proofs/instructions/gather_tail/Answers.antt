use Rattle.std.proofs.Common.{length, sym, ap, ◌∙◌, arith, length-append}
use Rattle.mpy_dump.specs.Instructions.{instr_tail}
use Rattle.mpy_dump.proofs.Pens.{gathers_held, held_all, held_front, cut_back, gathers_all, gathers_stop}
use Rattle.mpy_dump.proofs.Putting.{puts_is}
use Rattle.mpy_dump.proofs.instructions.gather_tail.Goals as goal

pub put_tail-requires : goal.put_tail-requires
put_tail-requires g c = c.requires

pub returns-then-is_ok : goal.returns-then-is_ok
returns-then-is_ok g c =
    gathers_held _ _ _ (held_all c.args.pen.now.text c.put_tail.new.out.text (instr_tail c.args.module.now c.args.end c.args.instr) c.put_tail.result (sym c.is_ok.ensures.value ∙ c.if-is_ok.true) c.put_tail.ensures.ok)

pub cut-requires : goal.cut-requires
cut-requires g c =
    let f = held_front c.args.pen.now.text c.put_tail.new.out.text (instr_tail c.args.module.now c.args.end c.args.instr) c.put_tail.result (sym c.is_ok.ensures.value ∙ c.if-is_ok.false) c.put_tail.ensures.err in
    omega (arith, c.len-mark.ensures.is, ap length f.is, length-append c.args.pen.now.text f.front)

pub returns-in_err-hand_over : goal.returns-in_err-hand_over
returns-in_err-hand_over g c =
    let f = held_front c.args.pen.now.text c.put_tail.new.out.text (instr_tail c.args.module.now c.args.end c.args.instr) c.put_tail.result (sym c.is_ok.ensures.value ∙ c.if-is_ok.false) c.put_tail.ensures.err in
    let back = cut_back c.len-mark.result f c.len-mark.ensures.is c.cut.ensures in
    gathers_stop _ c.from_residual.result c.from_residual.ensures.0 (puts_is back c.in_err-hand_over.ensures.puts)

pub put_tail-requires-2 : goal.put_tail-requires-2
put_tail-requires-2 g c = c.requires

pub returns : goal.returns
returns g c =
    let f = held_front c.args.pen.now.text c.put_tail.new.out.text (instr_tail c.args.module.now c.args.end c.args.instr) c.put_tail.result (sym c.is_ok.ensures.value ∙ c.if-is_ok.false) c.put_tail.ensures.err in
    let back = cut_back c.len-mark.result f c.len-mark.ensures.is c.cut.ensures in
    gathers_all c.put_tail-2.result (puts_is back c.in_ok-hand_over.ensures.puts) c.put_tail-2.ensures c.hand_over.ensures.left
