use Rattle.std.proofs.Common.{◌+◌, ◌++◌, length, ap, ◌∙◌, arith, length-append}
use Rattle.std.proofs.lemmas.List.{length-take, length-set}
use Rattle.mpy_dump.specs.Instructions.{instr_tail}
use Rattle.mpy_dump.specs.Short.{short_text, begins}
use Rattle.mpy_dump.proofs.Heads.{last_inside}
use Rattle.mpy_dump.proofs.Pens.{gathers_more, gathers_then, gathers_stopped, gathers_is, on_err}
use Rattle.mpy_dump.proofs.Pieces.{read_there, line_is}
use Rattle.mpy_dump.proofs.instructions.gather_line.Goals as goal

pub returns-in_err-make_room : goal.returns-in_err-make_room
returns-in_err-make_room g c =
    let s = c.requires.decodes in (
      c.args.at.now + length s.piece.text,
      s.piece.instr,
      read_there c.args.code.now c.args.at.now s,
      on_err _ c.from_residual.result c.from_residual.ensures.0,
      gathers_stopped _ c.from_residual.result c.from_residual.ensures.0 c.in_err-make_room.ensures.gathers,
    )

pub add_head-requires-clause-room : goal.add_head-requires-clause-room
add_head-requires-clause-room g c = omega (arith, c.in_ok-make_room.ensures.room)

pub add_head-requires-clause-last : goal.add_head-requires-clause-last
add_head-requires-clause-last g c = last_inside c.args.at.now c.args.head.now c.requires.head

pub gather_end-requires-clause-tails : goal.gather_end-requires-clause-tails
gather_end-requires-clause-tails g c = c.requires.tails

pub gather_end-requires-clause-decodes : goal.gather_end-requires-clause-decodes
gather_end-requires-clause-decodes g c = c.requires.decodes

pub gather_end-requires-clause-room : goal.gather_end-requires-clause-room
gather_end-requires-clause-room g c =
    let head = c.args.head.now.text in
    omega (arith, c.in_ok-make_room.ensures.room, ap length c.add_head.ensures, length-append c.make_room.new.pen.text (begins c.args.head.now), length-set (short_text head) c.args.head.now.last c.args.head.now.digit, length-take head.len head.bytes, head.within)

pub gather_end-requires-clause-short : goal.gather_end-requires-clause-short
gather_end-requires-clause-short g c = c.requires.short

pub returns : goal.returns
returns g c =
    let m = c.args.module.now in
    let start = c.args.at.now in
    let head = c.args.head.now in
    let e = c.gather_end.ensures in
    let line = ap (λ z. z ++ instr_tail m e.0 e.1) c.requires.head.text ∙ line_is m start head.line e.0 e.1 in (
      e.0,
      e.1,
      e.2,
      e.3,
      gathers_is line (gathers_then c.gather_end.result (gathers_more (begins head) c.in_ok-make_room.ensures.gathers c.add_head.ensures) e.4),
    )
