use Rattle.std.proofs.Common.{length, refl, ap, arith, length-append}
use Rattle.std.proofs.lemmas.List.{length-drop}
use Rattle.mpy_dump.proofs.Pens.{on_ok}
use Rattle.mpy_dump.proofs.Pieces.{stands_within}
use Rattle.mpy_dump.proofs.instructions.gather_read.Goals as goal

pub decode_at-requires : goal.decode_at-requires
decode_at-requires g c = omega (arith, stands_within c.args.code.now c.args.at.now c.requires.decodes)

pub unreachable-requires : goal.unreachable-requires
unreachable-requires g c =
    let s = c.requires.decodes in
    c.in_default.not-Ok _ (c.decode_at.ensures.only s.piece.text s.behind s.piece.instr s.spelled s.is)

pub gather_instr-requires-clause-room : goal.gather_instr-requires-clause-room
gather_instr-requires-clause-room g c = c.requires.room

pub gather_instr-requires-clause-short : goal.gather_instr-requires-clause-short
gather_instr-requires-clause-short g c =
    let f = c.in-Ok.ensures.found in
    let within = stands_within c.args.code.now c.args.at.now c.requires.decodes in
    omega (arith, f.4, length-drop c.args.at.now c.args.code.now, ap length f.3, length-append f.0 f.1, within, c.requires.short)

pub returns : goal.returns
returns g c =
    let f = c.in-Ok.ensures.found in (
      c.in-Ok.end,
      c.in-Ok.instr,
      record { text = f.0; behind = f.1; spells = f.2; is = f.3; ends = f.4 },
      on_ok c.gather_instr.result refl,
      c.gather_instr.ensures,
    )
