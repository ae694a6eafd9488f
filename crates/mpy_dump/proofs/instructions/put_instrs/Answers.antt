use Rattle.std.proofs.Common.{◌≡◌, ℕ, ◌+◌, ◌-◌, List, ◌++◌, sym, ap, subst, ◌∙◌, arith}
use Rattle.mpy_dump.specs.Instructions.{instr_line, instr_lines}
use Rattle.mpy_dump.specs.Short.{IsHead}
use Rattle.mpy_dump.proofs.Pens.{gathers_is, step_gathered, stop_gathered}
use Rattle.mpy_dump.proofs.Putting.{last, rest_is}
use Rattle.mpy_dump.proofs.Pieces.{Walk, walk_begins, stands, next, walk_ends, inside}
use Rattle.mpy_dump.proofs.instructions.put_instrs.Goals as goal

pub cut-requires : goal.cut-requires
cut-requires g c = omega arith

pub loop-at-init : goal.loop-at-init
loop-at-init g c = record {
  walk = walk_begins _ _ _ _ c.args.module.now c.args.table.now c.args.code.now c.requires.decodes.0 c.cut.ensures c.requires.decodes.1 c.requires.decodes.2;
  within = omega arith;
  place = c.start-place.ensures.place c.args.table.now;
  ahead = omega (arith, c.start-place.ensures.passed);
  head = c.head_of-head.ensures.is;
}

pub overflow_cast-at : goal.overflow_cast-at
overflow_cast-at g c = omega (arith, c.loop-at.invariant.within, c.requires.short)

pub advance-place-requires-clause-place : goal.advance-place-requires-clause-place
advance-place-requires-clause-place g c = c.loop-at.invariant.place

pub advance-place-requires-clause-ahead : goal.advance-place-requires-clause-ahead
advance-place-requires-clause-ahead g c = c.loop-at.invariant.ahead

pub advance-place-requires-clause-short : goal.advance-place-requires-clause-short
advance-place-requires-clause-short g c = omega (arith, c.requires.short)

pub overflow_cast-at-in-loop-at : goal.overflow_cast-at-in-loop-at
overflow_cast-at-in-loop-at g c = omega (arith, c.loop-at.invariant.within, c.requires.short)

pub set_line-requires : goal.set_line-requires
set_line-requires g c = c.loop-at.invariant.head

pub gather_line-requires-clause-tails : goal.gather_line-requires-clause-tails
gather_line-requires-clause-tails g c = c.requires.tails

pub gather_line-requires-clause-head : goal.gather_line-requires-clause-head
gather_line-requires-clause-head g c = c.set_line.ensures.is

pub gather_line-requires-clause-decodes : goal.gather_line-requires-clause-decodes
gather_line-requires-clause-decodes g c =
    let w = c.loop-at.invariant.walk in
    stands c.args.code.now c.loop-at.at w.left w.left_spelled w.left_is c.loop-at-test.true

pub gather_line-requires-clause-short : goal.gather_line-requires-clause-short
gather_line-requires-clause-short g c = omega (arith, c.requires.short)

pub returns-in_err-gather_line : goal.returns-in_err-gather_line
returns-in_err-gather_line g c =
    let m = c.args.module.now in
    let table = c.args.table.now in
    let at = c.loop-at.at in
    let w = c.loop-at.invariant.walk in
    let e = c.in_err-gather_line.ensures in
    let n = next m table c.args.code.now at e.0 e.1 w.left w.left_spelled w.left_is c.loop-at-test.true e.2 in
    let line = ap (λ l. instr_line m at l e.0 e.1) (c.set_line.ensures.line ∙ c.advance-place.ensures.line) in (
      w.pieces,
      w.spelled,
      w.code_is,
      stop_gathered (instr_lines m table e.0 n.others) c.from_residual.result c.from_residual.ensures.0
          (rest_is (ap (λ (z : List ℕ). c.loop-at.pen.text ++ z) n.lines) w.partway) (gathers_is line e.4),
    )

pub overflow_cast-from : goal.overflow_cast-from
overflow_cast-from g c = omega (arith, c.loop-at.invariant.within, c.requires.short)

pub overflow_sub-at : goal.overflow_sub-at
overflow_sub-at g c =
    let e = c.in_ok-gather_line.ensures in
    let i = inside c.args.code.now c.loop-at.at e.0 e.1 e.2 c.loop-at.invariant.within in
    omega (arith, e.3, i.forward)

pub overflow_cast-at-in-loop-at-2 : goal.overflow_cast-at-in-loop-at-2
overflow_cast-at-in-loop-at-2 g c =
    let e = c.in_ok-gather_line.ensures in
    let i = inside c.args.code.now c.loop-at.at e.0 e.1 e.2 c.loop-at.invariant.within in
    omega (arith, e.3, i.within, c.requires.short)

pub count_up-requires-clause-is : goal.count_up-requires-clause-is
count_up-requires-clause-is g c = c.set_line.ensures.is

pub count_up-requires-clause-short : goal.count_up-requires-clause-short
count_up-requires-clause-short g c =
    let e = c.in_ok-gather_line.ensures in
    let i = inside c.args.code.now c.loop-at.at e.0 e.1 e.2 c.loop-at.invariant.within in
    omega (arith, e.3, i.forward, i.within, c.requires.short)

pub loop-at-smaller : goal.loop-at-smaller
loop-at-smaller g c =
    let e = c.in_ok-gather_line.ensures in
    let i = inside c.args.code.now c.loop-at.at e.0 e.1 e.2 c.loop-at.invariant.within in
    omega (arith, e.3, i.forward, c.loop-at-test.true)

pub loop-at-preserved : goal.loop-at-preserved
loop-at-preserved g c =
    let m = c.args.module.now in
    let table = c.args.table.now in
    let code = c.args.code.now in
    let at = c.loop-at.at in
    let w = c.loop-at.invariant.walk in
    let e = c.in_ok-gather_line.ensures in
    let i = inside code at e.0 e.1 e.2 c.loop-at.invariant.within in
    let n = next m table code at e.0 e.1 w.left w.left_spelled w.left_is c.loop-at-test.true e.2 in
    let line = ap (λ l. instr_line m at l e.0 e.1) (c.set_line.ensures.line ∙ c.advance-place.ensures.line) in
    let there : at + (c.gather_line.new.at - at) ≡ c.gather_line.new.at = omega (arith, e.3, i.forward) in
    record {
      walk = subst (λ end. Walk g.S.Sink.told g.S.Sink.count c.args.out.now c.gather_line.new.out c.gather_line.new.pen.text m table code end) (sym e.3) (record {
        pieces = w.pieces;
        spelled = w.spelled;
        code_is = w.code_is;
        left = n.others;
        left_spelled = n.spelled;
        left_is = n.is;
        partway = step_gathered (instr_lines m table e.0 n.others)
            (rest_is (ap (λ (z : List ℕ). c.loop-at.pen.text ++ z) n.lines) w.partway) (gathers_is line e.4);
      });
      within = omega (arith, e.3, i.within);
      place = c.advance-place.ensures.place;
      ahead = omega (arith, e.3, i.forward, c.advance-place.ensures.ahead);
      head = subst (λ start. IsHead start c.count_up.new.head) there c.count_up.ensures.is;
    }

pub returns : goal.returns
returns g c =
    let w = c.loop-at.invariant.walk in
    (w.pieces, w.spelled, w.code_is, last c.hand_over.result (walk_ends w c.loop-at-test.false) c.hand_over.ensures.puts)
