use Rattle.std.proofs.Common.{◌++◌, length, get_or, refl, sym, ap, subst, ◌∙◌, arith}
use Rattle.mpy_tree.specs.bc_prelude.Names.{AreNames}
use Rattle.mpy_tree.proofs.bc_prelude_lemmas.Pieces.{parts_short}
use Rattle.mpy_dump.specs.Codes.{places, code_line}
use Rattle.mpy_dump.specs.Instructions.{instr_lines}
use Rattle.mpy_dump.proofs.Bodies.{decodes}
use Rattle.mpy_dump.proofs.Putting.{begin, step, stop, last, puts_is}
use Rattle.mpy_dump.proofs.codes.put_code.Goals as goal

pub parts_of-parts-requires : goal.parts_of-parts-requires
parts_of-parts-requires g c = let own = c.requires.own.1 in (own.prelude, own.begins)

pub first_index-name-requires : goal.first_index-name-requires
first_index-name-requires g c =
    let parts = c.parts_of-parts.ensures in
    let b = parts.begins in
    (b.indexes, subst (AreNames b.indexes) (sym parts.names_are) b.are_names, omega (arith, b.count))

pub put_instrs-requires-clause-decodes : goal.put_instrs-requires-clause-decodes
put_instrs-requires-clause-decodes g c =
    let parts = c.parts_of-parts.ensures in
    let d = decodes c.args.bytes.now c.parts_of-parts.result.prelude parts.begins c.requires.own.1 in
    (d.pieces, d.spelled, parts.instructions_are ∙ d.is)

pub put_instrs-requires-clause-short : goal.put_instrs-requires-clause-short
put_instrs-requires-clause-short g c =
    let parts = c.parts_of-parts.ensures in
    omega (arith, ap length parts.lines_are, ap length parts.instructions_are, parts_short c.args.bytes.now c.parts_of-parts.result.prelude parts.begins, c.requires.short)

pub returns-in_err-put_line : goal.returns-in_err-put_line
returns-in_err-put_line g c =
    let m = c.args.module.now in
    let bytes = c.args.bytes.now in
    let path = places c.args.path.now in
    let parts = c.parts_of-parts.ensures in
    let prelude = c.parts_of-parts.result.prelude in
    let b = parts.begins in
    let name = c.first_index-name.ensures b.indexes (subst (AreNames b.indexes) (sym parts.names_are) b.are_names) in
    let d = decodes bytes prelude b c.requires.own.1 in (
      code_line m path (get_or b.indexes 0 0) prelude (length bytes) ++ instr_lines m b.lines 0 d.pieces,
      λ children. record { prelude = prelude; begins = b; pieces = d.pieces; spelled = d.spelled; instructions = d.is; text_is = refl },
      stop (instr_lines m b.lines 0 d.pieces) c.from_residual.result c.from_residual.ensures.0 (begin _ _ _ _)
          (puts_is (ap (λ n. code_line m path n prelude (length bytes)) name) c.in_err-put_line.ensures),
    )

pub returns : goal.returns
returns g c =
    let m = c.args.module.now in
    let bytes = c.args.bytes.now in
    let path = places c.args.path.now in
    let parts = c.parts_of-parts.ensures in
    let prelude = c.parts_of-parts.result.prelude in
    let b = parts.begins in
    let name = c.first_index-name.ensures b.indexes (subst (AreNames b.indexes) (sym parts.names_are) b.are_names) in
    let q = c.put_instrs.ensures in (
      code_line m path (get_or b.indexes 0 0) prelude (length bytes) ++ instr_lines m b.lines 0 q.0,
      λ children. record { prelude = prelude; begins = b; pieces = q.0; spelled = q.1; instructions = sym parts.instructions_are ∙ q.2; text_is = refl },
      last c.put_instrs.result (step (instr_lines m b.lines 0 q.0) (begin _ _ _ _)
          (puts_is (ap (λ n. code_line m path n prelude (length bytes)) name) c.in_ok-put_line.ensures))
          (puts_is (ap (λ t. instr_lines m t 0 q.0) parts.lines_are) q.3),
    )
