use Rattle.std.proofs.Common.{◌≤◌, ℕ, List, length, All, sym, ap, ap₂, subst, ◌∙◌, arith}
use Rattle.std.specs.List.{zip}
use Rattle.mpy_base.specs.declared.limits.TheConstants.{MAX_FILE_BYTES}
use Rattle.mpy_tree.specs.bc_prelude.Lines.{Rises}
use Rattle.mpy_tree.specs.declared.module.Code.{out-Code}
use Rattle.mpy_tree.specs.Canonical.{changes}
use Rattle.mpy_writer.proofs.Judged.{starts_within, length-starts, starts_rise}
use Rattle.mpy_writer.proofs.wide.wide_own.Goals as goal

pub line_changes-requires-clause-short : goal.line_changes-requires-clause-short
line_changes-requires-clause-short c =
    let few = c.if-draft-gt-MAX_FILE_BYTES.false in
    let size = c.in_ok-draft.ensures.size in
    subst (All (λ start. start ≤ MAX_FILE_BYTES)) (sym (c.deref.ensures.value ∙ c.in_ok-draft.ensures.starts))
    (starts_within c.args.tables.now MAX_FILE_BYTES c.as_slice.result.now (omega (arith, few, size)))

pub line_changes-requires-clause-a_line_each : goal.line_changes-requires-clause-a_line_each
line_changes-requires-clause-a_line_each c =
    ap length (c.deref.ensures.value ∙ c.in_ok-draft.ensures.starts)
    ∙ (length-starts c.args.tables.now 0 c.as_slice.result.now ∙ (ap length c.as_slice.ensures ∙ (sym c.requires.sound.a_line_each ∙ ap length (sym c.as_slice-2.ensures))))

pub write_lines-requires : goal.write_lines-requires
write_lines-requires c =
    let pairs = c.in_ok-line_changes.ensures ∙ ap₂ (λ (os ls : List ℕ). changes 1 (zip os ls)) (c.deref.ensures.value ∙ c.in_ok-draft.ensures.starts) c.as_slice-2.ensures in
    subst Rises (sym (c.deref-2.ensures.value ∙ pairs)) (starts_rise c.args.tables.now c.as_slice.result.now (out-Code c.args.code.now).lines c.requires.sound.lines)
