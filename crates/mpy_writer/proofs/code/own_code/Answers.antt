use Rattle.std.proofs.Common.{◌≤◌, ◌++◌, ℕ, List, length, All, refl, sym, ap, ap₂, subst, ◌∙◌, arith}
use Rattle.std.specs.List.{zip}
use Rattle.mpy_base.specs.declared.limits.TheConstants.{MAX_FILE_BYTES}
use Rattle.mpy_tree.specs.bc_prelude.Lines.{Rises}
use Rattle.mpy_tree.specs.Canonical.{changes}
use Rattle.mpy_writer.proofs.Own.{a_start_each, starts_within, rises, is_big, made_own}
use Rattle.mpy_writer.proofs.code.own_code.Goals as goal

pub returns-then-len-gt-MAX_CODE_BYTES-clause-fault : goal.returns-then-len-gt-MAX_CODE_BYTES-clause-fault
returns-then-len-gt-MAX_CODE_BYTES-clause-fault c =
    let past = c.if-len-gt-MAX_CODE_BYTES.true in
    let len = c.len.ensures in
    let size = c.args.layout.now.bytes.ok.0 in
    (refl, is_big c.args.tables.now c.args.code.now c.args.layout.now.bytes.items c.requires.layout.bytes (omega (arith, past, len, size)))

pub line_changes-requires-clause-short : goal.line_changes-requires-clause-short
line_changes-requires-clause-short c =
    let few = c.if-len-gt-MAX_CODE_BYTES.false in
    let len = c.len.ensures in
    let size = c.args.layout.now.bytes.ok.0 in
    subst (All (λ start. start ≤ MAX_FILE_BYTES)) (sym (c.deref.ensures.value ∙ c.requires.layout.starts))
    (starts_within c.args.tables.now c.args.code.now c.args.layout.now.bytes.items c.requires.layout.bytes MAX_FILE_BYTES (omega (arith, few, len, size)))

pub line_changes-requires-clause-a_line_each : goal.line_changes-requires-clause-a_line_each
line_changes-requires-clause-a_line_each c =
    ap length (c.deref.ensures.value ∙ c.requires.layout.starts)
    ∙ (a_start_each c.args.tables.now c.args.code.now c.args.layout.now.bytes.items c.requires.layout.bytes c.requires.fit c.requires.sound ∙ ap length (sym c.as_slice.ensures))

pub write_lines-requires : goal.write_lines-requires
write_lines-requires c =
    let pairs = c.in_ok-line_changes.ensures ∙ ap₂ (λ (os ls : List ℕ). changes 1 (zip os ls)) (c.deref.ensures.value ∙ c.requires.layout.starts) c.as_slice.ensures in
    subst Rises (sym (c.deref-2.ensures.value ∙ pairs)) (rises c.args.tables.now c.args.code.now c.args.layout.now.bytes.items c.requires.layout.bytes c.requires.sound)

pub returns-then-len-gt-MAX_CODE_BYTES-2-clause-fault : goal.returns-then-len-gt-MAX_CODE_BYTES-2-clause-fault
returns-then-len-gt-MAX_CODE_BYTES-2-clause-fault c =
    let layout = c.requires.layout.bytes in
    let bytes = c.args.layout.now.bytes.items in
    let pairs = c.in_ok-line_changes.ensures ∙ ap₂ (λ (os ls : List ℕ). changes 1 (zip os ls)) (c.deref.ensures.value ∙ c.requires.layout.starts) c.as_slice.ensures in
    let own = made_own c.args.tables.now c.args.code.now bytes layout c.new-info.result.items c.write_names.new.out.items c.write_lines.new.out.items c.new-own.result.items c.write_signature.new.out.items c.write_size.new.out.items c.extend_from_slice.new.self.items
    c.extend_from_slice-2.new.self.items c.deref-3.result.now c.deref-2.result.now c.signature.result c.len-2.result c.new-info.ensures.items c.in_ok-write_names.ensures (c.deref-2.ensures.value ∙ pairs) c.in_ok-write_lines.ensures.ok c.new-own.ensures.items c.signature.ensures
    c.in_ok-write_signature.ensures.ok c.in_ok-write_size.ensures.ok c.deref-3.ensures.value (c.len-2.ensures ∙ sym c.deref-3.ensures.len) c.in_ok-extend_from_slice.ensures.items (c.in_ok-extend_from_slice-2.ensures.items ∙ ap (λ (z : List ℕ). c.extend_from_slice.new.self.items ++ z) c.deref-4.ensures.value) in
    let past = c.if-len-gt-MAX_CODE_BYTES-2.true in
    let len = c.len-3.ensures in
    let size = c.extend_from_slice-2.new.self.ok.0 in
    (refl, (c.extend_from_slice-2.new.self.items, own, omega (arith, past, len, size)))

pub returns-clause-ok : goal.returns-clause-ok
returns-clause-ok c =
    let layout = c.requires.layout.bytes in
    let bytes = c.args.layout.now.bytes.items in
    let pairs = c.in_ok-line_changes.ensures ∙ ap₂ (λ (os ls : List ℕ). changes 1 (zip os ls)) (c.deref.ensures.value ∙ c.requires.layout.starts) c.as_slice.ensures in
    let own = made_own c.args.tables.now c.args.code.now bytes layout c.new-info.result.items c.write_names.new.out.items c.write_lines.new.out.items c.new-own.result.items c.write_signature.new.out.items c.write_size.new.out.items c.extend_from_slice.new.self.items
    c.extend_from_slice-2.new.self.items c.deref-3.result.now c.deref-2.result.now c.signature.result c.len-2.result c.new-info.ensures.items c.in_ok-write_names.ensures (c.deref-2.ensures.value ∙ pairs) c.in_ok-write_lines.ensures.ok c.new-own.ensures.items c.signature.ensures
    c.in_ok-write_signature.ensures.ok c.in_ok-write_size.ensures.ok c.deref-3.ensures.value (c.len-2.ensures ∙ sym c.deref-3.ensures.len) c.in_ok-extend_from_slice.ensures.items (c.in_ok-extend_from_slice-2.ensures.items ∙ ap (λ (z : List ℕ). c.extend_from_slice.new.self.items ++ z) c.deref-4.ensures.value) in
    let few = c.if-len-gt-MAX_CODE_BYTES-2.false in
    let len = c.len-3.ensures in
    let size = c.extend_from_slice-2.new.self.ok.0 in
    (own, omega (arith, few, len, size))
