-- A text without a fault has few instructions.
use Rattle.std.proofs.Common.{◌≡◌, ◌≤◌, ◌<◌, ◌^◌, ℕ, Bool, true, false, List, [], ◌∷◌, length, map, Some, None, refl, sym, ◌∙◌, arith, ℤ, pos, negsuc}
use Rattle.std.specs.Prelude.{min, nat_lt, if◌then◌else◌}
use Rattle.std.proofs.lemmas.Bool.{ltb-false}
use Rattle.mpy_base.specs.declared.source.SourceCode.{SourceCode}
use Rattle.mpy_base.specs.declared.source.SourceCode.TheVariants.{TooLong, StateTooBig}
use Rattle.tr_source.specs.bc_machine.bc_ops.declared.instr.Op.{Op}
use Rattle.tr_source.specs.bc_machine.bc_ops.declared.instr.Op.TheVariants as ops
use Rattle.tr_source.specs.bc_machine.bc_ops.declared.instr.Instr.{Instr}
use Rattle.tr_source.specs.bc_machine.bc_ops.declared.instr.Instr.TheVariants as instrs
use Rattle.tr_source.specs.bc_machine.Library.{Item, Plain, Names, Loads, Jumps, Unwinds}
use Rattle.emit_measures.specs.Wide.{wide_number, wide_int, wide_instr, wide_item, wide_length}
use Rattle.emit_stmt.specs.emit_draft.declared.draft.DraftLine.{DraftLine}
use Rattle.emit_stmt.specs.emit_draft.Draft.{Labels}
use Rattle.emit_stmt.specs.emit_draft.Emits.{item_at, line_at}
use Rattle.emit_measures.specs.declared.faults.Measures.{Measures}
use Rattle.emit_measures.specs.Faults.{is_big_state, fault_of}
use Rattle.emit_module.specs.Own.{HasLength}
use Rattle.emit_module.proofs.Limiting.{not_crowded}

some_number : (op : Op) → 1 ≤ wide_number op
some_number ops.LoadFast = omega arith
some_number ops.StoreFast = omega arith
some_number op = omega arith

some_chosen : (b : Bool) → 1 ≤ (if b then 1 else 6)
some_chosen true = omega arith
some_chosen false = omega arith

some_int : (z : ℤ) → 1 ≤ wide_int z
some_int (pos n) = some_chosen (nat_lt n 48)
some_int (negsuc n) = some_chosen (nat_lt n 16)

some_instr : (instr : Instr) → 1 ≤ wide_instr instr
some_instr (instrs.Plain op) = omega arith
some_instr (instrs.Name op n) = omega arith
some_instr (instrs.Num op n) = some_number op
some_instr (instrs.Int n) = some_int n
some_instr (instrs.Jump op offset wide) = omega arith
some_instr (instrs.Unwind offset wide byte) = omega arith
some_instr (instrs.Unary op) = omega arith
some_instr (instrs.Binary op) = omega arith

-- an instruction has a byte
pub some_item : (item : Item) → 1 ≤ wide_item item
some_item (Plain instr) = some_instr instr
some_item (Names op text) = omega arith
some_item (Loads value) = omega arith
some_item (Jumps op position) = omega arith
some_item (Unwinds position byte) = omega arith

no_more : (labels : Labels) (lines : List DraftLine) → length lines ≤ wide_length (map (line_at labels) lines)
no_more labels [] = omega arith
no_more labels (line ∷ lines) = let h = no_more labels lines in let k = some_item (item_at labels line.item) in omega (arith, h, k)

pub not_long : (a b : Bool) (x y : SourceCode) → (if a then Some x else (if b then Some y else None)) ≡ None → a ≡ false
not_long true b x y e = cc
not_long false b x y e = refl

below : (top wide count told : ℕ) → told ≡ min wide top → told ≤ 16000 → 16001 ≤ top → count ≤ wide → count ≤ 16000
below top wide count told e l h k = omega arith

short_lines : (m : Measures) (lines : List DraftLine) → fault_of m ≡ None → HasLength lines m → length lines < 2 ^ 32
short_lines m lines e h =
    let short = ltb-false 16000 m.length (not_long (nat_lt 16000 m.length) (is_big_state m) TooLong StateTooBig e) in
    let count = below 18446744073709551615 (wide_length (map (line_at []) lines)) (length lines) m.length (h []) short (omega arith) (no_more [] lines) in
    omega (arith, count)

-- a text without a fault has at most as many instructions as bytes
pub few_lines : (m : Measures) (lines : List DraftLine) (crowded : Bool) → fault_of m ≡ None → m.crowded ≡ crowded → (crowded ≡ false → HasLength lines m) → length lines < 2 ^ 32
few_lines m lines crowded e c h = short_lines m lines e (h (sym c ∙ not_crowded m e))
