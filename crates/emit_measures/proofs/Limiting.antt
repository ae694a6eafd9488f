-- A text without a fault keeps the limits.
use Rattle.std.proofs.Common.{◌≡◌, ◌≤◌, ℕ, ◌+◌, Bool, true, false, length, Some, None, refl, sym, arith}
use Rattle.std.specs.Prelude.{max, min, ◌||◌, nat_lt, nat_le, if◌then◌else◌}
use Rattle.std.proofs.lemmas.Bool.{ltb-false}
use Rattle.mpy_base.specs.declared.source.SourceCode.{SourceCode}
use Rattle.mpy_base.specs.declared.source.SourceCode.TheVariants.{TooLong, StateTooBig}
use Rattle.bc_scheme.specs.py_meaning.Program.{Text}
use Rattle.bc_scheme.specs.Heights.{tall_block, held_in}
use Rattle.emit_measures.specs.declared.faults.Measures.{Measures}
use Rattle.emit_measures.specs.Faults.{is_big_state, fault_of, IsMeasured, IsWithin}
use Rattle.emit_measures.proofs.Rows.{top}

left_false : (a b : Bool) → (a || b) ≡ false → a ≡ false
left_false true b e = e
left_false false b e = refl

right_false : (a b : Bool) → (a || b) ≡ false → b ≡ false
right_false true b e = let clash : true ≡ false = e in cc
right_false false b e = e

no_fault : (a b : Bool) (x y : SourceCode) → (if a then Some x else (if b then Some y else None)) ≡ None → b ≡ false
no_fault true b x y e = cc
no_fault false true x y e = cc
no_fault false false x y e = refl

slots : (top locals most height tall : ℕ) → height ≡ min tall top → 4097 ≤ top → locals + max 1 height ≤ 4096 → most ≡ locals → most + max 1 tall ≤ 4096
slots top locals most height tall e h l f = omega arith

entries : (top held told : ℕ) → told ≡ min held top → told ≤ 100 → 101 ≤ top → held ≤ 100
entries top held told e l h = omega arith

pub within : (text : Text) (m : Measures) → IsMeasured text m → fault_of m ≡ None → IsWithin text
within text m is e =
    let big = no_fault (nat_lt 16000 m.length) (is_big_state m) TooLong StateTooBig e in
    let behind = right_false (m.crowded || nat_le 32 m.depth) ((nat_lt 255 m.params || nat_lt 100 m.entries) || nat_lt 4096 (m.locals + max 1 m.height)) big in
    let counts = left_false (nat_lt 255 m.params || nat_lt 100 m.entries) (nat_lt 4096 (m.locals + max 1 m.height)) behind in
    let state = ltb-false 4096 (m.locals + max 1 m.height) (right_false (nat_lt 255 m.params || nat_lt 100 m.entries) (nat_lt 4096 (m.locals + max 1 m.height)) behind) in
    let params = ltb-false 255 m.params (left_false (nat_lt 255 m.params) (nat_lt 100 m.entries) counts) in
    let held = ltb-false 100 m.entries (right_false (nat_lt 255 m.params) (nat_lt 100 m.entries) counts) in
    record {
      state = slots top m.locals (length text.locals) m.height (tall_block text.level text.body) is.height (omega arith) state (sym is.locals);
      held = entries top (held_in text.body) m.entries is.entries held (omega arith);
      params = let p = is.params in omega (arith, p, params);
    }
