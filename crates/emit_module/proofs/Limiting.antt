-- The numbers of a text without a fault.
use Rattle.std.proofs.Common.{◌≡◌, ◌≤◌, ◌<◌, ℕ, ◌+◌, Bool, true, false, length, Some, None, refl, arith}
use Rattle.std.specs.Prelude.{max, min, ◌||◌, nat_lt, nat_le, if◌then◌else◌}
use Rattle.std.proofs.lemmas.Bool.{ltb-false}
use Rattle.mpy_base.specs.declared.source.SourceCode.{SourceCode}
use Rattle.mpy_base.specs.declared.source.SourceCode.TheVariants.{TooLong, StateTooBig}
use Rattle.tr_source.specs.py_meaning.Program.{Text}
use Rattle.emit_measures.specs.bc_scheme.Heights.{tall_block, held_in}
use Rattle.emit_measures.specs.declared.faults.Measures.{Measures}
use Rattle.emit_measures.specs.Faults.{is_big_state, fault_of, IsMeasured}

left_false : (a b : Bool) → (a || b) ≡ false → a ≡ false
left_false true b e = e
left_false false b e = refl

right_false : (a b : Bool) → (a || b) ≡ false → b ≡ false
right_false true b e = let clash : true ≡ false = e in cc
right_false false b e = e

no_fault : (a b : Bool) (x y : SourceCode) → (if a then Some x else (if b then Some y else None)) ≡ None → b ≡ false
no_fault true b x y e = cc
no_fault false true x y e = cc
no_fault false false x y e = refl

not_big : (m : Measures) → fault_of m ≡ None → is_big_state m ≡ false
not_big m e = no_fault (nat_lt 16000 m.length) (is_big_state m) TooLong StateTooBig e

pub few_slots : (m : Measures) → fault_of m ≡ None → m.locals + max 1 m.height ≤ 4096
few_slots m e =
    let behind = right_false (m.crowded || nat_le 32 m.depth) ((nat_lt 255 m.params || nat_lt 100 m.entries) || nat_lt 4096 (m.locals + max 1 m.height)) (not_big m e) in
    ltb-false 4096 (m.locals + max 1 m.height) (right_false (nat_lt 255 m.params || nat_lt 100 m.entries) (nat_lt 4096 (m.locals + max 1 m.height)) behind)

pub few_entries : (m : Measures) → fault_of m ≡ None → m.entries ≤ 100
few_entries m e =
    let behind = right_false (m.crowded || nat_le 32 m.depth) ((nat_lt 255 m.params || nat_lt 100 m.entries) || nat_lt 4096 (m.locals + max 1 m.height)) (not_big m e) in
    let counts = left_false (nat_lt 255 m.params || nat_lt 100 m.entries) (nat_lt 4096 (m.locals + max 1 m.height)) behind in
    ltb-false 100 m.entries (right_false (nat_lt 255 m.params) (nat_lt 100 m.entries) counts)

pub not_crowded : (m : Measures) → fault_of m ≡ None → m.crowded ≡ false
not_crowded m e = left_false m.crowded (nat_le 32 m.depth) (left_false (m.crowded || nat_le 32 m.depth) ((nat_lt 255 m.params || nat_lt 100 m.entries) || nat_lt 4096 (m.locals + max 1 m.height)) (not_big m e))

pub shallow : (m : Measures) → fault_of m ≡ None → m.depth < 32
shallow m e =
    let deep = right_false m.crowded (nat_le 32 m.depth) (left_false (m.crowded || nat_le 32 m.depth) ((nat_lt 255 m.params || nat_lt 100 m.entries) || nat_lt 4096 (m.locals + max 1 m.height)) (not_big m e)) in
    let few : m.depth ≤ 31 = ltb-false 31 m.depth deep in
    omega (arith, few)

pub few_params : (m : Measures) → fault_of m ≡ None → m.params ≤ 255
few_params m e =
    let behind = right_false (m.crowded || nat_le 32 m.depth) ((nat_lt 255 m.params || nat_lt 100 m.entries) || nat_lt 4096 (m.locals + max 1 m.height)) (not_big m e) in
    let counts = left_false (nat_lt 255 m.params || nat_lt 100 m.entries) (nat_lt 4096 (m.locals + max 1 m.height)) behind in
    ltb-false 255 m.params (left_false (nat_lt 255 m.params) (nat_lt 100 m.entries) counts)

slots : (top locals most height tall : ℕ) → height ≡ min tall top → 4097 ≤ top → locals + max 1 height ≤ 4096 → locals ≡ most → locals + max 1 height ≡ most + max 1 tall
slots top locals most height tall e h l f = omega arith

entries : (top held told : ℕ) → told ≡ min held top → told ≤ 100 → 101 ≤ top → told ≡ held
entries top held told e l h = omega arith

pub slots_are : (text : Text) (m : Measures) → IsMeasured text m → fault_of m ≡ None → m.locals + max 1 m.height ≡ length text.locals + max 1 (tall_block text.level text.body)
slots_are text m is e = slots 18446744073709551615 m.locals (length text.locals) m.height (tall_block text.level text.body) is.height (omega arith) (few_slots m e) is.locals

pub entries_are : (text : Text) (m : Measures) → IsMeasured text m → fault_of m ≡ None → m.entries ≡ held_in text.body
entries_are text m is e = entries 18446744073709551615 (held_in text.body) m.entries is.entries (few_entries m e) (omega arith)
