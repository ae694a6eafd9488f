-- What is written for an instruction is one, what is read may be written, and bytes begin with one at most.
use Rattle.std.proofs.Common.{◌≡◌, ℕ, suc, ◌+◌, ◌-◌, ◌<◌, ◌≤◌, ◌^◌, Bool, true, false, cond, ltb, length, List, [], ◌∷◌, ◌++◌, ℤ, pos, negsuc, ◌-ℤ◌, refl, ap, sym, subst, ◌∙◌, arith, append_assoc}
use Rattle.std.proofs.lemmas.Bool.{ltb-true, lt-ltb}
use Rattle.std.proofs.lemmas.Int.{ints}
use Rattle.std.proofs.lemmas.List.{append_cancel_left, length_push}
use Rattle.mpy_base.specs.Vuint.{vuint}
use Rattle.mpy_base.proofs.Groups as groups
use Rattle.mpy_base.proofs.Groups.{vuint_spells, one_number}
use Rattle.bc_ops.specs.declared.form.Form.{Form}
use Rattle.bc_ops.specs.declared.form.Form.TheVariants as forms
use Rattle.bc_ops.specs.declared.instr.Op.{Op}
use Rattle.bc_ops.specs.declared.instr.Instr.{Instr}
use Rattle.bc_ops.specs.declared.instr.Instr.TheVariants as instrs
use Rattle.bc_ops.specs.Table.{code_of, form_of}
use Rattle.bc_ops.specs.Signed.{IsSmall, signed}
use Rattle.bc_ops.specs.Offset.{offset_bytes}
use Rattle.bc_ops.specs.Code.{Operand, Spells, number_bytes, is_signed, int_bytes, spelling, TakesNumber, TakesOffset, IsEncodable}
use Rattle.bc_ops.proofs.Integers.{one_signed, signed_spells}
use Rattle.bc_ops.proofs.Integers as integers
use Rattle.bc_ops.proofs.Offsets.{one_offset, offset_bound, offset_spelled, offset_size}
use Rattle.bc_ops.proofs.Table.{WholeHasCode, HasCode, table, short_int, short_unary, short_number, signed_form, unwind_form}

-- the byte and the operand of its form
spelled_by : (form : Form) (first : ℕ) (behind : List ℕ) (instr : Instr) → form_of first ≡ form → Operand form behind instr → Spells (first ∷ behind) instr
spelled_by form first behind instr is operand =
    record { first = first; behind = behind; parts = refl; operand = subst (λ (f : Form). Operand f behind instr) (sym is) operand }

spelled_number : (form : Form) (op : Op) (n : ℕ) → form_of (code_of op) ≡ form → TakesNumber form op n → Spells (number_bytes form (code_of op) n) (instrs.Num op n)
spelled_number (forms.Whole whole) op n is h =
    spelled_by (forms.Whole (instrs.Num op n)) (code_of op + n) [] (instrs.Num op n) (short_number op n (is ∙ ap forms.Whole h.0) h.1) (refl, refl)
spelled_number (forms.Number o) op n is h =
    spelled_by (forms.Number op) (code_of op) (vuint n) (instrs.Num op n) (is ∙ ap forms.Number h.0) (n, vuint_spells n h.1, refl)
spelled_number (forms.Call o) op n is h =
    let small : n < 2 ^ 31 = omega arith in
    spelled_by (forms.Call op) (code_of op) (vuint n) (instrs.Num op n) (is ∙ ap forms.Call h.0) (n, vuint_spells n small, h.1, refl)
spelled_number form op n is h = absurd h

spelled_short : (first : ℕ) (z : ℤ) → 0x70 ≤ first → first < 0xb0 → pos first -ℤ pos 0x80 ≡ z → Spells (first ∷ []) (instrs.Int z)
spelled_short first z least most is =
    spelled_by (forms.Whole (instrs.Int z)) first [] (instrs.Int z) (short_int first least most ∙ ap (λ (k : ℤ). forms.Whole (instrs.Int k)) is) (refl, refl)

spelled_long : (z : ℤ) → IsSmall z → Spells (0x22 ∷ signed z) (instrs.Int z)
spelled_long z small = spelled_by forms.Signed 0x22 (signed z) (instrs.Int z) signed_form (z, signed_spells z small, refl)

by_test : (t : Bool) (first : ℕ) (z : ℤ) → (t ≡ true → Spells (first ∷ []) (instrs.Int z)) → Spells (0x22 ∷ signed z) (instrs.Int z) → Spells (cond t (first ∷ []) (0x22 ∷ signed z)) (instrs.Int z)
by_test true first z short long = short refl
by_test false first z short long = long

spelled_jump : (form : Form) (op : Op) (wide : Bool) (offset : ℤ) → form_of (code_of op) ≡ form → TakesOffset form op wide offset → Spells (code_of op ∷ offset_bytes (is_signed form) wide offset) (instrs.Jump op offset wide)
spelled_jump (forms.Offset o signed) op wide offset is h =
    spelled_by (forms.Offset op signed) (code_of op) (offset_bytes signed wide offset) (instrs.Jump op offset wide) (is ∙ ap (λ (p : Op). forms.Offset p signed) h.0) (offset, wide, offset_spelled signed wide offset h.1, refl)
spelled_jump form op wide offset is h = absurd h

pub spelled : (instr : Instr) → IsEncodable instr → Spells (spelling instr) instr
spelled (instrs.Plain op) h = spelled_by (forms.Whole (instrs.Plain op)) (code_of op) [] (instrs.Plain op) h (refl, refl)
spelled (instrs.Name op n) h = spelled_by (forms.Name op) (code_of op) (vuint n) (instrs.Name op n) h.0 (n, vuint_spells n h.1, refl)
spelled (instrs.Num op n) h = spelled_number (form_of (code_of op)) op n refl h
spelled (instrs.Int (pos n)) h =
    by_test (ltb n 48) (0x80 + n) (pos n) (λ e. let short : n < 48 = ltb-true n 48 e in spelled_short (0x80 + n) (pos n) (omega arith) (omega arith) (omega (arith, ints))) (spelled_long (pos n) h)
spelled (instrs.Int (negsuc n)) h =
    by_test (ltb n 16) (0x7f - n) (negsuc n) (λ e. let short : n < 16 = ltb-true n 16 e in spelled_short (0x7f - n) (negsuc n) (omega arith) (omega arith) (omega (arith, ints))) (spelled_long (negsuc n) h)
spelled (instrs.Jump op offset wide) h = spelled_jump (form_of (code_of op)) op wide offset refl h
spelled (instrs.Unwind offset wide byte) h =
    spelled_by forms.Unwind 0x40 (offset_bytes true wide offset ++ byte ∷ []) (instrs.Unwind offset wide byte) unwind_form (offset_bytes true wide offset, byte, offset, wide, offset_spelled true wide offset h, refl, refl)
spelled (instrs.Unary op) h = spelled_by (forms.Whole (instrs.Unary op)) (0xd0 + op) [] (instrs.Unary op) (short_unary op h) (refl, refl)
spelled (instrs.Binary op) h = spelled_by (forms.Whole (instrs.Binary op)) (0xd7 + op) [] (instrs.Binary op) h.1 (refl, refl)

-- an operand in front of bytes is the only one of its form
pub one_operand : (form : Form) (a b x y : List ℕ) (m n : Instr) → Operand form a m → Operand form b n → a ++ x ≡ b ++ y → (a ≡ b) × (m ≡ n)
one_operand (forms.Whole whole) a b x y m n s t e = (cc, cc)
one_operand (forms.Name op) a b x y m n s t e =
    let same = one_number a b x y s.0 t.0 s.1.groups t.1.groups e in
    let number : s.0 ≡ t.0 = same.1 in
    (same.0, cc)
one_operand (forms.Number op) a b x y m n s t e =
    let same = one_number a b x y s.0 t.0 s.1.groups t.1.groups e in
    let number : s.0 ≡ t.0 = same.1 in
    (same.0, cc)
one_operand (forms.Call op) a b x y m n s t e =
    let same = one_number a b x y s.0 t.0 s.1.groups t.1.groups e in
    let number : s.0 ≡ t.0 = same.1 in
    (same.0, cc)
one_operand forms.Signed a b x y m n s t e =
    let same = one_signed a b x y s.0 t.0 s.1 t.1 e in
    let number : s.0 ≡ t.0 = same.1 in
    (same.0, cc)
one_operand (forms.Offset op signed) a b x y m n s t e =
    let same = one_offset signed s.1 t.1 a b x y s.0 t.0 s.2 t.2 e in
    let widths : s.1 ≡ t.1 = same.1 in
    let numbers_are : s.0 ≡ t.0 = same.2 in
    (same.0, cc)
one_operand forms.Unwind a b x y m n s t e =
    let left : a ++ x ≡ s.0 ++ s.1 ∷ x = ap (λ (z : List ℕ). z ++ x) s.5 ∙ append_assoc s.0 (s.1 ∷ []) x in
    let right : b ++ y ≡ t.0 ++ t.1 ∷ y = ap (λ (z : List ℕ). z ++ y) t.5 ∙ append_assoc t.0 (t.1 ∷ []) y in
    let whole : s.0 ++ s.1 ∷ x ≡ t.0 ++ t.1 ∷ y = sym left ∙ (e ∙ right) in
    let same = one_offset true s.3 t.3 s.0 t.0 (s.1 ∷ x) (t.1 ∷ y) s.2 t.2 s.4 t.4 whole in
    let texts : s.0 ≡ t.0 = same.0 in
    let widths : s.3 ≡ t.3 = same.1 in
    let numbers_are : s.2 ≡ t.2 = same.2 in
    let ends : s.1 ∷ x ≡ t.1 ∷ y = append_cancel_left t.0 (s.1 ∷ x) (t.1 ∷ y) (ap (λ (z : List ℕ). z ++ s.1 ∷ x) (sym texts) ∙ whole) in
    let bytes : s.1 ≡ t.1 = cc in
    (cc, cc)
one_operand form a b x y m n s t e = absurd s

pub one_instruction : (a b x y : List ℕ) (m n : Instr) → Spells a m → Spells b n → a ++ x ≡ b ++ y → (a ≡ b) × (m ≡ n)
one_instruction a b x y m n s t e =
    let all : s.first ∷ (s.behind ++ x) ≡ t.first ∷ (t.behind ++ y) = sym (ap (λ (z : List ℕ). z ++ x) s.parts) ∙ (e ∙ ap (λ (z : List ℕ). z ++ y) t.parts) in
    let firsts : s.first ≡ t.first = cc in
    let behinds : s.behind ++ x ≡ t.behind ++ y = cc in
    let operand : Operand (form_of s.first) t.behind n = subst (λ (k : ℕ). Operand (form_of k) t.behind n) (sym firsts) t.operand in
    let same = one_operand (form_of s.first) s.behind t.behind x y m n s.operand operand behinds in
    let texts : s.behind ≡ t.behind = same.0 in
    let p : a ≡ s.first ∷ s.behind = s.parts in
    let q : b ≡ t.first ∷ t.behind = t.parts in
    (cc, same.1)

whole_encodable : (whole : Instr) (first : ℕ) → form_of first ≡ forms.Whole whole → WholeHasCode whole first → IsEncodable whole
whole_encodable (instrs.Plain op) first is code = ap form_of code ∙ is
whole_encodable (instrs.Num op n) first is code = subst (λ (f : Form). TakesNumber f op n) (sym code.0) (refl, code.1)
whole_encodable (instrs.Int (pos n)) first is code = omega arith
whole_encodable (instrs.Int (negsuc n)) first is code = omega arith
whole_encodable (instrs.Unary op) first is code = code
whole_encodable (instrs.Binary op) first is code = (code.0, ap form_of code.1 ∙ is)
whole_encodable whole first is code = absurd code

operand_encodable : (form : Form) (first : ℕ) (behind : List ℕ) (instr : Instr) → form_of first ≡ form → HasCode form first → Operand form behind instr → IsEncodable instr
operand_encodable (forms.Whole whole) first behind instr is code s = subst IsEncodable (sym s.1) (whole_encodable whole first is code)
operand_encodable (forms.Name op) first behind instr is code s = subst IsEncodable (sym s.2) (ap form_of code ∙ is, s.1.small)
operand_encodable (forms.Number op) first behind instr is code s =
    subst IsEncodable (sym s.2) (subst (λ (f : Form). TakesNumber f op s.0) (sym (ap form_of code ∙ is)) (refl, s.1.small))
operand_encodable (forms.Call op) first behind instr is code s =
    subst IsEncodable (sym s.3) (subst (λ (f : Form). TakesNumber f op s.0) (sym (ap form_of code ∙ is)) (refl, s.2))
operand_encodable forms.Signed first behind instr is code s = subst IsEncodable (sym s.2) s.1.small
operand_encodable (forms.Offset op signed) first behind instr is code s =
    subst IsEncodable (sym s.3) (subst (λ (f : Form). TakesOffset f op s.1 s.0) (sym (ap form_of code ∙ is)) (refl, offset_bound signed s.1 behind s.0 s.2))
operand_encodable forms.Unwind first behind instr is code s = subst IsEncodable (sym s.6) (offset_bound true s.3 s.0 s.2 s.4)
operand_encodable form first behind instr is code s = absurd s

pub encodable : (text : List ℕ) (instr : Instr) → Spells text instr → IsEncodable instr
encodable text instr s = operand_encodable (form_of s.first) s.first s.behind instr refl (table s.first) s.operand

-- what is written is the shortest
short_bytes : (t : Bool) (first k : ℕ) (z : ℤ) → length (signed z) ≤ k → length (cond t (first ∷ []) (0x22 ∷ signed z)) ≤ suc k
short_bytes true first k z h = omega arith
short_bytes false first k z h = omega (arith, h)

int_shortest : (z : ℤ) (k : ℕ) → length (signed z) ≤ k → length (int_bytes z) ≤ suc k
int_shortest (pos n) k h = short_bytes (ltb n 48) (0x80 + n) k (pos n) h
int_shortest (negsuc n) k h = short_bytes (ltb n 16) (0x7f - n) k (negsuc n) h

whole_shortest : (whole : Instr) (first : ℕ) → form_of first ≡ forms.Whole whole → WholeHasCode whole first → length (spelling whole) ≤ 1
whole_shortest (instrs.Plain op) first is code = omega arith
whole_shortest (instrs.Num op n) first is code =
    subst (λ (f : Form). length (number_bytes f (code_of op) n) ≤ 1) (sym code.0) (omega arith)
whole_shortest (instrs.Int (pos n)) first is code = rw (lt-ltb n 48 code) (omega arith)
whole_shortest (instrs.Int (negsuc n)) first is code = rw (lt-ltb n 16 code) (omega arith)
whole_shortest (instrs.Unary op) first is code = omega arith
whole_shortest (instrs.Binary op) first is code = omega arith
whole_shortest whole first is code = absurd code

operand_shortest : (form : Form) (first : ℕ) (behind : List ℕ) (instr : Instr) → form_of first ≡ form → HasCode form first → Operand form behind instr → length (spelling instr) ≤ suc (length behind)
operand_shortest (forms.Whole whole) first behind instr is code s =
    omega (arith, whole_shortest whole first is code, ap (λ (i : Instr). length (spelling i)) s.1)
operand_shortest (forms.Name op) first behind instr is code s =
    omega (arith, groups.shortest behind s.0 s.1, ap (λ (i : Instr). length (spelling i)) s.2)
operand_shortest (forms.Number op) first behind instr is code s =
    let size : length (spelling (instrs.Num op s.0)) ≤ suc (length behind) = subst (λ (f : Form). length (number_bytes f (code_of op) s.0) ≤ suc (length behind)) (sym (ap form_of code ∙ is)) (omega (arith, groups.shortest behind s.0 s.1)) in
    omega (arith, size, ap (λ (i : Instr). length (spelling i)) s.2)
operand_shortest (forms.Call op) first behind instr is code s =
    let size : length (spelling (instrs.Num op s.0)) ≤ suc (length behind) = subst (λ (f : Form). length (number_bytes f (code_of op) s.0) ≤ suc (length behind)) (sym (ap form_of code ∙ is)) (omega (arith, groups.shortest behind s.0 s.1)) in
    omega (arith, size, ap (λ (i : Instr). length (spelling i)) s.3)
operand_shortest forms.Signed first behind instr is code s =
    omega (arith, int_shortest s.0 (length behind) (integers.shortest behind s.0 s.1), ap (λ (i : Instr). length (spelling i)) s.2)
operand_shortest (forms.Offset op signed) first behind instr is code s =
    omega (arith, offset_size signed (is_signed (form_of (code_of op))) s.1 behind s.0 s.0 s.2, ap (λ (i : Instr). length (spelling i)) s.3)
operand_shortest forms.Unwind first behind instr is code s =
    omega (arith, offset_size true true s.3 s.0 s.2 s.2 s.4, ap length s.5, length_push (offset_bytes true s.3 s.2) s.1, length_push s.0 s.1, ap (λ (i : Instr). length (spelling i)) s.6)
operand_shortest form first behind instr is code s = absurd s

pub shortest : (text : List ℕ) (instr : Instr) → Spells text instr → length (spelling instr) ≤ length text
shortest text instr s =
    omega (arith, operand_shortest (form_of s.first) s.first s.behind instr refl (table s.first) s.operand, ap length s.parts)
