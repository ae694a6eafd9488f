-- The table of the first bytes: the operation of a row begins with the row's byte.
use Rattle.std.proofs.Common.{◌≡◌, ℕ, ◌+◌, ◌-◌, ◌<◌, ◌≤◌, Bool, true, false, cond, eqb, ltb, List, [], ◌∷◌, ℤ, pos, negsuc, ◌-ℤ◌, refl, ap, sym, ◌∙◌, arith}
use Rattle.std.proofs.lemmas.Bool.{eqb-true, ltb-true, ltb-false, lt-ltb, le-ltb}
use Rattle.std.proofs.lemmas.Int.{ints}
use Rattle.bc_ops.specs.declared.form.Form.{Form}
use Rattle.bc_ops.specs.declared.form.Form.TheVariants.{Whole, Name, Number, Call, Signed, Offset, Unwind, Outside, Unknown}
use Rattle.bc_ops.specs.declared.instr.Op.{Op}
use Rattle.bc_ops.specs.declared.instr.Op.TheVariants.{LoadFast, StoreFast}
use Rattle.bc_ops.specs.declared.instr.Instr.{Instr}
use Rattle.bc_ops.specs.declared.instr.Instr.TheVariants as instrs
use Rattle.bc_ops.specs.Table.{code_of, byte_of, name_rows, number_rows, jump_rows, plain_rows, name_outside, number_outside, jump_outside, plain_outside, short_outside, is_in, row_for, name_form, number_form, jump_form, plain_form, short_form, form_of}

-- from -16 to 47
abbrev pub IsShort : ℤ → Type 0
IsShort (pos n) = n < 48
IsShort (negsuc n) = n < 16

-- what a byte says of the instruction that it is, or of the operation that begins with it
abbrev pub WholeHasCode : Instr → ℕ → Type 0
WholeHasCode (instrs.Plain op) byte = code_of op ≡ byte
WholeHasCode (instrs.Num op n) byte = (form_of (code_of op) ≡ Whole (instrs.Num op 0)) × (n < 16)
WholeHasCode (instrs.Int z) byte = IsShort z
WholeHasCode (instrs.Unary op) byte = op < 4
WholeHasCode (instrs.Binary op) byte = (op < 35) × (0xd7 + op ≡ byte)
WholeHasCode instr byte = ⊥

abbrev pub HasCode : Form → ℕ → Type 0
HasCode (Whole instr) byte = WholeHasCode instr byte
HasCode (Name op) byte = code_of op ≡ byte
HasCode (Number op) byte = code_of op ≡ byte
HasCode (Call op) byte = code_of op ≡ byte
HasCode (Offset op signed) byte = code_of op ≡ byte
HasCode form byte = Unit {0}

abbrev is_plain : Instr → Bool
is_plain (instrs.Plain op) = true
is_plain instr = false

abbrev is_row : Form → Bool
is_row (Whole instr) = is_plain instr
is_row Outside = false
is_row Unknown = false
is_row form = true

abbrev are_rows : List Form → Bool
are_rows [] = true
are_rows (row ∷ rows) = cond (is_row row) (are_rows rows) false

plain_code : (instr : Instr) (byte : ℕ) → is_plain instr ≡ true → byte ≡ byte_of (Whole instr) → WholeHasCode instr byte
plain_code (instrs.Plain op) byte is e = sym e
plain_code instr byte is e = absurd cc

row_code : (row : Form) (byte : ℕ) → is_row row ≡ true → byte ≡ byte_of row → HasCode row byte
row_code (Whole instr) byte is e = plain_code instr byte is e
row_code (Name op) byte is e = sym e
row_code (Number op) byte is e = sym e
row_code (Call op) byte is e = sym e
row_code (Offset op signed) byte is e = sym e
row_code row byte is e = tt

choose : (t : Bool) (form others : Form) (byte : ℕ) → (t ≡ true → HasCode form byte) → (t ≡ false → HasCode others byte) → HasCode (cond t form others) byte
choose true form others byte here there = here refl
choose false form others byte here there = there refl

head_is_row : (a b : Bool) → cond a b false ≡ true → a ≡ true
head_is_row true b e = refl
head_is_row false b e = e

tail_are_rows : (a b : Bool) → cond a b false ≡ true → b ≡ true
tail_are_rows true b e = e
tail_are_rows false b e = absurd cc

rows_code : (byte : ℕ) (rows : List Form) (outside : List ℕ) → are_rows rows ≡ true → HasCode (row_for byte rows outside) byte
rows_code byte [] outside is = choose (is_in byte outside) Outside Unknown byte (λ _. tt) (λ _. tt)
rows_code byte (row ∷ rows) outside is =
    choose (eqb byte (byte_of row)) row (row_for byte rows outside) byte (λ e. row_code row byte (head_is_row (is_row row) (are_rows rows) is) (eqb-true byte (byte_of row) e)) (λ _. rows_code byte rows outside (tail_are_rows (is_row row) (are_rows rows) is))

name_code : (byte : ℕ) → HasCode (name_form byte) byte
unfolding name_form
name_code byte = rows_code byte name_rows name_outside refl

number_code : (byte : ℕ) → HasCode (number_form byte) byte
unfolding number_form
number_code byte = rows_code byte number_rows number_outside refl

jump_code : (byte : ℕ) → HasCode (jump_form byte) byte
unfolding jump_form
jump_code byte = rows_code byte jump_rows jump_outside refl

plain_form_code : (byte : ℕ) → HasCode (plain_form byte) byte
unfolding plain_form
plain_form_code byte = rows_code byte plain_rows plain_outside refl

int_code : (z : ℤ) (byte : ℕ) → z ≡ pos byte -ℤ pos 0x80 → 0x70 ≤ byte → byte < 0xb0 → IsShort z
int_code (pos n) byte e least most = omega (arith, ints)
int_code (negsuc n) byte e least most = omega (arith, ints)

load_fast : form_of (code_of LoadFast) ≡ Whole (instrs.Num LoadFast 0)
unfolding form_of short_form
load_fast = refl

store_fast : form_of (code_of StoreFast) ≡ Whole (instrs.Num StoreFast 0)
unfolding form_of short_form
store_fast = refl

short_code : (byte : ℕ) → 0x70 ≤ byte → HasCode (short_form byte) byte
unfolding short_form
short_code byte least =
    choose (ltb byte 0xb0) _ _ byte (λ a. int_code (pos byte -ℤ pos 0x80) byte refl least (ltb-true byte 0xb0 a)) (λ a.
    choose (ltb byte 0xc0) _ _ byte (λ b. (load_fast, omega (arith, ltb-false byte 0xb0 a, ltb-true byte 0xc0 b))) (λ b.
    choose (ltb byte 0xd0) _ _ byte (λ c. (store_fast, omega (arith, ltb-false byte 0xc0 b, ltb-true byte 0xd0 c))) (λ c.
    choose (ltb byte 0xd4) _ _ byte (λ d. omega (arith, ltb-false byte 0xd0 c, ltb-true byte 0xd4 d)) (λ d.
    choose (ltb byte 0xd7) _ _ byte (λ _. tt) (λ e.
    choose (ltb 0xf9 byte) _ _ byte (λ _. tt) (λ f.
    choose (is_in byte short_outside) _ _ byte (λ _. tt) (λ _.
    (omega (arith, ltb-false byte 0xd7 e, ltb-false 0xf9 byte f), omega (arith, ltb-false byte 0xd7 e)))))))))

pub table : (byte : ℕ) → HasCode (form_of byte) byte
unfolding form_of
table byte =
    choose (ltb byte 0x20) _ _ byte (λ _. name_code byte) (λ _.
    choose (ltb byte 0x40) _ _ byte (λ _. number_code byte) (λ _.
    choose (ltb byte 0x50) _ _ byte (λ _. jump_code byte) (λ _.
    choose (ltb byte 0x70) _ _ byte (λ _. plain_form_code byte) (λ d. short_code byte (ltb-false byte 0x70 d)))))

pub signed_form : form_of 0x22 ≡ Signed
unfolding form_of number_form
signed_form = refl

pub unwind_form : form_of 0x40 ≡ Unwind
unfolding form_of jump_form
unwind_form = refl

-- from 0x70 on
pub short : (byte : ℕ) → 0x70 ≤ byte → form_of byte ≡ short_form byte
unfolding form_of
short byte least =
    rw (le-ltb byte 0x20 (omega arith), le-ltb byte 0x40 (omega arith), le-ltb byte 0x50 (omega arith), le-ltb byte 0x70 least) refl

pub short_int : (byte : ℕ) → 0x70 ≤ byte → byte < 0xb0 → form_of byte ≡ Whole (instrs.Int (pos byte -ℤ pos 0x80))
unfolding short_form
short_int byte least most = short byte least ∙ rw (lt-ltb byte 0xb0 most) refl

pub short_load : (n : ℕ) → n < 16 → form_of (0xb0 + n) ≡ Whole (instrs.Num LoadFast n)
unfolding short_form
short_load n below =
    let inside : (0xb0 + n) - 0xb0 ≡ n = omega arith in
    short (0xb0 + n) (omega arith) ∙ (rw (le-ltb (0xb0 + n) 0xb0 (omega arith), lt-ltb (0xb0 + n) 0xc0 (omega arith)) (ap (λ (k : ℕ). Whole (instrs.Num LoadFast k)) inside))

pub short_store : (n : ℕ) → n < 16 → form_of (0xc0 + n) ≡ Whole (instrs.Num StoreFast n)
unfolding short_form
short_store n below =
    let inside : (0xc0 + n) - 0xc0 ≡ n = omega arith in
    short (0xc0 + n) (omega arith) ∙ (rw (le-ltb (0xc0 + n) 0xb0 (omega arith), le-ltb (0xc0 + n) 0xc0 (omega arith), lt-ltb (0xc0 + n) 0xd0 (omega arith)) (ap (λ (k : ℕ). Whole (instrs.Num StoreFast k)) inside))

pub short_unary : (op : ℕ) → op < 4 → form_of (0xd0 + op) ≡ Whole (instrs.Unary op)
unfolding short_form
short_unary op below =
    let inside : (0xd0 + op) - 0xd0 ≡ op = omega arith in
    short (0xd0 + op) (omega arith) ∙ (rw (le-ltb (0xd0 + op) 0xb0 (omega arith), le-ltb (0xd0 + op) 0xc0 (omega arith), le-ltb (0xd0 + op) 0xd0 (omega arith), lt-ltb (0xd0 + op) 0xd4 (omega arith)) (ap (λ (k : ℕ). Whole (instrs.Unary k)) inside))

-- the operations whose number stands inside their byte
pub short_number : (op : Op) (n : ℕ) → form_of (code_of op) ≡ Whole (instrs.Num op 0) → n < 16 → form_of (code_of op + n) ≡ Whole (instrs.Num op n)
unfolding form_of name_form number_form jump_form plain_form
short_number LoadFast n is below = short_load n below
short_number StoreFast n is below = short_store n below
short_number op n is below = absurd cc
