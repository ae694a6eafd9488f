-- What the bytes of a code can spell: an operation that names a text does the same whatever its number is.
use Rattle.std.proofs.Common.{◌≡◌, ℕ, zero, suc, ◌+◌, Bool, true, false, List, [], ◌∷◌, length, refl, sym, subst, All, ◌-◌, if◌then◌else◌, nat_eq, nat_lt, ap, unwrap_or, arith}
use Rattle.bc_progress.specs.bc_ops.declared.form.Form.{Form}
use Rattle.bc_progress.specs.bc_ops.declared.form.Form.TheVariants as forms
use Rattle.bc_progress.specs.bc_ops.declared.instr.Instr.{Instr}
use Rattle.bc_progress.specs.bc_ops.declared.instr.Instr.TheVariants as instrs
use Rattle.bc_progress.specs.bc_ops.declared.listing.Item as listings
use Rattle.bc_progress.specs.bc_ops.declared.listing.Item.TheVariants as listed
use Rattle.bc_progress.specs.bc_ops.Table.{form_of, name_form, number_form, jump_form, plain_form, short_form, row_for, is_in, byte_of, name_rows, name_outside, number_rows, number_outside, jump_rows, jump_outside, plain_rows, plain_outside, short_outside}
use Rattle.bc_progress.specs.bc_ops.Code.{Operand}
use Rattle.bc_progress.specs.bc_ops.Listing.{Piece, IsPiece, item, items_at, IsListOf}
use Rattle.bc_progress.specs.bc_flow.Action.{op_action}
use Rattle.bc_resolved.proofs.InBytes.{IsRegular, AllRegular}

-- so each form is
abbrev pub FormRegular : Form → Type 0
FormRegular (forms.Whole instr) = IsRegular (listed.Plain instr)
FormRegular (forms.Name op) = (n : ℕ) → op_action op n ≡ op_action op 0
FormRegular form = Unit {0}

by_choice : (b : Bool) (x y : Form) → FormRegular x → FormRegular y → FormRegular (if b then x else y)
by_choice true x y a b = a
by_choice false x y a b = b

abbrev RowsRegular : List Form → Type 0
RowsRegular [] = Unit {0}
RowsRegular (row ∷ rows) = FormRegular row × RowsRegular rows

rows_regular : (byte : ℕ) (rows : List Form) (outside : List ℕ) → RowsRegular rows → FormRegular (row_for byte rows outside)
rows_regular byte [] outside h = by_choice (is_in byte outside) forms.Outside forms.Unknown tt tt
rows_regular byte (row ∷ rows) outside h = by_choice (nat_eq byte (byte_of row)) row (row_for byte rows outside) h.0 (rows_regular byte rows outside h.1)

names_regular : (byte : ℕ) → FormRegular (name_form byte)
unfolding name_form op_action
names_regular byte = rows_regular byte name_rows name_outside ((λ n. refl), ((λ n. refl), ((λ n. refl), ((λ n. refl), ((λ n. refl), ((λ n. refl), ((λ n. refl), ((λ n. refl), ((λ n. refl), ((λ n. refl), ((λ n. refl), ((λ n. refl), tt))))))))))))

numbers_regular : (byte : ℕ) → FormRegular (number_form byte)
unfolding number_form
numbers_regular byte = rows_regular byte number_rows number_outside (tt, (tt, (tt, (tt, (tt, (tt, (tt, (tt, (tt, (tt, (tt, (tt, (tt, tt)))))))))))))

jumps_regular : (byte : ℕ) → FormRegular (jump_form byte)
unfolding jump_form
jumps_regular byte = rows_regular byte jump_rows jump_outside (tt, (tt, (tt, (tt, (tt, (tt, (tt, (tt, (tt, (tt, tt))))))))))

plain_regular : (byte : ℕ) → FormRegular (plain_form byte)
unfolding plain_form
plain_regular byte = rows_regular byte plain_rows plain_outside (tt, (tt, (tt, (tt, (tt, (tt, (tt, (tt, (tt, (tt, (tt, (tt, (tt, (tt, (tt, (tt, (tt, tt)))))))))))))))))

short_regular : (byte : ℕ) → FormRegular (short_form byte)
unfolding short_form
short_regular byte = by_choice (nat_lt byte 0xb0) _ _ tt (by_choice (nat_lt byte 0xc0) _ _ tt (by_choice (nat_lt byte 0xd0) _ _ tt (by_choice (nat_lt byte 0xd4) _ _ tt (by_choice (nat_lt byte 0xd7) _ _ tt (by_choice (nat_lt 0xf9 byte) _ _ tt
    (by_choice (is_in byte short_outside) forms.Outside (forms.Whole (instrs.Binary (byte - 0xd7))) tt tt))))))

form_regular : (byte : ℕ) → FormRegular (form_of byte)
unfolding form_of
form_regular byte = by_choice (nat_lt byte 0x20) _ _ (names_regular byte) (by_choice (nat_lt byte 0x40) _ _ (numbers_regular byte) (by_choice (nat_lt byte 0x50) _ _ (jumps_regular byte) (by_choice (nat_lt byte 0x70) _ _ (plain_regular byte) (short_regular byte))))

operand_regular : (form : Form) (bytes : List ℕ) (instr : Instr) → FormRegular form → Operand form bytes instr → IsRegular (listed.Plain instr)
operand_regular (forms.Whole whole) bytes instr h o = subst (λ z. IsRegular (listed.Plain z)) (sym o.1) h
operand_regular (forms.Name op) bytes instr h o = subst (λ z. IsRegular (listed.Plain z)) (sym o.2) (h o.0)
operand_regular (forms.Number op) bytes instr h o = subst (λ z. IsRegular (listed.Plain z)) (sym o.2) tt
operand_regular (forms.Call op) bytes instr h o = subst (λ z. IsRegular (listed.Plain z)) (sym o.3) tt
operand_regular forms.Signed bytes instr h o = subst (λ z. IsRegular (listed.Plain z)) (sym o.2) tt
operand_regular (forms.Offset op signed) bytes instr h o = subst (λ z. IsRegular (listed.Plain z)) (sym o.3) tt
operand_regular forms.Unwind bytes instr h o = subst (λ z. IsRegular (listed.Plain z)) (sym o.6) tt
operand_regular forms.Outside bytes instr h o = absurd o
operand_regular forms.Unknown bytes instr h o = absurd o

item_regular : (starts : List ℕ) (end : ℕ) (instr : Instr) → IsRegular (listed.Plain instr) → IsRegular (item starts end instr)
item_regular starts end (instrs.Jump op offset wide) h = tt
item_regular starts end (instrs.Unwind offset wide byte) h = tt
item_regular starts end instr h = h

pieces_regular : (starts : List ℕ) (at : ℕ) (pieces : List Piece) → All IsPiece pieces → AllRegular (items_at starts at pieces)
pieces_regular starts at [] a p x e = absurd (cc e)
pieces_regular starts at (piece ∷ pieces) a zero x e =
    let s = a 0 piece (omega arith) in subst IsRegular (ap (λ o. unwrap_or o x) e) (item_regular starts (at + length piece.text) piece.instr (operand_regular (form_of s.first) s.behind piece.instr (form_regular s.first) s.operand))
pieces_regular starts at (piece ∷ pieces) a (suc p) x e = pieces_regular starts (at + length piece.text) pieces (λ k d h. a (suc k) d (omega (arith, h))) p x e

pub list_regular : (bytes : List ℕ) (items : List listings.Item) → IsListOf bytes items → AllRegular items
list_regular bytes items l = subst AllRegular (sym l.items_are) (pieces_regular _ _ l.pieces l.spelled)
