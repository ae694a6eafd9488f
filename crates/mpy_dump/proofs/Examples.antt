-- Lines of a small listing.
use Rattle.std.proofs.Common.{◌≡◌, [], ◌∷◌, ◌++◌, refl}
use Rattle.std.specs.Prelude.{codes, pos, negsuc, true, false}
use Rattle.std.specs.Fmt.{digits}
use Rattle.mpy_tree.specs.bc_ops.declared.instr.Op.TheVariants as ops
use Rattle.mpy_tree.specs.bc_ops.declared.instr.Instr.TheVariants as instrs
use Rattle.mpy_tree.specs.declared.raw.Qstr.TheVariants.{Static, Own}
use Rattle.mpy_tree.specs.declared.raw.RawCode.{roll-RawCode}
use Rattle.mpy_tree.specs.Raw.{Module}
use Rattle.mpy_dump.specs.Codes.{path_text}
use Rattle.mpy_dump.specs.Instructions.{instr_line}
use Rattle.mpy_dump.specs.Listing.{head_line, qstr_line}
use Rattle.mpy_dump.specs.Texts.{name_text, str_text}

abbrev prints_hi : Module
prints_hi = record {
  bits = 31;
  qstrs = Own (codes "a.py") ∷ Static 7 ∷ Static 123 ∷ Own (codes "hi") ∷ [];
  objects = [];
  code = roll-RawCode (record { bytes = 8 ∷ 2 ∷ 1 ∷ 0x11 ∷ 2 ∷ 0x10 ∷ 3 ∷ 0x34 ∷ 1 ∷ 0x59 ∷ 0x51 ∷ 0x63 ∷ []; children = [] });
}

head : head_line prints_hi ≡ codes "mpy 6 0 31 qstrs 4 objects 0\n"
unfolding digits
head = refl

own_text : qstr_line 0 (Own (codes "a.py")) ≡ codes "qstr 0 own a.py\n"
unfolding digits
own_text = refl

static_text : qstr_line 2 (Static 123) ≡ codes "qstr 2 static 123 print\n"
unfolding digits
static_text = refl

loads_name : instr_line prints_hi 0 1 2 (instrs.Name ops.LoadName 2) ≡ codes "0 1 LOAD_NAME print\n"
unfolding digits
loads_name = refl

loads_text : instr_line prints_hi 2 1 4 (instrs.Name ops.LoadConstString 3) ≡ codes "2 1 LOAD_CONST_STRING hi\n"
unfolding digits
loads_text = refl

calls : instr_line prints_hi 4 1 6 (instrs.Num ops.CallFunction 1) ≡ codes "4 1 CALL_FUNCTION 1\n"
unfolding digits
calls = refl

no_such_text : instr_line prints_hi 2 1 4 (instrs.Name ops.LoadConstString 9) ≡ codes "2 1 LOAD_CONST_STRING ?9\n"
unfolding digits
no_such_text = refl

jumps_in_front : instr_line prints_hi 4 1 6 (instrs.Jump ops.Jump (negsuc 47) false) ≡ codes "4 1 JUMP -42\n"
unfolding digits
jumps_in_front = refl

unwinds : instr_line prints_hi 9 1 13 (instrs.Unwind (pos 65) true 130) ≡ codes "9 1 UNWIND_JUMP 77 130\n"
unfolding digits
unwinds = refl

adds_in_place : instr_line prints_hi 13 1 14 (instrs.Binary 14) ≡ codes "13 1 INPLACE_OP +\n"
unfolding digits
adds_in_place = refl

line_end_in_name : name_text (codes "a\n") ≡ codes "a\\x0a"
line_end_in_name = refl

quotes_and_line_end : str_text (codes "it's\n") ≡ 34 ∷ (codes "it's\\n" ++ 34 ∷ [])
quotes_and_line_end = refl

second_level : path_text (0 ∷ 2 ∷ []) ≡ codes "0.0.2"
unfolding digits
second_level = refl
