-- The instructions that a translation has, one by one.
use Rattle.std.proofs.Common.{◌≡◌, ◌⊎◌, inl, ℕ, suc, ◌+◌, ◌*◌, ◌<◌, ◌≤◌, ◌^◌, ℤ, pos, negsuc, Bool, true, false, length, Option, Some, None, refl, arith, if◌then◌else◌}
use Rattle.std.specs.Prelude.{nat_le, nat_lt, codes}
use Rattle.std.proofs.lemmas.Bool.{ltb-true}
use Rattle.std.proofs.lemmas.List.Elements.{All-from_recursion}
use Rattle.mpy_base.specs.Val.{Val, Nil, Truth, Int, Str, Fixed, Empty, Built, At}
use Rattle.emit_module.specs.bc_machine.bc_ops.declared.form.Form.TheVariants as forms
use Rattle.emit_module.specs.bc_machine.bc_ops.declared.instr.Op.TheVariants as ops
use Rattle.emit_module.specs.bc_machine.bc_ops.declared.instr.Instr.TheVariants as instrs
use Rattle.emit_module.specs.bc_machine.bc_ops.Table.{code_of, form_of, name_form, number_form, jump_form, plain_form, short_form}
use Rattle.emit_module.specs.bc_machine.bc_ops.Code.{is_signed, IsEncodable}
use Rattle.emit_module.specs.bc_flow.Code.{named}
use Rattle.emit_module.specs.bc_labels.Labels.{HasOffset}
use Rattle.emit_module.specs.bc_machine.Library.{Name, Item, Plain, Names, Loads, Jumps, Unwinds}
use Rattle.emit_module.specs.bc_scheme.Context.{Context, number, load_by, store_by, delete_by, slot_of, loads, stores, deletes, constant, unary_number, comparing, in_place, binary}
use Rattle.emit_module.specs.bc_resolved.Operands.{Keeps}
use Rattle.mpy_writer.specs.Writable.{IsPlain}
use Rattle.emit_module.specs.py_tree.declared.expr.UnaryOp.{UnaryOp}
use Rattle.emit_module.specs.py_tree.declared.expr.UnaryOp.TheVariants as unaries
use Rattle.emit_module.specs.py_tree.declared.expr.BinaryOp.{BinaryOp}
use Rattle.emit_module.specs.py_tree.declared.expr.BinaryOp.TheVariants as binaries
use Rattle.emit_module.specs.py_tree.declared.expr.CompareOp.{CompareOp}
use Rattle.emit_module.specs.py_tree.declared.expr.CompareOp.TheVariants as compares
use Rattle.emit_module.specs.tr_source.Spelled.{IsAscii, IsNumber, IsLiteral}

-- an object that is a str of ASCII
abbrev pub IsStr : Val → Type 0
IsStr (Str text) = IsAscii text
IsStr Nil = ⊥
IsStr (Truth b) = ⊥
IsStr (Int z) = ⊥
IsStr (Fixed items) = ⊥
IsStr Empty = ⊥
IsStr (Built builtin) = ⊥
IsStr (At n) = ⊥

-- it may be written, but for the length of its text and the place that it goes to
abbrev pub IsWell : Item → Type 0
IsWell (Plain instr) = IsPlain instr × IsEncodable instr
IsWell (Names op text) = (form_of (code_of op) ≡ forms.Name op) × IsAscii text
IsWell (Loads v) = IsStr v
IsWell (Jumps op p) = HasOffset (form_of (code_of op)) op
IsWell (Unwinds p byte) = Unit {0}

-- it is so, and it has no offset without a sign
abbrev pub IsPut : Item → Type 0
IsPut (Plain instr) = IsPlain instr × IsEncodable instr
IsPut (Names op text) = (form_of (code_of op) ≡ forms.Name op) × IsAscii text
IsPut (Loads v) = IsStr v
IsPut (Jumps op p) = HasOffset (form_of (code_of op)) op × (is_signed (form_of (code_of op)) ≡ true)
IsPut (Unwinds p byte) = Unit {0}

-- a jump at a position goes forward where its offset has no sign
abbrev pub IsAhead : ℕ → Item → Type 0
IsAhead i (Jumps op p) = (is_signed (form_of (code_of op)) ≡ true) ⊎ (i < p)
IsAhead i item = Unit {0}

pub put_well : (item : Item) → IsPut item → IsWell item
put_well (Plain instr) h = h
put_well (Names op text) h = h
put_well (Loads v) h = h
put_well (Jumps op p) h = h.0
put_well (Unwinds p byte) h = h

pub put_ahead : (i : ℕ) (item : Item) → IsPut item → IsAhead i item
put_ahead i (Plain instr) h = tt
put_ahead i (Names op text) h = tt
put_ahead i (Loads v) h = tt
put_ahead i (Jumps op p) h = inl h.1
put_ahead i (Unwinds p byte) h = tt

abbrev pub Kept : (size n_state children : ℕ) → Item → Type 0
Kept size n_state children item = Keeps size n_state children item

module _ (size n_state children : ℕ) (state : n_state ≤ 4096) (few : children ≤ 65535) where
  -- ---- names

  local_small : (n : ℕ) → suc n ≤ n_state → n < 2 ^ 31
  local_small n h = omega (arith, h, state)

  load_short : (c : Context) (slot : ℕ) (b : Bool) → nat_lt slot 16 ≡ b → Kept size n_state children (number (if b then ops.LoadFast else ops.LoadFastN) slot) → IsPut (number (if b then ops.LoadFast else ops.LoadFastN) slot)
  unfolding form_of name_form number_form jump_form plain_form short_form
  load_short c slot true e k = (tt, (refl, ltb-true slot 16 e))
  load_short c slot false e k = (tt, (refl, local_small slot k.local))

  store_short : (c : Context) (slot : ℕ) (b : Bool) → nat_lt slot 16 ≡ b → Kept size n_state children (number (if b then ops.StoreFast else ops.StoreFastN) slot) → IsPut (number (if b then ops.StoreFast else ops.StoreFastN) slot)
  unfolding form_of name_form number_form jump_form plain_form short_form
  store_short c slot true e k = (tt, (refl, ltb-true slot 16 e))
  store_short c slot false e k = (tt, (refl, local_small slot k.local))

  load_named : (b : Bool) (name : Name) → IsAscii name → IsPut (Names (if b then ops.LoadName else ops.LoadGlobal) name)
  unfolding form_of name_form number_form jump_form plain_form short_form
  load_named true name a = (refl, a)
  load_named false name a = (refl, a)

  store_named : (b : Bool) (name : Name) → IsAscii name → IsPut (Names (if b then ops.StoreName else ops.StoreGlobal) name)
  unfolding form_of name_form number_form jump_form plain_form short_form
  store_named true name a = (refl, a)
  store_named false name a = (refl, a)

  delete_named : (b : Bool) (name : Name) → IsAscii name → IsPut (Names (if b then ops.DeleteName else ops.DeleteGlobal) name)
  unfolding form_of name_form number_form jump_form plain_form short_form
  delete_named true name a = (refl, a)
  delete_named false name a = (refl, a)

  load_well : (c : Context) (name : Name) (o : Option ℕ) → IsAscii name → Kept size n_state children (load_by c name o) → IsPut (load_by c name o)
  load_well c name (Some slot) a k = load_short c slot (nat_lt slot 16) refl k
  load_well c name None a k = load_named c.is_module name a

  store_well : (c : Context) (name : Name) (o : Option ℕ) → IsAscii name → Kept size n_state children (store_by c name o) → IsPut (store_by c name o)
  store_well c name (Some slot) a k = store_short c slot (nat_lt slot 16) refl k
  store_well c name None a k = store_named c.is_module name a

  delete_well : (c : Context) (name : Name) (o : Option ℕ) → IsAscii name → Kept size n_state children (delete_by c name o) → IsPut (delete_by c name o)
  unfolding form_of name_form number_form jump_form plain_form short_form
  delete_well c name (Some slot) a k = (tt, (refl, local_small slot k.local))
  delete_well c name None a k = delete_named c.is_module name a

  pub loads_well : (c : Context) (name : Name) → IsAscii name → Kept size n_state children (loads c name) → IsPut (loads c name)
  loads_well c name a k = load_well c name (slot_of c name) a k

  pub stores_well : (c : Context) (name : Name) → IsAscii name → Kept size n_state children (stores c name) → IsPut (stores c name)
  stores_well c name a k = store_well c name (slot_of c name) a k

  pub deletes_well : (c : Context) (name : Name) → IsAscii name → Kept size n_state children (deletes c name) → IsPut (deletes c name)
  deletes_well c name a k = delete_well c name (slot_of c name) a k

  -- ---- constants

  str_well : (b : Bool) (text : Name) → IsAscii text → IsPut (if b then Names ops.LoadConstString text else Loads (Str text))
  unfolding form_of name_form number_form jump_form plain_form short_form
  str_well true text a = (refl, a)
  str_well false text a = a

  int_well : (z : ℤ) → IsNumber z → IsPut (Plain (instrs.Int z))
  unfolding form_of name_form number_form jump_form plain_form short_form
  int_well (pos n) h = (tt, h)
  int_well (negsuc n) h = absurd h

  pub constant_well : (v : Val) → IsLiteral v → IsPut (constant v)
  unfolding form_of name_form number_form jump_form plain_form short_form
  constant_well Nil h = (tt, refl)
  constant_well (Truth true) h = (tt, refl)
  constant_well (Truth false) h = (tt, refl)
  constant_well (Int z) h = int_well z h
  constant_well (Str text) h = str_well (nat_le (length text) 10) text h
  constant_well (Fixed items) h = absurd h
  constant_well Empty h = absurd h
  constant_well (Built builtin) h = absurd h
  constant_well (At n) h = absurd h

  -- ---- operators

  pub unary_well : (op : UnaryOp) → IsPut (Plain (instrs.Unary (unary_number op)))
  unfolding form_of name_form number_form jump_form plain_form short_form
  unary_well unaries.Plus = (tt, omega arith)
  unary_well unaries.Minus = (tt, omega arith)
  unary_well unaries.Invert = (tt, omega arith)

  pub comparing_well : (op : CompareOp) → IsPut (Plain (instrs.Binary (comparing op)))
  unfolding form_of name_form number_form jump_form plain_form short_form
  comparing_well compares.Lt = (tt, (omega arith, refl))
  comparing_well compares.Gt = (tt, (omega arith, refl))
  comparing_well compares.Eq = (tt, (omega arith, refl))
  comparing_well compares.Le = (tt, (omega arith, refl))
  comparing_well compares.Ge = (tt, (omega arith, refl))
  comparing_well compares.Ne = (tt, (omega arith, refl))
  comparing_well compares.In = (tt, (omega arith, refl))
  comparing_well compares.NotIn = (tt, (omega arith, refl))
  comparing_well compares.Is = (tt, (omega arith, refl))
  comparing_well compares.IsNot = (tt, (omega arith, refl))

  pub in_place_well : (op : BinaryOp) → IsPut (in_place op)
  unfolding form_of name_form number_form jump_form plain_form short_form
  in_place_well binaries.Or = (tt, (omega arith, refl))
  in_place_well binaries.Xor = (tt, (omega arith, refl))
  in_place_well binaries.And = (tt, (omega arith, refl))
  in_place_well binaries.Shl = (tt, (omega arith, refl))
  in_place_well binaries.Shr = (tt, (omega arith, refl))
  in_place_well binaries.Add = (tt, (omega arith, refl))
  in_place_well binaries.Sub = (tt, (omega arith, refl))
  in_place_well binaries.Mul = (tt, (omega arith, refl))
  in_place_well binaries.FloorDiv = (tt, (omega arith, refl))
  in_place_well binaries.Mod = (tt, (omega arith, refl))
  in_place_well binaries.Pow = (tt, (omega arith, refl))

  pub binary_well : (op : BinaryOp) → IsPut (binary op)
  unfolding form_of name_form number_form jump_form plain_form short_form
  binary_well binaries.Or = (tt, (omega arith, refl))
  binary_well binaries.Xor = (tt, (omega arith, refl))
  binary_well binaries.And = (tt, (omega arith, refl))
  binary_well binaries.Shl = (tt, (omega arith, refl))
  binary_well binaries.Shr = (tt, (omega arith, refl))
  binary_well binaries.Add = (tt, (omega arith, refl))
  binary_well binaries.Sub = (tt, (omega arith, refl))
  binary_well binaries.Mul = (tt, (omega arith, refl))
  binary_well binaries.FloorDiv = (tt, (omega arith, refl))
  binary_well binaries.Mod = (tt, (omega arith, refl))
  binary_well binaries.Pow = (tt, (omega arith, refl))

  -- ---- numbers

  few_small : (n : ℕ) → n ≤ 4096 → n < 2 ^ 31
  few_small n h = omega (arith, h)

  child_small : (n : ℕ) → n < children → n < 2 ^ 31
  child_small n h = omega (arith, h, few)

  pub tuple_well : (n : ℕ) → Kept size n_state children (number ops.BuildTuple n) → IsPut (number ops.BuildTuple n)
  unfolding named form_of name_form number_form jump_form plain_form short_form
  tuple_well n k = (tt, (refl, few_small n k.few))

  pub list_well : (n : ℕ) → Kept size n_state children (number ops.BuildList n) → IsPut (number ops.BuildList n)
  unfolding named form_of name_form number_form jump_form plain_form short_form
  list_well n k = (tt, (refl, few_small n k.few))

  pub dict_well : (n : ℕ) → Kept size n_state children (number ops.BuildMap n) → IsPut (number ops.BuildMap n)
  unfolding named form_of name_form number_form jump_form plain_form short_form
  dict_well n k = (tt, (refl, few_small n k.few))

  pub unpack_well : (n : ℕ) → Kept size n_state children (number ops.UnpackSequence n) → IsPut (number ops.UnpackSequence n)
  unfolding named form_of name_form number_form jump_form plain_form short_form
  unpack_well n k = (tt, (refl, few_small n k.few))

  pub function_well : (n : ℕ) → Kept size n_state children (number ops.MakeFunction n) → IsPut (number ops.MakeFunction n)
  unfolding form_of name_form number_form jump_form plain_form short_form
  function_well n k = (tt, (refl, child_small n k.there))

  pub defaulted_well : (n : ℕ) → Kept size n_state children (number ops.MakeFunctionDefargs n) → IsPut (number ops.MakeFunctionDefargs n)
  unfolding form_of name_form number_form jump_form plain_form short_form
  defaulted_well n k = (tt, (refl, child_small n k.there))

  pub call_well : (args keys : ℕ) → args ≤ 255 → keys ≤ 255 → IsPut (number ops.CallFunction (args + 256 * keys))
  unfolding form_of name_form number_form jump_form plain_form short_form
  call_well args keys a k = (tt, (refl, omega (arith, a, k)))

  pub method_well : (args keys : ℕ) → args ≤ 255 → keys ≤ 255 → IsPut (number ops.CallMethod (args + 256 * keys))
  unfolding form_of name_form number_form jump_form plain_form short_form
  method_well args keys a k = (tt, (refl, omega (arith, a, k)))

pub assertion_ascii : IsAscii (codes "AssertionError")
assertion_ascii = All-from_recursion (λ byte. byte < 128) (codes "AssertionError") (omega arith, (omega arith, (omega arith, (omega arith, (omega arith, (omega arith, (omega arith, (omega arith, (omega arith, (omega arith, (omega arith, (omega arith, (omega arith, (omega arith, tt))))))))))))))
