-- The instructions of a translation as they stand in a file: how many bytes they have, and where they jump.
use Rattle.std.proofs.Common.{◌≡◌, ℕ, zero, suc, ◌+◌, ◌<◌, ◌≤◌, ℤ, pos, negsuc, Bool, true, false, List, [], ◌∷◌, length, map, Some, refl, ap, subst, arith, slice_get, get_or, if◌then◌else◌}
use Rattle.std.specs.Prelude.{nat_lt}
use Rattle.std.specs.List.{sum_by}
use Rattle.std.proofs.lemmas.List.Sums.{sum_by-cons}
use Rattle.mpy_base.specs.Vuint.{vuint}
use Rattle.mpy_writer.specs.mpy_tree.declared.module.Item.{Item as Written}
use Rattle.mpy_writer.specs.mpy_tree.declared.module.Item.TheVariants as items
use Rattle.mpy_writer.specs.mpy_tree.Resolved.{ResolvedLine, resolved_item}
use Rattle.mpy_writer.specs.bc_labels.declared.labelled.Labelled.TheVariants as labels
use Rattle.mpy_writer.specs.declared.tables.Tables.{Tables}
use Rattle.mpy_writer.specs.Tables.{TablesFit, spelled}
use Rattle.mpy_writer.specs.Wide.{wide_size}
use Rattle.mpy_writer.specs.Writable.{IsPlain}
use Rattle.mpy_writer.proofs.bc_labels_lemmas.Sizes.{size_bound}
use Rattle.mpy_writer.proofs.Near.{GoesAhead}
use Rattle.mpy_writer.proofs.Numbers.{number_small}
use Rattle.mpy_writer.proofs.Shorter.{shorter_number}
use Rattle.emit_module.specs.bc_machine.bc_ops.declared.instr.Op.{Op}
use Rattle.emit_module.specs.bc_machine.bc_ops.declared.instr.Op.TheVariants as ops
use Rattle.emit_module.specs.bc_machine.bc_ops.declared.instr.Instr.{Instr}
use Rattle.emit_module.specs.bc_machine.bc_ops.declared.instr.Instr.TheVariants as instrs
use Rattle.emit_module.specs.bc_machine.bc_ops.Table.{code_of, form_of, name_form, number_form, jump_form, plain_form, short_form}
use Rattle.emit_module.specs.bc_machine.bc_ops.Code.{number_bytes, int_bytes, spelling, TakesNumber, IsEncodable}
use Rattle.emit_module.specs.bc_flow.Code.{named}
use Rattle.emit_module.specs.bc_machine.Library.{Plain, item_of, line_of}
use Rattle.emit_module.specs.bc_resolved.Operands.{IsInside}
use Rattle.emit_module.specs.emit_measures.Wide.{wide_number, wide_int, wide_instr, wide_item, wide_length}
use Rattle.mpy_compile.proofs.Items.{item_in, head_is, tail_is}
use Rattle.mpy_compile.proofs.Wells.{IsWell, IsAhead, Kept}

-- ---- bytes

longest : length (vuint 65535) ≡ 3
unfolding vuint
longest = refl

pub three : (n : ℕ) → n < 65536 → length (vuint n) ≤ 3
three n lt = let up = shorter_number n 65535 (omega (arith, lt)) in let most = longest in omega (arith, up, most)

four : (n : ℕ) → n < 65536 → suc (length (vuint n)) ≤ 4
four n lt = let h = three n lt in omega (arith, h)

int_short : (short : Bool) (a : ℕ) (bs : List ℕ) → length (if short then a ∷ [] else bs) ≤ 6 → length (if short then a ∷ [] else bs) ≤ (if short then 1 else 6)
int_short true a bs h = omega arith
int_short false a bs h = h

int_few : (z : ℤ) → IsEncodable (instrs.Int z) → length (int_bytes z) ≤ wide_int z
int_few (pos n) e = int_short (nat_lt n 48) _ _ (size_bound [] (labels.Plain (instrs.Int (pos n))) false (e, tt))
int_few (negsuc n) e = int_short (nat_lt n 16) _ _ (size_bound [] (labels.Plain (instrs.Int (negsuc n))) false (e, tt))

module _ (size n_state children : ℕ) (state : n_state ≤ 4096) (few : children ≤ 65535) where
  num_few : (op : Op) (n : ℕ) → IsPlain (instrs.Num op n) → TakesNumber (form_of (code_of op)) op n → Kept size n_state children (Plain (instrs.Num op n)) → length (number_bytes (form_of (code_of op)) (code_of op) n) ≤ wide_number op
  unfolding named form_of name_form number_form jump_form plain_form short_form
  num_few ops.LoadConstString n p h k = absurd h
  num_few ops.LoadName n p h k = absurd h
  num_few ops.LoadGlobal n p h k = absurd h
  num_few ops.LoadAttr n p h k = absurd h
  num_few ops.LoadMethod n p h k = absurd h
  num_few ops.StoreName n p h k = absurd h
  num_few ops.StoreGlobal n p h k = absurd h
  num_few ops.StoreAttr n p h k = absurd h
  num_few ops.DeleteName n p h k = absurd h
  num_few ops.DeleteGlobal n p h k = absurd h
  num_few ops.ImportName n p h k = absurd h
  num_few ops.ImportFrom n p h k = absurd h
  num_few ops.Jump n p h k = absurd h
  num_few ops.PopJumpIfTrue n p h k = absurd h
  num_few ops.PopJumpIfFalse n p h k = absurd h
  num_few ops.JumpIfTrueOrPop n p h k = absurd h
  num_few ops.JumpIfFalseOrPop n p h k = absurd h
  num_few ops.SetupExcept n p h k = absurd h
  num_few ops.SetupFinally n p h k = absurd h
  num_few ops.PopExceptJump n p h k = absurd h
  num_few ops.ForIter n p h k = absurd h
  num_few ops.LoadConstObj n p h k = absurd p
  num_few ops.LoadFastN n p h k = let local = k.local in four n (omega (arith, local, state))
  num_few ops.StoreFastN n p h k = let local = k.local in four n (omega (arith, local, state))
  num_few ops.DeleteFast n p h k = let local = k.local in four n (omega (arith, local, state))
  num_few ops.BuildTuple n p h k = let items_few = k.few in four n (omega (arith, items_few))
  num_few ops.BuildList n p h k = let items_few = k.few in four n (omega (arith, items_few))
  num_few ops.BuildMap n p h k = let items_few = k.few in four n (omega (arith, items_few))
  num_few ops.UnpackSequence n p h k = let items_few = k.few in four n (omega (arith, items_few))
  num_few ops.MakeFunction n p h k = let there = k.there in four n (omega (arith, there, few))
  num_few ops.MakeFunctionDefargs n p h k = let there = k.there in four n (omega (arith, there, few))
  num_few ops.CallFunction n p h k = let below = h.1 in four n (omega (arith, below))
  num_few ops.CallMethod n p h k = let below = h.1 in four n (omega (arith, below))
  num_few ops.LoadConstFalse n p h k = let clash = h.0 in cc
  num_few ops.LoadConstNone n p h k = let clash = h.0 in cc
  num_few ops.LoadConstTrue n p h k = let clash = h.0 in cc
  num_few ops.LoadNull n p h k = let clash = h.0 in cc
  num_few ops.LoadSubscr n p h k = let clash = h.0 in cc
  num_few ops.StoreSubscr n p h k = let clash = h.0 in cc
  num_few ops.DupTop n p h k = let clash = h.0 in cc
  num_few ops.DupTopTwo n p h k = let clash = h.0 in cc
  num_few ops.PopTop n p h k = let clash = h.0 in cc
  num_few ops.RotTwo n p h k = let clash = h.0 in cc
  num_few ops.RotThree n p h k = let clash = h.0 in cc
  num_few ops.EndFinally n p h k = let clash = h.0 in cc
  num_few ops.GetIterStack n p h k = let clash = h.0 in cc
  num_few ops.StoreMap n p h k = let clash = h.0 in cc
  num_few ops.ReturnValue n p h k = let clash = h.0 in cc
  num_few ops.RaiseLast n p h k = let clash = h.0 in cc
  num_few ops.RaiseObj n p h k = let clash = h.0 in cc
  num_few ops.LoadFast n p h k = omega arith
  num_few ops.StoreFast n p h k = omega arith

  plain_few : (instr : Instr) → IsPlain instr → IsEncodable instr → Kept size n_state children (Plain instr) → length (spelling instr) ≤ wide_instr instr
  plain_few (instrs.Plain op) p e k = omega arith
  plain_few (instrs.Name op n) p e k = absurd p
  plain_few (instrs.Num op n) p e k = num_few op n p e k
  plain_few (instrs.Int z) p e k = int_few z e
  plain_few (instrs.Jump op offset wide) p e k = absurd p
  plain_few (instrs.Unwind offset wide byte) p e k = absurd p
  plain_few (instrs.Unary op) p e k = omega arith
  plain_few (instrs.Binary op) p e k = omega arith

  module _ (tables : Tables) (fit : TablesFit tables) where
    item_few : (item : Written) → IsWell (item_of size (resolved_item item)) → Kept size n_state children (item_of size (resolved_item item)) → wide_size tables item ≤ wide_item (item_of size (resolved_item item))
    unfolding form_of name_form number_form jump_form plain_form short_form
    item_few (items.Plain instr) w k = plain_few instr w.0 w.1 k
    item_few (items.Named op text) w k = let small = number_small tables.texts text fit.texts in four _ (omega (arith, small))
    item_few (items.Object object) w k = let small = number_small tables.objects (spelled object) fit.objects in four _ (omega (arith, small))
    item_few (items.Jump op position) w k = omega arith
    item_few (items.Unwind position byte) w k = omega arith

    -- the instructions of a code
    pub sizes_few : (found : List ResolvedLine) (made : List Written) → map item_in found ≡ map resolved_item made
        → ((i : ℕ) (x : ResolvedLine) → slice_get found i ≡ Some x → IsWell (item_of size x.item) × Kept size n_state children (item_of size x.item)) → sum_by (wide_size tables) made ≤ wide_length (map (line_of size) found)
    sizes_few [] [] e good = omega arith
    sizes_few [] (y ∷ ys) e good = cc
    sizes_few (x ∷ xs) [] e good = cc
    sizes_few (x ∷ xs) (y ∷ ys) e good =
        let same = head_is x.item (resolved_item y) (map item_in xs) (map resolved_item ys) e in
        let g = good 0 x refl in
        let one = item_few y (subst (λ r. IsWell (item_of size r)) same g.0) (subst (λ r. Kept size n_state children (item_of size r)) same g.1) in
        let rest = sizes_few xs ys (tail_is x.item (resolved_item y) (map item_in xs) (map resolved_item ys) e) (λ i z f. good (suc i) z f) in
        omega (arith, one, rest, ap (λ r. wide_item (item_of size r)) same, sum_by-cons (wide_size tables) y ys)

-- ---- places

-- what a code has at a place, as a tree has it
pub record IsAt (found : List ResolvedLine) (made : List Written) (p : ℕ) : Type 0 where
  pub line : ResolvedLine
  pub here : slice_get found p ≡ Some line
  pub same : line.item ≡ resolved_item (get_or made p (items.Unwind 0 0))

pub item_at : (found : List ResolvedLine) (made : List Written) → map item_in found ≡ map resolved_item made → (p : ℕ) → p < length made → IsAt found made p
item_at [] [] e p lt = absurd (omega (arith, lt))
item_at [] (y ∷ ys) e p lt = cc
item_at (x ∷ xs) [] e p lt = cc
item_at (x ∷ xs) (y ∷ ys) e zero lt = record { line = x; here = refl; same = head_is x.item (resolved_item y) (map item_in xs) (map resolved_item ys) e }
item_at (x ∷ xs) (y ∷ ys) e (suc p) lt =
    let h = item_at xs ys (tail_is x.item (resolved_item y) (map item_in xs) (map resolved_item ys) e) p (omega (arith, lt)) in
    record { line = h.line; here = h.here; same = h.same }

pub goes_ahead : (size i : ℕ) (item : Written) → IsInside size (item_of size (resolved_item item)) → IsAhead i (item_of size (resolved_item item)) → GoesAhead size i item
goes_ahead size i (items.Plain instr) inside ahead = tt
goes_ahead size i (items.Named op text) inside ahead = tt
goes_ahead size i (items.Object object) inside ahead = tt
goes_ahead size i (items.Jump op position) inside ahead = (inside, ahead)
goes_ahead size i (items.Unwind position byte) inside ahead = inside
