-- What is fetched is what the machine has for the item.
use Rattle.std.proofs.Common.{◌≡◌, ℕ, ℤ, pos, ◌+ℤ◌, ◌-◌, ◌<◌, ◌≤◌, Bool, List, length, Option, Some, refl, sym, ap, subst, ◌∙◌, arith}
use Rattle.std.specs.Prelude.{IsSome, is_some, unwrap_or, option_map}
use Rattle.frame_moves.specs.bc_ops.declared.form.Form.{Form}
use Rattle.frame_moves.specs.bc_ops.declared.form.Form.TheVariants as forms
use Rattle.frame_moves.specs.bc_ops.declared.instr.Op.{Op}
use Rattle.frame_moves.specs.bc_ops.declared.instr.Op.TheVariants as ops
use Rattle.frame_moves.specs.bc_ops.declared.instr.Instr.{Instr}
use Rattle.frame_moves.specs.bc_ops.declared.instr.Instr.TheVariants as instrs
use Rattle.frame_moves.specs.bc_ops.declared.listing.Target.{Target}
use Rattle.frame_moves.specs.bc_ops.declared.listing.Target.TheVariants.{Position, Offset}
use Rattle.frame_moves.specs.bc_ops.declared.listing.Item.TheVariants as items
use Rattle.frame_moves.specs.bc_ops.Code.{TakesOffset}
use Rattle.frame_moves.specs.bc_ops.Listing.{item, target}
use Rattle.frame_moves.specs.bc_ops.Signed.{IsSmall}
use Rattle.frame_moves.specs.bc_ops.Table.{code_of, form_of}
use Rattle.bc_rows.specs.bc_flow.Code.{item_locals, IsOutside}
use Rattle.frame_moves.specs.arena_heap.declared.value.Value.{Value}
use Rattle.frame_moves.specs.arena_heap.declared.value.StrNo.{StrNo}
use Rattle.frame_moves.specs.arena_heap.declared.value.StrNo.TheVariants as strs
use Rattle.frame_moves.specs.arena_heap.declared.value.ConstNo.{ConstNo}
use Rattle.frame_moves.specs.arena_objects.Iterables.{or_nothing}
use Rattle.bc_rows.specs.mpy_tree.Raw.{Module}
use Rattle.bc_rows.specs.mpy_tree.File.{IsModule}
use Rattle.bc_rows.specs.mpy_tree.Resolved.{plain, named, resolved, resolved_instr, name_at}
use Rattle.bc_rows.specs.mpy_tree.Values.{value_of}
use Rattle.bc_rows.specs.bc_verify.declared.fault.Rule.TheVariants as rules
use Rattle.bc_rows.specs.bc_library.Constants.{object_value, text_at}
use Rattle.bc_rows.specs.bc_library.Shelf.{Shelf, module_at, entry_at, table_text}
use Rattle.frame_moves.specs.bc_labels.Positions.{CodeList, Listed, Starts, Reads, position_in}
use Rattle.frame_moves.specs.bc_machine.Library as machine
use Rattle.bc_rows.specs.declared.row.Row.{Row}
use Rattle.frame_moves.specs.prim_walks.Plain as plains
use Rattle.frame_moves.specs.Shown.{Tables, text_of}
use Rattle.frame_moves.specs.Shown as stepping
use Rattle.vm_fetching.specs.declared.operations.LocalOp.{LocalOp}
use Rattle.vm_fetching.specs.declared.operations.LocalOp.TheVariants as local_ops
use Rattle.vm_fetching.specs.declared.operations.BuildOp.{BuildOp}
use Rattle.vm_fetching.specs.declared.operations.BuildOp.TheVariants as build_ops
use Rattle.vm_fetching.specs.declared.operations.MakeOp.{MakeOp}
use Rattle.vm_fetching.specs.declared.operations.MakeOp.TheVariants as make_ops
use Rattle.vm_fetching.specs.declared.operations.CallOp.{CallOp}
use Rattle.vm_fetching.specs.declared.operations.CallOp.TheVariants as call_ops
use Rattle.vm_fetching.specs.declared.instruction.Instruction.{Instruction}
use Rattle.vm_fetching.specs.declared.instruction.Action.{Action}
use Rattle.vm_fetching.specs.declared.instruction.Action.TheVariants as actions
use Rattle.vm_fetching.specs.declared.instruction.Step.{Step}
use Rattle.vm_fetching.specs.declared.instruction.Step.TheVariants as steps
use Rattle.vm_fetching.specs.Instructions as fetched
use Rattle.vm_fetching.specs.Operations.{move_op, item_op, leave_op, local_op, build_op, make_op, call_op, name_op, attribute_op, test_op, handler_op}
use Rattle.vm_fetching.specs.Numbered.{IsNumbered, local, build, make, call, object}
use Rattle.vm_fetching.specs.Families.{IsJumping, IsNamed, IsWhole}
use Rattle.vm_fetching.specs.Fetches.{AreOf, IsVerifiedRow}
use Rattle.vm_fetching.specs.Shows.{Shows}
use Rattle.vm_fetching.proofs.Constants.{plain_object, object_there, at_index}
use Rattle.vm_fetching.proofs.Kept.{Kept, kept, unbroken, unless}
use Rattle.vm_fetching.proofs.Texts as texts

-- an operation with a number is no other operation
local_item : (m : Module) (o : LocalOp) (n : ℕ) → resolved_instr m (instrs.Num (local_op o) n) ≡ plain (instrs.Num (local_op o) n)
local_item m local_ops.LoadFast n = refl
local_item m local_ops.LoadFastN n = refl
local_item m local_ops.StoreFast n = refl
local_item m local_ops.StoreFastN n = refl
local_item m local_ops.DeleteFast n = refl

build_item : (m : Module) (o : BuildOp) (n : ℕ) → resolved_instr m (instrs.Num (build_op o) n) ≡ plain (instrs.Num (build_op o) n)
build_item m build_ops.BuildTuple n = refl
build_item m build_ops.BuildList n = refl
build_item m build_ops.BuildMap n = refl
build_item m build_ops.UnpackSequence n = refl

make_item : (m : Module) (o : MakeOp) (n : ℕ) → resolved_instr m (instrs.Num (make_op o) n) ≡ plain (instrs.Num (make_op o) n)
make_item m make_ops.MakeFunction n = refl
make_item m make_ops.MakeFunctionDefargs n = refl

call_item : (m : Module) (o : CallOp) (n : ℕ) → resolved_instr m (instrs.Num (call_op o) n) ≡ plain (instrs.Num (call_op o) n)
call_item m call_ops.CallFunction n = refl
call_item m call_ops.CallMethod n = refl

local_fits : (o : LocalOp) (n locals : ℕ) → item_locals (items.Plain (instrs.Num (local_op o) n)) ≤ locals → n < locals
unfolding item_locals
local_fits local_ops.LoadFast n locals le = omega (arith, le)
local_fits local_ops.LoadFastN n locals le = omega (arith, le)
local_fits local_ops.StoreFast n locals le = omega (arith, le)
local_fits local_ops.StoreFastN n locals le = omega (arith, le)
local_fits local_ops.DeleteFast n locals le = omega (arith, le)

pub jump_form : (op : Op) (wide : Bool) (offset : ℤ) (form : Form) → form_of (code_of op) ≡ form → TakesOffset form op wide offset → (signed : Bool) × (form_of (code_of op) ≡ forms.Offset op signed)
jump_form op wide offset (forms.Offset o signed) e t = (signed, e ∙ ap (λ z. forms.Offset z signed) t.0)
jump_form op wide offset (forms.Whole whole) e t = absurd t
jump_form op wide offset (forms.Name o) e t = absurd t
jump_form op wide offset (forms.Number o) e t = absurd t
jump_form op wide offset (forms.Call o) e t = absurd t
jump_form op wide offset forms.Signed e t = absurd t
jump_form op wide offset forms.Unwind e t = absurd t
jump_form op wide offset forms.Outside e t = absurd t
jump_form op wide offset forms.Unknown e t = absurd t

-- a target that no offset is, is a position
abbrev Places : Target → Type 0
Places to = (q : ℕ) × (to ≡ Position q)

place_of : (to : Target) → ((z : ℤ) → to ≡ Offset z → ⊥) → Places to
place_of (Position q) h = (q, refl)
place_of (Offset z) h = absurd (h z refl)

module _ (shelf : Shelf) (i : ℕ) (row : Row) (v : IsVerifiedRow shelf i row) (m : Module) (there : module_at shelf i ≡ Some m) (l : CodeList) (listed : Listed row.instructions.now l) (at end : ℕ) where
  its_kept : Kept m row l
  its_kept = kept shelf i row m l v there listed

  same_module : v.m ≡ m
  same_module = let both : Some v.m ≡ Some m = sym v.there ∙ there in cc

  is_module : IsModule m
  is_module = subst IsModule same_module v.is_module

  -- what a name, an object and a jump lead to is there
  pub name_within : (op : Op) (n : ℕ) → Reads l at (instrs.Name op n) end → n < length m.qstrs
  name_within op n r = unless n (length m.qstrs) (λ le. unbroken m row l its_kept (position_in l.offsets at) (items.Plain (instrs.Name op n)) rules.Names r.is le)

  pub object_within : (n : ℕ) → Reads l at (instrs.Num ops.LoadConstObj n) end → n < length m.objects
  object_within n r = unless n (length m.objects) (λ le. unbroken m row l its_kept (position_in l.offsets at) (items.Plain (instrs.Num ops.LoadConstObj n)) rules.Names r.is le)

  pub jump_place : (op : Op) (offset : ℤ) (wide : Bool) → Reads l at (instrs.Jump op offset wide) end → Places (target l.offsets 0 (pos end +ℤ offset))
  jump_place op offset wide r =
      let to = target l.offsets 0 (pos end +ℤ offset) in
      let k : Kept m row l = its_kept in
      place_of to (λ z e. unbroken m row l k (position_in l.offsets at) (items.Jump op to) rules.Jump r.is (subst (IsOutside (length k.body.items)) (sym e) tt))

  pub unwind_place : (offset : ℤ) (wide : Bool) (byte : ℕ) → Reads l at (instrs.Unwind offset wide byte) end → Places (target l.offsets 0 (pos (end - 1) +ℤ offset))
  unwind_place offset wide byte r =
      let to = target l.offsets 0 (pos (end - 1) +ℤ offset) in
      let k : Kept m row l = its_kept in
      place_of to (λ z e. unbroken m row l k (position_in l.offsets at) (items.Unwind to byte) rules.Jump r.is (subst (IsOutside (length k.body.items)) (sym e) tt))

  pub name_entry : (op : Op) (n : ℕ) → Reads l at (instrs.Name op n) end → IsSome (entry_at shelf i n)
  name_entry op n r = texts.entry_there shelf i m n there (name_within op n r)

  pub object_entry : (op : Op) (n : ℕ) → Reads l at (instrs.Num op n) end → op ≡ ops.LoadConstObj → IsSome (object_value shelf i n)
  object_entry op n r e = object_there shelf i m n there (object_within n (subst (λ z. Reads l at (instrs.Num z n) end) e r))

  module _ (tables : Tables) (of : AreOf shelf tables) where
    abbrev S : Instr → Instruction → Type 0
    S instr shown = Shows shelf m tables row l end instr shown

    its_plain : (o op : Op) → o ≡ op → machine.item_of (length l.items) (plain (instrs.Plain op)) ≡ machine.Plain (instrs.Plain o)
    its_plain o op e = ap (λ z. machine.Plain (instrs.Plain z)) (sym e)

    pub shows_plain : (op : Op) (result : Action) → IsWhole op result → S (instrs.Plain op) (fetched.acts result)
    shows_plain op (actions.Stays (steps.Move o)) e = record { item_is = its_plain (move_op o) op e; target = tt; local = tt; text = tt; constant = tt }
    shows_plain op (actions.Stays (steps.Item o)) e = record { item_is = its_plain (item_op o) op e; target = tt; local = tt; text = tt; constant = tt }
    shows_plain op (actions.Stays steps.Iterate) e = record { item_is = its_plain ops.GetIterStack op e; target = tt; local = tt; text = tt; constant = tt }
    shows_plain op (actions.Leaves o) e = record { item_is = its_plain (leave_op o) op e; target = tt; local = tt; text = tt; constant = tt }
    shows_plain op actions.Finishes e = record { item_is = its_plain ops.EndFinally op e; target = tt; local = tt; text = tt; constant = tt }
    shows_plain op (actions.Stays (steps.Int z)) e = absurd e
    shows_plain op (actions.Stays (steps.Text s)) e = absurd e
    shows_plain op (actions.Stays (steps.Object x)) e = absurd e
    shows_plain op (actions.Stays (steps.Local o j)) e = absurd e
    shows_plain op (actions.Stays (steps.Build o j)) e = absurd e
    shows_plain op (actions.Stays (steps.Name o s)) e = absurd e
    shows_plain op (actions.Stays (steps.Attribute o s)) e = absurd e
    shows_plain op (actions.Stays (steps.Unary j)) e = absurd e
    shows_plain op (actions.Stays (steps.Jump to)) e = absurd e
    shows_plain op (actions.Stays (steps.Test o to)) e = absurd e
    shows_plain op (actions.Stays (steps.Handle o to)) e = absurd e
    shows_plain op (actions.Stays (steps.ForIter to)) e = absurd e
    shows_plain op (actions.Stays (steps.Unwind to byte)) e = absurd e
    shows_plain op (actions.Makes o n) e = absurd e
    shows_plain op (actions.Imports n) e = absurd e

    pub shows_int : (z : ℤ) → IsSmall z → S (instrs.Int z) (fetched.int z)
    shows_int z small = record { item_is = refl; target = tt; local = tt; text = tt; constant = small }

    pub shows_unary : (n : ℕ) → S (instrs.Unary n) (fetched.unary n)
    shows_unary n = record { item_is = refl; target = tt; local = tt; text = tt; constant = tt }

    pub shows_binary : (n : ℕ) → S (instrs.Binary n) (fetched.binary n)
    shows_binary n = record { item_is = refl; target = tt; local = tt; text = tt; constant = tt }

    -- a text of the pool, and the item that names it
    its_text : (n k : ℕ) → text_at shelf (strs.Pool k) ≡ table_text shelf i n → n < length m.qstrs → (t : List ℕ) × (name_at m n ≡ Some t) × (text_at shelf (strs.Pool k) ≡ Some t)
    its_text n k same lt =
        let t = texts.text_there m n is_module lt in
        (t.0, t.1, same ∙ (texts.same_text shelf i m n there ∙ t.1))

    its_name : (o op : Op) (n k : ℕ) → o ≡ op → text_at shelf (strs.Pool k) ≡ table_text shelf i n → Reads l at (instrs.Name op n) end
        → machine.item_of (length l.items) (resolved m (item l.offsets end (instrs.Name op n))) ≡ machine.Names o (text_of tables (strs.Pool k))
    its_name o op n k e same r =
        let t = its_text n k same (name_within op n r) in
        let shown_text : text_of tables (strs.Pool k) ≡ t.0 = ap (λ (f : StrNo → Option (List ℕ)). or_nothing (f (strs.Pool k))) of.texts ∙ ap or_nothing t.2 in
        ap (λ x. machine.item_of (length l.items) (unwrap_or (option_map (named op) x) (plain (instrs.Name op n)))) t.1
        ∙ (ap (λ z. machine.Names z t.0) (sym e) ∙ ap (machine.Names o) (sym shown_text))

    its_there : (op : Op) (n k : ℕ) → text_at shelf (strs.Pool k) ≡ table_text shelf i n → Reads l at (instrs.Name op n) end → IsSome (text_at shelf (strs.Pool k))
    its_there op n k same r = ap is_some (its_text n k same (name_within op n r)).2

    pub shows_name : (op : Op) (n k : ℕ) (result : Action) → IsNamed op k result → text_at shelf (strs.Pool k) ≡ table_text shelf i n → Reads l at (instrs.Name op n) end → S (instrs.Name op n) (fetched.acts result)
    shows_name op n k (actions.Stays (steps.Text s)) e same r = record {
      item_is = its_name ops.LoadConstString op n k e.0 same r ∙ ap (λ (z : StrNo). machine.Names ops.LoadConstString (text_of tables z)) (sym e.1);
      target = tt;
      local = tt;
      text = (k, e.1, ap (λ (z : StrNo). is_some (text_at shelf z)) e.1 ∙ its_there op n k same r);
      constant = tt;
    }
    shows_name op n k (actions.Stays (steps.Name o s)) e same r = record {
      item_is = its_name (name_op o) op n k e.0 same r ∙ ap (λ (z : StrNo). machine.Names (name_op o) (text_of tables z)) (sym e.1);
      target = tt;
      local = tt;
      text = (k, e.1, ap (λ (z : StrNo). is_some (text_at shelf z)) e.1 ∙ its_there op n k same r);
      constant = tt;
    }
    shows_name op n k (actions.Stays (steps.Attribute o s)) e same r = record {
      item_is = its_name (attribute_op o) op n k e.0 same r ∙ ap (λ (z : StrNo). machine.Names (attribute_op o) (text_of tables z)) (sym e.1);
      target = tt;
      local = tt;
      text = (k, e.1, ap (λ (z : StrNo). is_some (text_at shelf z)) e.1 ∙ its_there op n k same r);
      constant = tt;
    }
    shows_name op n k (actions.Imports j) e same r = record {
      item_is = its_name ops.ImportName op n k e.0 same r ∙ ap (λ (z : ℕ). machine.Names ops.ImportName (text_of tables (strs.Pool z))) (sym e.1);
      target = tt;
      local = tt;
      text = ap (λ (z : ℕ). is_some (text_at shelf (strs.Pool z))) e.1 ∙ its_there op n k same r;
      constant = tt;
    }
    shows_name op n k actions.Finishes e same r = absurd e
    shows_name op n k (actions.Stays (steps.Move o)) e same r = absurd e
    shows_name op n k (actions.Stays (steps.Int z)) e same r = absurd e
    shows_name op n k (actions.Stays (steps.Object x)) e same r = absurd e
    shows_name op n k (actions.Stays (steps.Local o j)) e same r = absurd e
    shows_name op n k (actions.Stays (steps.Item o)) e same r = absurd e
    shows_name op n k (actions.Stays (steps.Build o j)) e same r = absurd e
    shows_name op n k (actions.Stays (steps.Unary j)) e same r = absurd e
    shows_name op n k (actions.Stays (steps.Jump to)) e same r = absurd e
    shows_name op n k (actions.Stays (steps.Test o to)) e same r = absurd e
    shows_name op n k (actions.Stays (steps.Handle o to)) e same r = absurd e
    shows_name op n k (actions.Stays steps.Iterate) e same r = absurd e
    shows_name op n k (actions.Stays (steps.ForIter to)) e same r = absurd e
    shows_name op n k (actions.Stays (steps.Unwind to byte)) e same r = absurd e
    shows_name op n k (actions.Leaves o) e same r = absurd e
    shows_name op n k (actions.Makes o j) e same r = absurd e

    pub shows_number : (op : Op) (n : ℕ) (result : Instruction) → IsNumbered shelf i n op result → Reads l at (instrs.Num op n) end → S (instrs.Num op n) result
    shows_number op n result (local o) r =
        let k : Kept m row l = its_kept in
        let le = k.locals_fit (position_in l.offsets at) (items.Plain (instrs.Num (local_op o) n)) r.is in
        record { item_is = ap (machine.item_of (length l.items)) (local_item m o n); target = tt; local = local_fits o n row.locals le; text = tt; constant = tt }
    shows_number op n result (build o) r =
        record { item_is = ap (machine.item_of (length l.items)) (build_item m o n); target = tt; local = tt; text = tt; constant = tt }
    shows_number op n result (make o) r =
        record { item_is = ap (machine.item_of (length l.items)) (make_item m o n); target = tt; local = tt; text = tt; constant = tt }
    shows_number op n result (call o) r =
        record { item_is = ap (machine.item_of (length l.items)) (call_item m o n); target = tt; local = tt; text = tt; constant = tt }
    shows_number op n result (object x e) r =
        let c = at_index m.objects n (object_within n r) in
        let value : stepping.value_of tables x ≡ value_of c.0 =
        ap (λ (f : StrNo → Option (List ℕ)). plains.plain f tables.tuples x) of.texts
        ∙ (ap (λ (g : ConstNo → Option (List Value)). plains.plain (text_at shelf) g x) of.tuples ∙ plain_object shelf i m there n c.0 x is_module c.1 e) in
        record {
          item_is = ap (λ z. machine.item_of (length l.items) (unwrap_or (option_map (λ constant. Rattle.bc_rows.specs.mpy_tree.Resolved.object (value_of constant)) z) (plain (instrs.Num ops.LoadConstObj n)))) c.1
              ∙ ap machine.Loads (sym value);
          target = tt;
          local = tt;
          text = tt;
          constant = (i, n, e);
        }

    its_jump : (o op : Op) (offset : ℤ) (wide : Bool) (t to q : ℕ) → o ≡ op → t ≡ to → target l.offsets 0 (pos end +ℤ offset) ≡ Position q → position_in l.offsets to ≡ q
        → machine.item_of (length l.items) (resolved m (item l.offsets end (instrs.Jump op offset wide))) ≡ machine.Jumps o (position_in l.offsets t)
    its_jump o op offset wide t to q e same place lands =
        ap (λ z. machine.Jumps op (machine.position_of (length l.items) z)) place
        ∙ (ap (λ z. machine.Jumps z q) (sym e) ∙ (ap (machine.Jumps o) (sym lands) ∙ ap (λ (z : ℕ). machine.Jumps o (position_in l.offsets z)) (sym same)))

    pub shows_jump : (op : Op) (result : Step) (offset : ℤ) (wide : Bool) (to q : ℕ) → IsJumping op to result → target l.offsets 0 (pos end +ℤ offset) ≡ Position q → Starts l.offsets to × (position_in l.offsets to ≡ q)
        → S (instrs.Jump op offset wide) (fetched.stays result)
    shows_jump op (steps.Jump t) offset wide to q e place lands = record {
      item_is = its_jump ops.Jump op offset wide t to q e.0 e.1 place lands.1;
      target = subst (Starts l.offsets) (sym e.1) lands.0;
      local = tt;
      text = tt;
      constant = tt;
    }
    shows_jump op (steps.Test o t) offset wide to q e place lands = record {
      item_is = its_jump (test_op o) op offset wide t to q e.0 e.1 place lands.1;
      target = subst (Starts l.offsets) (sym e.1) lands.0;
      local = tt;
      text = tt;
      constant = tt;
    }
    shows_jump op (steps.Handle o t) offset wide to q e place lands = record {
      item_is = its_jump (handler_op o) op offset wide t to q e.0 e.1 place lands.1;
      target = subst (Starts l.offsets) (sym e.1) lands.0;
      local = tt;
      text = tt;
      constant = tt;
    }
    shows_jump op (steps.ForIter t) offset wide to q e place lands = record {
      item_is = its_jump ops.ForIter op offset wide t to q e.0 e.1 place lands.1;
      target = subst (Starts l.offsets) (sym e.1) lands.0;
      local = tt;
      text = tt;
      constant = tt;
    }
    shows_jump op (steps.Move o) offset wide to q e place lands = absurd e
    shows_jump op (steps.Int z) offset wide to q e place lands = absurd e
    shows_jump op (steps.Text s) offset wide to q e place lands = absurd e
    shows_jump op (steps.Object x) offset wide to q e place lands = absurd e
    shows_jump op (steps.Local o j) offset wide to q e place lands = absurd e
    shows_jump op (steps.Item o) offset wide to q e place lands = absurd e
    shows_jump op (steps.Build o j) offset wide to q e place lands = absurd e
    shows_jump op (steps.Name o s) offset wide to q e place lands = absurd e
    shows_jump op (steps.Attribute o s) offset wide to q e place lands = absurd e
    shows_jump op (steps.Unary j) offset wide to q e place lands = absurd e
    shows_jump op steps.Iterate offset wide to q e place lands = absurd e
    shows_jump op (steps.Unwind t byte) offset wide to q e place lands = absurd e

    pub shows_unwind : (offset : ℤ) (wide : Bool) (byte to q : ℕ) → target l.offsets 0 (pos (end - 1) +ℤ offset) ≡ Position q → Starts l.offsets to × (position_in l.offsets to ≡ q) → S (instrs.Unwind offset wide byte) (fetched.unwind to byte)
    shows_unwind offset wide byte to q place lands =
        record {
          item_is = ap (λ z. machine.Unwinds (machine.position_of (length l.items) z) byte) place ∙ ap (λ z. machine.Unwinds z byte) (sym lands.1);
          target = lands.0;
          local = tt;
          text = tt;
          constant = tt;
        }
