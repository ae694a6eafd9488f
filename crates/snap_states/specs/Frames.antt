-- A frame against the shapes of its code, in parts.
use Rattle.std.specs.Prelude.{◌≡◌, ℕ, Bool, true, false, List, length, reverse, drop, Option, Some, All, slice_get}
use Rattle.bc_library.specs.mpy_tree.bc_ops.declared.instr.Op.{Op}
use Rattle.bc_library.specs.mpy_tree.bc_ops.declared.instr.Op.TheVariants as ops
use Rattle.bc_library.specs.mpy_tree.bc_ops.declared.instr.Instr.TheVariants as instrs
use Rattle.bc_library.specs.mpy_tree.bc_ops.declared.listing.Item.{Item}
use Rattle.bc_library.specs.mpy_tree.bc_ops.declared.listing.Item.TheVariants as items
use Rattle.bc_library.specs.mpy_tree.Codes.{Placed}
use Rattle.bc_library.specs.bc_shapes.declared.kinds.Kind.{Kind}
use Rattle.bc_library.specs.bc_shapes.declared.shape.Entry.{Entry}
use Rattle.bc_library.specs.bc_shapes.Shape.{At}
use Rattle.bc_library.specs.bc_flow.Action.{action}
use Rattle.bc_library.specs.bc_flow.Machine.{Stack}
use Rattle.bc_library.specs.bc_flow.Verified.{Assigned, Holds, IsLeastOf, Reached, at}
use Rattle.bc_library.specs.bc_flow.Views.{table_of}
use Rattle.bc_library.specs.bc_verify.Body.{Says, body_of, flow_of}
use Rattle.bc_library.specs.Shelf.{Shelf}
use Rattle.bc_rows.specs.Codes.{code_numbered}
use Rattle.snap_grammar.specs.declared.parts.RolePart.{RolePart}
use Rattle.snap_grammar.specs.declared.parts.FramePart.{FramePart}
use Rattle.snap_grammar.specs.declared.parts.Snapshot.{Snapshot}
use Rattle.snap_states.specs.declared.shapes.Shapes.{Shapes}
use Rattle.snap_states.specs.Shapes.{JumpsLeadOn}
use Rattle.snap_states.specs.Fronts.{Lies}
use Rattle.snap_states.specs.States.{Waits, AreEntriesAt, IsNamespace, IsFineLocal, KeepsFine, IsFineRole}

-- a call
abbrev pub is_call_op : Op → Bool
is_call_op ops.CallFunction = true
is_call_op ops.CallMethod = true
is_call_op _ = false

abbrev pub is_call : Item → Bool
is_call (items.Plain (instrs.Num op n)) = is_call_op op
is_call _ = false

-- an import
abbrev pub is_import_op : Op → Bool
is_import_op ops.ImportName = true
is_import_op _ = false

abbrev pub is_import : Item → Bool
is_import (items.Plain (instrs.Name op n)) = is_import_op op
is_import _ = false

-- what holds of each position
abbrev pub assigned : Shapes → Assigned
assigned x = at (table_of x.states.items)

-- the shapes are the least of the code's
pub record AreShapes (shelf : Shelf) (m code : ℕ) (x : Shapes) : Type 0 where
  pub placed : Placed
  pub there : code_numbered shelf m code ≡ Some placed
  pub says : Says placed.bytes (body_of x.code) x.offsets.items
  pub holds : Holds (flow_of (body_of x.code)) (assigned x)
  pub least : IsLeastOf (flow_of (body_of x.code)) (assigned x)
  pub reached : Reached (flow_of (body_of x.code)) (table_of x.states.items)

-- the slots of the shape at an offset have these kinds, the topmost first
pub record HasKinds (x : Shapes) (offset : ℕ) (kinds : List Kind) : Type 0 where
  pub position : ℕ
  pub here : slice_get x.offsets.items position ≡ Some offset
  pub shape : At
  pub is : assigned x position ≡ Some shape
  pub slots : shape.slots ≡ kinds

module _ (shelf : Shelf) (s : Snapshot) where
  -- all of a frame but its slots
  pub record HasParts (f : FramePart) (locals : ℕ) (offsets : List ℕ) (entries : List Entry) : Type 0 where
    pub names : IsNamespace s f.names
    pub role : IsFineRole s f.role
    pub as_many_locals : length f.locals ≡ locals
    pub fine_locals : All (IsFineLocal shelf s) f.locals
    pub entries_at : AreEntriesAt offsets (reverse f.entries) entries
    pub kept : All (KeepsFine s) f.entries

  -- the slots of a frame, whose kept jumps lead on
  pub record HasStack (above : Option RolePart) (f : FramePart) (items : List Item) (offsets : List ℕ) (a : Assigned) (position : ℕ) (shape : At) : Type 0 where
    pub item : Item
    pub item_is : slice_get items position ≡ Some item
    pub taken : ℕ
    pub waits : Waits above item (action (length items) item) taken
    pub stack : Stack
    pub lies : Lies shelf s offsets (reverse f.slots) (drop taken shape.slots) stack
    pub jumps : JumpsLeadOn a shape.entries stack

  -- a frame where this shape holds at its position
  pub record FitsShape (above : Option RolePart) (f : FramePart) (x : Shapes) (position : ℕ) (shape : At) : Type 0 where
    pub parts : HasParts f (flow_of (body_of x.code)).locals x.offsets.items shape.entries
    pub stack : HasStack above f x.code.items.items x.offsets.items (assigned x) position shape

  -- a frame at an instruction of these shapes
  pub record StandsIn (above : Option RolePart) (f : FramePart) (x : Shapes) : Type 0 where
    pub position : ℕ
    pub here : slice_get x.offsets.items position ≡ Some f.at
    pub shape : At
    pub is : assigned x position ≡ Some shape
    pub fits : FitsShape above f x position shape
