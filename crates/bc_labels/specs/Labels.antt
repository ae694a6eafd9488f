-- What a list of instructions with labels keeps.
use Rattle.std.specs.Prelude.{◌≡◌, ℕ, List, count_by, Bool, true, false, ◌==◌}
use Rattle.std.specs.List.{position_or_len}
use Rattle.bc_ops.specs.declared.form.Form.{Form}
use Rattle.bc_ops.specs.declared.form.Form.TheVariants as forms
use Rattle.bc_ops.specs.declared.instr.Op.{Op}
use Rattle.bc_ops.specs.declared.instr.Instr.{Instr}
use Rattle.bc_ops.specs.declared.instr.Instr.TheVariants as instrs
use Rattle.bc_ops.specs.Table.{code_of, form_of}
use Rattle.bc_ops.specs.Code.{is_signed, IsEncodable}
use Rattle.bc_labels.specs.declared.labelled.Labelled.{Labelled}
use Rattle.bc_labels.specs.declared.labelled.Labelled.TheVariants.{At, Plain, Jump, Unwind}

-- is the item this label?
abbrev pub is_label : ℕ → Labelled → Bool
is_label label (At other) = label == other
is_label label item = false

-- the item that the label is
abbrev pub label_item : List Labelled → ℕ → ℕ
label_item items label = position_or_len (is_label label) items

-- the item that a jump goes to, and 0 for an item that is no jump
abbrev pub target_of : List Labelled → Labelled → ℕ
target_of items (Jump op label) = label_item items label
target_of items (Unwind label byte) = label_item items label
target_of items item = 0

-- has the item an offset?
abbrev pub is_jump : Labelled → Bool
is_jump (Jump op label) = true
is_jump (Unwind label byte) = true
is_jump item = false

-- is that signed?
abbrev pub signed_of : Labelled → Bool
signed_of (Jump op label) = is_signed (form_of (code_of op))
signed_of item = true

-- the label stands exactly once
abbrev pub StandsOnce : List Labelled → ℕ → Type 0
StandsOnce items label = count_by (is_label label) items ≡ 1

-- the instruction has no offset
abbrev pub HasNoOffset : Instr → Type 0
HasNoOffset (instrs.Jump op offset wide) = ⊥
HasNoOffset (instrs.Unwind offset wide byte) = ⊥
HasNoOffset instr = Unit {0}

-- the operation of this form has an offset
abbrev pub HasOffset : Form → Op → Type 0
HasOffset (forms.Offset o signed) op = o ≡ op
HasOffset form op = ⊥

-- the item of the list may be laid out
abbrev pub IsSound : List Labelled → Labelled → Type 0
IsSound items (At label) = Unit {0}
IsSound items (Plain instr) = IsEncodable instr × HasNoOffset instr
IsSound items (Jump op label) = HasOffset (form_of (code_of op)) op × StandsOnce items label
IsSound items (Unwind label byte) = StandsOnce items label
