-- A code that may be written may be so by numbers.
use Rattle.std.proofs.Common.{ℕ, List, [], ◌∷◌, length, All}
use Rattle.std.specs.List.{AllByRecursion}
use Rattle.std.proofs.lemmas.List.Elements.{All-from_recursion, recursion_from_All}
use Rattle.mpy_tree.specs.bc_ops.declared.instr.Instr.{Instr}
use Rattle.mpy_tree.specs.bc_ops.declared.instr.Instr.TheVariants as instrs
use Rattle.bc_labels.specs.Labels.{HasNoOffset}
use Rattle.mpy_tree.specs.declared.module.Item.{Item}
use Rattle.mpy_tree.specs.declared.module.Item.TheVariants as items
use Rattle.mpy_tree.specs.declared.module.Code.{Code, out-Code}
use Rattle.mpy_writer.specs.Writable.{IsPlain, IsSoundItem, IsNumberedItem, IsSoundCode, IsNumberedCode}

no_offset : (instr : Instr) → IsPlain instr → HasNoOffset instr
no_offset (instrs.Jump op offset wide) h = absurd h
no_offset (instrs.Unwind offset wide byte) h = absurd h
no_offset instr h = tt

numbered_item : (count : ℕ) (item : Item) → IsSoundItem count item → IsNumberedItem count item
numbered_item count (items.Plain instr) h = (no_offset instr h.0, h.1)
numbered_item count (items.Named op text) h = h
numbered_item count (items.Object object) h = h
numbered_item count (items.Jump op position) h = h
numbered_item count (items.Unwind position byte) h = h

numbered_items : (count : ℕ) (xs : List Item) → AllByRecursion (IsSoundItem count) xs → AllByRecursion (IsNumberedItem count) xs
numbered_items count [] h = tt
numbered_items count (x ∷ xs) h = (numbered_item count x h.0, numbered_items count xs h.1)

pub numbered_code : (code : Code) → IsSoundCode code → IsNumberedCode code
numbered_code code sound =
    let xs = (out-Code code).instrs in
    let count = length xs in
    record {
      name = sound.name;
      args = sound.args;
      few_args = sound.few_args;
      defaults = sound.defaults;
      some_state = sound.some_state;
      few_state = sound.few_state;
      few_handlers = sound.few_handlers;
      instrs = All-from_recursion (IsNumberedItem count) xs (numbered_items count xs (recursion_from_All (IsSoundItem count) xs sound.instrs));
      a_line_each = sound.a_line_each;
      lines = sound.lines;
      few_children = sound.few_children;
    }

pub numbered_codes : (xs : List Code) → All IsSoundCode xs → All IsNumberedCode xs
numbered_codes xs h = All-from_recursion IsNumberedCode xs (each xs (recursion_from_All IsSoundCode xs h)) where
  each : (ys : List Code) → AllByRecursion IsSoundCode ys → AllByRecursion IsNumberedCode ys
  each [] h = tt
  each (y ∷ ys) h = (numbered_code y h.0, each ys h.1)
