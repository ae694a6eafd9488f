-- The limits of the texts of a source.
use Rattle.std.proofs.Common.{ℕ, List, [], ◌∷◌}
use Rattle.py_meaning.specs.py_tree.declared.stmt.Module.{Module}
use Rattle.emit_measures.specs.bc_scheme.py_meaning.Tree.{Name, Function, functions}
use Rattle.emit_measures.specs.bc_scheme.py_meaning.Plain.{plain_tree}
use Rattle.emit_measures.specs.bc_scheme.py_meaning.Program.{Text, source_texts, function_text, function_texts}
use Rattle.emit_measures.specs.py_scopes.Scopes.{slots_of}
use Rattle.emit_measures.specs.bc_scheme.py_meaning.Params.{HasSlots, AllHaveSlots}
use Rattle.tr_source.specs.Limits.{IsLimited, AllLimited}
use Rattle.tr_source.specs.Within.{IsWithin, AllWithin}
use Rattle.tr_source.specs.Accepted.{source_of}
use Rattle.tr_source.proofs.Widths.{block_wide}

limited : (text : Text) → IsWithin text → HasSlots text → IsLimited text
limited text h slots = record { slots = slots; held = h.entries; tall = h.slots; wide = block_wide text.level text.body h.arguments h.pairs }

pub all_limited : (texts : List Text) → AllWithin texts → AllHaveSlots texts → AllLimited texts
all_limited [] h slots = tt
all_limited (text ∷ texts) h slots = (limited text h.0 slots.0, all_limited texts h.1 slots.1)

module _ (level : ℕ) (tree : Module) (f g : Name) (b c : ℕ) where
  one_named : (locals : List Name) (fn : Function) → IsWithin (function_text f (source_of f level tree) b locals fn) → IsWithin (function_text g (source_of g level tree) c locals fn)
  one_named locals fn h = record { slots = h.slots; entries = h.entries; params = h.params; arguments = h.arguments; pairs = h.pairs }

  all_named : (fns : List Function) (tables : List (List Name)) → AllWithin (function_texts f (source_of f level tree) b fns tables) → AllWithin (function_texts g (source_of g level tree) c fns tables)
  all_named [] tables h = tt
  all_named (fn ∷ fns) [] h = (one_named [] fn h.0, all_named fns [] h.1)
  all_named (fn ∷ fns) (locals ∷ tables) h = (one_named locals fn h.0, all_named fns tables h.1)

  pub under_name : AllWithin (source_texts f (source_of f level tree) b) → AllWithin (source_texts g (source_of g level tree) c)
  under_name h = (
    record { slots = h.0.slots; entries = h.0.entries; params = h.0.params; arguments = h.0.arguments; pairs = h.0.pairs },
    all_named (functions (plain_tree tree)) (slots_of tree) h.1,
  )
