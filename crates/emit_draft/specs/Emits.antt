-- What stands in the code that a draft becomes.
use Rattle.std.specs.Prelude.{◌≡◌, ℕ, suc, ◌<◌, ◌≤◌, Bool, false, ◌||◌, List, ◌++◌, length, map, Option, Some, None, slice_get}
use Rattle.mpy_base.specs.Val.{Str}
use Rattle.emit_measures.specs.bc_scheme.bc_machine.Library.{Item, Plain, Names, Loads, Jumps, Unwinds, Line}
use Rattle.emit_measures.specs.bc_scheme.Context.{Context, Has}
use Rattle.emit_draft.specs.declared.draft.Draft.{Draft}
use Rattle.emit_draft.specs.declared.draft.DraftItem.{DraftItem}
use Rattle.emit_draft.specs.declared.draft.DraftItem.TheVariants as drafts
use Rattle.emit_draft.specs.declared.draft.DraftLine.{DraftLine}
use Rattle.emit_draft.specs.declared.scope.Scope.{Scope}
use Rattle.emit_draft.specs.Draft.{Labels}

-- a label's position; 0 where it has none
abbrev pub position_in : Option (Option ℕ) → ℕ
position_in (Some (Some p)) = p
position_in (Some None) = 0
position_in None = 0

-- the position of the label `l`
abbrev pub label_at : Labels → ℕ → ℕ
label_at labels l = position_in (slice_get labels l)

-- an instruction whose labels are known
abbrev pub item_at : Labels → DraftItem → Item
item_at labels (drafts.Plain instr) = Plain instr
item_at labels (drafts.Named op text) = Names op text
item_at labels (drafts.Str text) = Loads (Str text)
item_at labels (drafts.Jump op l) = Jumps op (label_at labels l)
item_at labels (drafts.Unwind l byte) = Unwinds (label_at labels l) byte

-- the instruction with its line
abbrev pub line_at : Labels → DraftLine → Line
line_at labels l = record { item = item_at labels l.item; line = l.line }

-- the code's names are those of the scope
pub record Reads (c : Context) (s : Scope) : Type 0 where
  pub is_module : c.is_module ≡ s.is_module
  pub locals : c.locals ≡ s.locals

-- finished code: it begins with the draft's, the labels that the draft has bound stay, and nothing in it is crowded
pub record After (d : Draft) (s : Scope) (c : Context) (labels : Labels) : Type 0 where
  pub lines : (more : List Line) × (c.lines ≡ map (line_at labels) d.lines ++ more)
  pub bound : (l p : ℕ) → slice_get d.labels.items l ≡ Some (Some p) → slice_get labels l ≡ Some (Some p)
  pub level : c.level ≡ d.level
  pub reads : Reads c s
  pub roomy : d.crowded ≡ false

-- lines and labels were added, and of the old ones none has changed but for labels from k on that were free
pub record Grown (k : ℕ) (a b : Draft) : Type 0 where
  pub below : k ≤ length a.labels.items
  pub count : length a.labels.items ≤ length b.labels.items
  pub lines : (more : List DraftLine) × (b.lines ≡ a.lines ++ more)
  pub old : (l : ℕ) → l < k → slice_get b.labels.items l ≡ slice_get a.labels.items l
  pub bound : (l p : ℕ) → slice_get a.labels.items l ≡ Some (Some p) → slice_get b.labels.items l ≡ Some (Some p)
  pub level : b.level ≡ a.level
  pub roomy : b.crowded ≡ false → a.crowded ≡ false

-- From the end of one draft to that of another, P stands in the code that the second one becomes. It is crowded where the
-- first one was or something between them is; with the rest that is still to come, all that was to come
pub record Emits (k : ℕ) (a b : Draft) (s : Scope) (rest all : Bool) (P : Context → Labels → ℕ → ℕ → Type 0) : Type 0 where
  pub grown : Grown k a b
  pub crowded : (b.crowded || rest) ≡ (a.crowded || all)
  pub stands : (c : Context) (labels : Labels) → After b s c labels → P c labels (length a.lines) (length b.lines)

-- the code of one instruction
pub data IsPut (c : Context) (line p : ℕ) (item : Item) : (q : ℕ) → Type 0 where
  put : Has c line p item → IsPut c line p item (suc p)

-- the instruction is this one wherever the scope's names are read
pub record IsItem (s : Scope) (item : DraftItem) (of : Context → Item) : Type 0 where
  pub is : (c : Context) (labels : Labels) → Reads c s → item_at labels item ≡ of c
