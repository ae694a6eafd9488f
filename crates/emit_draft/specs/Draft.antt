-- What each step of the making changes in a draft.
use Rattle.std.specs.Prelude.{◌≡◌, ℕ, ◌+◌, Bool, true, false, ◌||◌, List, [], ◌∷◌, ◌++◌, length, Option, Some, None, nat_eq, nat_lt, slice_set, if◌then◌else◌}
use Rattle.emit_measures.specs.bc_scheme.bc_ops.declared.instr.Op.{Op}
use Rattle.emit_measures.specs.bc_scheme.bc_ops.declared.instr.Instr.TheVariants.{Num}
use Rattle.emit_draft.specs.declared.draft.Draft.{Draft}
use Rattle.emit_draft.specs.declared.draft.DraftItem.{DraftItem}
use Rattle.emit_draft.specs.declared.draft.DraftItem.TheVariants.{Plain}

-- a position for each label that has one
abbrev pub Labels : Type 0
Labels = List (Option ℕ)

-- the line that an instruction gets: at level 3 each has line 1
abbrev pub shown : (level line : ℕ) → ℕ
shown level line = if nat_eq level 3 then 1 else line

-- the instruction stands at the end, and nothing else has changed
pub record Puts (a b : Draft) (line : ℕ) (item : DraftItem) : Type 0 where
  pub lines : b.lines ≡ a.lines ++ record { item = item; line = shown a.level line } ∷ []
  pub labels : b.labels.items ≡ a.labels.items
  pub level : b.level ≡ a.level
  pub crowded : b.crowded ≡ a.crowded

-- the label is new and free, and nothing else has changed
pub record Adds (a b : Draft) (label : ℕ) : Type 0 where
  pub number : label ≡ length a.labels.items
  pub labels : b.labels.items ≡ a.labels.items ++ None ∷ []
  pub lines : b.lines ≡ a.lines
  pub level : b.level ≡ a.level
  pub crowded : b.crowded ≡ a.crowded

-- the label has the position behind the last instruction, and nothing else has changed
pub record Binds (a b : Draft) (label : ℕ) : Type 0 where
  pub labels : b.labels.items ≡ slice_set a.labels.items label (Some (length a.lines))
  pub lines : b.lines ≡ a.lines
  pub level : b.level ≡ a.level
  pub crowded : b.crowded ≡ a.crowded

-- the instruction with its number stands at the end, or the draft is crowded
pub record PutsCount (a b : Draft) (line : ℕ) (op : Op) (passes : Bool) (number : ℕ) : Type 0 where
  pub within : passes ≡ false → b.lines ≡ a.lines ++ record { item = Plain (Num op number); line = shown a.level line } ∷ []
  pub past : passes ≡ true → b.lines ≡ a.lines
  pub labels : b.labels.items ≡ a.labels.items
  pub level : b.level ≡ a.level
  pub crowded : b.crowded ≡ (a.crowded || passes)

-- are there more than 4,096 items?
abbrev pub passes_items : ℕ → Bool
passes_items count = nat_lt 4096 count

-- are there more than 255 positional arguments, or keyword arguments?
abbrev pub passes_members : (args keys : ℕ) → Bool
passes_members args keys = nat_lt 255 args || nat_lt 255 keys
