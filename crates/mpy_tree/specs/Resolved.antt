-- Modules with texts, objects and positions in place of numbers and offsets. A number that leads to no text or object
-- stays, as does the offset of a jump to no instruction's start.
use Rattle.std.specs.Prelude.{◌≡◌, ℕ, List, [], ◌∷◌, map, Option, Some, slice_get, option_map, option_and_then, unwrap_or}
use Rattle.qstr_pool.specs.mpy_base.Val.{Val}
use Rattle.bc_ops.specs.declared.instr.Op.{Op}
use Rattle.bc_ops.specs.declared.instr.Op.TheVariants.{LoadConstObj}
use Rattle.bc_ops.specs.declared.instr.Instr.{Instr}
use Rattle.bc_ops.specs.declared.instr.Instr.TheVariants as instrs
use Rattle.bc_ops.specs.declared.listing.Target.{Target}
use Rattle.bc_ops.specs.declared.listing.Target.TheVariants.{Position}
use Rattle.bc_ops.specs.declared.listing.Item as listings
use Rattle.bc_ops.specs.declared.listing.Item.TheVariants as listed
use Rattle.bc_ops.specs.Listing as listing
use Rattle.bc_prelude.specs.declared.prelude.Prelude.{Prelude}
use Rattle.bc_prelude.specs.Prelude.{Begins}
use Rattle.bc_prelude.specs.Lines.{line_of}
use Rattle.mpy_tree.specs.declared.module.Item.{Item}
use Rattle.mpy_tree.specs.declared.module.Item.TheVariants as items
use Rattle.mpy_tree.specs.declared.module.Code.{Code, out-Code}
use Rattle.mpy_tree.specs.declared.module.ModuleCode.{ModuleCode}
use Rattle.mpy_tree.specs.declared.raw.RawCode.{RawCode, out-RawCode}
use Rattle.mpy_tree.specs.Raw.{Module, text_of}
use Rattle.mpy_tree.specs.File.{IsFile}
use Rattle.mpy_tree.specs.Values.{value_of}

-- an instruction
pub data Resolved : Type 0 where
  plain : Instr → Resolved
  named : Op → List ℕ → Resolved
  object : Val → Resolved
  jump : Op → Target → Resolved
  unwind : Target → ℕ → Resolved

-- an instruction with its line
pub record ResolvedLine : Type 0 where
  pub item : Resolved
  pub line : ℕ

-- instructions with their lines, one each
abbrev pub lines_of : List Resolved → List ℕ → List ResolvedLine
lines_of [] lines = []
lines_of (item ∷ items) [] = []
lines_of (item ∷ items) (line ∷ lines) = record { item = item; line = line } ∷ lines_of items lines

-- a code without its children
pub record Body : Type 0 where
  pub name : List ℕ
  pub args : List (List ℕ)
  pub defaults : ℕ
  pub n_state : ℕ
  pub n_exc : ℕ
  pub lines : List ResolvedLine

-- the instructions of a code
abbrev pub instrs_of : Body → List Resolved
instrs_of body = map (λ l. l.item) body.lines

-- the lines of its instructions, one each
abbrev pub line_numbers : Body → List ℕ
line_numbers body = map (λ l. l.line) body.lines

mutual
  -- a code with those in it
  pub data Tree : Type 0 where
    node : Body → Trees → Tree

  -- codes one behind the other
  pub data Trees : Type 0 where
    no_more : Trees
    more : Tree → Trees → Trees

-- the name of the source, and the outermost code
pub record ResolvedModule : Type 0 where
  pub source : List ℕ
  pub code : Tree

-- what a number of the module leads to
abbrev pub name_at : Module → ℕ → Option (List ℕ)
name_at m n = option_and_then text_of (slice_get m.qstrs n)

-- an instruction whose operand is the number of a text: with the text, where there is one
abbrev pub named_at : Module → Op → ℕ → Resolved
named_at m op n = unwrap_or (option_map (named op) (name_at m n)) (plain (instrs.Name op n))

-- the instruction that loads the object of a number: with its value, where there is one
abbrev pub object_at : Module → ℕ → Resolved
object_at m n =
    unwrap_or (option_map (λ constant. object (value_of constant)) (slice_get m.objects n)) (plain (instrs.Num LoadConstObj n))

-- an instruction with the text or the object that its number leads to
abbrev pub resolved_instr : Module → Instr → Resolved
resolved_instr m (instrs.Name op n) = named_at m op n
resolved_instr m (instrs.Num LoadConstObj n) = object_at m n
resolved_instr m instr = plain instr

-- an item of a code's list, whose jumps have their targets already, with the text or the object that its number leads to
abbrev pub resolved : Module → listings.Item → Resolved
resolved m (listed.Plain instr) = resolved_instr m instr
resolved m (listed.Jump op target) = jump op target
resolved m (listed.Unwind target byte) = unwind target byte

-- the code's own bytes with the trees texts and objects, and a line for each instruction
pub record IsBody (m : Module) (code : List ℕ) (body : Body) : Type 0 where
  pub prelude : Prelude
  pub begins : Begins code prelude
  pub names : map (name_at m) begins.indexes ≡ map Some (body.name ∷ body.args)
  pub defaults : body.defaults ≡ prelude.defaults
  pub n_state : body.n_state ≡ prelude.n_state
  pub n_exc : body.n_exc ≡ prelude.n_exc
  pub items : List listings.Item
  pub is_list : listing.IsListOf begins.instructions items
  pub instrs : instrs_of body ≡ map (resolved m) items
  pub lines : line_numbers body ≡ map (line_of begins.lines) (listing.starts 0 is_list.pieces)

abbrev mutual
  pub ResolvesCode : Module → Tree → RawCode → Type 0
  ResolvesCode m (node body children) code =
      IsBody m (out-RawCode code).bytes body × ResolveCodes m children (out-RawCode code).children

  pub ResolveCodes : Module → Trees → List RawCode → Type 0
  ResolveCodes m no_more codes = codes ≡ []
  ResolveCodes m (more tree trees) codes =
      (first : RawCode) × (others : List RawCode) × (codes ≡ first ∷ others) × ResolvesCode m tree first × ResolveCodes m trees others

-- the tree is what the numbers and offsets of the module lead to
pub record Resolves (m : Module) (tree : ResolvedModule) : Type 0 where
  pub source : name_at m 0 ≡ Some tree.source
  pub code : ResolvesCode m tree.code m.code

-- the bytes are a file of the module
abbrev pub Reads : List ℕ → ResolvedModule → Type 0
Reads bytes tree = (m : Module) × IsFile bytes m × Resolves m tree

-- the tree of a program among these
-- =================================

-- an instruction of a program that is to be written
abbrev pub resolved_item : Item → Resolved
resolved_item (items.Plain instr) = plain instr
resolved_item (items.Named op text) = named op text
resolved_item (items.Object constant) = object (value_of constant)
resolved_item (items.Jump op position) = jump op (Position position)
resolved_item (items.Unwind position byte) = unwind (Position position) byte

-- the body is that of the code of such a program
pub record IsBodyOf (code : Code) (body : Body) : Type 0 where
  pub name : body.name ≡ (out-Code code).name
  pub args : body.args ≡ (out-Code code).args
  pub defaults : body.defaults ≡ (out-Code code).defaults
  pub n_state : body.n_state ≡ (out-Code code).n_state
  pub n_exc : body.n_exc ≡ (out-Code code).n_exc
  pub instrs : instrs_of body ≡ map resolved_item (out-Code code).instrs
  pub lines : line_numbers body ≡ (out-Code code).lines

abbrev mutual
  pub IsTreeOf : Tree → Code → Type 0
  IsTreeOf (node body children) code = IsBodyOf code body × AreTreesOf children (out-Code code).children

  pub AreTreesOf : Trees → List Code → Type 0
  AreTreesOf no_more codes = codes ≡ []
  AreTreesOf (more tree trees) codes =
      (first : Code) × (others : List Code) × (codes ≡ first ∷ others) × IsTreeOf tree first × AreTreesOf trees others

-- the bytes are a file of the program's module
pub record ReadsAs (bytes : List ℕ) (written : ModuleCode) : Type 0 where
  pub tree : ResolvedModule
  pub reads : Reads bytes tree
  pub source : tree.source ≡ written.source
  pub code : IsTreeOf tree.code written.code
