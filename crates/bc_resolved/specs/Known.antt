-- Trees whose instructions are those that a file has, and modules whose numbers lead to texts.
use Rattle.std.specs.Prelude.{◌≡◌, ℕ, ◌<◌, List, length, Some, slice_get}
use Rattle.bc_verify.specs.mpy_tree.Raw.{Module}
use Rattle.bc_verify.specs.mpy_tree.Resolved.{Resolved, Body, instrs_of, Tree, node, Trees, no_more, more, ResolvedModule, name_at}
use Rattle.bc_progress.specs.bc_machine.Library.{item_of}
use Rattle.bc_progress.specs.Plans.{IsKnown}

-- each instruction of the code is one that a file has
abbrev pub IsKnownBody : Body → Type 0
IsKnownBody body = (p : ℕ) (r : Resolved) → slice_get (instrs_of body) p ≡ Some r → IsKnown (item_of (length body.lines) r)

abbrev mutual
  pub AreKnownIn : Tree → Type 0
  AreKnownIn (node body trees) = IsKnownBody body × AreKnownAll trees

  pub AreKnownAll : Trees → Type 0
  AreKnownAll no_more = Unit {0}
  AreKnownAll (more tree trees) = AreKnownIn tree × AreKnownAll trees

-- each instruction of a module's tree is one that a file has
abbrev pub IsKnownTree : ResolvedModule → Type 0
IsKnownTree m = AreKnownIn m.code

-- every number of a text leads to one
abbrev pub HasTexts : Module → Type 0
HasTexts m = (n : ℕ) → n < length m.qstrs → (t : List ℕ) × (name_at m n ≡ Some t)
