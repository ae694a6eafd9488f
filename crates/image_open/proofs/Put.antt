-- A module for which there is room goes in.
use Rattle.std.proofs.Common.{◌≡◌, ◌<◌, ◌≤◌, ℕ, List, length, Option, Some, None, arith}
use Rattle.std.specs.Prelude.{IsSome}
use Rattle.mpy_base.specs.declared.limits.TheConstants.{MAX_TABLE}
use Rattle.image_grammar.specs.mpy_tree.Raw.{Module}
use Rattle.image_grammar.specs.bc_library.declared.fault.LibFault.{LibFault}
use Rattle.image_grammar.specs.bc_library.declared.fault.LibFault.TheVariants.{Names, TooMany, Twice}
use Rattle.image_grammar.specs.bc_library.Shelf.{IsFull, Shelf, member_of, with_module}
use Rattle.image_grammar.proofs.bc_library_lemmas.Shelves.{not_there}

-- what a call tells that has a fault
pub record Tells (shelf : Shelf) (name : List ℕ) (m : Module) (told : Option LibFault) : Type 0 where
  pub twice : told ≡ Some Twice → IsSome (member_of shelf name)
  pub too_many : told ≡ Some TooMany → IsFull shelf
  pub names : told ≡ Some Names → MAX_TABLE < length (with_module shelf name m).pool.texts

pub none_told : (shelf : Shelf) (name : List ℕ) (m : Module) (told : Option LibFault) (f : LibFault) → Tells shelf name m told → member_of shelf name ≡ None → (IsFull shelf → ⊥) → length (with_module shelf name m).pool.texts ≤ MAX_TABLE → told ≡ Some f → ⊥
none_told shelf name m told Twice t new room fits e = not_there (member_of shelf name) new (t.twice e)
none_told shelf name m told TooMany t new room fits e = room (t.too_many e)
none_told shelf name m told Names t new room fits e = let past = t.names e in omega (arith, past, fits)
