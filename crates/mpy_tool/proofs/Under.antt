-- The library that a command lies over.
use Rattle.std.proofs.Common.{◌≡◌, ℕ, Option, Some, None, Result, Ok, Err, refl, sym, ap, subst, inl, inr}
use Rattle.std.specs.Prelude.{IfOk, IfSome}
use Rattle.mpy_base.specs.declared.refused.NoMemory.{NoMemory}
use Rattle.image_open.specs.image_grammar.bc_library.Shelf.{Shelf, names, no_entries}
use Rattle.image_open.specs.image_grammar.Base.{IsOpened, base_of}
use Rattle.meant_commands.specs.image_freeze.Fronts.{MayLieOver}
use Rattle.mpy_words.specs.declared.order.Command.{Command}
use Rattle.mpy_words.specs.declared.order.Command.TheVariants.{Go, Check, CheckAs, Dump, Cross, Merge, Freeze, Migrate, Run, Resume, Board, Stress}
use Rattle.mpy_tool.specs.Below.{MayLieBelow, image_version, library_below}
use Rattle.mpy_tool.specs.Order.{base_by}

pub is_opened : (below : Option Shelf) (base : Option ℕ) → MayLieBelow below base → IfSome below IsOpened
is_opened None base h = tt
is_opened (Some below) None h = absurd h
is_opened (Some below) (Some at) h = h

-- of a base, or of none
pub base_below : (below : Option Shelf) (library : Shelf) → below ≡ Some library → library ≡ library_below below
base_below below library e = sym (ap library_below e)

pub none_below : (below : Option Shelf) (r : Result Shelf NoMemory) → below ≡ None → IfOk r (λ l. l ≡ no_entries) → IfOk r (λ l. l ≡ library_below below)
none_below below r e h = subst (λ (b : Option Shelf). IfOk r (λ l. l ≡ library_below b)) (sym e) h

pub none_opened : (r : Result Shelf NoMemory) → IsOpened no_entries → IfOk r (λ l. l ≡ no_entries) → IfOk r IsOpened
none_opened (Ok l) is h = subst IsOpened (sym h) is
none_opened (Err e) is h = tt

-- the version goes with it
pub may_lie : (below : Option Shelf) (base : Option ℕ) (library : Shelf) → MayLieBelow below base → library ≡ library_below below → MayLieOver (base_of library) (image_version base)
may_lie None None library h e = inl (refl, ap (λ (s : Shelf). s.pool.texts) e, ap names e)
may_lie None (Some at) library h e = inr refl
may_lie (Some below) None library h e = absurd h
may_lie (Some below) (Some at) library h e = inr refl

-- a command that stands on a base has one that is ordered
pub base_there : (command : Command) (base : Option ℕ) (at : ℕ) (below : Shelf) → Some at ≡ base_by command base → IsOpened below → MayLieBelow (Some below) base
base_there Go base at below e is = absurd cc
base_there Check base at below e is = absurd cc
base_there CheckAs base at below e is = absurd cc
base_there Dump base at below e is = absurd cc
base_there Cross base at below e is = absurd cc
base_there Merge base at below e is = absurd cc
base_there Freeze base at below e is = subst (MayLieBelow (Some below)) e is
base_there Migrate base at below e is = absurd cc
base_there Run base at below e is = subst (MayLieBelow (Some below)) e is
base_there Resume base at below e is = subst (MayLieBelow (Some below)) e is
base_there Board base at below e is = subst (MayLieBelow (Some below)) e is
base_there Stress base at below e is = absurd cc
