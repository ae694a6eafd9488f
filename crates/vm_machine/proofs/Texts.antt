-- What every library has: texts by their numbers, and codes of few slots.
use Rattle.std.proofs.Common.{◌≡◌, ℕ, zero, suc, ◌≤◌, Some, refl, arith}
use Rattle.std.specs.Prelude.{codes}
use Rattle.state_steps.specs.prim_faults.arena_heap.declared.value.StrNo.TheVariants as strs
use Rattle.state_steps.specs.bc_prelude.declared.prelude.Prelude.{Prelude}
use Rattle.bc_library.specs.Constants.{text_at}
use Rattle.bc_library.specs.Greatest.{ShelfHas, IsGreatestIn}
use Rattle.bc_library.specs.Shelf.{Shelf}
use Rattle.bc_library.specs.Texts.{text_numbered}

pub main_text : (shelf : Shelf) → text_at shelf (strs.Pool 21) ≡ Some (codes "__main__")
unfolding text_numbered
main_text shelf = refl

pub name_text : (shelf : Shelf) → text_at shelf (strs.Pool 23) ≡ Some (codes "__name__")
unfolding text_numbered
name_text shelf = refl

prelude_few : (shelf : Shelf) (p : Prelude) → ShelfHas shelf p → p.n_state ≤ 4096
prelude_few shelf p h = let s = h.has.begins.is_signature in omega (arith, s.n_state, s.small.slots)

pub few_slots : (shelf : Shelf) (n_state n_exc : ℕ) → IsGreatestIn (ShelfHas shelf) n_state n_exc → n_state ≤ 4096
few_slots shelf zero n_exc g = omega arith
few_slots shelf (suc n) n_exc g = let f = g.some_state (omega arith) in let few = prelude_few shelf f.0 f.1 in omega (arith, few, f.2)
