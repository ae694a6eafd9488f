-- Texts that every library has.
use Rattle.std.proofs.Common.{◌≡◌, Some, refl}
use Rattle.std.specs.Prelude.{codes}
use Rattle.frame_calls.specs.arena_heap.declared.value.StrNo.TheVariants as strs
use Rattle.vm_states.specs.bc_library.Shelf.{Shelf}
use Rattle.vm_states.specs.bc_library.Constants.{text_at}
use Rattle.vm_states.specs.bc_library.Texts.{text_numbered}

pub main_text : (shelf : Shelf) → text_at shelf (strs.Pool 21) ≡ Some (codes "__main__")
unfolding text_numbered
main_text shelf = refl

pub name_text : (shelf : Shelf) → text_at shelf (strs.Pool 23) ≡ Some (codes "__name__")
unfolding text_numbered
name_text shelf = refl
