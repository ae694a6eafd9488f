use Rattle.std.proofs.Common.{◌≡◌, ℕ, List, take, Some}
use Rattle.std.specs.Prelude.{position, slice_get}
use Rattle.std.specs.Option.{option_map, option_or}
use Rattle.bc_library.specs.Shelf.{Named}
use Rattle.bc_library.specs.Constants.{constants_of, numbered}
use Rattle.snap_states.specs.Decoded.{is_str}
use Rattle.snap_loading.specs.Texts.{beside}
use Rattle.snap_loading.proofs.strs.add_module.Given as goal

abbrev pub invariant-loop-object : goal.invariant-loop-object
invariant-loop-object l =
    (n : Named) → slice_get l.library.modules l.module_number ≡ Some n → (other : List ℕ)
    → beside l.strs.entries other ≡ option_or (beside l.initial.strs.entries other) (option_map (numbered l.module_number) (position (is_str other) (take l.object (constants_of n.held))))
