use Rattle.std.proofs.Common.{◌≡◌, map, drop}
use Rattle.std.specs.Prelude.{bytes_eq}
use Rattle.std.specs.List.{position_from}
use Rattle.prim_calls.specs.Binding.{name_text}
use Rattle.prim_calls.proofs.keywords.place_of.Given as goal

-- the parameters that are left give the place
abbrev pub invariant-loop-at : goal.invariant-loop-at
invariant-loop-at g l =
    let texts = g.C.Constants.text_of l.consts in
    position_from (bytes_eq l.name) l.at (map (name_text texts) (drop l.at l.params)) ≡ position_from (bytes_eq l.name) 0 (map (name_text texts) l.params)
