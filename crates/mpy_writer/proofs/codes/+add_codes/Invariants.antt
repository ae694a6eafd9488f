use Rattle.std.proofs.Common.{◌≡◌, ◌-◌, ◌++◌, map, drop}
use Rattle.std.specs.List.{flat_map}
use Rattle.mpy_writer.specs.Codes.{codes_in}
use Rattle.mpy_writer.proofs.codes.+add_codes.Given as goal

abbrev pub decreases-add_codes : goal.decreases-add_codes
decreases-add_codes l = l.levels

abbrev pub invariant-loop-child : goal.invariant-loop-child
invariant-loop-child l =
    map (λ c. c.now) l.codes.items ++ flat_map (codes_in (l.levels - 1)) (drop l.child-index l.child-items) ≡ map (λ c. c.now) l.initial.codes.items ++ flat_map (codes_in (l.levels - 1)) l.child-items
