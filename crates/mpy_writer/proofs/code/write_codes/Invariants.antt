use Rattle.std.proofs.Common.{◌≡◌, ◌≤◌, ◌++◌, ℕ, List, map, take, length, All}
use Rattle.std.specs.List.{AllZip}
use Rattle.mpy_base.specs.declared.limits.TheConstants.{MAX_CODE_BYTES}
use Rattle.mpy_writer.specs.File.{IsOwn, heads}
use Rattle.mpy_writer.proofs.code.write_codes.Given as goal

abbrev pub invariant-loop-i : goal.invariant-loop-i
invariant-loop-i l =
    (owns : List (List ℕ)) × AllZip (IsOwn l.tables) (take l.i (map (λ c. c.now) l.codes)) owns × All (λ own. length own ≤ MAX_CODE_BYTES) owns
    × (l.out.items ≡ l.initial.out.items ++ heads (take l.i (map (λ c. c.now) l.codes)) owns)
