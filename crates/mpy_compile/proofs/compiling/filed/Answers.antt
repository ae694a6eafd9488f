use Rattle.std.proofs.Common.{◌≡◌, ◌∷◌, length, Some, slice_get, sym, ap, ◌∙◌, arith}
use Rattle.mpy_compile.proofs.Longs.{place_within}
use Rattle.mpy_compile.proofs.compiling.filed.Goals as goal

pub long_fault-requires : goal.long_fault-requires
long_fault-requires c =
    let passes = rw c.in-Ok-Some.field-0-is at c.in-Ok-Some.ensures.found in
    let within = place_within c.args.emitted.whole c.in-Ok-Some.at passes in
    let many = c.requires.lines in
    let same = ap length c.as_slice.ensures in
    omega (arith, within, many, same)

pub returns-in-Ok-Some : goal.returns-in-Ok-Some
returns-in-Ok-Some c = record {
  at = c.in-Ok-Some.at;
  passes = rw c.in-Ok-Some.field-0-is at c.in-Ok-Some.ensures.found;
  stands = ap (λ ls. slice_get (1 ∷ ls) c.in-Ok-Some.at) (sym c.as_slice.ensures) ∙ c.long_fault.ensures.stands;
  code = c.long_fault.ensures.code;
  word = c.long_fault.ensures.word;
}
