use Rattle.std.proofs.Common.{◌≤◌, length, ap, ◌∙◌, arith, w32}
use Rattle.std.proofs.lemmas.Int.{ints, to_z-of_z}
use Rattle.std.specs.Fmt.{signed_decimal}
use Rattle.mpy_writer.proofs.Objects.{few_digits}
use Rattle.mpy_writer.proofs.object.write_int.Goals as goal

few : (c : goal.After-len) → c.len.result ≤ 11
few c =
    let size = ap length (c.in_ok-digits.ensures.ok ∙ ap signed_decimal (to_z-of_z w32 c.args.n c.ranges.n)) in
    let digits = few_digits c.args.n (omega (arith, ints, c.ranges.n.sfits)) in
    omega (arith, c.len.ensures, size, digits)

pub overflow_cast-len : goal.overflow_cast-len
overflow_cast-len c = omega (arith, few c)

pub write_vuint-requires : goal.write_vuint-requires
write_vuint-requires c = omega (arith, few c)
