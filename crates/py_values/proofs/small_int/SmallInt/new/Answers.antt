use Rattle.std.proofs.Common.{◌≡◌, arith, ap, ◌∙◌, w32, w64, SFits, to_z, of_z, ℤ}
use Rattle.std.proofs.lemmas.Int.{ints}
use Rattle.std.specs.Result.{result_ok}
use Rattle.py_values.specs.Small.{checked}
use Rattle.py_values.proofs.Range.{checked_ok}
use Rattle.py_values.proofs.small_int.SmallInt.new.Goals as goal

widened : (n m : ℤ) → SFits w32 n → m ≡ to_z w32 (of_z w32 n) → to_z w64 (of_z w64 m) ≡ n
widened n m f e = omega (arith, ints)

pub returns : goal.returns
returns c =
    c.ok.ensures.value ∙ ap result_ok (c.checked.ensures ∙ ap checked (widened c.args.n c.from.result c.ranges.n c.from.ensures)) ∙ checked_ok c.args.n
