use Rattle.std.proofs.Common.{◌≡◌, length, ap, refl, arith}
use Rattle.std.proofs.lemmas.Bool.Decides.{nat_tests}
use Rattle.std.proofs.lemmas.List.{nil_from_length}
use Rattle.std.proofs.lemmas.Result.{err_from_is_err_and}
use Rattle.mpy_reader.specs.Reading.{goes_on, file}
use Rattle.mpy_reader.proofs.Steps.{exit, onward_judged, judged, unjudged}
use Rattle.mpy_reader.proofs.file.file.Goals as goal

pub returns-in_err-raw : goal.returns-in_err-raw
unfolding file
returns-in_err-raw c =
    let p = err_from_is_err_and c.from_residual.result c.from_residual.ensures.1 in
    onward_judged _ _ _ _ _ (omega arith) (exit _ _ _ _ _ _ p.1 p.2 c.in_err-raw.ensures)

pub returns-then-bytes-gt-MAX_FILE_BYTES : goal.returns-then-bytes-gt-MAX_FILE_BYTES
unfolding file
returns-then-bytes-gt-MAX_FILE_BYTES c = unjudged (λ short. omega arith)

pub returns-then-not-is_empty : goal.returns-then-not-is_empty
unfolding file
returns-then-not-is_empty c =
    judged (omega arith) (goes_on (c.in_ok-raw.raw, c.in_ok-raw.rest.now) c.in_ok-raw.ensures
    (unjudged (λ e. let none : length c.in_ok-raw.rest.now ≡ 0 = ap length e in grind (arith, nat_tests))))

pub returns : goal.returns
unfolding file
returns c =
    judged (omega arith) (goes_on (c.in_ok-raw.raw, c.in_ok-raw.rest.now) c.in_ok-raw.ensures
    (judged (nil_from_length _ (grind (arith, nat_tests))) refl))
