-- The names of the files of tasks differ.
use Rattle.std.proofs.Common.{◌≡◌, ℕ, ◌<◌, ◌^◌, codes, decimal, sym, ap, ◌∙◌}
use Rattle.std.proofs.lemmas.Fmt.{decimal_is_IsNumeral}
use Rattle.std.proofs.lemmas.List.{append_cancel_right}
use Rattle.std.specs.Str.Parse.{digits_value}
use Rattle.board_files.specs.Files.{out_name}

pub same_task : (a b : ℕ) → a < 2 ^ 64 → b < 2 ^ 64 → out_name a ≡ out_name b → a ≡ b
unfolding out_name
same_task a b small_a small_b e =
    let digits : decimal a ≡ decimal b = append_cancel_right (decimal a) (decimal b) (codes ".out") e in
    sym (decimal_is_IsNumeral a small_a).1 ∙ (ap (digits_value 10) digits ∙ (decimal_is_IsNumeral b small_b).1)
