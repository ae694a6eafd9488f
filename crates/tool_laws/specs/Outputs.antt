-- What calls of a command print.
use Rattle.std.specs.Prelude.{List, ℕ, Option}
use Rattle.std.specs.Io.KnownBytes.{Appends}

-- one text was put behind what was printed before each of two calls
pub record PrintOne (before behind printed after : Option (List ℕ)) : Type 0 where
  pub text : List ℕ
  pub one : Appends before behind text
  pub other : Appends printed after text
