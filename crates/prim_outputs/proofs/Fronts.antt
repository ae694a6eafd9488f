-- What stands between texts.
use Rattle.std.proofs.Common.{◌≡◌, ◌<◌, ℕ, zero, suc, List, refl, arith}
use Rattle.prim_outputs.specs.Prints.{in_front}

pub front_is : (sep : List ℕ) (at : ℕ) → 0 < at → sep ≡ in_front sep at
front_is sep zero lt = absurd (omega arith)
front_is sep (suc at) lt = refl
