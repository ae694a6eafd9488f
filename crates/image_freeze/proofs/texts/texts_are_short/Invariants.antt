use Rattle.std.proofs.Common.{◌≤◌, List, ℕ, All, length, drop, take}
use Rattle.mpy_base.specs.declared.limits.TheConstants.{MAX_IMAGE_BYTES}
use Rattle.image_freeze.proofs.texts.texts_are_short.Given as goal

abbrev pub invariant-loop-place : goal.invariant-loop-place
invariant-loop-place l = All (λ (text : List ℕ). length text ≤ MAX_IMAGE_BYTES) (take l.place (drop l.texts_below l.pool.texts))
