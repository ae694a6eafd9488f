-- Slots that have met others but for some.
use Rattle.std.specs.Prelude.{◌≡◌, ℕ, ◌<◌, Bool, List, length, Some, slice_index_or, ◌⊎◌}
use Rattle.std.specs.Bool.{OnTrue, OnFalse}
use Rattle.bc_shapes.specs.declared.kinds.Kind.{Kind}
use Rattle.bc_shapes.specs.declared.kinds.Kind.TheVariants.{Either}
use Rattle.bc_shapes.specs.Shape.{Belows, join_kind, opens}

-- slots `ms` that came of `ks`: each has met that of `ls`, but for some of `Left`, which are still to meet
pub record Partly (ks ls : List Kind) (Left : ℕ → Type 0) (ms : List Kind) (changed : Bool) : Type 0 where
  pub long : length ms ≡ length ks
  pub each : (k : ℕ) → k < length ks
      → (join_kind (slice_index_or ks k Either) (slice_index_or ls k Either) ≡ Some (slice_index_or ms k Either))
      ⊎ (Left k × (slice_index_or ms k Either ≡ slice_index_or ks k Either))
  pub up : Belows ks ms
  pub fewer : OnTrue changed (opens ms < opens ks)
  pub kept : OnFalse changed (ms ≡ ks)
