use Rattle.std.proofs.Common.{◌≡◌, ◌≤◌, Bool, List, length}
use Rattle.std.specs.Prelude.{◌||◌}
use Rattle.bc_shapes.specs.declared.kinds.Kind.{Kind}
use Rattle.bc_shapes.specs.Partly.{Partly}
use Rattle.bc_shapes.specs.Spans.{SameOutside}
use Rattle.bc_shapes.specs.Views.{slots_of_rust}
use Rattle.bc_shapes.proofs.joining.join_run.Given as goal

abbrev pub invariant-loop-i : goal.invariant-loop-i
invariant-loop-i l = record {
  each : (ks : List Kind) (b : Bool) → Partly ks (slots_of_rust l.arriving) (λ k. l.from ≤ k) l.initial.slots.items b → Partly ks (slots_of_rust l.arriving) (λ k. l.i ≤ k) l.slots.items (b || l.changed);
  long : length l.slots.items ≡ length l.initial.slots.items;
  same : (ks : List Kind) → SameOutside l.initial.span ks l.initial.slots.items → SameOutside l.span ks l.slots.items;
}
