use Rattle.std.proofs.Common.{◌≡◌, ℕ, ◌+◌, drop, length}
use Rattle.emit_measures.specs.Limits.{saturated}
use Rattle.emit_measures.proofs.Rows.{SoFar, Over}
use Rattle.emit_measures.proofs.PlainHeights.{tallest_in, pairs_in, links_in, row_in, keys_in}
use Rattle.emit_measures.proofs.expr_heights.+heights.Given as goal

abbrev pub invariant-tallest-loop-item : goal.invariant-tallest-loop-item
invariant-tallest-loop-item l = SoFar tallest_in l.items (drop l.item-index l.items) l.height

abbrev pub invariant-pairs_height-loop-key : goal.invariant-pairs_height-loop-key
invariant-pairs_height-loop-key l = SoFar pairs_in l.pairs (drop l.key-index l.pairs) l.height

abbrev pub invariant-links_height-loop-value : goal.invariant-links_height-loop-value
invariant-links_height-loop-value l = record {
  left : l.left + l.value-index ≡ length l.links;
  so_far : SoFar links_in l.links (drop l.value-index l.links) l.height;
}

abbrev pub invariant-row_height-loop-item : goal.invariant-row_height-loop-item
invariant-row_height-loop-item l = Over row_in l.fn.below l.items (drop l.item-index l.items) l.slots l.height

abbrev pub invariant-keys_height-loop-value : goal.invariant-keys_height-loop-value
invariant-keys_height-loop-value l = (n : ℕ) → l.fn.below ≡ saturated n → Over keys_in n l.keys (drop l.value-index l.keys) l.slots l.height
