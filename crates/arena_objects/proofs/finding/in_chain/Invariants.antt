use Rattle.std.proofs.Common.{ℕ, suc, ◌≡◌, ◌≤◌, length}
use Rattle.py_values.specs.mpy_base.World.{pairs_at}
use Rattle.arena_heap.specs.Links.{IsLast, buckets_at}
use Rattle.arena_objects.specs.Found.{FirstFrom, HasKeyIn}
use Rattle.arena_objects.specs.PlainKeys.{plain}
use Rattle.arena_objects.proofs.finding.in_chain.Given as goal

abbrev pub invariant-loop-end : goal.invariant-loop-end
invariant-loop-end g l =
    (l.end ≤ length (pairs_at l.arena l.d.cell))
    × ((bucket : ℕ) → IsLast (buckets_at l.arena l.d.cell) bucket (length (pairs_at l.arena l.d.cell)) l.fn.last
    → ((at : ℕ) → l.end ≡ suc at → buckets_at l.arena l.d.cell at ≡ bucket)
    × FirstFrom (HasKeyIn (g.C.Constants.text_of l.consts) l.arena l.d.cell (plain l.sought) bucket) (length (pairs_at l.arena l.d.cell)) l.end l.found)

abbrev pub decreases-loop-end : goal.decreases-loop-end
decreases-loop-end g l = l.end
