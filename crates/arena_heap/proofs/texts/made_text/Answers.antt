use Rattle.std.proofs.Common.{arith, ℕ, ◌+◌, ◌-◌, ◌<◌, ◌≡◌, List, sym, ◌∙◌, subst, take, drop}
use Rattle.std.proofs.Math.Path.{ap₂}
use Rattle.std.specs.List.{All}
use Rattle.qstr_pool.specs.mpy_base.World.{AText}
use Rattle.arena_heap.proofs.TupleSeen.{text_bytes, text_ascii}
use Rattle.arena_heap.proofs.Seen.{seen_within, seen_head}
use Rattle.arena_heap.proofs.texts.made_text.Goals as goal

pub text_span-span-requires-clause-within : goal.text_span-span-requires-clause-within
text_span-span-requires-clause-within c = seen_within c.arena.inside c.arena.view_is AText c.args.t.cell c.requires

pub text_span-span-requires-clause-text : goal.text_span-span-requires-clause-text
text_span-span-requires-clause-text c = seen_head c.arena.inside c.arena.view_is AText c.args.t.cell c.requires

pub returns-clause-bytes : goal.returns-clause-bytes
returns-clause-bytes c =
    let span = c.text_span-span.result in
    let len : span.start + span.len - span.start ≡ span.len = omega arith in
    ap₂ (λ (j : ℕ) (bs : List ℕ). take j (drop span.start bs)) len c.deref.ensures.value ∙ text_bytes c.arena.inside c.arena.invariant c.arena.view_is c.args.t.cell c.text_span-span.ensures

pub returns-clause-ascii : goal.returns-clause-ascii
returns-clause-ascii c = subst (All (λ (b : ℕ). b < 128)) (sym (returns-clause-bytes c)) (text_ascii c.arena.inside c.arena.invariant c.arena.view_is c.args.t.cell c.text_span-span.ensures)
