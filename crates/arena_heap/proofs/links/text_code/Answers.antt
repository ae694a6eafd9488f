use Rattle.std.proofs.Common.{ℕ, ◌+◌, drop, sym, ◌∙◌, ap, arith}
use Rattle.std.proofs.lemmas.List.{at_drop_more, at_drop_all}
use Rattle.arena_heap.specs.Links.{bytes_code}
use Rattle.arena_heap.proofs.links.text_code.Goals as goal

pub loop-byte-preserved : goal.loop-byte-preserved
loop-byte-preserved c = (
  ap (λ (code : ℕ). bytes_code code (drop (c.loop-byte.byte-index + 1) c.args.bytes.now)) c.code_after-code.ensures.code
      ∙ (sym (at_drop_more (bytes_code c.loop-byte.code) c.args.bytes.now c.loop-byte.byte-index _ c.loop-byte-test.true) ∙ c.loop-byte.invariant.0),
  c.code_after-code.ensures.small,
)

pub returns : goal.returns
returns c = sym (at_drop_all (bytes_code c.loop-byte.code) c.args.bytes.now c.loop-byte.byte-index (omega arith)) ∙ c.loop-byte.invariant.0
