use Rattle.std.proofs.Common.{ℕ, ◌+◌, ◌*◌, ◌≡◌, List, sym, ◌∙◌, subst, le_refl, arith}
use Rattle.arena_heap.specs.Cells.{part, texts_in, AreLinked}
use Rattle.arena_heap.proofs.KeyTexts.{texts_same, bytes_same}
use Rattle.arena_heap.proofs.LinkCells.{relinked_not, relinked_twice}
use Rattle.arena_heap.proofs.links.link_all.Goals as goal

pub loop-at-init : goal.loop-at-init
loop-at-init c =
    let cells = c.unlink.new.cells.items in (
      relinked_not c.args.region.start c.args.region.room cells,
      c.unlink.ensures.linked (texts_in cells c.args.bytes.now.items),
      le_refl _,
    )

pub link-requires-clause-inside : goal.link-requires-clause-inside
link-requires-clause-inside c = omega (arith, c.loop-at.invariant.0.same_length, c.unlink.ensures.relinked.same_length, c.requires.inside)

pub link-requires-clause-within : goal.link-requires-clause-within
link-requires-clause-within c = omega (arith, c.requires.within)

pub link-requires-clause-plain : goal.link-requires-clause-plain
link-requires-clause-plain c = λ k i. c.loop-at.invariant.0.same_heads k ∙ (c.unlink.ensures.relinked.same_heads k ∙ c.requires.plain k i)

pub link-requires-clause-bytes : goal.link-requires-clause-bytes
link-requires-clause-bytes c =
    bytes_same _ _ _ (λ k. c.loop-at.invariant.0.same_heads k ∙ c.unlink.ensures.relinked.same_heads k) c.requires.bytes

pub loop-at-preserved : goal.loop-at-preserved
loop-at-preserved c =
    let r = c.args.region in
    let now = c.loop-at.cells.items in
    let next = c.link.new.cells.items in
    let at : ℕ = c.loop-at.at in
    let same = texts_same _ now c.args.bytes.now.items c.loop-at.invariant.0.same_heads in (
      relinked_twice r.start r.room _ _ _ c.loop-at.invariant.0 c.link.ensures.relinked,
      subst (λ (texts : ℕ → List ℕ). AreLinked texts (part next r.start (3 * r.room)) r.room (at + 1)) same
          (c.link.ensures.linked (subst (λ (texts : ℕ → List ℕ). AreLinked texts (part now r.start (3 * r.room)) r.room at) (sym same) c.loop-at.invariant.1)),
      omega (arith, c.loop-at.invariant.2, c.link.ensures.capacity),
    )

pub returns-clause-linked : goal.returns-clause-linked
returns-clause-linked c =
    let r = c.args.region in
    let final = c.loop-at.cells.items in
    let all : c.loop-at.at ≡ r.len = omega arith in
    subst (λ (texts : ℕ → List ℕ). AreLinked texts (part final r.start (3 * r.room)) r.room r.len) (texts_same _ _ c.args.bytes.now.items c.unlink.ensures.relinked.same_heads)
    (subst (λ (len : ℕ). AreLinked (texts_in c.unlink.new.cells.items c.args.bytes.now.items) (part final r.start (3 * r.room)) r.room len) all c.loop-at.invariant.1)

pub returns-clause-relinked : goal.returns-clause-relinked
returns-clause-relinked c = relinked_twice c.args.region.start c.args.region.room _ _ _ c.unlink.ensures.relinked c.loop-at.invariant.0

pub returns-clause-capacity : goal.returns-clause-capacity
returns-clause-capacity c = omega (arith, c.loop-at.invariant.2, c.unlink.ensures.capacity)
