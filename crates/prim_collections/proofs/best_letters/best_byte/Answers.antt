use Rattle.std.proofs.Common.{ℕ, ◌<◌, length, get_or, ◌∙◌, arith}
use Rattle.std.specs.Ordering.{nat_cmp}
use Rattle.prim_builtins.specs.py_primitives.Order.{has_sign}
use Rattle.prim_collections.specs.Best.{plain_extreme}
use Rattle.prim_collections.proofs.BestSteps.{chosen_one}
use Rattle.prim_collections.proofs.LetterOrders.{letters_begin, letter_answer, letters_end}
use Rattle.prim_collections.proofs.best_letters.best_byte.Goals as goal

pub loop-at-init : goal.loop-at-init
loop-at-init c =
    let sign = plain_extreme c.args.extreme in
    let bytes = c.args.bytes.now in
    (λ heap. letters_begin heap sign bytes c.requires.some, c.requires.ascii 0 0 c.requires.some)

pub loop-at-preserved : goal.loop-at-preserved
loop-at-preserved c =
    let sign = plain_extreme c.args.extreme in
    let bytes = c.args.bytes.now in
    let at = c.loop-at.at in
    let lt : at < length bytes = omega (arith, c.loop-at-test.true) in
    let below = c.requires.ascii at 0 lt in (
      λ heap. c.loop-at.invariant.0 heap ∙ letter_answer heap sign bytes at c.loop-at.best c.better_byte-best.result lt c.better_byte-best.ensures,
      chosen_one (λ (b : ℕ). b < 128) (has_sign sign (nat_cmp (get_or bytes at 0) c.loop-at.best)) (get_or bytes at 0) c.loop-at.best c.better_byte-best.result c.better_byte-best.ensures below c.loop-at.invariant.1,
    )

pub returns-clause-answer : goal.returns-clause-answer
returns-clause-answer c =
    let sign = plain_extreme c.args.extreme in
    let bytes = c.args.bytes.now in
    λ heap. c.loop-at.invariant.0 heap ∙ letters_end heap sign bytes c.loop-at.at c.loop-at.best (omega (arith, c.loop-at-test.false))
