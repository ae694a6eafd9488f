use Rattle.std.proofs.Common.{◌∙◌, [], arith}
use Rattle.bc_refusals.proofs.Steps.{agree_end, agree_more, some_at, others_below, three_first, three_last, two_last}
use Rattle.bc_refusals.proofs.agreeing.agree.Goals as goal

pub returns-in-Some-false : goal.returns-in-Some-false
returns-in-Some-false c code k t long m =
    c.loop-k.invariant code k t long m ∙ agree_more t c.args.edges.now c.loop-k.k _ c.loop-k-test.true
    ∙ three_first _ _ _ (some_at c.in_ok-agrees.field-0 c.in-Some-false.field-0 _ c.in-Some-false.is (c.in_ok-agrees.ensures code k) t long m ∙ c.in-Some-false.field-0-test)

pub returns-then-not-others : goal.returns-then-not-others
returns-then-not-others c code k t long m =
    c.loop-k.invariant code k t long m ∙ agree_more t c.args.edges.now c.loop-k.k _ c.loop-k-test.true
    ∙ two_last _ _ _ (some_at c.in_ok-agrees.field-0 c.in-Some-true.field-0 _ c.in-Some-true.is (c.in_ok-agrees.ensures code k) t long m ∙ c.in-Some-true.field-0-test)
    (others_below (record { to = _; at = record { slots = []; entries = _ } }) _ c.below.result.now c.others.result _ c.below.ensures c.others.ensures c.if-not-others.true)

pub loop-k-preserved : goal.loop-k-preserved
loop-k-preserved c code k t long m =
    c.loop-k.invariant code k t long m ∙ agree_more t c.args.edges.now c.loop-k.k _ c.loop-k-test.true
    ∙ three_last _ _ _ (some_at c.in_ok-agrees.field-0 c.in-Some-true.field-0 _ c.in-Some-true.is (c.in_ok-agrees.ensures code k) t long m ∙ c.in-Some-true.field-0-test)
    (others_below (record { to = _; at = record { slots = []; entries = _ } }) _ c.below.result.now c.others.result _ c.below.ensures c.others.ensures c.if-not-others.false)

pub returns : goal.returns
returns c code k t long m = c.loop-k.invariant code k t long m ∙ agree_end t c.args.edges.now c.loop-k.k (omega (arith, c.loop-k-test.false))
