use Rattle.std.proofs.Common.{◌≤◌, length, refl, arith}
use Rattle.mpy_base.specs.declared.limits.TheConstants.{MAX_TABLE}
use Rattle.image_grammar.proofs.BaseTexts.{all_taken, next_taken, none_at, none_taken, taken_own}
use Rattle.image_grammar.proofs.base.copy_texts.Goals as goal

pub loop-place-init : goal.loop-place-init
loop-place-init c = none_taken c.args.lib.now.pool c.in_ok-pool.pool c.library_law.ensures.first c.in_ok-pool.ensures

pub returns-in_default-clause-copied : goal.returns-in_default-clause-copied
returns-in_default-clause-copied c =
    let all = c.args.lib.now.pool in
    let le = none_at all c.loop-place.place _ c.library_law.ensures.first refl c.in_default.ensures.text in
    all_taken all c.loop-place.pool c.loop-place.place le c.loop-place.invariant

pub returns-in_default-clause-own : goal.returns-in_default-clause-own
returns-in_default-clause-own c =
    let all = c.args.lib.now.pool in
    let le = none_at all c.loop-place.place _ c.library_law.ensures.first refl c.in_default.ensures.text in
    taken_own all c.loop-place.pool c.loop-place.place c.library_law.ensures.first c.library_law.ensures.one_number le c.loop-place.invariant

pub loop-place-preserved : goal.loop-place-preserved
loop-place-preserved c =
    next_taken c.args.lib.now.pool c.loop-place.pool c.intern.new.self c.loop-place.place _ c.in-Some.text.now c.library_law.ensures.first c.library_law.ensures.one_number refl c.in-Some.ensures.text
    (record { ascii = c.in-Some.ensures.ascii; short = c.in-Some.ensures.few }) c.in-Ok.ensures.texts c.loop-place.invariant

pub returns-clause-copied : goal.returns-clause-copied
returns-clause-copied c =
    let few = c.has_many_texts.ensures.few c.if-has_many_texts.false in
    all_taken c.args.lib.now.pool c.loop-place.pool c.loop-place.place (omega (arith, few, c.loop-place-test.false)) c.loop-place.invariant

pub returns-clause-own : goal.returns-clause-own
returns-clause-own c =
    let few = c.has_many_texts.ensures.few c.if-has_many_texts.false in
    taken_own c.args.lib.now.pool c.loop-place.pool c.loop-place.place c.library_law.ensures.first c.library_law.ensures.one_number (omega (arith, few, c.loop-place-test.false)) c.loop-place.invariant
