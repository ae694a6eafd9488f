use Rattle.std.proofs.Common.{◌≡◌, ◌+◌, ◌-◌, false, sym, ap, ◌∙◌, rules, arith}
use Rattle.std.proofs.lemmas.Grind.{common_steps}
use Rattle.py_expressions.specs.Alone.{operates}
use Rattle.py_expressions.specs.Input.{input_of, kind}
use Rattle.py_expressions.specs.Reading.{expr, chain, whole_chain, sum}
use Rattle.py_expressions.proofs.Alone.{sum_ends}
use Rattle.py_expressions.proofs.Levels.{sum_longer, sum_refused}
use Rattle.py_expressions.proofs.Turns.{one_more, no_more}
use Rattle.py_expressions.proofs.grammar.Grammar.+sum.Goals as goal

pub chain-loop-turn-init : goal.chain-loop-turn-init
unfolding whole_chain
chain-loop-turn-init g t c = first_of (search rules, grind (arith, common_steps))

pub chain-returns-in_default : goal.chain-returns-in_default
unfolding chain
chain-returns-in_default g t c =
    let e = one_more (λ n. chain (sum (expr c.args.self.now.depth) (c.args.level - 1)) c.args.level n c.loop-turn.left (input_of c.loop-turn.tokens)) _ c.loop-turn._turn c.loop-turn-test.true c.loop-turn.invariant in
    first_of (search rules, grind (arith, common_steps))

pub chain-returns-in_err-sum : goal.chain-returns-in_err-sum
unfolding chain
chain-returns-in_err-sum g t c =
    let e = one_more (λ n. chain (sum (expr c.args.self.now.depth) (c.args.level - 1)) c.args.level n c.loop-turn.left (input_of c.loop-turn.tokens)) _ c.loop-turn._turn c.loop-turn-test.true c.loop-turn.invariant in
    first_of (search rules, grind (arith, common_steps))

pub chain-loop-turn-preserved : goal.chain-loop-turn-preserved
unfolding chain
chain-loop-turn-preserved g t c =
    let e = one_more (λ n. chain (sum (expr c.args.self.now.depth) (c.args.level - 1)) c.args.level n c.loop-turn.left (input_of c.loop-turn.tokens)) _ c.loop-turn._turn c.loop-turn-test.true c.loop-turn.invariant in
    first_of (search rules, grind (arith, common_steps))

pub chain-returns : goal.chain-returns
unfolding chain
chain-returns g t c =
    let e = no_more (λ n. chain (sum (expr c.args.self.now.depth) (c.args.level - 1)) c.args.level n c.loop-turn.left (input_of c.loop-turn.tokens)) _ c.loop-turn._turn c.loop-turn-test.false c.loop-turn.invariant in
    first_of (search rules, grind (arith, common_steps))

pub sum-returns-in_err-found : goal.sum-returns-in_err-found
unfolding sum
sum-returns-in_err-found g t c =
    let refused = sum_refused (expr c.args.self.now.depth) (input_of c.args.tokens.now) 0 c.args.level in
    first_of (search rules, grind (arith, common_steps))

pub sum-returns-then-not-operates : goal.sum-returns-then-not-operates
sum-returns-then-not-operates g t c =
    let j = input_of c.factor.new.tokens in
    let ends : operates (kind (input_of c.factor.new.tokens)) ≡ false = ap operates (sym c.peek.ensures) ∙ (sym c.operates.ensures ∙ c.if-not-operates.true) in
    sum_ends (expr c.args.self.now.depth) (input_of c.args.tokens.now) c.args.level c.in_ok-found.found j c.in_ok-found.ensures ends

pub sum-loop-tighter-init : goal.sum-loop-tighter-init
unfolding sum
sum-loop-tighter-init g t c = first_of (search rules, grind (arith, common_steps))

pub sum-returns-in_err-found-2 : goal.sum-returns-in_err-found-2
sum-returns-in_err-found-2 g t c =
    let longer = sum_longer (expr c.args.self.now.depth) (input_of c.args.tokens.now) c.loop-tighter.tighter c.loop-tighter.found (input_of c.loop-tighter.tokens) c.loop-tighter.invariant.0 in
    let tighter : (c.loop-tighter.tighter + 1) - 1 ≡ c.loop-tighter.tighter = omega arith in
    let refused = sum_refused (expr c.args.self.now.depth) (input_of c.args.tokens.now) (c.loop-tighter.tighter + 1) c.args.level in
    first_of (search rules, grind (arith, common_steps))

pub sum-loop-tighter-preserved : goal.sum-loop-tighter-preserved
sum-loop-tighter-preserved g t c =
    let longer = sum_longer (expr c.args.self.now.depth) (input_of c.args.tokens.now) c.loop-tighter.tighter c.loop-tighter.found (input_of c.loop-tighter.tokens) c.loop-tighter.invariant.0 in
    let tighter : (c.loop-tighter.tighter + 1) - 1 ≡ c.loop-tighter.tighter = omega arith in
    first_of (search rules, grind (arith, common_steps))

pub sum-returns : goal.sum-returns
sum-returns g t c =
    let all : c.loop-tighter.tighter ≡ c.args.level = omega arith in
    first_of (search rules, grind (arith, common_steps))
