use Rattle.std.proofs.Common.{◌≡◌, ◌<◌, ◌≤◌, ◌+◌, ℕ, inl, inr, List, take, length, get_or, sym, ap, subst, ◌∙◌, arith, Some}
use Rattle.std.proofs.lemmas.Bool.{cases_lt}
use Rattle.py_tokens.specs.declared.token.Token.{Token}
use Rattle.py_nest.specs.Nest.{IsTooDeep, Levels, levels_of, behind, depth, effect_of}
use Rattle.py_nest.specs.declared.effect.Effect.{Effect}
use Rattle.py_nest.specs.declared.nest.TheConstants.{MAX_NEST}
use Rattle.py_nest.proofs.Shortest.{levels_more, nests_more, nests_all, one_line, not_too_deep, too_deep}
use Rattle.py_nest.proofs.nest.nest_fault.Goals as goal

stepped : (tokens : List Token) (i : ℕ) (token : Token) (effect : Effect) (old new : Levels) → i < length tokens → token ≡ get_or tokens i token
    → effect ≡ effect_of token.kind → old ≡ levels_of (take i tokens) → new ≡ behind effect old → new ≡ levels_of (take (i + 1) tokens)
stepped tokens i token effect old new lt is e o n =
    n ∙ ap (λ (q : Effect). behind q old) e ∙ ap (behind (effect_of token.kind)) o ∙ sym (levels_more tokens i token lt is)

not_more : {m n : ℕ} → (m < n → ⊥) → n ≤ m
not_more {m} {n} h = elim (cases_lt m n) [ inl w ↦ absurd (h w) | inr w ↦ w ]

pub returns-then-is_too_deep-clause-fault : goal.returns-then-is_too_deep-clause-fault
returns-then-is_too_deep-clause-fault c line =
    let seen = stepped c.args.tokens.now c.loop-token.token-index c.token-item.result c.effect_of.result c.loop-token.levels c.step.new.self
    c.loop-token-test.true c.token-item.is c.effect_of.ensures c.loop-token.invariant.seen c.step.ensures in
    let past : MAX_NEST < depth c.step.new.self = c.is_too_deep.ensures.0 c.if-is_too_deep.true in
    let deep = too_deep c.args.tokens.now c.loop-token.token-index c.token-item.result c.loop-token-test.true c.token-item.is
    c.loop-token.invariant.nests (subst (λ (q : Levels). MAX_NEST < depth q) seen past) in (
      λ e. subst (λ n. IsTooDeep c.args.tokens.now n) (let same : c.token-item.result.line ≡ line = cc in same) deep,
      λ other. ap (λ (n : ℕ). Some n) (one_line c.args.tokens.now c.token-item.result.line line deep other),
    )

pub loop-token-preserved : goal.loop-token-preserved
loop-token-preserved c =
    let seen = stepped c.args.tokens.now c.loop-token.token-index c.token-item.result c.effect_of.result c.loop-token.levels c.step.new.self
    c.loop-token-test.true c.token-item.is c.effect_of.ensures c.loop-token.invariant.seen c.step.ensures in
    let past = λ (p : MAX_NEST < depth c.step.new.self). let h = c.is_too_deep.ensures.1 p in let g = c.if-is_too_deep.false in let none : ⊥ = cc in none in
    let here = not_more past in
    record {
      seen = seen;
      nests = nests_more c.args.tokens.now c.loop-token.token-index c.loop-token.invariant.nests (subst (λ (q : Levels). depth q ≤ MAX_NEST) seen here);
    }

pub returns-clause-fault : goal.returns-clause-fault
returns-clause-fault c line = (
  λ e. absurd cc,
  λ deep. absurd (not_too_deep c.args.tokens.now line (nests_all c.args.tokens.now (λ count le. c.loop-token.invariant.nests count (omega arith))) deep),
)
