use Rattle.std.proofs.Common.{◌≡◌, ℕ, take, drop, ap, subst, arith}
use Rattle.std.proofs.lemmas.List.{length-take-le}
use Rattle.std.proofs.lemmas.Result.{err_from_is_err_and}
use Rattle.bc_prelude.proofs.Indexes.{walked_within, walked_more, names_found, names_fault, name_refused, Walked}
use Rattle.bc_prelude.proofs.names.read_names.Goals as goal

pub read_name_at-requires-clause-at_in : goal.read_name_at-requires-clause-at_in
read_name_at-requires-clause-at_in c =
    let short = length-take-le c.args.end c.args.code.now c.requires.end_in in
    omega (arith, walked_within (take c.args.end c.args.code.now) c.args.at c.loop.counter c.loop.behind (omega (arith, short)) c.loop.invariant)

pub loop-preserved : goal.loop-preserved
loop-preserved c =
    let h = c.in_ok-next.ensures.found in
    walked_more (take c.args.end c.args.code.now) h.0 h.1 c.args.at c.loop.counter c.loop.behind c.in_ok-next.next _ c.loop.invariant h.2 h.3 h.4

pub returns-in_err-next : goal.returns-in_err-next
returns-in_err-next c =
    let p = err_from_is_err_and c.from_residual.result c.from_residual.ensures.1 in
    let h = c.in_err-next.ensures in
    let r = names_fault (take c.args.end c.args.code.now) c.args.at c.args.count c.loop.counter c.loop.behind c.in_err-next.field-0.0 c.loop.invariant (omega arith) (λ e. h.truncated.0 (ap name_refused e)) (λ e. h.too_big.0 (ap name_refused e)) (λ e. h.inside (ap name_refused e)) in
    rw (p.1, p.2) (record { found = tt; only = r.only; truncated = r.truncated; too_big = r.too_big; inside = λ e. h.inside cc })

pub returns : goal.returns
returns c =
    let counted : c.loop.counter ≡ c.args.count = omega arith in
    let w = subst (λ (k : ℕ). Walked (drop c.args.at (take c.args.end c.args.code.now)) c.args.at k c.loop.behind) counted c.loop.invariant in
    let r = names_found (drop c.args.at (take c.args.end c.args.code.now)) c.args.at c.args.count c.loop.behind w in
    record {
      found = (w.indexes, w.text, w.rest, w.names, w.count, w.bytes_are, w.place);
      only = r.only;
      truncated = r.truncated;
      too_big = r.too_big;
      inside = λ e. cc;
    }
