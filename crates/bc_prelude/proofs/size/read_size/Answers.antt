use Rattle.std.proofs.Common.{◌≡◌, length, drop, refl, sym, subst, ◌∙◌, arith}
use Rattle.bc_prelude.specs.Chain.{IsChain}
use Rattle.bc_prelude.specs.Size.{IsSize}
use Rattle.bc_prelude.proofs.Chains.{parted, some_byte}
use Rattle.bc_prelude.proofs.Sizes.{size_cells, size_short, size_found}
use Rattle.bc_prelude.proofs.size.read_size.Goals as goal

pub returns-then-number-gt0 : goal.returns-then-number-gt0
returns-then-number-gt0 c =
    let text = c.split_at-2.result.0.now in
    let rest = c.split_at-2.result.1.now in
    let whole = sym c.split_at.ensures.back ∙ parted c.split_at.result.1.now text rest c.in-Some.end c.split_at-2.ensures.front c.split_at-2.ensures.back in
    let chain = subst IsChain (sym c.split_at-2.ensures.front) c.in-Some.ensures.found.1 in
    let r = size_cells (drop c.args.at c.args.code.now) text rest c.args.at whole chain (omega arith) in
    record { found = tt; only = r.only; truncated = r.truncated; outside = r.outside; any_size = λ e. cc }

pub returns-then-size-rest : goal.returns-then-size-rest
returns-then-size-rest c =
    let text = c.split_at-2.result.0.now in
    let rest = c.split_at-2.result.1.now in
    let whole = sym c.split_at.ensures.back ∙ parted c.split_at.result.1.now text rest c.in-Some.end c.split_at-2.ensures.front c.split_at-2.ensures.back in
    let chain = subst IsChain (sym c.split_at-2.ensures.front) c.in-Some.ensures.found.1 in
    let is : IsSize text _ = record { chain = chain; no_cells = omega arith; size_is = refl } in
    let r = size_short (drop c.args.at c.args.code.now) text rest _ c.args.at whole is (omega arith) in
    record { found = tt; only = r.only; truncated = r.truncated; outside = r.outside; any_size = λ e. cc }

pub returns : goal.returns
returns c =
    let text = c.split_at-2.result.0.now in
    let rest = c.split_at-2.result.1.now in
    let whole = sym c.split_at.ensures.back ∙ parted c.split_at.result.1.now text rest c.in-Some.end c.split_at-2.ensures.front c.split_at-2.ensures.back in
    let chain = subst IsChain (sym c.split_at-2.ensures.front) c.in-Some.ensures.found.1 in
    let some = some_byte text chain in
    let is : IsSize text c.number-size.result = record { chain = chain; no_cells = omega arith; size_is = omega arith } in
    let taken : c.in-Some.end ≡ length text = sym c.split_at-2.ensures.front_len in
    let r = size_found (drop c.args.at c.args.code.now) text rest c.number-size.result c.args.at c.in-Some.end whole is (omega arith) taken in
    record {
      found = (text, rest, is, whole, omega arith, omega arith);
      only = r.only;
      truncated = r.truncated;
      outside = r.outside;
      any_size = λ e. cc;
    }
