use Rattle.std.proofs.Common.{◌≡◌, ◌⊎◌, ◌<◌, ◌+◌, length, refl, sym, subst, inl, inr, arith}
use Rattle.bc_prelude.specs.Chain.{IsChain}
use Rattle.bc_prelude.specs.Signature.{flags_of, kwonly_of, IsBig, KeepsLimits, IsSignature}
use Rattle.bc_prelude.proofs.Chains.{parted}
use Rattle.bc_prelude.proofs.Signatures.{signature_big, signature_outside, signature_found}
use Rattle.bc_prelude.proofs.signature.read_signature.Goals as goal
use Rattle.bc_prelude.proofs.signature.read_signature.Goals.{then-parts-via-then-parts, then-parts-via-else-parts+then-parts-2, then-parts-via-else-parts+else-parts-2+then-parts-3, then-parts-gt0-via-then-parts-gt0, then-parts-gt0-via-else-parts-gt0+then-parts-gt0-2}

pub returns-then-parts : goal.returns-then-parts
returns-then-parts c =
    let text = c.split_at.result.0.now in
    let whole = parted c.args.code.now text c.split_at.result.1.now c.in-Some.end c.split_at.ensures.front c.split_at.ensures.back in
    let chain = subst IsChain (sym c.split_at.ensures.front) c.in-Some.ensures.found.1 in
    let big : IsBig text = elim c.then-parts.branch [
      | then-parts-via-then-parts w ↦ inl (omega arith)
      | then-parts-via-else-parts+then-parts-2 w ↦ inr (inl (omega arith))
      | then-parts-via-else-parts+else-parts-2+then-parts-3 w ↦ inr (inr (omega arith))
    ] in
    let r = signature_big c.args.code.now text c.split_at.result.1.now whole chain big in
    record { found = tt; only = r.only; truncated = r.truncated; too_big = r.too_big; outside = r.outside }

pub returns-then-parts-gt0 : goal.returns-then-parts-gt0
returns-then-parts-gt0 c =
    let text = c.split_at.result.0.now in
    let whole = parted c.args.code.now text c.split_at.result.1.now c.in-Some.end c.split_at.ensures.front c.split_at.ensures.back in
    let chain = subst IsChain (sym c.split_at.ensures.front) c.in-Some.ensures.found.1 in
    let small : KeepsLimits text = record { slots = omega arith; handlers = omega arith; arguments = omega arith } in
    let some : (0 < flags_of text) ⊎ (0 < kwonly_of text) = elim c.then-parts-gt0.branch [
      | then-parts-gt0-via-then-parts-gt0 w ↦ inl (omega arith)
      | then-parts-gt0-via-else-parts-gt0+then-parts-gt0-2 w ↦ inr (omega arith)
    ] in
    let r = signature_outside c.args.code.now text c.split_at.result.1.now whole chain small some in
    record { found = tt; only = r.only; truncated = r.truncated; too_big = r.too_big; outside = r.outside }

pub returns : goal.returns
returns c =
    let text = c.split_at.result.0.now in
    let whole = parted c.args.code.now text c.split_at.result.1.now c.in-Some.end c.split_at.ensures.front c.split_at.ensures.back in
    let chain = subst IsChain (sym c.split_at.ensures.front) c.in-Some.ensures.found.1 in
    let small : KeepsLimits text = record { slots = omega arith; handlers = omega arith; arguments = omega arith } in
    let is : IsSignature text (record { n_state = c.parts_of-parts.result.slots + 1; n_exc = c.parts_of-parts.result.handlers; flags = 0; args = c.parts_of-parts.result.arguments; kwonly = 0; defaults = c.min.result }) = record {
      chain = chain;
      small = small;
      no_flags = omega arith;
      no_kwonly = omega arith;
      n_state = omega arith;
      n_exc = omega arith;
      flags = refl;
      args = omega arith;
      kwonly = refl;
      defaults = omega arith;
    } in
    let taken : c.in-Some.end ≡ length text = sym c.split_at.ensures.front_len in
    let r = signature_found c.args.code.now text c.split_at.result.1.now _ c.in-Some.end whole is taken in
    record {
      found = (text, c.split_at.result.1.now, is, whole, taken);
      only = r.only;
      truncated = r.truncated;
      too_big = r.too_big;
      outside = r.outside;
    }
