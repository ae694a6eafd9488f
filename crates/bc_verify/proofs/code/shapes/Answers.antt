use Rattle.std.proofs.Common.{◌≡◌, sym, subst}
use Rattle.mpy_tree.specs.declared.raw.RawCode.{out-RawCode}
use Rattle.bc_refusals.specs.bc_flow.Verified as flow
use Rattle.bc_verify.specs.Body.{Says, body_of, flow_of}
use Rattle.bc_verify.proofs.Bodies.{one_body}
use Rattle.bc_verify.proofs.code.shapes.Goals as goal

pub read_code-requires-clause-says : goal.read_code-requires-clause-says
read_code-requires-clause-says c =
    let v = c.requires.verified.1 in
    (v.body, v.offsets, subst (λ z. Says z v.body v.offsets) (sym c.bytes.ensures) v.says)

pub unreachable-requires : goal.unreachable-requires
unreachable-requires c =
    let v = c.requires.verified.1 in
    let d = c.in_ok-decoded.decoded in
    let says = subst (λ z. Says z (body_of d.code) d.offsets.items) c.bytes.ensures c.in_ok-decoded.ensures in
    let same : v.body ≡ body_of d.code = (one_body (out-RawCode c.args.code.now).bytes v.body (body_of d.code) v.offsets d.offsets.items v.says says).0 in
    let none : flow.Verified (flow_of (body_of d.code)) → ⊥ = rw c.in-Err.is at c.in_ok-states.ensures.none in
    none (subst (λ b. flow.Verified (flow_of b)) same v.flow)

pub returns : goal.returns
returns c =
    let d = c.in_ok-decoded.decoded in
    record {
      body = body_of d.code;
      offsets = d.offsets.items;
      says = subst (λ z. Says z (body_of d.code) d.offsets.items) c.bytes.ensures c.in_ok-decoded.ensures;
      holds = rw c.in-Ok.is at c.in_ok-states.ensures.holds;
      least = rw c.in-Ok.is at c.in_ok-states.ensures.least;
      reached = rw c.in-Ok.is at c.in_ok-states.ensures.reached;
    }
