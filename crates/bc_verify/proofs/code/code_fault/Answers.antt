use Rattle.std.proofs.Common.{◌∙◌, ap, sym, subst}
use Rattle.std.specs.Prelude.{IfNone, slice_index}
use Rattle.bc_verify.specs.Body.{Says, body_of}
use Rattle.bc_verify.specs.Rules.{KeepsAll}
use Rattle.bc_verify.specs.Verified.{IsFirstIn}
use Rattle.mpy_tree.specs.declared.raw.RawCode.{out-RawCode}
use Rattle.bc_verify.proofs.Bodies.{own_says}
use Rattle.bc_verify.proofs.Trees.{some_of}
use Rattle.bc_verify.proofs.code.code_fault.Goals as goal

pub read_code-requires-clause-says : goal.read_code-requires-clause-says
read_code-requires-clause-says c =
    let own = own_says (out-RawCode c.args.code.now).bytes c.requires.own.1 in
    (own.0, own.1, subst (λ z. Says z own.0 own.1) (sym c.bytes.ensures) own.2)

pub returns-in-None-clause-none : goal.returns-in-None-clause-none
returns-in-None-clause-none c =
    let d = c.in_ok-decoded.decoded in
    let keeps = subst (λ z. IfNone z (KeepsAll c.args.module.now c.len-children.result (body_of d.code))) c.in-None.is c.in_ok-first_in.ensures.keeps in
    record {
      body = body_of d.code;
      offsets = d.offsets.items;
      says = subst (λ z. Says z (body_of d.code) d.offsets.items) c.bytes.ensures c.in_ok-decoded.ensures;
      instructions = subst (λ n. KeepsAll c.args.module.now n (body_of d.code)) c.len-children.ensures keeps;
      flow = rw c.in-None.is at c.in_ok-first_in.ensures.verified;
    }

pub returns-clause-some : goal.returns-clause-some
returns-clause-some c =
    let d = c.in_ok-decoded.decoded in
    let b = c.in-Some.broken in
    record {
      body = body_of d.code;
      offsets = d.offsets.items;
      says = subst (λ z. Says z (body_of d.code) d.offsets.items) c.bytes.ensures c.in_ok-decoded.ensures;
      position = b.position;
      first = subst (λ n. IsFirstIn c.args.module.now n (body_of d.code) b.rule b.position) c.len-children.ensures
          (some_of c.in_ok-first_in.field-0 _ b c.in-Some.is c.in_ok-first_in.ensures.some);
      offset_is = c.offset_of.ensures ∙ ap (λ z. slice_index z b.position) c.deref.ensures.value;
    }
