use Rattle.std.proofs.Common.{◌≡◌, ℕ, pos, map, length, refl, sym, ◌∙◌, subst}
use Rattle.std.proofs.lemmas.List.{length-map}
use Rattle.mpy_base.specs.declared.builtin.Builtin.TheVariants as builtins
use Rattle.prim_builtins.specs.py_primitives.Calls.{Exactly}
use Rattle.prim_outputs.specs.PortCalls.{IsNumberAnswer}
use Rattle.prim_outputs.proofs.PortArguments.{counted_told}
use Rattle.prim_outputs.proofs.PortRefusals.{refusal_told}
use Rattle.prim_outputs.proofs.ports.call_port_count.Goals as goal

pub returns-in-Err-clause-told : goal.returns-in-Err-clause-told
returns-in-Err-clause-told g c contents tell =
    let texts = g.C.Constants.text_of c.args.consts.now in
    let tuples = g.C.Constants.items_of c.args.consts.now in
    refusal_told texts tuples c.args.arena.now c.args.args.now c.args.keys.now builtins.PortCount (Exactly 0) c.in-Err.fault c.in-Err.ensures.refused refl refl (map g.P.Port.seen c.args.ports.now) contents tell

pub returns-in-Err-clause-known : goal.returns-in-Err-clause-known
returns-in-Err-clause-known g c = c.in-Err.ensures.refused.known (g.C.Constants.text_of c.args.consts.now) (g.C.Constants.items_of c.args.consts.now) c.args.arena.now

pub returns-in-Ok-clause-told : goal.returns-in-Ok-clause-told
returns-in-Ok-clause-told g c contents tell =
    let texts = g.C.Constants.text_of c.args.consts.now in
    let tuples = g.C.Constants.items_of c.args.consts.now in
    let views = map g.P.Port.seen c.args.ports.now in
    let count : c.len.result ≡ length views = c.len.ensures ∙ sym (length-map c.args.ports.now g.P.Port.seen) in
    counted_told texts tuples c.args.arena.now views contents tell c.args.args.now c.args.keys.now c.count_value.result c.in-Ok.ensures.as_many c.in-Ok.ensures.no_keywords
    (subst (λ (k : ℕ). IsNumberAnswer (pos k) c.count_value.result) count c.count_value.ensures.counted)
