use Rattle.std.proofs.Common.{Some, sym, ◌∙◌}
use Rattle.prim_outputs.specs.Ends.{plain_ends}
use Rattle.prim_outputs.proofs.Named.{sep_found, last_found}
use Rattle.prim_outputs.proofs.keywords.one_more.Goals as goal

pub returns-in-Ok-clause-found : goal.returns-in-Ok-clause-found
returns-in-Ok-clause-found g c =
    let ends = plain_ends (g.C.Constants.text_of c.args.consts.now) (g.C.Constants.items_of c.args.consts.now) c.args.arena.now c.args.given in
    sep_found ends _ _ c.in-Some.bytes.now _ _ c.in-Some.ensures.shown c.in-Some.ensures.spelled (sym c.is_named.ensures ∙ c.if-is_named.true) (c.in-Ok.ensures.found (λ bytes. record ends { sep = Some bytes }))

pub returns-in-Err-clause-found : goal.returns-in-Err-clause-found
returns-in-Err-clause-found g c =
    let ends = plain_ends (g.C.Constants.text_of c.args.consts.now) (g.C.Constants.items_of c.args.consts.now) c.args.arena.now c.args.given in
    sep_found ends _ _ c.in-Some.bytes.now _ _ c.in-Some.ensures.shown c.in-Some.ensures.spelled (sym c.is_named.ensures ∙ c.if-is_named.true) (c.in-Err.ensures.found (λ bytes. record ends { sep = Some bytes }))

pub returns-in-Ok-new_end-clause-found : goal.returns-in-Ok-new_end-clause-found
returns-in-Ok-new_end-clause-found g c =
    let ends = plain_ends (g.C.Constants.text_of c.args.consts.now) (g.C.Constants.items_of c.args.consts.now) c.args.arena.now c.args.given in
    last_found ends _ _ c.in-Some.bytes.now _ _ c.in-Some.ensures.shown c.in-Some.ensures.spelled (sym c.is_named.ensures ∙ c.if-is_named.false) (sym c.is_named-else-is_named.ensures ∙ c.if-is_named-2.true)
    (c.in-Ok-new_end.ensures.found (λ bytes. record ends { last = Some bytes }))

pub returns-in-Err-new_end-clause-found : goal.returns-in-Err-new_end-clause-found
returns-in-Err-new_end-clause-found g c =
    let ends = plain_ends (g.C.Constants.text_of c.args.consts.now) (g.C.Constants.items_of c.args.consts.now) c.args.arena.now c.args.given in
    last_found ends _ _ c.in-Some.bytes.now _ _ c.in-Some.ensures.shown c.in-Some.ensures.spelled (sym c.is_named.ensures ∙ c.if-is_named.false) (sym c.is_named-else-is_named.ensures ∙ c.if-is_named-2.true)
    (c.in-Err-new_end.ensures.found (λ bytes. record ends { last = Some bytes }))
