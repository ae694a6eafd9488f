use Rattle.std.proofs.Common.{◌≡◌, ◌≤◌, ◌++◌, ◌∷◌, [], ℕ, List, length, map, take, get_or, refl, sym, ap, subst, ◌∙◌, append_assoc, arith}
use Rattle.std.specs.Prelude.{IfSome}
use Rattle.std.proofs.lemmas.Result.{err_from_is_err_and}
use Rattle.std.proofs.lemmas.List.Elements.{All-push}
use Rattle.mpy_base.specs.declared.limits.TheConstants.{MAX_CODE_BYTES}
use Rattle.mpy_tree.specs.declared.module.Code.{Code}
use Rattle.mpy_writer.specs.declared.fault.WriteFault.TheVariants.{TooBig}
use Rattle.mpy_writer.specs.File.{labelled, IsOwn, IsBig, SomeBig, head_bytes, heads}
use Rattle.mpy_writer.specs.Layouts.{IsLaidOut}
use Rattle.mpy_writer.specs.Writable.{IsNumberedCode}
use Rattle.mpy_writer.proofs.Lists.{seen, seen_there, take_seen, zip_seen, zip_seen_at, as_long}
use Rattle.mpy_writer.proofs.Raws.{heads_more}
use Rattle.mpy_writer.proofs.Steps.{exit}
use Rattle.mpy_writer.proofs.code.write_codes.Goals as goal

pub unwrap-layout-requires : goal.unwrap-layout-requires
unwrap-layout-requires c =
    let same = as_long (λ code layout. IsLaidOut (labelled c.args.tables.now code) layout) (λ x. x.now) c.args.codes.now c.args.layouts.now c.requires.layouts in
    let lt = c.loop-i-test.true in
    c.get.ensures.lookup.2 (omega (arith, lt, same))

pub own_code-requires-clause-sound : goal.own_code-requires-clause-sound
own_code-requires-clause-sound c = seen IsNumberedCode (λ x. x.now) c.args.codes.now c.loop-i.i c.index-codes-i.result c.requires.sound c.loop-i-test.true c.index-codes-i.is

pub own_code-requires-clause-layout : goal.own_code-requires-clause-layout
own_code-requires-clause-layout c =
    let there = subst (λ o. IfSome o (λ x. x.now ≡ get_or c.args.layouts.now c.loop-i.i x.now)) c.unwrap-layout.ensures c.get.ensures.lookup.1 in
    zip_seen_at (λ code layout. IsLaidOut (labelled c.args.tables.now code) layout) (λ x. x.now) c.args.codes.now c.args.layouts.now c.loop-i.i c.index-codes-i.result c.unwrap-layout.result.now c.requires.layouts c.loop-i-test.true
    c.index-codes-i.is there

pub returns-in_err-own-clause-fault : goal.returns-in_err-own-clause-fault
returns-in_err-own-clause-fault c =
    let p = err_from_is_err_and c.from_residual.result c.from_residual.ensures.1 in
    let code = c.index-codes-i.result.now in
    let codes = map (λ x. x.now) c.args.codes.now in
    exit (λ f. (f ≡ TooBig) × IsBig c.args.tables.now code) (λ f. (f ≡ TooBig) × SomeBig c.args.tables.now codes) _ _ _ p.1 p.2 c.in_err-own.ensures.fault
    (λ f h. (h.0, (code, seen_there (λ x. x.now) c.args.codes.now c.loop-i.i c.index-codes-i.result c.loop-i-test.true c.index-codes-i.is, h.1)))

pub write_head-requires-clause-sound : goal.write_head-requires-clause-sound
write_head-requires-clause-sound c = seen IsNumberedCode (λ x. x.now) c.args.codes.now c.loop-i.i c.index-codes-i.result c.requires.sound c.loop-i-test.true c.index-codes-i.is

pub loop-i-preserved : goal.loop-i-preserved
loop-i-preserved c =
    let before = c.loop-i.invariant in
    let own = c.in_ok-own.own.items in
    let front = take c.loop-i.i (map (λ x. x.now) c.args.codes.now) in
    let more = heads_more (IsOwn c.args.tables.now) front before.0 c.index-codes-i.result.now own before.1 in
    let next = take_seen (λ x. x.now) c.args.codes.now c.loop-i.i c.index-codes-i.result c.loop-i-test.true c.index-codes-i.is in
    let written = c.in_ok-write_head.ensures ∙ ap (λ (z : List ℕ). c.loop-i.out.items ++ head_bytes c.index-codes-i.result.now z) c.deref.ensures.value in (
      before.0 ++ own ∷ [],
      zip_seen (IsOwn c.args.tables.now) (λ x. x.now) c.args.codes.now before.0 (before.0 ++ own ∷ []) c.loop-i.i c.index-codes-i.result own c.loop-i-test.true c.index-codes-i.is before.1 c.in_ok-own.ensures.ok.0 refl,
      All-push (λ (o : List ℕ). length o ≤ MAX_CODE_BYTES) before.0 own before.2 c.in_ok-own.ensures.ok.1,
      written ∙ (ap (λ (z : List ℕ). z ++ head_bytes c.index-codes-i.result.now own) before.3
          ∙ (append_assoc c.args.out.now.items (heads front before.0) (head_bytes c.index-codes-i.result.now own)
          ∙ (ap (λ (z : List ℕ). c.args.out.now.items ++ z) (sym more) ∙ ap (λ (cs : List Code). c.args.out.now.items ++ heads cs (before.0 ++ own ∷ [])) (sym next)))),
    )
