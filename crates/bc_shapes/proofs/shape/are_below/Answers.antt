use Rattle.std.proofs.Common.{◌<◌, ◌∙◌, sym, length, get_or, arith}
use Rattle.std.proofs.lemmas.Bool.{and_parts, and_from}
use Rattle.bc_shapes.specs.declared.kinds.Kind.TheVariants as kinds
use Rattle.bc_shapes.proofs.Order.{belows_more, belows_end, at_same}
use Rattle.bc_shapes.proofs.shape.are_below.Goals as goal

pub loop-i-preserved : goal.loop-i-preserved
loop-i-preserved c =
    let ks = c.args.ks.now in
    let ls = c.args.ls.now in
    let i = c.loop-i.i in
    let fine = c.loop-i.fine in
    let here = c.is_below.result in
    let in_ks : i < length ks = omega (arith, c.loop-i-test.true) in
    let in_ls : i < length ls = omega (arith, c.loop-i-test.true, c.requires) in
    let more = belows_more ks ls i (get_or ks i kinds.Value) (get_or ls i kinds.Value) in_ks in_ls (at_same ks i kinds.Value in_ks) (at_same ls i kinds.Value in_ls) in
    let both = c.both-fine.ensures in (
      λ h. let so_far = c.loop-i.invariant.0 h in
          let now = more.0 so_far.1 in
          (both ∙ and_from fine here so_far.0 (c.is_below.ensures.1 now.0), now.1),
      λ h. let parts = and_parts fine here (sym both ∙ h.0) in
          c.loop-i.invariant.1 (parts.0, more.1 (c.is_below.ensures.0 parts.1, h.1)),
    )

pub returns : goal.returns
returns c =
    let e = belows_end c.args.ks.now c.args.ls.now c.loop-i.i (omega (arith, c.loop-i-test.false)) (omega (arith, c.loop-i-test.false, c.requires)) in
    (λ t. c.loop-i.invariant.1 (t, e), λ h. (c.loop-i.invariant.0 h).0)
