use Rattle.std.proofs.Common.{◌≡◌, ◌-◌, ◌<◌, true, false, length, List, get_or, refl, sym, ap, subst, ◌∙◌, arith}
use Rattle.mpy_writer.specs.mpy_tree.declared.raw.RawCode.{RawCode}
use Rattle.mpy_merge.specs.Merged.{NestsWithin}
use Rattle.mpy_writer.proofs.mpy_tree_lemmas.Codes.{children}
use Rattle.mpy_merge.proofs.Nests.{none_nests, nests_by, taken_more, all_taken, nests_at}
use Rattle.mpy_merge.proofs.codes.+nests_within.Goals as goal

pub returns-then-levels-eq0 : goal.returns-then-levels-eq0
returns-then-levels-eq0 t c = (λ (e : false ≡ true). absurd cc, λ h. absurd (none_nests c.args.levels c.args.code.now c.if-levels-eq0.true h))

pub returns-then-not-nests_within : goal.returns-then-not-nests_within
returns-then-not-nests_within t c =
    let raws = children c.args.code.now in
    let lt = subst (λ (z : List RawCode). c.loop-child.child-index < length z) c.as_slice-child-items.ensures c.loop-child-test.true in
    let is = subst (λ (z : List RawCode). c.child-item.result ≡ get_or z c.loop-child.child-index c.child-item.result) c.as_slice-child-items.ensures c.child-item.is in (
      λ (e : false ≡ true). absurd cc,
      λ h.
          let here = nests_at c.args.levels c.args.code.now c.loop-child.child-index c.child-item.result lt is h in
          let yes = c.nests_within.ensures.1 here in
          let no = c.if-not-nests_within.true in
          absurd (let clash : true ≡ false = sym yes ∙ no in cc),
    )

pub loop-child-preserved : goal.loop-child-preserved
loop-child-preserved t c =
    let raws = children c.args.code.now in
    let lt = subst (λ (z : List RawCode). c.loop-child.child-index < length z) c.as_slice-child-items.ensures c.loop-child-test.true in
    let is = subst (λ (z : List RawCode). c.child-item.result ≡ get_or z c.loop-child.child-index c.child-item.result) c.as_slice-child-items.ensures c.child-item.is in
    taken_more (NestsWithin (c.args.levels - 1)) raws c.loop-child.child-index c.child-item.result lt is c.loop-child.invariant (c.nests_within.ensures.0 c.if-not-nests_within.false)

pub returns : goal.returns
returns t c =
    let raws = children c.args.code.now in
    let some = c.if-levels-eq0.false in
    let past = c.loop-child-test.false in
    let all = all_taken (NestsWithin (c.args.levels - 1)) raws c.loop-child.child-index (omega (arith, past, ap length c.as_slice-child-items.ensures)) c.loop-child.invariant in
    (λ e. nests_by c.args.levels c.args.code.now (omega (arith, some)) all, λ h. refl)
