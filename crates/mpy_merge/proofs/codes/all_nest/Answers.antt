use Rattle.std.proofs.Common.{◌≡◌, true, false, sym, subst, ap, ◌∙◌}
use Rattle.mpy_writer.specs.mpy_tree.Raw.{Module}
use Rattle.mpy_writer.proofs.mpy_tree_lemmas.Codes.{get_at}
use Rattle.mpy_merge.specs.Merged.{NestsWithin}
use Rattle.mpy_merge.proofs.Nests.{taken_more, all_taken}
use Rattle.mpy_merge.proofs.codes.all_nest.Goals as goal

pub returns-then-not-nests_within-clause-deep : goal.returns-then-not-nests_within-clause-deep
returns-then-not-nests_within-clause-deep c =
    let same = c.code.ensures ∙ ap (λ (m : Module). m.code) c.module.ensures in
    λ _. record {
      place = c.loop-module.module-index;
      m = c.module-item.result;
      is = get_at c.args.modules.now c.loop-module.module-index c.module-item.result c.loop-module-test.true c.module-item.is;
      deep = λ h.
          let yes = c.nests_within.ensures.1 (subst (NestsWithin 31) (sym same) h) in
          let no = c.if-not-nests_within.true in
          let clash : true ≡ false = sym yes ∙ no in cc;
    }

pub loop-module-preserved : goal.loop-module-preserved
loop-module-preserved c =
    let same = c.code.ensures ∙ ap (λ (m : Module). m.code) c.module.ensures in
    taken_more (λ m. NestsWithin 31 m.code) c.args.modules.now c.loop-module.module-index c.module-item.result c.loop-module-test.true c.module-item.is c.loop-module.invariant (subst (NestsWithin 31) same (c.nests_within.ensures.0 c.if-not-nests_within.false))

pub returns-clause-nest : goal.returns-clause-nest
returns-clause-nest c = λ _. all_taken (λ m. NestsWithin 31 m.code) c.args.modules.now c.loop-module.module-index c.loop-module-test.false c.loop-module.invariant
