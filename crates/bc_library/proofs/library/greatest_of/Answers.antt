use Rattle.std.proofs.Common.{◌≡◌, ◌+◌, Some, sym, ap, subst, ◌∙◌, arith}
use Rattle.std.specs.Prelude.{slice_get, max}
use Rattle.bc_verify.proofs.mpy_tree_lemmas.Codes.{get_at}
use Rattle.mpy_tree.specs.declared.raw.RawCode.{RawCode}
use Rattle.mpy_tree.specs.Raw.{Module}
use Rattle.bc_library.specs.Greatest.{IsGreatestIn, HasPrelude}
use Rattle.bc_library.proofs.Preludes.{OneBelow, next_module, all_modules}
use Rattle.bc_library.proofs.library.greatest_of.Goals as goal

pub loop-loaded-preserved : goal.loop-loaded-preserved
loop-loaded-preserved c =
    let here : slice_get c.args.modules.now c.loop-loaded.loaded-index ≡ Some c.loaded-item.result =
    get_at c.args.modules.now c.loop-loaded.loaded-index c.loaded-item.result c.loop-loaded-test.true c.loaded-item.is in
    let code : c.code.result.now ≡ c.loaded-item.result.«module».code = c.code.ensures ∙ ap (λ (m : Module). m.code) c.module-raw.ensures in
    let one = subst (λ (z : RawCode). IsGreatestIn (HasPrelude z) c.greatest_in-module_state.result.0 c.greatest_in-module_state.result.1) code c.greatest_in-module_state.ensures in
    let next = next_module c.args.modules.now c.loaded-item.result c.loop-loaded.loaded-index c.loop-loaded.state c.loop-loaded.exc c.greatest_in-module_state.result.0 c.greatest_in-module_state.result.1 here c.loop-loaded.invariant one in
    let P = OneBelow c.args.modules.now (c.loop-loaded.loaded-index + 1) in
    subst (λ z. IsGreatestIn P z c.max-exc.result) (sym c.max-state.ensures) (subst (λ z. IsGreatestIn P (max c.loop-loaded.state c.greatest_in-module_state.result.0) z) (sym c.max-exc.ensures) next)

pub returns : goal.returns
returns c =
    all_modules c.args.modules.now c.loop-loaded.loaded-index c.loop-loaded.state c.loop-loaded.exc (omega (arith, c.loop-loaded-test.false)) c.loop-loaded.invariant
