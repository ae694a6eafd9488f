use Rattle.std.proofs.Common.{◌≡◌, ℤ, sym, ap, ◌∙◌, subst}
use Rattle.prim_builtins.specs.arena_heap.Values.{IsSmall}
use Rattle.prim_builtins.proofs.arena_objects_lemmas.RangeNumbers.{small_same}
use Rattle.prim_builtins.proofs.SmallSame.{kept}
use Rattle.prim_builtins.specs.arena_heap.declared.value.Value.TheVariants as values
use Rattle.mpy_base.specs.Val.{Val, Int}
use Rattle.prim_builtins.specs.py_primitives.Outcome.{Outcome, gives}
use Rattle.prim_builtins.specs.prim_walks.Plain.{plain_heap}
use Rattle.prim_builtins.proofs.prim_faults_lemmas.Outcomes.{gives_outcome, raises_outcome}
use Rattle.prim_builtins.proofs.Numbered.{numbered, unnumbered}
use Rattle.prim_types.proofs.numerals.number.Goals as goal

pub returns-in-Ok : goal.returns-in-Ok
returns-in-Ok g c =
    let texts = g.C.Constants.text_of c.args._consts.now in
    let tuples = g.C.Constants.items_of c.args._consts.now in
    let h = c.args.arena.now in
    let heap = plain_heap texts tuples h in
    let next : ℤ → Outcome Val = λ z. gives (Int z) heap in
    let same : kept c.in-Ok.z ≡ c.in-Ok.z = small_same c.in-Ok.z c.in-Ok.ensures.small in
    gives_outcome texts tuples h (values.Int (kept c.in-Ok.z)) _ c.requires.all_told (record { meets = tt; small = subst IsSmall (sym same) c.in-Ok.ensures.small }) tt
    (numbered texts tuples h c.args.v next c.in-Ok.z c.in-Ok.ensures.number ∙ ap (λ (z : ℤ). gives (Int z) heap) (sym same))

pub returns-in-Err : goal.returns-in-Err
returns-in-Err g c =
    let texts = g.C.Constants.text_of c.args._consts.now in
    let tuples = g.C.Constants.items_of c.args._consts.now in
    let h = c.args.arena.now in
    let heap = plain_heap texts tuples h in
    let next : ℤ → Outcome Val = λ z. gives (Int z) heap in
    raises_outcome texts tuples h c.in-Err.fault _ c.requires.all_told ((c.in-Err.ensures.fault texts tuples).0) (unnumbered texts tuples h c.args.v next c.in-Err.fault c.in-Err.ensures.other c.in-Err.ensures.fault)
