use Rattle.std.proofs.Common.{◌≡◌, ◌-◌, ◌<◌, ◌≤◌, get_or, length, sym, ap, subst, arith}
use Rattle.mpy_tree.specs.File.{IsOwnCode}
use Rattle.mpy_base.specs.declared.limits.TheConstants.{MAX_CODE_BYTES}
use Rattle.mpy_dump.specs.Codes.{places, AreCodesText}
use Rattle.mpy_dump.proofs.Paths.{places_Child}
use Rattle.mpy_dump.proofs.Trees.{whole_of, reached_none, stopped_first, reached_more, stopped, reached_all, child_fits}
use Rattle.mpy_dump.proofs.codes.+put_nest.Goals as goal

pub put_code-requires-clause-own : goal.put_code-requires-clause-own
put_code-requires-clause-own g t c =
    let w = whole_of c.args.levels c.args.code.now c.requires.nests in
    (c.requires.nests.0, subst (IsOwnCode c.requires.nests.0) (sym c.bytes.ensures) w.own)

pub put_code-requires-clause-short : goal.put_code-requires-clause-short
put_code-requires-clause-short g t c =
    let w = whole_of c.args.levels c.args.code.now c.requires.nests in
    subst (λ z. length z ≤ MAX_CODE_BYTES) (sym c.bytes.ensures) w.short

pub returns-in_err-put_code : goal.returns-in_err-put_code
returns-in_err-put_code g t c =
    stopped_first c.args.module.now c.args.levels (places c.args.path.now) c.args.code.now c.bytes.result.now c.from_residual.result c.from_residual.ensures.0 c.requires.nests c.bytes.ensures c.in_err-put_code.ensures

pub loop-place-init : goal.loop-place-init
loop-place-init g t c =
    reached_none c.args.module.now c.args.levels (places c.args.path.now) c.args.code.now c.bytes.result.now c.requires.nests c.bytes.ensures c.in_ok-put_code.ensures

pub overflow_sub-levels : goal.overflow_sub-levels
overflow_sub-levels g t c = let w = whole_of c.args.levels c.args.code.now c.requires.nests in omega (arith, w.levels_are)

pub put_nest-requires : goal.put_nest-requires
put_nest-requires g t c κs within_lives =
    let w = whole_of c.args.levels c.args.code.now c.requires.nests in
    let within = subst (λ z. c.loop-place.place < length z) c.as_slice-child-items.ensures c.loop-place-test.true in
    let read = subst (λ z. c.child-item.result ≡ get_or z c.loop-place.place c.child-item.result) c.as_slice-child-items.ensures c.child-item.is in
    (omega (arith, w.levels_are), (within_lives, (c.requires.tails, child_fits c.args.levels c.args.code.now c.child-item.result c.loop-place.place c.requires.nests within read)))

pub returns-in_err-put_nest : goal.returns-in_err-put_nest
returns-in_err-put_nest g t c =
    let m = c.args.module.now in
    let place = c.loop-place.place in
    let child = c.child-item.result in
    let within = subst (λ z. place < length z) c.as_slice-child-items.ensures c.loop-place-test.true in
    let read = subst (λ z. child ≡ get_or z place child) c.as_slice-child-items.ensures c.child-item.is in
    let q = c.in_err-put_nest.ensures in
    stopped m c.args.levels (places c.args.path.now) c.args.code.now place child c.from_residual-in_err-put_nest.result c.from_residual-in_err-put_nest.ensures.0 c.requires.nests within read c.loop-place.invariant
    (q.0, subst (λ p. AreCodesText m (c.args.levels - 1) p child q.0) (places_Child c.args.path place) q.1, q.2)

pub loop-place-preserved : goal.loop-place-preserved
loop-place-preserved g t c =
    let m = c.args.module.now in
    let place = c.loop-place.place in
    let child = c.child-item.result in
    let within = subst (λ z. place < length z) c.as_slice-child-items.ensures c.loop-place-test.true in
    let read = subst (λ z. child ≡ get_or z place child) c.as_slice-child-items.ensures c.child-item.is in
    let q = c.in_ok-put_nest.ensures in
    reached_more m c.args.levels (places c.args.path.now) c.args.code.now place child within read c.loop-place.invariant
    (q.0, subst (λ p. AreCodesText m (c.args.levels - 1) p child q.0) (places_Child c.args.path place) q.1, q.2)

pub returns : goal.returns
returns g t c =
    reached_all c.args.module.now c.args.levels (places c.args.path.now) c.args.code.now c.loop-place.place _ (omega (arith, c.loop-place-test.false, ap length c.as_slice-child-items.ensures)) c.loop-place.invariant
