use Rattle.std.proofs.Common.{◌≡◌, ◌<◌, ◌≤◌, get_or, length, sym, ap, subst, arith, rules}
use Rattle.mpy_base.specs.declared.limits.TheConstants.{MAX_CODE_BYTES}
use Rattle.mpy_reader.specs.mpy_tree.declared.raw.RawCode.{the_lemmas}
use Rattle.mpy_reader.specs.mpy_tree.Resolved.{IsBody}
use Rattle.mpy_reader.proofs.mpy_tree_lemmas.Codes.{whole, get_at}
use Rattle.library_files.proofs.Walks.{body_there, own_reached, child_there, child_reached, all_reached}
use Rattle.library_files.proofs.imports.+add_imports.Goals as goal

pub add_own-requires-clause-resolves : goal.add_own-requires-clause-resolves
add_own-requires-clause-resolves t c =
    let there = body_there c.args.module.now c.args.code.now c.requires.resolves in
    (there.0, subst (λ z. IsBody c.args.module.now z there.0) (sym c.bytes.ensures) there.1)

pub add_own-requires-clause-short : goal.add_own-requires-clause-short
add_own-requires-clause-short t c =
    let nests = c.requires.nests in
    subst (λ z. length z ≤ MAX_CODE_BYTES) (sym c.bytes.ensures) (whole nests.1 nests.0 c.args.code.now (nests.2, nests.3)).short

pub loop-child-init : goal.loop-child-init
loop-child-init t c =
    own_reached c.args.module.now c.args.code.now c.args.names.now.items c.add_own.new.names.items
    (λ body is. c.in_ok-add_own.ensures body (subst (λ z. IsBody c.args.module.now z body) (sym c.bytes.ensures) is))

pub add_imports-requires : goal.add_imports-requires
add_imports-requires t c =
    let code = c.args.code.now in
    let place = c.loop-child.child-index in
    let child = c.child-item.result in
    let nests = c.requires.nests in
    let within = subst (λ z. place < length z) c.as_slice-child-items.ensures c.loop-child-test.true in
    let read = subst (λ z. child ≡ get_or z place child) c.as_slice-child-items.ensures c.child-item.is in
    let w = whole nests.1 nests.0 code (nests.2, nests.3) in
    let below = w.each place child (get_at _ place child within read) in
    (search (rules, the_lemmas), (child_there c.args.module.now code child _ _ place within read c.requires.resolves c.loop-child.invariant, (w.below, nests.1, below.0, below.1)))

pub loop-child-preserved : goal.loop-child-preserved
loop-child-preserved t c =
    let place = c.loop-child.child-index in
    let child = c.child-item.result in
    let within = subst (λ z. place < length z) c.as_slice-child-items.ensures c.loop-child-test.true in
    let read = subst (λ z. child ≡ get_or z place child) c.as_slice-child-items.ensures c.child-item.is in
    child_reached c.args.module.now c.args.code.now child c.args.names.now.items c.loop-child.names.items c.add_imports.new.names.items place within read c.in_ok-add_imports.ensures c.loop-child.invariant

pub returns : goal.returns
returns t c =
    all_reached c.args.module.now c.args.code.now c.args.names.now.items c.loop-child.names.items c.loop-child.child-index (omega (arith, c.loop-child-test.false, ap length c.as_slice-child-items.ensures)) c.loop-child.invariant
