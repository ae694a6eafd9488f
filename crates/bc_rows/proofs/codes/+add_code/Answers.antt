use Rattle.std.proofs.Common.{◌≡◌, ℕ, suc, List, drop, ◌-◌, ◌≤◌, ◌<◌, ◌++◌, ◌∷◌, [], ◌∙◌, Some, length, get_or, take, sym, ap, subst, arith}
use Rattle.std.specs.Prelude.{slice_get, slice_set}
use Rattle.std.proofs.Math.ListN.{length-set}
use Rattle.bc_rows.specs.declared.row.Row.{Row}
use Rattle.mpy_base.specs.declared.limits.TheConstants.{MAX_CODE_BYTES}
use Rattle.bc_machine.specs.mpy_tree.declared.raw.RawCode.{RawCode}
use Rattle.bc_machine.specs.mpy_tree.File.{IsOwnCode}
use Rattle.bc_rows.specs.Made.{with_children}
use Rattle.bc_rows.specs.Rows.{IsRowOf}
use Rattle.bc_machine.proofs.mpy_tree_lemmas.Codes.{children, whole, get_at}
use Rattle.bc_rows.proofs.Numbering.{child_of, own_of, Added, none_added, one_more, all_added, row_at, place_in, front_is}
use Rattle.bc_rows.proofs.codes.+add_code.Goals as goal

pub own_row-requires-clause-own : goal.own_row-requires-clause-own
own_row-requires-clause-own t c =
    let is = c.requires.is in
    let w = whole (length is.0.qstrs) c.args.levels c.args.code.now (is.2, is.3) in
    (is.0, is.1, subst (IsOwnCode (length is.0.qstrs)) (sym c.bytes.ensures) w.own)

pub own_row-requires-clause-short : goal.own_row-requires-clause-short
own_row-requires-clause-short t c =
    let is = c.requires.is in
    let w = whole (length is.0.qstrs) c.args.levels c.args.code.now (is.2, is.3) in
    subst (λ z. length z ≤ MAX_CODE_BYTES) (sym c.bytes.ensures) w.short

pub own_row-requires-clause-source : goal.own_row-requires-clause-source
own_row-requires-clause-source t c = c.requires.source

pub loop-child-init : goal.loop-child-init
loop-child-init t c path =
    none_added c.args.library.now c.args.number (c.args.levels - 1) c.args.rows.now.items c.args.code.now c.in_ok-row.row c.push.new.self.items c.new-children.result c.in_ok-push.ensures.items
    (subst (λ z. IsRowOf c.args.library.now c.args.number (own_of [] z []) c.in_ok-row.row) c.bytes.ensures c.in_ok-row.ensures) c.new-children.ensures path

pub overflow_sub-levels : goal.overflow_sub-levels
overflow_sub-levels t c =
    let is = c.requires.is in
    let w = whole (length is.0.qstrs) c.args.levels c.args.code.now (is.2, is.3) in omega (arith, w.levels_are)

pub add_code-requires : goal.add_code-requires
add_code-requires t c =
    let is = c.requires.is in
    let w = whole (length is.0.qstrs) c.args.levels c.args.code.now (is.2, is.3) in
    let here : slice_get (children c.args.code.now) c.loop-child.child-index ≡ Some c.child-item.result =
    subst (λ z. slice_get z c.loop-child.child-index ≡ Some c.child-item.result) c.as_slice-child-items.ensures
    (get_at c.as_slice-child-items.result.now c.loop-child.child-index c.child-item.result c.loop-child-test.true c.child-item.is) in
    (omega (arith, w.levels_are), (child_of c.args.library.now c.args.number c.args.levels c.args.code.now c.child-item.result c.loop-child.child-index c.requires.is here, c.requires.source))

pub put_children-requires : goal.put_children-requires
put_children-requires t c =
    let p : c.len-place.result ≡ length c.args.rows.now.items = omega (arith, c.len-place.ensures) in
    let lt = place_in c.args.library.now c.args.number (c.args.levels - 1) [] c.args.rows.now.items c.args.code.now (take c.loop-child.child-index (children c.args.code.now)) c.len-place.result c.loop-child.rows.items c.loop-child.children (c.loop-child.invariant []) p in
    subst (λ (z : List Row). c.len-place.result < length z) (sym c.deref_mut.ensures.value) lt

pub loop-child-preserved : goal.loop-child-preserved
loop-child-preserved t c path =
    let k = c.loop-child.child-index in
    let child = c.child-item.result in
    let lt : k < length (children c.args.code.now) = subst (λ (z : List RawCode). k < length z) c.as_slice-child-items.ensures c.loop-child-test.true in
    let is : child ≡ get_or (children c.args.code.now) k child = subst (λ (z : List RawCode). child ≡ get_or z k child) c.as_slice-child-items.ensures c.child-item.is in
    one_more c.args.library.now c.args.number (c.args.levels - 1) path c.args.rows.now.items c.args.code.now (children c.args.code.now) k child c.loop-child.rows.items c.add_code.new.rows.items c.loop-child.children c.push-in-loop-child.new.self lt is
    (c.loop-child.invariant path) (c.in_ok-add_code.ensures (path ++ k ∷ []))
    (c.in_ok-push-2.ensures.ok ∙ ap (λ (n : ℕ). c.loop-child.children ++ n ∷ []) (c.in_ok-next.ensures ∙ ap length c.deref.ensures.value))

pub returns : goal.returns
returns t c path =
    let is = c.requires.is in
    let w = whole (length is.0.qstrs) c.args.levels c.args.code.now (is.2, is.3) in
    let below = c.args.levels - 1 in
    let some : c.args.levels ≡ suc below = omega (arith, w.levels_are) in
    let before = c.args.rows.now.items in
    let now = c.loop-child.rows.items in
    let new = c.put_children.new.rows in
    let numbers = c.loop-child.children in
    let place = c.len-place.result in
    let k = c.loop-child.child-index in
    let p : place ≡ length before = omega (arith, c.len-place.ensures) in
    let a : Added c.args.library.now c.args.number below path before c.args.code.now (take k (children c.args.code.now)) now numbers = c.loop-child.invariant path in
    let at = row_at c.args.library.now c.args.number below path before c.args.code.now (take k (children c.args.code.now)) place now numbers a p in
    let set = c.put_children.ensures a.row (subst (λ (z : List Row). slice_get z place ≡ Some a.row) (sym c.deref_mut.ensures.value) at) in
    let changed : new ≡ slice_set now place (with_children a.row numbers) = set ∙ ap (λ (z : List Row). slice_set z place (with_children a.row numbers)) c.deref_mut.ensures.value in
    let size : length new ≡ length now = ap length changed ∙ length-set now place (with_children a.row numbers) in
    let ok = c.loop-child.rows.ok.0 in
    let front : take c.loop-child.rows.len (new ++ drop (length new) now) ≡ new = front_is new (drop (length new) now) c.loop-child.rows.len (omega (arith, ok, size)) in
    let le : length (children c.args.code.now) ≤ k = subst (λ (z : List RawCode). length z ≤ k) c.as_slice-child-items.ensures c.loop-child-test.false in
    all_added c.args.library.now c.args.number c.args.levels below path before c.args.code.now k place now (take c.loop-child.rows.len (new ++ drop (length new) now)) numbers some le p a (front ∙ changed)
