use Rattle.std.proofs.Common.{List, length, sym, ap, subst, ◌∙◌, arith}
use Rattle.std.specs.Prelude.{ℕ, IsSome, slice_get}
use Rattle.std.proofs.lemmas.Option.{same_Some, slice_get_within}
use Rattle.vm_states.specs.bc_rows.Codes.{code_numbered}
use Rattle.state_calls.proofs.finding.child_in.Goals as goal

pub number_at-child-requires : goal.number_at-child-requires
number_at-child-requires c =
    let row = c.row_at-parent.result.now in
    let k = c.requires.child row c.row_at-parent.ensures in
    let few = slice_get_within row.children c.args.number k.0 k.1 in
    let same = ap (λ (z : List ℕ). length z) c.as_slice.ensures in
    omega (arith, few, same)

pub row_at-row-requires : goal.row_at-row-requires
row_at-row-requires c =
    let row = c.row_at-parent.result.now in
    let k = c.requires.child row c.row_at-parent.ensures in
    let same = same_Some k.0 c.number_at-child.result (sym k.1 ∙ (ap (λ (z : List ℕ). slice_get z c.args.number) (sym c.as_slice.ensures) ∙ c.number_at-child.ensures)) in
    subst (λ n. IsSome (code_numbered c.args.rows.now c.args.module_number n)) same k.2
