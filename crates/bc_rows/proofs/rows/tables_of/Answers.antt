use Rattle.std.proofs.Common.{◌≡◌, ◌∙◌, ◌++◌, ◌∷◌, [], Some, length, sym, ap, arith}
use Rattle.std.proofs.lemmas.List.{length_push}
use Rattle.bc_library.specs.Shelf.{module_at}
use Rattle.bc_rows.proofs.Tables.{one_table}
use Rattle.bc_rows.proofs.rows.tables_of.Goals as goal

pub loop-number-preserved : goal.loop-number-preserved
loop-number-preserved c =
    let tables = c.loop-number.tables.items in
    let m = c.module-in-loop-number.result.now in
    let rows = c.in_ok-rows.rows.items in
    let there : module_at c.args.library.now c.loop-number.number ≡ Some m = sym c.in-Some.ensures ∙ ap Some (sym c.module-in-loop-number.ensures) in
    let e : c.push.new.self.items ≡ tables ++ rows ∷ [] = c.in_ok-push.ensures.items ∙ ap (λ z. tables ++ z ∷ []) c.from_vec.ensures in
    let n = ap length e in
    let k = length_push tables rows in
    let before = c.loop-number.invariant.1 in (
      one_table c.args.library.now tables c.push.new.self.items c.loop-number.number m rows c.loop-number.invariant.0 before there c.rows_of.ensures.is c.in_ok-rows.ensures.rows e,
      omega (arith, n, k, before),
    )
