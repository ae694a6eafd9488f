use Rattle.std.proofs.Common.{◌≡◌, ◌-◌, ◌≤◌, ℕ, List, length, drop, refl, arith}
use Rattle.std.proofs.lemmas.List.{length-drop}
use Rattle.image_freeze.proofs.Exits.{on_ok_more}
use Rattle.image_freeze.proofs.Parts.{parts_written}
use Rattle.image_freeze.proofs.image.write_parts.Goals as goal

pub returns : goal.returns
returns c =
    let own = drop c.args.texts_below c.args.pool.now.texts in
    let count : c.len.result - c.args.texts_below ≡ length own = omega (arith, c.len.ensures, length-drop c.args.texts_below c.args.pool.now.texts) in
    on_ok_more _ _ c.write_modules.result c.write_modules.ensures
    (λ e. parts_written c.args.pool.now own c.args.modules.now c.args.out.now.items c.write_vuint.new.out.items c.write_texts.new.out.items c.write_vuint-2.new.out.items c.write_modules.new.out.items (c.len.result - c.args.texts_below) (length c.args.modules.now)
    count refl c.in_ok-write_vuint.ensures.ok c.in_ok-write_texts.ensures c.in_ok-write_vuint-2.ensures.ok e)
