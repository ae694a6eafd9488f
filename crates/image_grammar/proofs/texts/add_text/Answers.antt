use Rattle.std.proofs.Common.{List, [], ◌∷◌, ◌++◌, refl, sym, ◌∙◌}
use Rattle.qstr_pool.proofs.Pools.{interned_is}
use Rattle.image_grammar.proofs.texts.add_text.Goals as goal

pub returns-in-Ok : goal.returns-in-Ok
returns-in-Ok c =
    let pool = c.args.pool.now in
    let text = c.args.text.now in
    c.in-Ok.ensures.texts ∙ sym (interned_is pool text pool.first (pool.texts ++ text ∷ []) c.requires.new.absent refl refl)
