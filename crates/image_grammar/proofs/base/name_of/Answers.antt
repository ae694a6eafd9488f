use Rattle.std.proofs.Common.{refl, ◌∙◌}
use Rattle.bc_library.specs.Texts.{text_numbered}
use Rattle.image_grammar.proofs.BaseNames.{copied_is, titled}
use Rattle.image_grammar.proofs.base.name_of.Goals as goal

pub returns-clause-name : goal.returns-clause-name
returns-clause-name c =
    let shelf = c.args.lib.now in
    copied_is c.text.result (text_numbered shelf.pool c.in_ok-title.title.name) c.text.ensures.text
    ∙ titled shelf c.args.number c.in_ok-title.title c.in_ok-title.ensures.is (c.in_ok-title.ensures.some.0 refl)
