use Rattle.std.proofs.Common.{ℕ, ◌≡◌, List, Some, sym, ◌∙◌, ap}
use Rattle.bc_library.specs.Texts.{text_numbered}
use Rattle.bc_library.proofs.Pools.{static_numbered, found_number, found_nowhere}
use Rattle.bc_library.proofs.texts.known_number.Goals as goal

pub returns-in-Some-clause-number : goal.returns-in-Some-clause-number
returns-in-Some-clause-number c =
    ap (text_numbered c.args.pool.now) c.from.ensures
    ∙ static_numbered c.args.pool.now c.args.text.now c.in-Some.number c.static_law.ensures.one_to_one (sym c.in-Some.ensures.number) c.in-Some.ensures.within.1

pub returns-in-None-clause-number : goal.returns-in-None-clause-number
returns-in-None-clause-number c =
    found_number c.args.pool.now c.args.text.now c.find.result c.requires c.pool_law.ensures.one_to_one c.find.ensures.number c.find.ensures.within

pub returns-in-None-clause-none : goal.returns-in-None-clause-none
returns-in-None-clause-none c =
    found_nowhere c.args.pool.now c.args.text.now c.find.result c.static_law.ensures.one_to_one c.pool_law.ensures.one_to_one (sym c.in-None.ensures.number) c.find.ensures.number
