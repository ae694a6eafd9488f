use Rattle.std.proofs.Common.{Option, subst}
use Rattle.std.specs.Prelude.{IfSome}
use Rattle.image_open.specs.image_grammar.Base.{IsOpened}
use Rattle.image_open.specs.image_grammar.bc_library.Shelf.{Shelf}
use Rattle.mpy_tool.proofs.Under.{base_below, none_below, none_opened}
use Rattle.mpy_tool.proofs.below.or_nothing.Goals as goal

pub returns-in-Some-clause-below : goal.returns-in-Some-clause-below
returns-in-Some-clause-below c = base_below c.args.below c.in-Some.below c.in-Some.is

pub returns-in-Some-clause-opened : goal.returns-in-Some-clause-opened
returns-in-Some-clause-opened c = subst (λ (b : Option Shelf). IfSome b IsOpened) c.in-Some.is c.requires

pub returns-in-None-clause-below : goal.returns-in-None-clause-below
returns-in-None-clause-below c = none_below c.args.below c.new.result c.in-None.is c.new.ensures

pub returns-in-None-clause-opened : goal.returns-in-None-clause-opened
returns-in-None-clause-opened c = none_opened c.new.result c.over_law.ensures.nothing c.new.ensures
