use Rattle.std.proofs.Common.{List, subst}
use Rattle.bc_library.specs.declared.library.Loaded.{Loaded}
use Rattle.bc_library.specs.Greatest.{IsGreatestIn}
use Rattle.bc_library.specs.Kept.{OneHas}
use Rattle.bc_library.proofs.Preludes.{seen_greatest}
use Rattle.bc_library.proofs.library.Library.greatest.Goals as goal

pub returns : goal.returns
returns c =
    let of_items = subst (λ (ls : List Loaded). IsGreatestIn (OneHas ls) c.greatest_of.result.0 c.greatest_of.result.1) c.deref.ensures.value c.greatest_of.ensures in
    seen_greatest c.self.inside.modules.items c.self.inside.refused c.self.inside.pool c.args.self.now c.greatest_of.result.0 c.greatest_of.result.1 c.self.view_is of_items
