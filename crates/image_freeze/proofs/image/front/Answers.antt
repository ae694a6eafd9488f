use Rattle.std.proofs.Common.{◌≡◌, ℕ, List, Vec, Global, arith}
use Rattle.std.proofs.lemmas.Bool.{ne_eqb}
use Rattle.image_open.specs.image_grammar.Base.{base_of}
use Rattle.image_freeze.specs.Fronts.{front_of}
use Rattle.image_freeze.proofs.Exits.{if_ok_more}
use Rattle.image_freeze.proofs.Fronts.{front_first, front_second, names_count}
use Rattle.image_freeze.proofs.image.front.Goals as goal

pub returns-then-version-eq1 : goal.returns-then-version-eq1
returns-then-version-eq1 c = front_first (base_of c.args.below.now) c.args.version c.in_ok-start.start.items c.if-version-eq1.true c.in_ok-start.ensures.items

pub with_counts-requires-clause-texts : goal.with_counts-requires-clause-texts
with_counts-requires-clause-texts c = let few = c.requires.few in omega (arith, few)

pub with_counts-requires-clause-modules : goal.with_counts-requires-clause-modules
with_counts-requires-clause-modules c = omega (arith, c.count_modules.ensures, c.library_law.ensures.few)

pub returns : goal.returns
returns c =
    if_ok_more _ (λ (v : Vec ℕ Global). v.items ≡ front_of c.args.version (base_of c.args.below.now)) c.with_counts.result c.with_counts.ensures
    (λ v e. front_second (base_of c.args.below.now) c.args.version c.args.texts c.count_modules.result c.in_ok-start.start.items v.items c.requires.version c.if-version-eq1.false c.in_ok-start.ensures.items e c.requires.texts (names_count c.args.below.now c.count_modules.result c.count_modules.ensures))
