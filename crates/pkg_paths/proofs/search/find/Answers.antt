use Rattle.pkg_paths.proofs.Answered.{names_second}
use Rattle.pkg_paths.proofs.Slashes.{package_utf8, plain_utf8}
use Rattle.pkg_paths.proofs.search.find.Goals as goal

pub read_one-requires : goal.read_one-requires
read_one-requires g c = package_utf8 c.args.base.now c.args.name.now c.args.ending.now _ c.in_ok-paths.ensures.package c.requires.base_is c.requires.name_is c.requires.ending_is

pub read_one-requires-in-Ok-None : goal.read_one-requires-in-Ok-None
read_one-requires-in-Ok-None g c = plain_utf8 c.args.base.now c.args.name.now c.args.ending.now _ c.in_ok-paths.ensures.plain c.requires.base_is c.requires.name_is c.requires.ending_is

pub returns-in-Ok-None-clause-named : goal.returns-in-Ok-None-clause-named
returns-in-Ok-None-clause-named g c = names_second _ _ _ _ c.in_ok-paths.ensures.plain c.read_one-in-Ok-None.ensures.named
