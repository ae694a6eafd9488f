use Rattle.std.proofs.Common.{rules, refl}
use Rattle.mpy_io.proofs.Places.{sets_found, sets_absent}
use Rattle.mpy_io.proofs.place.set_file.Goals as goal

pub returns-in-Some-clause-ok : goal.returns-in-Some-clause-ok
returns-in-Some-clause-ok c =
    sets_found _ _ c.args.files.now.items c.in-Some.place c.index_mut.result.now _ (search rules) c.index_mut.ensures.value refl c.in_ok-copy.ensures.items

pub returns-in_ok-push-in-None-clause-ok : goal.returns-in_ok-push-in-None-clause-ok
returns-in_ok-push-in-None-clause-ok c =
    sets_absent _ _ c.args.files.now.items c.push.new.self.items (c.in_ok-from_str-in-None.field-0, c.in_ok-copy.copy) (search rules) (search rules) c.in_ok-from_str-in-None.ensures.ok c.in_ok-copy.ensures.items
