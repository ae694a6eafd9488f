use Rattle.std.proofs.Common.{rules, refl, Result, Ok, Err, OnErr}
use Rattle.mpy_io.proofs.Places.{extends_found, extends_absent, entries_kept}
use Rattle.mpy_io.proofs.place.extend_file.Goals as goal

on_either : {T E : Type 0} (r : Result T E) (P : Type 0) → P → OnErr r P
on_either (Ok _) P p = tt
on_either (Err _) P p = p

pub returns-in_err-extend_from_slice-in-Some-clause-err :
    goal.returns-in_err-extend_from_slice-in-Some-clause-err
returns-in_err-extend_from_slice-in-Some-clause-err c =
    on_either _ _ (entries_kept c.args.files.now.items c.in-Some.place c.index_mut.result.now (c.index_mut.result.now.0, c.extend_from_slice.new.self) c.index_mut.ensures.value refl c.in_err-extend_from_slice-in-Some.ensures.items)

pub returns-in_ok-extend_from_slice-in-Some-clause-ok :
    goal.returns-in_ok-extend_from_slice-in-Some-clause-ok
returns-in_ok-extend_from_slice-in-Some-clause-ok c =
    extends_found _ _ c.args.files.now.items c.in-Some.place c.index_mut.result.now (c.index_mut.result.now.0, c.extend_from_slice.new.self) (search rules) c.index_mut.ensures.value refl c.in_ok-extend_from_slice-in-Some.ensures.items

pub returns-in_ok-set_file-in-None-clause-ok : goal.returns-in_ok-set_file-in-None-clause-ok
returns-in_ok-set_file-in-None-clause-ok c =
    extends_absent _ _ c.args.files.now.items c.set_file.new.files.items (search rules) c.in_ok-set_file-in-None.ensures.ok
