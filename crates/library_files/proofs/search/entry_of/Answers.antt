use Rattle.std.proofs.Common.{ℕ, Bool, List, sym, subst}
use Rattle.std.specs.Prelude.{IfSome}
use Rattle.mpy_io.specs.Count.{Counts}
use Rattle.pkg_paths.specs.Paths.{candidates}
use Rattle.pkg_paths.specs.Finds.{Finds, NamesOneOf, first_there}
use Rattle.library_files.proofs.Found.{told_is, search_failed, search_at}
use Rattle.library_files.proofs.search.entry_of.Goals as goal

pub returns-clause-entry : goal.returns-clause-entry
returns-clause-entry g c =
    let base = c.args.base.now in
    let name = c.args.name.now in
    let told = g.F.Folder.files c.args.folder.now in
    told_is (g.R.Reader.comes c.args.reader.now) told (g.R.Reader.ending c.args.reader.now) base name c.find.result c.search_entry.result c.search_entry.ensures
    (subst (λ (z : List ℕ). IfSome told (λ files. Finds (first_there files (candidates base name z)) c.find.result)) c.ending.ensures.ending c.find.ensures.found)

pub returns-clause-at : goal.returns-clause-at
returns-clause-at g c =
    let base = c.args.base.now in
    let name = c.args.name.now in
    search_at (g.R.Reader.comes c.args.reader.now) (candidates base name (g.R.Reader.ending c.args.reader.now)) c.find.result c.search_entry.result
    (subst (λ (z : List ℕ). NamesOneOf (candidates base name z) c.find.result) c.ending.ensures.ending c.find.ensures.named) c.search_entry.ensures

pub returns-clause-cause : goal.returns-clause-cause
returns-clause-cause g c =
    subst (λ (b : Bool). Counts (g.F.Folder.count c.args.folder.now) (g.F.Folder.count c.find.new.folder) b)
    (sym (search_failed (g.R.Reader.comes c.args.reader.now) c.find.result c.search_entry.result c.search_entry.ensures)) c.find.ensures.cause
