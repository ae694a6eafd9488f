use Rattle.std.proofs.Common.{List, ℕ, subst}
use Rattle.library_files.specs.Comes.{NameComesTo}
use Rattle.library_files.specs.Steps.{Step}
use Rattle.library_files.proofs.Asks.{found_done, found_ended}
use Rattle.library_files.proofs.loading.ask_found.Goals as goal

pub returns-in-Ok-clause-loads : goal.returns-in-Ok-clause-loads
returns-in-Ok-clause-loads g c =
    found_done (NameComesTo (g.R.Reader.ending c.args.reader.now) (g.R.Reader.comes c.args.reader.now) c.args.base.now) (g.F.Folder.files c.args.folder.now) c.args.begun.now c.ask_all.new.begun c.args.names.now c.new-found.result.items c.ask_all.new.found c.new-found.ensures.items c.in-Ok.ensures.loads

pub returns-in-Ok-clause-step : goal.returns-in-Ok-clause-step
returns-in-Ok-clause-step g c =
    subst (λ (z : List (List ℕ)). Step c.args.begun.now.library c.ask_all.new.begun.library z c.ask_all.new.found.items) c.new-found.ensures.items c.in-Ok.ensures.step

pub returns-in-Err-clause-loads : goal.returns-in-Err-clause-loads
returns-in-Err-clause-loads g c =
    found_ended (NameComesTo (g.R.Reader.ending c.args.reader.now) (g.R.Reader.comes c.args.reader.now) c.args.base.now) (g.F.Folder.files c.args.folder.now) c.args.begun.now c.ask_all.new.begun c.args.names.now c.new-found.result.items c.ask_all.new.found.items c.in-Err.refused c.new-found.ensures.items c.in-Err.ensures.loads
