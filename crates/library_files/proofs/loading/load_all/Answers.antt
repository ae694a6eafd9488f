use Rattle.std.proofs.Common.{refl, reverse}
use Rattle.library_files.specs.Comes.{NameComesTo}
use Rattle.library_files.proofs.Whole.{all_left, ended_left, are_modules}
use Rattle.library_files.proofs.loading.load_all.Goals as goal

pub returns-in-Ok-clause-loaded : goal.returns-in-Ok-clause-loaded
returns-in-Ok-clause-loaded g c =
    all_left (NameComesTo (g.R.Reader.ending c.args.reader.now) (g.R.Reader.comes c.args.reader.now) c.args.base.now) (g.F.Folder.files c.args.folder.now) c.args.begun c.load_left.new.begun (reverse c.args.left.items) c.load_left.new.begun.library refl c.in-Ok.ensures.loads

pub returns-in-Ok-clause-holds : goal.returns-in-Ok-clause-holds
returns-in-Ok-clause-holds g c = record {
  distinct = c.modules_law.ensures.distinct;
  are_modules = are_modules c.args.begun.library c.load_left.new.begun.library c.requires.held c.in-Ok.ensures.adds;
  are_verified = c.modules_law.ensures.verified;
}

pub returns-in-Err-clause-loaded : goal.returns-in-Err-clause-loaded
returns-in-Err-clause-loaded g c =
    ended_left (NameComesTo (g.R.Reader.ending c.args.reader.now) (g.R.Reader.comes c.args.reader.now) c.args.base.now) (g.F.Folder.files c.args.folder.now) c.args.begun c.load_left.new.begun (reverse c.args.left.items) c.in-Err.refused c.in-Err.ensures.loads
