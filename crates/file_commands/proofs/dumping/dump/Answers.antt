use Rattle.std.proofs.Common.{◌≡◌, List, ℕ, Option, Some, subst}
use Rattle.command_files.specs.mpy_writer.mpy_tree.Raw.{Module}
use Rattle.command_files.specs.mpy_writer.mpy_tree.File.{IsFile}
use Rattle.mpy_io.specs.Files.{FileOf}
use Rattle.mpy_dump.specs.Listing.{IsListing}
use Rattle.command_files.specs.Folder.{MayHold}
use Rattle.file_commands.specs.Dump.{HoldsListed}
use Rattle.file_commands.proofs.Checked.{not_dumped}
use Rattle.file_commands.proofs.dumping.dump.Goals as goal

listed : (files : Option FileOf) (name bytes read text : List ℕ) (m : Module) → MayHold files name (Some bytes) → read ≡ bytes → IsFile read m → IsListing m text
    → HoldsListed files name text
listed files name bytes read text m holds same file listing =
    record { bytes = bytes; holds = holds; read = m; file = subst (λ (bs : List ℕ). IsFile bs m) same file; listing = listing }

pub returns-in-Err-clause-went : goal.returns-in-Err-clause-went
returns-in-Err-clause-went g c =
    not_dumped (g.F.Folder.files c.args.folder.now) c.args.name.now c.in-Err.ending (g.S.Sink.told c.args.out.now) c.in-Err.ensures.refused

pub returns-in-Ok-listing-clause-went : goal.returns-in-Ok-listing-clause-went
returns-in-Ok-listing-clause-went g c =
    let l = c.in-Ok-listing.ensures in
    (l.0, listed (g.F.Folder.files c.args.folder.now) c.args.name.now c.in-Ok.bytes.items c.deref.result.now l.0 c.in-Ok-read.raw c.in-Ok.ensures.read c.deref.ensures.value c.in-Ok-read.ensures.found l.1, l.2.ok)

pub returns-in-Ok-read-clause-went : goal.returns-in-Ok-read-clause-went
returns-in-Ok-read-clause-went g c =
    let l = c.in-Err-listing.ensures in
    (l.0, listed (g.F.Folder.files c.args.folder.now) c.args.name.now c.in-Ok.bytes.items c.deref.result.now l.0 c.in-Ok-read.raw c.in-Ok.ensures.read c.deref.ensures.value c.in-Ok-read.ensures.found l.1, l.2.err)
