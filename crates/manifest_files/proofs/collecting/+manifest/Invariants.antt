use Rattle.std.proofs.Common.{◌≡◌, ◌+◌, ◌*◌, drop, IfSome}
use Rattle.std.specs.Prelude.{All}
use Rattle.manifest_files.specs.Entries.{LineSays}
use Rattle.manifest_files.specs.Plain.{IsPlain}
use Rattle.manifest_files.specs.Quiet.{AreQuiet}
use Rattle.manifest_files.proofs.Goes.{Goes}
use Rattle.manifest_files.proofs.collecting.+manifest.Given as goal

-- a manifest goes over its lines, where one fewer may be opened; these over each line; and a line to another manifest, if it isn't known
abbrev pub decreases-manifest : goal.decreases-manifest
decreases-manifest g l = 4 * l.left

abbrev pub decreases-all_lines : goal.decreases-all_lines
decreases-all_lines g l = 4 * l.left + 3

abbrev pub decreases-one_line : goal.decreases-one_line
decreases-one_line g l = 4 * l.left + 2

abbrev pub decreases-once : goal.decreases-once
decreases-once g l = 4 * l.left + 1

abbrev pub invariant-all_lines-loop-line : goal.invariant-all_lines-loop-line
invariant-all_lines-loop-line g l = record {
  told : IfSome (g.F.Folder.files l.fn.folder) (λ files. Goes (LineSays files l.left l.fn.opened.items l.name) l.lines l.fn.entries.items (drop l.line-index l.lines) l.entries.items);
  opened : l.opened.items ≡ l.fn.opened.items;
  kept : IfSome (g.F.Folder.files l.fn.folder) (λ files. AreQuiet files l.quiet.entries);
  same : g.F.Folder.files l.folder ≡ g.F.Folder.files l.fn.folder;
  cause : g.F.Folder.count l.folder ≡ g.F.Folder.count l.fn.folder;
  plain : All IsPlain l.fn.entries.items → All IsPlain l.entries.items;
}
