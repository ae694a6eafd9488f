-- What holds of each entry of a manifest.
use Rattle.std.specs.Prelude.{◌<◌, ◌≤◌, All, IsUtf8}
use Rattle.manifest_lines.specs.declared.entry.Entry.{Entry}

-- the names of its module and of its source are ASCII, its path is a text, and its level is one of the four
pub record IsPlain (entry : Entry) : Type 0 where
  pub name : All (λ byte. byte < 128) entry.«module»
  pub path : IsUtf8 entry.path
  pub source : All (λ byte. byte < 128) entry.source
  pub level : entry.opt ≤ 3
