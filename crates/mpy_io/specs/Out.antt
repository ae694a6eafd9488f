-- What a sink that writes on tells.
use Rattle.std.specs.Prelude.{ℕ, List, Option}
use Rattle.std.specs.Io.KnownBytes.{append_known}

-- what a sink holds that writes on to `writer`
pub record OutState (W : Type 0) : Type 0 where
  pub writer : W
  -- the bytes that were put and not yet written
  pub held : List ℕ
  -- how many calls failed
  pub faults : ℕ

-- what the writer holds, and then the bytes that are not yet written
abbrev pub out_told : {W : Type 0} → (W → Option (List ℕ)) → OutState W → Option (List ℕ)
out_told contents sink = append_known (contents sink.writer) sink.held
