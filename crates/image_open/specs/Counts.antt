-- The numbers that an image of version 2 has behind its header.
use Rattle.std.specs.Prelude.{◌≡◌, ℕ, length}
use Rattle.image_grammar.specs.Opening.{Base}

-- `texts` texts and `names` modules lie below
abbrev pub AreCounts : Base → ℕ → ℕ → Type 0
AreCounts below texts names = (texts ≡ length below.texts) × (names ≡ length below.names)
