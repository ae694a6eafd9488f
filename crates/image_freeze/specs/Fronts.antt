-- The front of an image by its version.
use Rattle.std.specs.Prelude.{◌≡◌, ◌⊎◌, ℕ, List, [], ◌==◌, if◌then◌else◌}
use Rattle.image_open.specs.image_grammar.Opening.{Base}
use Rattle.image_freeze.specs.Frozen.{first_front, second_front}

-- the front of an image of that version
abbrev pub front_of : ℕ → Base → List ℕ
front_of version below = if version == 1 then first_front else second_front below

-- version 1 lies over nothing, and version 2 over all
abbrev pub MayLieOver : Base → ℕ → Type 0
MayLieOver below version = ((version ≡ 1) × (below.texts ≡ []) × (below.names ≡ [])) ⊎ (version ≡ 2)
