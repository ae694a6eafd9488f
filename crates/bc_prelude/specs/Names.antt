-- Indexes of names, one after another.
use Rattle.std.specs.Prelude.{◌≡◌, ℕ, ◌<◌, List, [], ◌∷◌, ◌++◌, length}
use Rattle.mpy_base.specs.Vuint.{Spells, EndsInside, PassesForm, vuint}

-- the text is these indexes
abbrev pub AreNames : List ℕ → List ℕ → Type 0
AreNames [] text = text ≡ []
AreNames (index ∷ indexes) text =
    (front behind : List ℕ) × Spells front index × (text ≡ front ++ behind) × AreNames indexes behind

-- what is written for them
abbrev pub spelling : List ℕ → List ℕ
spelling [] = []
spelling (index ∷ indexes) = vuint index ++ spelling indexes

-- the bytes end inside one of the first `count` indexes
pub record NamesEnd (count : ℕ) (bytes : List ℕ) : Type 0 where
  pub text : List ℕ
  pub rest : List ℕ
  pub indexes : List ℕ
  pub bytes_are : bytes ≡ text ++ rest
  pub names : AreNames indexes text
  pub few : length indexes < count
  pub inside : EndsInside rest

-- one of the first `count` indexes has no spelling
pub record NamesPass (count : ℕ) (bytes : List ℕ) : Type 0 where
  pub text : List ℕ
  pub rest : List ℕ
  pub indexes : List ℕ
  pub bytes_are : bytes ≡ text ++ rest
  pub names : AreNames indexes text
  pub few : length indexes < count
  pub past : PassesForm rest
