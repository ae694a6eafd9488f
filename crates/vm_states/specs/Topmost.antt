-- Slots on top of others, each of them such as is said, whoever keeps them.
use Rattle.std.specs.Prelude.{◌≡◌, List, ◌∷◌}

-- one such slot
pub record One {X : Type 0} (Is : X → Type 0) (slots : List X) : Type 0 where
  pub top : X
  pub below : List X
  pub are : slots ≡ top ∷ below
  pub is : Is top

-- two such slots
pub record Two {X : Type 0} (Is : X → Type 0) (slots : List X) : Type 0 where
  pub top : X
  pub second : X
  pub below : List X
  pub are : slots ≡ top ∷ second ∷ below
  pub top_is : Is top
  pub second_is : Is second

-- three such slots
pub record Three {X : Type 0} (Is : X → Type 0) (slots : List X) : Type 0 where
  pub top : X
  pub second : X
  pub third : X
  pub below : List X
  pub are : slots ≡ top ∷ second ∷ third ∷ below
  pub top_is : Is top
  pub second_is : Is second
  pub third_is : Is third
