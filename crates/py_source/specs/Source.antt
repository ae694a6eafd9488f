-- Which sources are accepted, with their trees and slots, and the first fault of any other.
use Rattle.std.specs.Prelude.{◌≡◌, ◌⊎◌, ℕ, List}
use Rattle.mpy_base.specs.declared.source.SourceFault.{SourceFault}
use Rattle.py_tokens.specs.declared.token.Token.{Token}
use Rattle.py_tokens.specs.Tokens as tokens
use Rattle.py_parser.specs.py_nest.Nest.{Nests}
use Rattle.py_tree.specs.declared.stmt.Module.{Module}
use Rattle.py_parser.specs.Grammar.{IsTree}
use Rattle.py_parser.specs.Parsed as parser
use Rattle.py_scopes.specs.Scopes as names
use Rattle.py_source.specs.declared.source.Accepted.{Accepted}

-- the source has these tokens, which give this tree, whose names are used as they may be
pub record IsSourceOf (level : ℕ) (source : List ℕ) (tree : Module) : Type 0 where
  pub list : List Token
  pub are_tokens : tokens.IsTokens level source list
  pub nests : Nests list
  pub is_tree : IsTree list tree
  pub faultless : names.IsFaultless tree

-- the source has the tree, and the slots are those of the tree's functions
pub record IsAccepted (level : ℕ) (source : List ℕ) (accepted : Accepted) : Type 0 where
  pub is_source : IsSourceOf level source accepted.tree
  pub slots_are : accepted.slots ≡ names.slots_of accepted.tree

-- a source of tokens that are no tree's
pub record IsParserFault (level : ℕ) (source : List ℕ) (fault : SourceFault) : Type 0 where
  pub list : List Token
  pub are_tokens : tokens.IsTokens level source list
  pub is : parser.IsFault list fault

-- a tree that misuses a name or a word
pub record IsNameFault (level : ℕ) (source : List ℕ) (fault : SourceFault) : Type 0 where
  pub list : List Token
  pub are_tokens : tokens.IsTokens level source list
  pub nests : Nests list
  pub tree : Module
  pub is_tree : IsTree list tree
  pub is : names.IsFirstFault tree fault

-- The first fault of a source: tokens are judged before the grammar, and the grammar before names.
abbrev pub IsFirstFault : ℕ → List ℕ → SourceFault → Type 0
IsFirstFault level source fault =
    tokens.IsFirstFault level source fault ⊎ (IsParserFault level source fault ⊎ IsNameFault level source fault)
