-- The source that a text is read as.
use Rattle.std.specs.Prelude.{◌≡◌, ℕ, List}
use Rattle.py_source.specs.declared.source.Accepted.{Accepted}
use Rattle.py_source.specs.Source.{IsAccepted}
use Rattle.tr_source.specs.bc_scheme.py_meaning.Program.{Source}
use Rattle.tr_source.specs.bc_scheme.py_meaning.Meaning.{source_of}

-- the text is accepted at the level, and its tree, with the locals of its functions, is that of the source, under the stored name
pub record IsReading (level : ℕ) (text stored : List ℕ) (source : Source) : Type 0 where
  pub accepted : Accepted
  pub is_accepted : IsAccepted level text accepted
  pub source_is : source ≡ source_of stored level accepted.tree
