-- What a module has behind its table of texts, in a file and in an image: its objects, and its outermost code.
use Rattle.std.specs.Prelude.{◌≡◌, ℕ, ◌≤◌, List, ◌++◌, length}
use Rattle.mpy_base.specs.declared.limits.TheConstants.{MAX_TABLE, MAX_DEPTH}
use Rattle.mpy_base.specs.Vuint.{Spells}
use Rattle.mpy_tree.specs.declared.module.Constant.{Constant}
use Rattle.mpy_tree.specs.declared.raw.RawCode.{RawCode}
use Rattle.mpy_tree.specs.File.{Many, IsObject, IsCode}
use Rattle.mpy_reader.specs.Reading.{Field, ◌>>=◌, pure, count, many, object, code}

-- the number of the objects, these, and a code whose names stand in a table of `texts` texts
pub record IsBody (texts : ℕ) (text : List ℕ) (body : List Constant × RawCode) : Type 0 where
  pub object_count : List ℕ
  pub objects : List ℕ
  pub outermost : List ℕ
  pub text_is : text ≡ object_count ++ (objects ++ outermost)
  pub counts_objects : Spells object_count (length body.0)
  pub few_objects : length body.0 ≤ MAX_TABLE
  pub are_objects : Many (IsObject MAX_DEPTH) objects body.0
  pub is_code : IsCode MAX_DEPTH texts outermost body.1

-- reads the number of the objects, these, and a code whose names stand in a table of `texts` texts; or gives their first fault
unfoldable pub body : ℕ → List ℕ → Field (List Constant × RawCode)
body texts bytes = do
  number ← count bytes
  objects ← many number.0 (object MAX_DEPTH) number.1
  outermost ← code MAX_DEPTH texts objects.1
  pure ((objects.0, outermost.0), outermost.1)
