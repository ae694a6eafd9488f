-- A file compared with a source, whoever made it.
use Rattle.std.specs.Prelude.{◌≡◌, ℕ, List, ◌∷◌}
use Rattle.mpy_writer.specs.mpy_tree.Resolved.{ResolvedModule, Reads}
use Rattle.trans_parts.specs.declared.part.What.{What}
use Rattle.trans_parts.specs.Comparing.{FitsTree, FirstIn}
use Rattle.mpy_compile.specs.Compiled.{CompilesTo}

-- the bytes are a file of the second module, and the source compiles to one of the first, under the name that the second stores
pub record Compares (level : ℕ) (source bytes : List ℕ) (want have : ResolvedModule) : Type 0 where
  pub own : List ℕ
  pub compiles : CompilesTo level source have.source own
  pub is_want : Reads own want
  pub is_have : Reads bytes have

-- the bytes are a translation of the source: each code of their module is the one that the source compiles to, but for slots and
-- handler entries, of which it has no fewer
pub record IsTranslation (level : ℕ) (source bytes : List ℕ) : Type 0 where
  pub want : ResolvedModule
  pub have : ResolvedModule
  pub compares : Compares level source bytes want have
  pub fits : FitsTree want.code have.code

-- they are none: in preorder the code of this path is the first that differs, by this part, and there. The path of the outermost code is 0
pub record DiffersFirst (level : ℕ) (source bytes : List ℕ) (path : List ℕ) (what : What) (at : ℕ) : Type 0 where
  pub want : ResolvedModule
  pub have : ResolvedModule
  pub compares : Compares level source bytes want have
  pub inner : List ℕ
  pub path_is : path ≡ 0 ∷ inner
  pub first : FirstIn want.code have.code inner what at
