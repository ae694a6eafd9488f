-- The texts of a library: what a module brings, and their numbers.
use Rattle.std.specs.Prelude.{◌≡◌, ℕ, ◌^◌, ◌<◌, List, [], ◌∷◌, ◌++◌, length, map, All, Option, Some, None, is_some, unwrap_or, nat_lt, ◌==◌, if◌then◌else◌}
use Rattle.std.specs.Option.{option_or, option_to_list}
use Rattle.std.specs.List.{filter_map}
use Rattle.bc_verify.specs.qstr_pool.declared.table.TheConstants.{FIRST_OWN}
use Rattle.bc_verify.specs.qstr_pool.Pool.{Texts, text_of, interned}
use Rattle.bc_verify.specs.qstr_pool.Static.{static_text_of, static_number_of}
use Rattle.mpy_tree.specs.declared.raw.Qstr.{Qstr}
use Rattle.mpy_tree.specs.Raw as raw
use Rattle.mpy_tree.specs.Raw.{Module}
use Rattle.bc_library.specs.declared.texts.Title.{Title}

-- the text of a number: one that every file may name, or one of the pool
unfoldable pub text_numbered : Texts → ℕ → Option (List ℕ)
text_numbered pool n = if nat_lt n FIRST_OWN then static_text_of n else text_of pool n

-- the pool after a use of a text: it goes last, unless every file may name it or it is there
unfoldable pub with_text : Texts → List ℕ → Texts
with_text pool text = if is_some (static_number_of text) then pool else interned pool text

-- the same with texts one after another
abbrev pub with_texts : Texts → List (List ℕ) → Texts
with_texts pool [] = pool
with_texts pool (text ∷ texts) = with_texts (with_text pool text) texts

-- a longer pool: the same texts under the same numbers, and others behind them
pub record Extends (pool longer : Texts) : Type 0 where
  pub more : List (List ℕ)
  pub is : longer ≡ record { first = pool.first; texts = pool.texts ++ more }

-- the text behind the last dot
abbrev pub last_part : List ℕ → Option (List ℕ)
last_part [] = None
last_part (byte ∷ name) = option_or (last_part name) (if byte == 46 then Some name else None)

-- the same, or the whole name where it has no dot
abbrev pub last_of : List ℕ → List ℕ
last_of name = unwrap_or (last_part name) name

-- what a module brings: its name, the last part of a name with a dot, and the texts of its table
abbrev pub texts_of : List ℕ → Module → List (List ℕ)
texts_of name m = name ∷ (option_to_list (last_part name) ++ filter_map raw.text_of m.qstrs)

-- the numbers are those of the texts of a table
pub record AreNumbers (pool : Texts) (numbers : List ℕ) (qstrs : List Qstr) : Type 0 where
  pub texts : List (List ℕ)
  pub texts_are : map raw.text_of qstrs ≡ map (λ text. Some text) texts
  pub numbers_are : map (text_numbered pool) numbers ≡ map (λ text. Some text) texts

-- the numbers are those of the name and of its last part
pub record IsTitle (pool : Texts) (name : List ℕ) (title : Title) : Type 0 where
  pub name_is : text_numbered pool title.name ≡ Some name
  pub last_is : text_numbered pool title.last ≡ Some (last_of name)

-- each byte is below 0x80, and there are fewer than 2^31
pub record IsPlain (text : List ℕ) : Type 0 where
  pub ascii : All (λ byte. byte < 128) text
  pub short : length text < 2 ^ 31
