-- The texts that every file may name by number.
use Rattle.std.specs.Prelude.{ℕ, List, map, Option}
use Rattle.qstr_pool.specs.Pool.{Texts, number_of, text_of}
use Rattle.qstr_pool.specs.declared.table.TheConstants.{STATIC_TEXTS}

-- the texts, in the order of their numbers
abbrev pub static_texts : List (List ℕ)
static_texts = map (λ text. text.now) STATIC_TEXTS

-- their numbers count from 1
abbrev pub static_pool : Texts
static_pool = record { first = 1; texts = static_texts }

-- the text of a number
abbrev pub static_text_of : ℕ → Option (List ℕ)
static_text_of n = text_of static_pool n

-- the number of a text
abbrev pub static_number_of : List ℕ → Option ℕ
static_number_of text = number_of static_pool text
