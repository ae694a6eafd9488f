-- The numbers among the named words, and the options that were given, each with its value.
use Rattle.std.specs.Prelude.{ℕ, ◌≤◌, ◌<◌, Bool, List, Option, Some, None, IfSome, is_some, option_map, unwrap_or}
use Rattle.mpy_words.specs.declared.order.Command.{Command}
use Rattle.mpy_words.specs.declared.order.Named.{Named}
use Rattle.mpy_words.specs.declared.order.Named.TheVariants.{Source, File, Input, Output, Manifest, Image, Plan, Snapshot, Seed, Count}
use Rattle.mpy_words.specs.declared.order.Setting.{Setting}
use Rattle.mpy_words.specs.declared.order.Setting.TheVariants.{Level, StoredName, MainName, Base, Save, Cells, Bytes, Steps}
use Rattle.mpy_words.specs.declared.order.Order.{Order}
use Rattle.mpy_words.specs.declared.given.Given.{Given}
use Rattle.mpy_words.specs.Number.{number_of}

-- no option was given
abbrev pub none_given : Given
none_given = record {
  seed = None;
  count = None;
  level = None;
  stored_name = None;
  main_name = None;
  base = None;
  save = None;
  cells = None;
  bytes = None;
  steps = None;
}

-- was the option given?
abbrev pub is_given : Given → Setting → Bool
is_given given Level = is_some given.level
is_given given StoredName = is_some given.stored_name
is_given given MainName = is_some given.main_name
is_given given Base = is_some given.base
is_given given Save = is_some given.save
is_given given Cells = is_some given.cells
is_given given Bytes = is_some given.bytes
is_given given Steps = is_some given.steps

-- the greatest room and the greatest count of steps
abbrev pub most_cells : ℕ
most_cells = 4194304

-- that of bytes: 2^24
abbrev pub most_bytes : ℕ
most_bytes = 16777216

-- that of steps: 10^12
abbrev pub most_steps : ℕ
most_steps = 1000000000000

-- the greatest seed, and the greatest count of assignments
abbrev pub most_seed : ℕ
most_seed = 4294967295

abbrev pub most_count : ℕ
most_count = 20000

-- What is given with one more of the named words: a number up to its greatest one, or any word, which is found by its place.
abbrev pub with_name : Given → Named → List ℕ → Option Given
with_name given Source word = Some given
with_name given File word = Some given
with_name given Input word = Some given
with_name given Output word = Some given
with_name given Manifest word = Some given
with_name given Image word = Some given
with_name given Plan word = Some given
with_name given Snapshot word = Some given
with_name given Seed word = option_map (λ seed. record given { seed = Some seed }) (number_of most_seed word)
with_name given Count word = option_map (λ count. record given { count = Some count }) (number_of most_count word)

-- The options with one more, whose value is the word at this place: a number up to the option's greatest one, or any word,
-- which is kept by its place.
abbrev pub with_option : Given → Setting → ℕ → List ℕ → Option Given
with_option given Level at word = option_map (λ level. record given { level = Some level }) (number_of 3 word)
with_option given StoredName at word = Some (record given { stored_name = Some at })
with_option given MainName at word = Some (record given { main_name = Some at })
with_option given Base at word = Some (record given { base = Some at })
with_option given Save at word = Some (record given { save = Some at })
with_option given Cells at word = option_map (λ cells. record given { cells = Some cells }) (number_of most_cells word)
with_option given Bytes at word = option_map (λ bytes. record given { bytes = Some bytes }) (number_of most_bytes word)
with_option given Steps at word = option_map (λ steps. record given { steps = Some steps }) (number_of most_steps word)

-- what is ordered, with each option that wasn't given at its default, and a number that the command doesn't name at 0
abbrev pub order_with : Command → Given → Order
order_with command given = record {
  command = command;
  seed = unwrap_or given.seed 0;
  count = unwrap_or given.count 0;
  level = unwrap_or given.level 0;
  stored_name = given.stored_name;
  main_name = given.main_name;
  base = given.base;
  save = given.save;
  cells = unwrap_or given.cells 65536;
  bytes = unwrap_or given.bytes 262144;
  steps = unwrap_or given.steps 10000000;
}

-- each number within its bounds, each place below the count of words
pub record IsBounded (count : ℕ) (given : Given) : Type 0 where
  pub seed : IfSome given.seed (λ seed. seed ≤ most_seed)
  pub assignments : IfSome given.count (λ assignments. assignments ≤ most_count)
  pub level : IfSome given.level (λ level. level ≤ 3)
  pub stored_name : IfSome given.stored_name (λ at. at < count)
  pub main_name : IfSome given.main_name (λ at. at < count)
  pub base : IfSome given.base (λ at. at < count)
  pub save : IfSome given.save (λ at. at < count)
  pub cells : IfSome given.cells (λ cells. cells ≤ most_cells)
  pub bytes : IfSome given.bytes (λ bytes. bytes ≤ most_bytes)
  pub steps : IfSome given.steps (λ steps. steps ≤ most_steps)

-- the room and the steps of an order are within their bounds
pub record RunsWithin (order : Order) : Type 0 where
  pub cells : order.cells ≤ most_cells
  pub bytes : order.bytes ≤ most_bytes
  pub steps : order.steps ≤ most_steps
