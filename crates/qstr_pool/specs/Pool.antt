-- Texts with numbers, one after another.
use Rattle.std.specs.Prelude.{◌≡◌, ◌↔◌, ℕ, ◌+◌, ◌-◌, ◌<◌, ◌≤◌, ◌^◌, Bool, true, not, ◌&&◌, List, [], ◌∷◌, ◌++◌, length, Option}
use Rattle.std.specs.Prelude.{Some, None, option_map, position, slice_get, take, if◌then◌else◌, nat_lt}
use Rattle.std.specs.List.{list_any}
use Rattle.std.specs.Str.{bytes_eq}
use Rattle.mpy_base.specs.declared.limits.TheConstants.{MAX_TABLE}

-- the number of the first text, and the texts in the order of their numbers
pub record Texts : Type 0 where
  pub first : ℕ
  pub texts : List (List ℕ)

-- the number of a text
abbrev pub number_of : Texts → List ℕ → Option ℕ
number_of pool text = option_map (λ place. pool.first + place) (position (bytes_eq text) pool.texts)

-- the text of a number
abbrev pub text_of : Texts → ℕ → Option (List ℕ)
text_of pool n = if nat_lt n pool.first then None else slice_get pool.texts (n - pool.first)

-- the texts after a use of one: where it is new it goes last
abbrev pub interned : Texts → List ℕ → Texts
interned pool text = if list_any (bytes_eq text) pool.texts then pool else record { first = pool.first; texts = pool.texts ++ text ∷ [] }

-- the first texts, as many as `count`, or all where there are no more
abbrev pub first_texts : Texts → ℕ → Texts
first_texts pool count = record { first = pool.first; texts = take count pool.texts }

-- whether no text stands twice
abbrev pub all_differ : List (List ℕ) → Bool
all_differ [] = true
all_differ (text ∷ texts) = not (list_any (bytes_eq text) texts) && all_differ texts

-- each number has one text, and each text one number
pub record IsOneToOne (pool : Texts) : Type 0 where
  pub inverse : (text : List ℕ) (n : ℕ) → (number_of pool text ≡ Some n) ↔ (text_of pool n ≡ Some text)
  pub one_text : (a b : List ℕ) (n : ℕ) → number_of pool a ≡ Some n → number_of pool b ≡ Some n → a ≡ b
  pub one_number : (text : List ℕ) (m n : ℕ) → text_of pool m ≡ Some text → text_of pool n ≡ Some text → m ≡ n

-- what holds of every pool that a program makes: the numbers are small, and the texts few
pub record IsPool (pool : Texts) : Type 0 where
  pub small : pool.first < 2 ^ 31
  pub few : length pool.texts ≤ MAX_TABLE
