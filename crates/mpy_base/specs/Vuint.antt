-- Numbers in groups of seven bits, the most significant group first. Bit 7 is set on every byte but the last.
use Rattle.std.specs.Prelude.{◌≡◌, ◌⊎◌, ℕ, zero, suc, ◌+◌, ◌*◌, ◌/◌, ◌%◌, ◌^◌, ◌<◌, ◌≤◌, List, [], ◌∷◌, ◌++◌, length, take, fold, All, ◌==◌, if◌then◌else◌}

-- bit 7 of the byte is set, so that another one follows
abbrev pub HasMore : ℕ → Type 0
HasMore byte = 128 ≤ byte

-- the number that the low seven bits of the bytes give
abbrev pub value_of : List ℕ → ℕ
value_of bytes = fold (λ n byte. 128 * n + byte % 128) 0 bytes

-- the bytes are the groups of a number: at most four with bit 7 set, and one without
pub record Groups (bytes : List ℕ) (n : ℕ) : Type 0 where
  pub high : List ℕ
  pub last : ℕ
  pub bytes_are : bytes ≡ high ++ last ∷ []
  pub more : All HasMore high
  pub short : length high ≤ 4
  pub ends : last < 128
  pub number : n ≡ 128 * value_of high + last

-- the bytes spell the number, in as many bytes as they like up to five
pub record Spells (bytes : List ℕ) (n : ℕ) : Type 0 where
  pub groups : Groups bytes n
  pub small : n < 2 ^ 31

-- the bytes end inside a number
pub record EndsInside (bytes : List ℕ) : Type 0 where
  pub more : All HasMore bytes
  pub short : length bytes ≤ 4

-- the bytes begin with a number that has no spelling: five bytes with bit 7 set, or groups of 2^31 and more
pub record HasFiveMore (bytes : List ℕ) : Type 0 where
  pub more : All HasMore (take 5 bytes)
  pub five : 5 ≤ length bytes

-- the bytes begin with groups of 2^31 or more
pub record BeginsTooBig (bytes : List ℕ) : Type 0 where
  pub text : List ℕ
  pub rest : List ℕ
  pub n : ℕ
  pub front : bytes ≡ text ++ rest
  pub groups : Groups text n
  pub big : 2 ^ 31 ≤ n

-- the bytes begin with a number that has no spelling
abbrev pub PassesForm : List ℕ → Type 0
PassesForm bytes = HasFiveMore bytes ⊎ BeginsTooBig bytes

-- the groups above the last, at most k of them, with no group of zeros in front
abbrev pub high_groups : ℕ → ℕ → List ℕ
high_groups zero n = []
high_groups (suc k) n = if n == 0 then [] else high_groups k (n / 128) ++ (128 + n % 128) ∷ []

-- the shortest spelling of a number below 2^31
unfoldable pub vuint : ℕ → List ℕ
vuint n = high_groups 4 (n / 128) ++ (n % 128) ∷ []
