-- Signed numbers in groups of seven bits: the form of an unsigned number, in two's complement. Bit 6 of the first byte
-- is the sign.
use Rattle.std.specs.Prelude.{◌≡◌, ◌⊎◌, ℕ, zero, suc, ◌+◌, ◌-◌, ◌/◌, ◌%◌, ◌^◌, ◌<◌, List, [], ◌∷◌, ◌++◌, length, slice_index}
use Rattle.std.specs.Prelude.{◌==◌, nat_lt, if◌then◌else◌, ℤ, pos, negsuc, ◌-ℤ◌}
use Rattle.mpy_base.specs.Vuint.{Groups, HasFiveMore}

-- the number of `len` groups that are `n` without a sign
abbrev pub with_sign : ℕ → ℕ → ℕ → ℤ
with_sign first len n = if first / 64 % 2 == 1 then pos n -ℤ pos (128 ^ len) else pos n

-- the signed number of bytes whose groups are `n` without a sign
abbrev pub signed_of : List ℕ → ℕ → ℤ
signed_of bytes n = with_sign (slice_index bytes 0) (length bytes) n

-- the number, or what it is below -1
abbrev pub magnitude : ℤ → ℕ
magnitude (pos n) = n
magnitude (negsuc n) = n

-- from -2^30 to 2^30 - 1
abbrev pub IsSmall : ℤ → Type 0
IsSmall z = magnitude z < 2 ^ 30

-- the bytes spell the number, in as many bytes as they like up to five
pub record Spells (bytes : List ℕ) (z : ℤ) : Type 0 where
  pub n : ℕ
  pub groups : Groups bytes n
  pub number : z ≡ signed_of bytes n
  pub small : IsSmall z

-- the bytes begin with a number that has no spelling
pub record BeginsTooBig (bytes : List ℕ) : Type 0 where
  pub text : List ℕ
  pub rest : List ℕ
  pub n : ℕ
  pub front : bytes ≡ text ++ rest
  pub groups : Groups text n
  pub big : IsSmall (signed_of text n) → ⊥

-- the bytes begin with five that have bit 7 set, or with a number that has no spelling
abbrev pub PassesForm : List ℕ → Type 0
PassesForm bytes = HasFiveMore bytes ⊎ BeginsTooBig bytes

-- the k groups above the last
abbrev pub groups_above : ℕ → ℕ → List ℕ
groups_above zero n = []
groups_above (suc k) n = groups_above k (n / 128) ++ (128 + n % 128) ∷ []

-- how many groups stand above the last
abbrev pub high_size : ℕ → ℕ
high_size n =
    if nat_lt n (2 ^ 6) then 0
    else if nat_lt n (2 ^ 13) then 1
    else if nat_lt n (2 ^ 20) then 2
    else if nat_lt n (2 ^ 27) then 3
    else 4

-- the number with k groups above the last, without its sign
abbrev pub unsigned_in : ℕ → ℤ → ℕ
unsigned_in k (pos n) = n
unsigned_in k (negsuc n) = 128 ^ (k + 1) - 1 - n

-- the bytes of a number in `k` groups above the last
abbrev pub spelled_in : ℕ → ℕ → List ℕ
spelled_in k n = groups_above k (n / 128) ++ (n % 128) ∷ []

-- the groups of a number, as few as it takes: the shortest spelling of a small one
unfoldable pub signed : ℤ → List ℕ
signed z = spelled_in (high_size (magnitude z)) (unsigned_in (high_size (magnitude z)) z)
