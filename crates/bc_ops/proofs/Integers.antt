-- Signed numbers: bytes begin with one at most, what is written for one is one, and the shortest.
use Rattle.std.proofs.Common.{◌≡◌, ℕ, zero, suc, ◌+◌, ◌-◌, ◌*◌, ◌/◌, ◌%◌, ◌^◌, ◌<◌, ◌≤◌, Bool, true, false, cond, eqb, ltb, List, [], ◌∷◌, ◌++◌, length, take, drop, set, get_or, All, ℤ, pos, negsuc, ◌-ℤ◌, refl, ap, sym, subst, ◌∙◌, inl, inr, arith, append_assoc, add-one, eq-eqb}
use Rattle.std.proofs.lemmas.List.{length_push, drop-set, get_or_at, get_or-take, length-take-le}
use Rattle.std.proofs.lemmas.List.Elements.{All-nil, All-push}
use Rattle.std.proofs.lemmas.Bool.{eqb-true, eqb-false, ltb-true}
use Rattle.std.proofs.lemmas.Nat.{div_below}
use Rattle.std.proofs.Math.Nat.{pow-suc}
use Rattle.std.proofs.lemmas.Bool.Decides.{nat_tests}
use Rattle.std.proofs.lemmas.Int.{ints}
use Rattle.mpy_base.specs.Vuint.{HasMore, value_of, Groups, HasFiveMore}
use Rattle.mpy_base.specs.Vuint as numbers
use Rattle.mpy_base.proofs.Groups as groups
use Rattle.bc_ops.specs.Signed.{with_sign, signed_of, magnitude, IsSmall, Spells, PassesForm, groups_above, high_size, unsigned_in, spelled_in, signed}

pub one_signed : (a b x y : List ℕ) (m n : ℤ) → Spells a m → Spells b n → a ++ x ≡ b ++ y → (a ≡ b) × (m ≡ n)
one_signed a b x y m n s t e =
    let same = groups.one_number a b x y s.n t.n s.groups t.groups e in
    let texts : a ≡ b = same.0 in
    let values : s.n ≡ t.n = same.1 in
    let left : m ≡ signed_of a s.n = s.number in
    let right : n ≡ signed_of b t.n = t.number in
    (texts, left ∙ (ap (λ (z : List ℕ). signed_of z s.n) texts ∙ (ap (signed_of b) values ∙ sym right)))

-- where a number stands in front, five bytes don't have bit 7 set
not_five : (bytes text rest : List ℕ) (n : ℕ) → Groups text n → bytes ≡ text ++ rest → HasFiveMore bytes → ⊥
not_five bytes text rest n g e five =
    let whole : bytes ≡ g.high ++ g.last ∷ rest = e ∙ (ap (λ (ys : List ℕ). ys ++ rest) g.bytes_are ∙ append_assoc g.high (g.last ∷ []) rest) in
    let at_end : get_or bytes (length g.high) 0 ≡ g.last = ap (λ (ys : List ℕ). get_or ys (length g.high) 0) whole ∙ get_or_at g.high g.last rest 0 (length g.high) refl in
    let short : length (take 5 bytes) ≡ 5 = omega (arith, five.five, length-take-le 5 bytes five.five) in
    let within : length g.high < 5 = omega (arith, g.short) in
    let taken = get_or-take 5 bytes (length g.high) 0 within in
    omega (arith, g.ends, at_end, taken, five.more (length g.high) 0 (omega (arith, short)))

pub not_past : (bytes text rest : List ℕ) (z : ℤ) → Spells text z → bytes ≡ text ++ rest → PassesForm bytes → ⊥
not_past bytes text rest z s e (inl five) = not_five bytes text rest s.n s.groups e five
not_past bytes text rest z s e (inr past) =
    let same = groups.one_number text past.text rest past.rest s.n past.n s.groups past.groups (sym e ∙ past.front) in
    let numbers_are : z ≡ signed_of past.text past.n = s.number ∙ (ap (λ (ys : List ℕ). signed_of ys s.n) same.0 ∙ ap (signed_of past.text) same.1) in
    past.big (subst IsSmall numbers_are s.small)

pub not_both : (bytes : List ℕ) → numbers.EndsInside bytes → PassesForm bytes → ⊥
not_both bytes inside (inl five) = omega (arith, inside.short, five.five)
not_both bytes inside (inr past) = groups.not_inside bytes past.text past.rest past.n past.groups past.front inside

-- the groups that are written
more_written : (k n : ℕ) → All HasMore (groups_above k n)
more_written zero n = All-nil HasMore
more_written (suc k) n = All-push HasMore (groups_above k (n / 128)) (128 + n % 128) (more_written k (n / 128)) (omega arith)

length-groups_above : (k n : ℕ) → length (groups_above k n) ≡ k
length-groups_above zero n = refl
length-groups_above (suc k) n = omega (arith, length_push (groups_above k (n / 128)) (128 + n % 128), length-groups_above k (n / 128))

value_of-groups_above : (k n : ℕ) → n < 128 ^ k → value_of (groups_above k n) ≡ n
value_of-groups_above zero n h = omega arith
value_of-groups_above (suc k) n h =
    let below : n / 128 < 128 ^ k = div_below n 128 (128 ^ k) (omega arith) (omega (arith, pow-suc 128 k)) in
    omega (arith, groups.value_of-push (groups_above k (n / 128)) (128 + n % 128), value_of-groups_above k (n / 128) below)

groups_written : (k n : ℕ) → k ≤ 4 → n / 128 < 128 ^ k → Groups (spelled_in k n) n
groups_written k n few below = record {
  high = groups_above k (n / 128);
  last = n % 128;
  bytes_are = refl;
  more = more_written k (n / 128);
  short = omega (arith, length-groups_above k (n / 128));
  ends = omega arith;
  number = omega (arith, value_of-groups_above k (n / 128) below);
}

pub length-spelled_in : (k n : ℕ) → length (spelled_in k n) ≡ k + 1
length-spelled_in k n = omega (arith, length_push (groups_above k (n / 128)) (n % 128), length-groups_above k (n / 128))

-- what the sign bit says of the number that k groups and one more give
record SignTells (text : List ℕ) (n k : ℕ) : Type 0 where
  set : eqb (get_or text 0 0 / 64 % 2) 1 ≡ true → 64 * 128 ^ k ≤ n
  clear : eqb (get_or text 0 0 / 64 % 2) 1 ≡ false → n < 64 * 128 ^ k
  below : n < 2 * (64 * 128 ^ k)
  whole : 128 ^ length text ≡ 2 * (64 * 128 ^ k)
  small : n < 2 ^ 35

set_bit : (a : ℕ) → eqb (a / 64 % 2) 1 ≡ true → 64 ≤ a % 128
set_bit a e = omega (arith, eqb-true (a / 64 % 2) 1 e)

clear_bit : (a : ℕ) → eqb (a / 64 % 2) 1 ≡ false → a % 128 < 64
clear_bit a e = let other : a / 64 % 2 ≡ 1 → ⊥ = eqb-false (a / 64 % 2) 1 e in omega arith

sign_at : (high : List ℕ) (last n : ℕ) → length high ≤ 4 → last < 128 → n ≡ 128 * value_of high + last → SignTells (high ++ last ∷ []) n (length high)
sign_at [] last n few ends is = record {
  set = λ e. omega (arith, set_bit last e);
  clear = λ e. omega (arith, clear_bit last e);
  below = omega arith;
  whole = refl;
  small = omega arith;
}
sign_at (a ∷ []) last n few ends is = record {
  set = λ e. omega (arith, set_bit a e);
  clear = λ e. omega (arith, clear_bit a e);
  below = omega arith;
  whole = refl;
  small = omega arith;
}
sign_at (a ∷ b ∷ []) last n few ends is = record {
  set = λ e. omega (arith, set_bit a e);
  clear = λ e. omega (arith, clear_bit a e);
  below = omega arith;
  whole = refl;
  small = omega arith;
}
sign_at (a ∷ b ∷ c ∷ []) last n few ends is = record {
  set = λ e. omega (arith, set_bit a e);
  clear = λ e. omega (arith, clear_bit a e);
  below = omega arith;
  whole = refl;
  small = omega arith;
}
sign_at (a ∷ b ∷ c ∷ d ∷ []) last n few ends is = record {
  set = λ e. omega (arith, set_bit a e);
  clear = λ e. omega (arith, clear_bit a e);
  below = omega arith;
  whole = refl;
  small = omega arith;
}
sign_at (a ∷ b ∷ c ∷ d ∷ f ∷ high) last n few ends is = absurd (omega arith)

sign_of : (text : List ℕ) (n : ℕ) (g : Groups text n) → SignTells text n (length g.high)
sign_of text n g = subst (λ (t : List ℕ). SignTells t n (length g.high)) (sym g.bytes_are) (sign_at g.high g.last n g.short g.ends g.number)

-- the number is as near to 0 as its groups say
sub_bound : (z : ℤ) (n half : ℕ) → z ≡ pos n -ℤ pos (2 * half) → half ≤ n → n < 2 * half → magnitude z < half
sub_bound (pos m) n half e least most = absurd (omega (arith, ints))
sub_bound (negsuc m) n half e least most = omega (arith, ints)

sign_bound : (b : Bool) (n whole half : ℕ) → (b ≡ true → half ≤ n) → (b ≡ false → n < half) → n < 2 * half → whole ≡ 2 * half → magnitude (cond b (pos n -ℤ pos whole) (pos n)) < half
sign_bound true n whole half set clear below is = sub_bound (pos n -ℤ pos whole) n half (ap (λ (w : ℕ). pos n -ℤ pos w) is) (set refl) below
sign_bound false n whole half set clear below is = clear refl

signed_bound : (text : List ℕ) (n : ℕ) (g : Groups text n) → magnitude (signed_of text n) < 64 * 128 ^ length g.high
signed_bound text n g =
    let s = sign_of text n g in
    sign_bound (eqb (get_or text 0 0 / 64 % 2) 1) n (128 ^ length text) (64 * 128 ^ length g.high) s.set s.clear s.below s.whole

-- the groups of a number in two's complement give it
back : (b : Bool) (z : ℤ) (k whole half : ℕ) → (b ≡ true → half ≤ unsigned_in k z) → (b ≡ false → unsigned_in k z < half) → whole ≡ 2 * half → 128 ^ (k + 1) ≡ whole → magnitude z < half → z ≡ cond b (pos (unsigned_in k z) -ℤ pos whole) (pos (unsigned_in k z))
back true (pos n) k whole half set clear is size bound = absurd (omega (arith, set refl))
back true (negsuc n) k whole half set clear is size bound = omega (arith, ints, set refl)
back false (pos n) k whole half set clear is size bound = refl
back false (negsuc n) k whole half set clear is size bound = absurd (omega (arith, clear refl))

unsigned_bound : (k : ℕ) (z : ℤ) → magnitude z < 64 * 128 ^ k → unsigned_in k z < 128 ^ (k + 1)
unsigned_bound k (pos n) h = rw (add-one) (omega (arith, pow-suc 128 k))
unsigned_bound k (negsuc n) h = rw (add-one) (omega (arith, pow-suc 128 k))

pick : (t : Bool) (a b : ℕ) (P : ℕ → Type 0) → (t ≡ true → P a) → (t ≡ false → P b) → P (cond t a b)
pick true a b P here there = here refl
pick false a b P here there = there refl

pub few_groups : (n : ℕ) → high_size n ≤ 4
few_groups n = grind (arith, nat_tests)

room_enough : (n : ℕ) → n < 2 ^ 30 → n < 64 * 128 ^ high_size n
room_enough n h =
    let P : ℕ → Type 0 = λ k. n < 64 * 128 ^ k in
    pick (ltb n 64) _ _ P (λ e. omega (arith, ltb-true n 64 e)) (λ _.
    pick (ltb n 8192) _ _ P (λ e. omega (arith, ltb-true n 8192 e)) (λ _.
    pick (ltb n 1048576) _ _ P (λ e. omega (arith, ltb-true n 1048576 e)) (λ _.
    pick (ltb n 134217728) _ _ P (λ e. omega (arith, ltb-true n 134217728 e)) (λ _. omega arith))))

no_more_groups : (k n : ℕ) → n < 64 * 128 ^ k → high_size n ≤ k
no_more_groups zero n h = grind (arith, nat_tests)
no_more_groups (suc zero) n h = grind (arith, nat_tests)
no_more_groups (suc (suc zero)) n h = grind (arith, nat_tests)
no_more_groups (suc (suc (suc zero))) n h = grind (arith, nat_tests)
no_more_groups (suc (suc (suc (suc k)))) n h = omega (arith, few_groups n)

spelled_with : (k : ℕ) (z : ℤ) → k ≤ 4 → magnitude z < 64 * 128 ^ k → IsSmall z → Spells (spelled_in k (unsigned_in k z)) z
unfolding groups_written
spelled_with k z few bound small =
    let n : ℕ = unsigned_in k z in
    let below : n < 128 ^ (k + 1) = unsigned_bound k z bound in
    let doubled : 128 ^ (k + 1) ≡ 128 ^ k * 128 = rw (add-one) (pow-suc 128 k) in
    let above : n / 128 < 128 ^ k = div_below n 128 (128 ^ k) (omega arith) (omega (arith, below, doubled)) in
    let g : Groups (spelled_in k n) n = groups_written k n few above in
    let size : length (groups_above k (n / 128)) ≡ k = length-groups_above k (n / 128) in
    let s : SignTells (spelled_in k n) n k = subst (SignTells (spelled_in k n) n) size (sign_of (spelled_in k n) n g) in
    record {
      n = n;
      groups = g;
      number = back (eqb (get_or (spelled_in k n) 0 0 / 64 % 2) 1) z k (128 ^ length (spelled_in k n)) (64 * 128 ^ k) s.set s.clear s.whole (ap (λ (j : ℕ). 128 ^ j) (sym (length-spelled_in k n))) bound;
      small = small;
    }

pub signed_spells : (z : ℤ) → IsSmall z → Spells (signed z) z
unfolding signed
signed_spells z small = spelled_with (high_size (magnitude z)) z (few_groups (magnitude z)) (room_enough (magnitude z) small) small

pub shortest : (text : List ℕ) (z : ℤ) → Spells text z → length (signed z) ≤ length text
unfolding signed
shortest text z s =
    let g = s.groups in
    let k : ℕ = high_size (magnitude z) in
    let bound : magnitude z < 64 * 128 ^ length g.high = subst (λ (y : ℤ). magnitude y < 64 * 128 ^ length g.high) (sym s.number) (signed_bound text s.n g) in
    omega (arith, no_more_groups (length g.high) (magnitude z) bound, length-spelled_in k (unsigned_in k z), ap length g.bytes_are, length_push g.high g.last)

pub sign_set : (first len n whole : ℕ) (z : ℤ) → first / 64 % 2 ≡ 1 → whole ≡ 128 ^ len → z ≡ pos n -ℤ pos whole → z ≡ with_sign first len n
sign_set first len n whole z is size e =
    rw (eq-eqb (first / 64 % 2) 1 is) (e ∙ ap (λ (k : ℕ). pos n -ℤ pos k) size)

-- what groups in front of the bytes say of them
pub record GroupFacts (bytes text : List ℕ) (n : ℕ) : Type 0 where
  pub few : length text ≤ 5
  pub small : n < 2 ^ 35
  pub some : 0 < length bytes
  pub first : get_or bytes 0 0 ≡ get_or text 0 0

pub group_facts : (bytes text rest : List ℕ) (n : ℕ) → Groups text n → bytes ≡ text ++ rest → GroupFacts bytes text n
group_facts bytes [] rest n g e = absurd (omega (arith, ap length g.bytes_are, length_push g.high g.last))
group_facts bytes (byte ∷ text) rest n g e = record {
  few = omega (arith, ap length g.bytes_are, length_push g.high g.last, g.short);
  small = (sign_of (byte ∷ text) n g).small;
  some = omega (arith, ap length e);
  first = ap (λ (ys : List ℕ). get_or ys 0 0) e;
}

suc-sub-one : (n : ℕ) → suc n - 1 ≡ n
suc-sub-one n = omega arith

-- one group more at the front
pub grown : (left first above : ℕ) (gs : List ℕ) → 0 < left → 0 < first → first ≤ length gs → groups_above (left - 1) (above / 128) ++ drop (first - 1) (set gs (first - 1) (128 + above % 128)) ≡ groups_above left above ++ drop first gs
grown zero first above gs some room within = absurd (omega arith)
grown (suc left) zero above gs some room within = absurd (omega arith)
grown (suc left) (suc first) above gs some room within =
    rw (suc-sub-one left, suc-sub-one first) (ap (λ (ys : List ℕ). groups_above left (above / 128) ++ ys) (rw (add-one) at (drop-set gs first (128 + above % 128) (omega arith))) ∙ sym (append_assoc (groups_above left (above / 128)) ((128 + above % 128) ∷ []) (drop (suc first) gs)))

pub written_below : (z : ℤ) (below high whole : ℕ) → z ≡ pos 0 -ℤ pos (below + 1) → high ≡ high_size below → whole ≡ 128 ^ (high + 1) → spelled_in high (whole - 1 - below) ≡ signed z
unfolding signed
written_below (pos n) below high whole is size e = absurd (omega (arith, ints))
written_below (negsuc n) below high whole is size e =
    let same : below ≡ n = omega (arith, ints) in
    let sizes : high ≡ high_size n = size ∙ ap high_size same in
    let wholes : whole ≡ 128 ^ (high_size n + 1) = e ∙ ap (λ (k : ℕ). 128 ^ (k + 1)) sizes in
    cc

pub written_above : (z : ℤ) (n high : ℕ) → z ≡ pos n → high ≡ high_size n → spelled_in high n ≡ signed z
unfolding signed
written_above (pos m) n high is size =
    let same : n ≡ m = omega (arith, ints) in
    let sizes : high ≡ high_size m = size ∙ ap high_size same in
    cc
written_above (negsuc m) n high is size = absurd (omega (arith, ints))
