-- Groups of seven bits: bytes begin with one number at most, and the shortest spelling is one.
use Rattle.mpy_base.specs.declared.vuint.VuintFault.{VuintFault}
use Rattle.std.proofs.Common.{Result, Ok, Err, ◌≡◌, ℕ, zero, suc, ◌+◌, ◌*◌, ◌/◌, ◌%◌, ◌^◌, ◌<◌, ◌≤◌, List, [], ◌∷◌, ◌++◌, length, take, drop, get_or, cond, eqb, true, false, fold, All, refl, ap, sym, subst, ◌∙◌, inl, inr, arith, append_assoc, length-append}
use Rattle.std.specs.List.{AllByRecursion}
use Rattle.std.proofs.lemmas.List.{length_push, get_or_at, get_or-take, take_more, length-take-le, take-append-drop}
use Rattle.std.proofs.lemmas.List.Elements.{All-nil, All-push, recursion_from_All}
use Rattle.std.proofs.lemmas.List.Sums.{fold-append}
use Rattle.std.proofs.lemmas.Nat.{div_below}
use Rattle.std.proofs.lemmas.Bool.Decides.{nat_tests}
use Rattle.std.proofs.Math.Nat.{pow-suc, mul-le-mul_right}
use Rattle.mpy_base.specs.Vuint.{HasMore, value_of, Groups, Spells, EndsInside, PassesForm, HasFiveMore, high_groups, vuint}

-- a byte without bit 7 parts a list in one way
one_split : (h k : List ℕ) (l m : ℕ) (x y : List ℕ) → AllByRecursion HasMore h → AllByRecursion HasMore k → l < 128 → m < 128 → h ++ l ∷ x ≡ k ++ m ∷ y → (h ≡ k) × (l ≡ m)
one_split [] [] l m x y p q a b e = (refl, cc)
one_split [] (c ∷ k) l m x y p q a b e = let same : l ≡ c = cc in absurd (omega (arith, q.0))
one_split (c ∷ h) [] l m x y p q a b e = let same : c ≡ m = cc in absurd (omega (arith, p.0))
one_split (c ∷ h) (d ∷ k) l m x y p q a b e =
    let head : c ≡ d = cc in
    let r = one_split h k l m x y p.1 q.1 a b cc in
    (cc, r.1)

-- what stands behind the last group
rejoined : (a x high : List ℕ) (last : ℕ) → a ≡ high ++ last ∷ [] → a ++ x ≡ high ++ last ∷ x
rejoined a x high last e = ap (λ (ys : List ℕ). ys ++ x) e ∙ append_assoc high (last ∷ []) x

pub one_number : (a b x y : List ℕ) (m n : ℕ) → Groups a m → Groups b n → a ++ x ≡ b ++ y → (a ≡ b) × (m ≡ n)
one_number a b x y m n g k e =
    let parts = one_split g.high k.high g.last k.last x y (recursion_from_All HasMore g.high g.more) (recursion_from_All HasMore k.high k.more) g.ends k.ends (sym (rejoined a x g.high g.last g.bytes_are) ∙ (e ∙ rejoined b y k.high k.last k.bytes_are)) in
    let highs : g.high ≡ k.high = parts.0 in
    let lasts : g.last ≡ k.last = parts.1 in
    let bytes : a ≡ b = g.bytes_are ∙ (ap (λ (hs : List ℕ). hs ++ g.last ∷ []) highs ∙ (ap (λ z. k.high ++ z ∷ []) lasts ∙ sym k.bytes_are)) in
    let values : value_of g.high ≡ value_of k.high = ap value_of highs in
    (bytes, omega (arith, g.number, k.number, values, lasts))

-- the last group of a number stands at its place, whatever follows
last_at : (bytes text rest : List ℕ) (n : ℕ) (g : Groups text n) → bytes ≡ text ++ rest → (d : ℕ) → get_or bytes (length g.high) d ≡ g.last
last_at bytes text rest n g e d =
    ap (λ (ys : List ℕ). get_or ys (length g.high) d) (e ∙ rejoined text rest g.high g.last g.bytes_are) ∙ get_or_at g.high g.last rest d (length g.high) refl

length_front : (bytes text rest : List ℕ) (n : ℕ) (g : Groups text n) → bytes ≡ text ++ rest → length g.high < length bytes
length_front bytes text rest n g e =
    let parts : length bytes ≡ length (g.high ++ g.last ∷ rest) = ap length (e ∙ rejoined text rest g.high g.last g.bytes_are) in
    omega (arith, parts, length-append g.high (g.last ∷ rest))

-- bytes with a number in front don't end inside it
pub not_inside : (bytes text rest : List ℕ) (n : ℕ) → Groups text n → bytes ≡ text ++ rest → EndsInside bytes → ⊥
not_inside bytes text rest n g e inside =
    let at_end = last_at bytes text rest n g e 0 in
    omega (arith, g.ends, at_end, inside.more (length g.high) 0 (length_front bytes text rest n g e))

-- nor do five of them have bit 7 set
pub not_five : (bytes text rest : List ℕ) (n : ℕ) → Groups text n → bytes ≡ text ++ rest → HasFiveMore bytes → ⊥
not_five bytes text rest n g e five =
    let at_end = last_at bytes text rest n g e 0 in
    let short : length (take 5 bytes) ≡ 5 = omega (arith, five.five, length-take-le 5 bytes five.five) in
    let within : length g.high < 5 = omega (arith, g.short) in
    let taken = get_or-take 5 bytes (length g.high) 0 within in
    omega (arith, g.ends, at_end, taken, five.more (length g.high) 0 (omega (arith, short)))

pub not_past : (bytes text rest : List ℕ) (n : ℕ) → Spells text n → bytes ≡ text ++ rest → PassesForm bytes → ⊥
not_past bytes text rest n s e (inl five) = not_five bytes text rest n s.groups e five
not_past bytes text rest n s e (inr big) =
    let same = one_number text big.text rest big.rest n big.n s.groups big.groups (sym e ∙ big.front) in
    omega (arith, s.small, big.big, same.1)

pub not_both : (bytes : List ℕ) → EndsInside bytes → PassesForm bytes → ⊥
not_both bytes inside (inl five) = omega (arith, inside.short, five.five)
not_both bytes inside (inr big) = not_inside bytes big.text big.rest big.n big.groups big.front inside

combined : (f n b p : ℕ) → f < (128 * n + b % 128 + 1) * p → f < (n + 1) * (p * 128)
combined f n b p h =
    let grown : 128 * n + b % 128 + 1 ≤ 128 * (n + 1) = omega arith in
    omega (arith, h, mul-le-mul_right p grown)

value_bound : (bytes : List ℕ) (n : ℕ) → fold (λ n byte. 128 * n + byte % 128) n bytes < (n + 1) * 128 ^ length bytes
value_bound [] n = omega arith
value_bound (b ∷ bs) n =
    rw (pow-suc 128 (length bs)) (combined _ n b (128 ^ length bs) (value_bound bs (128 * n + b % 128)))

-- the groups give less than their places hold
pub value_below : (bytes : List ℕ) → value_of bytes < 128 ^ length bytes
value_below bytes = omega (arith, value_bound bytes 0)

pub value_of-push : (bytes : List ℕ) (b : ℕ) → value_of (bytes ++ b ∷ []) ≡ 128 * value_of bytes + b % 128
value_of-push bytes b = fold-append (λ n byte. 128 * n + byte % 128) 0 bytes (b ∷ [])

-- the groups that are written have bit 7 set
pub more_written : (k n : ℕ) → All HasMore (high_groups k n)
more_written zero n = All-nil HasMore
more_written (suc k) n =
    elim (eqb n 0) as (λ b. All HasMore (cond b [] (high_groups k (n / 128) ++ (128 + n % 128) ∷ []))) [
      | true ↦ All-nil HasMore
      | false ↦ All-push HasMore (high_groups k (n / 128)) (128 + n % 128) (more_written k (n / 128)) (omega arith)
    ]

pub length-high_groups : (k n : ℕ) → length (high_groups k n) ≤ k
length-high_groups zero n = omega arith
length-high_groups (suc k) n =
    elim (eqb n 0) as (λ b. length (cond b [] (high_groups k (n / 128) ++ (128 + n % 128) ∷ [])) ≤ suc k) [
      | true ↦ omega arith
      | false ↦ omega (arith, length_push (high_groups k (n / 128)) (128 + n % 128), length-high_groups k (n / 128))
    ]

zero_from_test : (n : ℕ) → eqb n 0 ≡ true → 0 ≡ n
zero_from_test n h = grind (arith, nat_tests)

pub value_of-high_groups : (k n : ℕ) → n < 128 ^ k → value_of (high_groups k n) ≡ n
value_of-high_groups zero n h = omega arith
value_of-high_groups (suc k) n h =
    let below : n / 128 < 128 ^ k = div_below n 128 (128 ^ k) (omega arith) (omega (arith, pow-suc 128 k)) in
    let others : value_of (high_groups k (n / 128)) ≡ n / 128 = value_of-high_groups k (n / 128) below in
    let pushed = value_of-push (high_groups k (n / 128)) (128 + n % 128) in
    let all : value_of (high_groups k (n / 128) ++ (128 + n % 128) ∷ []) ≡ n = omega (arith, pushed, others) in
    let P : ℕ → Type 0 = λ _. value_of (cond (eqb n 0) [] (high_groups k (n / 128) ++ (128 + n % 128) ∷ [])) ≡ n in
    elim (eqb n 0) as (λ b. eqb n 0 ≡ b → value_of (cond b [] (high_groups k (n / 128) ++ (128 + n % 128) ∷ [])) ≡ n) [
      | true ↦ λ zero. zero_from_test n zero
      | false ↦ λ _. all
    ] refl

pub vuint_spells : (n : ℕ) → n < 2 ^ 31 → Spells (vuint n) n
unfolding vuint
vuint_spells n h =
    let value = value_of-high_groups 4 (n / 128) (omega arith) in
    record {
      groups = record {
        high = high_groups 4 (n / 128);
        last = n % 128;
        bytes_are = refl;
        more = more_written 4 (n / 128);
        short = length-high_groups 4 (n / 128);
        ends = omega arith;
        number = omega (arith, value);
      };
      small = h;
    }

no_longer : (k j n : ℕ) → n < 128 ^ j → length (high_groups k n) ≤ j
no_longer zero j n h = omega arith
no_longer (suc k) zero n h =
    let none : n ≡ 0 = omega arith in
    let written : high_groups (suc k) n ≡ [] = ap (high_groups (suc k)) none in
    omega (arith, ap length written)
no_longer (suc k) (suc j) n h =
    let below : n / 128 < 128 ^ j = div_below n 128 (128 ^ j) (omega arith) (omega (arith, pow-suc 128 j)) in
    elim (eqb n 0) as (λ b. length (cond b [] (high_groups k (n / 128) ++ (128 + n % 128) ∷ [])) ≤ suc j) [
      | true ↦ omega arith
      | false ↦ omega (arith, length_push (high_groups k (n / 128)) (128 + n % 128), no_longer k j (n / 128) below)
    ]

pub shortest : (text : List ℕ) (n : ℕ) → Spells text n → length (vuint n) ≤ length text
unfolding vuint
shortest text n s =
    let g = s.groups in
    let high_is : n / 128 ≡ value_of g.high = omega (arith, g.number, g.ends) in
    let bound : n / 128 < 128 ^ length g.high = omega (arith, high_is, value_below g.high) in
    omega (arith, length_push (high_groups 4 (n / 128)) (n % 128), no_longer 4 (length g.high) (n / 128) bound, ap length g.bytes_are, length_push g.high g.last)

-- the bytes up to the first without bit 7 are the groups of a number
pub groups_at : (bytes : List ℕ) (i n : ℕ) → i < length bytes → i ≤ 4 → All HasMore (take i bytes) → get_or bytes i 0 < 128 → n ≡ 128 * value_of (take i bytes) + get_or bytes i 0 → Groups (take (i + 1) bytes) n
groups_at bytes i n within few more ends number = record {
  high = take i bytes;
  last = get_or bytes i 0;
  bytes_are = take_more bytes i 0 within;
  more = more;
  short = omega (arith, length-take-le i bytes (omega arith));
  ends = ends;
  number = number;
}

pub length_taken : (bytes : List ℕ) (i : ℕ) → i < length bytes → i + 1 ≡ length (take (i + 1) bytes)
length_taken bytes i within = sym (length-take-le (i + 1) bytes (omega arith))

pub rejoins : (bytes : List ℕ) (i : ℕ) → bytes ≡ take i bytes ++ drop i bytes
rejoins bytes i = sym (take-append-drop i bytes)

-- a number in front is the only one
pub only_one : (bytes text rest : List ℕ) (m n i : ℕ) → i < length bytes → Groups (take (i + 1) bytes) m → Groups text n → bytes ≡ text ++ rest → (m ≡ n) × (i + 1 ≡ length text)
only_one bytes text rest m n i within g k e =
    let same = one_number (take (i + 1) bytes) text (drop (i + 1) bytes) rest m n g k (take-append-drop (i + 1) bytes ∙ e) in
    (same.1, length_taken bytes i within ∙ ap length same.0)

pub too_big_at : (bytes : List ℕ) (i n : ℕ) → Groups (take (i + 1) bytes) n → 2 ^ 31 ≤ n → PassesForm bytes
too_big_at bytes i n g big =
    inr (record { text = take (i + 1) bytes; rest = drop (i + 1) bytes; n = n; front = rejoins bytes (i + 1); groups = g; big = big })

pub five_more : (bytes : List ℕ) (i : ℕ) → i ≤ 5 → 5 ≤ i → i ≤ length bytes → All HasMore (take i bytes) → PassesForm bytes
five_more bytes i most least within more =
    let five : i ≡ 5 = omega arith in
    inl (record { more = subst (λ (k : ℕ). All HasMore (take k bytes)) five more; five = omega arith })

-- above the groups of a number that is written whole there are none
pub none_above : (k : ℕ) → high_groups k 0 ≡ []
none_above zero = refl
none_above (suc k) = refl

-- a small number is one group
pub one_group : (n : ℕ) → n < 128 → vuint n ≡ n ∷ []
unfolding vuint
one_group n lt =
    let zero_is : n / 128 ≡ 0 = omega arith in
    let none : high_groups 4 (n / 128) ≡ [] = ap (high_groups 4) zero_is ∙ none_above 4 in
    let same : n % 128 ≡ n = omega arith in
    ap (λ (high : List ℕ). high ++ (n % 128) ∷ []) none ∙ ap (λ (k : ℕ). k ∷ []) same

-- a number that was read, and how many bytes it takes
abbrev pub found_at : ℕ → ℕ → Result (ℕ × ℕ) VuintFault
found_at n len = Ok (n, len)

shifted : ℕ → Result (ℕ × ℕ) VuintFault → Result (ℕ × ℕ) VuintFault
shifted at (Ok found) = Ok (found.0, at + found.1)
shifted at (Err fault) = Err fault

-- what is found in front of what follows a place is found at the place
pub moved : (at n len m k : ℕ) → found_at n len ≡ found_at m k → found_at n (at + len) ≡ found_at m (at + k)
unfolding shifted
moved at n len m k e = ap (shifted at) e

-- no spelling is longer than five bytes
pub length-vuint : (n : ℕ) → length (vuint n) ≤ 5
unfolding vuint
length-vuint n = omega (arith, length_push (high_groups 4 (n / 128)) (n % 128), length-high_groups 4 (n / 128))
