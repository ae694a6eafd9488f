-- Lists as loops go over them.
use Rattle.std.proofs.Common.{◌≡◌, ℕ, zero, suc, ◌+◌, ◌<◌, List, [], ◌∷◌, ◌++◌, length, take, drop, get_or, map, All, refl, sym, ap, subst, ◌∙◌, append_assoc, arith}
use Rattle.std.specs.Prelude.{Contains}
use Rattle.std.specs.List.{flat_map, AllByRecursion, AllZip}
use Rattle.std.proofs.lemmas.List.{at_drop_more, drop_more, drop-map, take_more, map-append, get_or-map, length-map}

-- what a loop has before it
pub next : {X : Type 0} (xs : List X) (i : ℕ) (x y : X) → i < length xs → x ≡ get_or xs i x → y ≡ x → drop i xs ≡ (y ∷ []) ++ drop (i + 1) xs
next {X} xs i x y lt is same = drop_more xs i x lt ∙ ap (λ (z : X). z ∷ drop (i + 1) xs) (sym is ∙ sym same)

pub next_of : {X A : Type 0} (f : X → List A) (xs : List X) (i : ℕ) (x : X) (front : List A) → i < length xs → x ≡ get_or xs i x → f x ≡ front → flat_map f (drop i xs) ≡ front ++ flat_map f (drop (i + 1) xs)
next_of {X} {A} f xs i x front lt is same =
    at_drop_more (flat_map f) xs i x lt ∙ (ap (λ (z : X). f z ++ flat_map f (drop (i + 1) xs)) (sym is) ∙ ap (λ (z : List A). z ++ flat_map f (drop (i + 1) xs)) same)

pub next_seen : {X Y A : Type 0} (g : X → Y) (f : Y → List A) (xs : List X) (i : ℕ) (x : X) → i < length xs → x ≡ get_or xs i x → flat_map f (drop i (map g xs)) ≡ f (g x) ++ flat_map f (drop (i + 1) (map g xs))
next_seen {X} {Y} {A} g f xs i x lt is =
    ap (flat_map f) (drop-map g i xs)
    ∙ (at_drop_more (λ (ys : List X). flat_map f (map g ys)) xs i x lt
    ∙ (ap (λ (z : X). f (g z) ++ flat_map f (map g (drop (i + 1) xs))) (sym is)
    ∙ ap (λ (ys : List Y). f (g x) ++ flat_map f ys) (sym (drop-map g (i + 1) xs))))

pub mapped : {A B : Type 0} (h : A → B) (whole front behind : List A) → whole ≡ front ++ behind → map h whole ≡ map h front ++ map h behind
mapped h whole front behind e = ap (map h) e ∙ map-append h front behind

pub seen : {X Y : Type 0} (P : Y → Type 0) (g : X → Y) (xs : List X) (i : ℕ) (x : X) → All P (map g xs) → i < length xs → x ≡ get_or xs i x → P (g x)
seen {X} {Y} P g xs i x all lt is =
    let at : get_or (map g xs) i (g x) ≡ g x = get_or-map g xs i x (g x) lt ∙ ap g (sym is) in
    subst P at (all i (g x) (subst (λ (n : ℕ). i < n) (sym (length-map xs g)) lt))

-- a byte and two texts, added one after another
pub added : (out one two three text more : List ℕ) (byte : ℕ) → one ≡ out ++ byte ∷ [] → two ≡ one ++ text → three ≡ two ++ more → three ≡ out ++ (byte ∷ (text ++ more))
added out one two three text more byte a b c =
    c ∙ (ap (λ (z : List ℕ). z ++ more) (b ∙ ap (λ (z : List ℕ). z ++ text) a) ∙ (append_assoc (out ++ byte ∷ []) text more ∙ append_assoc out (byte ∷ []) (text ++ more)))

-- what holds of each of two lists joined, and of lists joined
pub parted : {A : Type 0} (P : A → Type 0) (front behind : List A) → AllByRecursion P (front ++ behind) → AllByRecursion P front × AllByRecursion P behind
parted P [] behind h = (tt, h)
parted P (x ∷ front) behind h = let both = parted P front behind h.1 in ((h.0, both.0), both.1)

pub parted_all : {A B : Type 0} (P : B → Type 0) (f : A → List B) (xs : List A) → AllByRecursion P (flat_map f xs) → AllByRecursion (λ x. AllByRecursion P (f x)) xs
parted_all P f [] h = tt
parted_all P f (x ∷ xs) h = let both = parted P (f x) (flat_map f xs) h in (both.0, parted_all P f xs both.1)

pub together : {A : Type 0} (P : A → Type 0) (xs ys : List A) → AllByRecursion P xs → AllByRecursion P ys → AllByRecursion P (xs ++ ys)
together P [] ys h k = k
together P (x ∷ xs) ys h k = (h.0, together P xs ys h.1 k)

pub all_of : {A : Type 0} (P Q : A → Type 0) → ((x : A) → P x → Q x) → (xs : List A) → AllByRecursion P xs → AllByRecursion Q xs
all_of P Q step [] all = tt
all_of P Q step (x ∷ xs) all = (step x all.0, all_of P Q step xs all.1)

pub all_flat : {A B : Type 0} (P : A → Type 0) (Q : B → Type 0) (f : A → List B) → ((x : A) → P x → AllByRecursion Q (f x)) → (xs : List A) → AllByRecursion P xs → AllByRecursion Q (flat_map f xs)
all_flat P Q f step [] all = tt
all_flat P Q f step (x ∷ xs) all = together Q (f x) (flat_map f xs) (step x all.0) (all_flat P Q f step xs all.1)

pub all_mapped : {A B : Type 0} (P : A → Type 0) (Q : B → Type 0) (f : A → B) → ((x : A) → P x → Q (f x)) → (xs : List A) → AllByRecursion P xs → AllByRecursion Q (map f xs)
all_mapped P Q f step [] all = tt
all_mapped P Q f step (x ∷ xs) all = (step x all.0, all_mapped P Q f step xs all.1)

-- two lists place by place
pub split_zip : {A B : Type 0} (R : A → B → Type 0) (xs ys : List A) (zs : List B) → AllZip R (xs ++ ys) zs → (front behind : List B) × (zs ≡ front ++ behind) × AllZip R xs front × AllZip R ys behind
split_zip R [] ys zs h = ([], zs, refl, tt, h)
split_zip R (x ∷ xs) ys [] h = absurd h
split_zip {B = B} R (x ∷ xs) ys (z ∷ zs) h =
    let rest = split_zip R xs ys zs h.1 in
    (z ∷ rest.0, rest.1, ap (λ (l : List B). z ∷ l) rest.2, (h.0, rest.3), rest.4)

pub zip_length : {A B : Type 0} (R : A → B → Type 0) (xs : List A) (ys : List B) → AllZip R xs ys → length xs ≡ length ys
zip_length R [] [] h = refl
zip_length R [] (y ∷ ys) h = absurd h
zip_length R (x ∷ xs) [] h = absurd h
zip_length R (x ∷ xs) (y ∷ ys) h = ap suc (zip_length R xs ys h.1)

pub zip_all : {A B : Type 0} (R : A → B → Type 0) (P : A → Type 0) (Q : B → Type 0) → ((x : A) (y : B) → R x y → P x → Q y) → (xs : List A) (ys : List B) → AllZip R xs ys → AllByRecursion P xs → AllByRecursion Q ys
zip_all R P Q step [] [] h all = tt
zip_all R P Q step [] (y ∷ ys) h all = absurd h
zip_all R P Q step (x ∷ xs) [] h all = absurd h
zip_all R P Q step (x ∷ xs) (y ∷ ys) h all = (step x y h.0 all.0, zip_all R P Q step xs ys h.1 all.1)

-- one more place
zip_push : {A B : Type 0} (R : A → B → Type 0) (xs : List A) (ys : List B) (x : A) (y : B) → AllZip R xs ys → R x y → AllZip R (xs ++ x ∷ []) (ys ++ y ∷ [])
zip_push R [] [] x y zip h = (h, tt)
zip_push R [] (z ∷ ys) x y zip h = absurd zip
zip_push R (w ∷ xs) [] x y zip h = absurd zip
zip_push R (w ∷ xs) (z ∷ ys) x y zip h = (zip.0, zip_push R xs ys x y zip.1 h)

pub take_seen : {X Y : Type 0} (g : X → Y) (xs : List X) (i : ℕ) (x : X) → i < length xs → x ≡ get_or xs i x → take (i + 1) (map g xs) ≡ take i (map g xs) ++ g x ∷ []
take_seen {X} {Y} g xs i x lt is =
    let at : get_or (map g xs) i (g x) ≡ g x = get_or-map g xs i x (g x) lt ∙ ap g (sym is) in
    take_more (map g xs) i (g x) (subst (λ (n : ℕ). i < n) (sym (length-map xs g)) lt) ∙ ap (λ (y : Y). take i (map g xs) ++ y ∷ []) at

pub zip_seen : {X Y B : Type 0} (R : Y → B → Type 0) (g : X → Y) (xs : List X) (ys zs : List B) (i : ℕ) (x : X) (y : B) → i < length xs → x ≡ get_or xs i x → AllZip R (take i (map g xs)) ys → R (g x) y → zs ≡ ys ++ y ∷ [] → AllZip R (take (i + 1) (map g xs)) zs
zip_seen R g xs ys zs i x y lt is zip h e =
    subst (λ ws. AllZip R ws zs) (sym (take_seen g xs i x lt is)) (subst (AllZip R (take i (map g xs) ++ g x ∷ [])) (sym e) (zip_push R (take i (map g xs)) ys (g x) y zip h))

-- the place of a list beside another
pub zip_get : {A B : Type 0} (R : A → B → Type 0) (xs : List A) (ys : List B) (i : ℕ) (x : A) (y : B) → AllZip R xs ys → i < length xs → R (get_or xs i x) (get_or ys i y)
zip_get R [] ys i x y zip lt = absurd (omega (arith, lt))
zip_get R (a ∷ xs) [] i x y zip lt = absurd zip
zip_get R (a ∷ xs) (b ∷ ys) zero x y zip lt = zip.0
zip_get R (a ∷ xs) (b ∷ ys) (suc i) x y zip lt = zip_get R xs ys i x y zip.1 (omega (arith, lt))

pub zip_seen_at : {X Y B : Type 0} (R : Y → B → Type 0) (g : X → Y) (xs : List X) (ys : List B) (i : ℕ) (x : X) (y : B) → AllZip R (map g xs) ys → i < length xs → x ≡ get_or xs i x → y ≡ get_or ys i y → R (g x) y
zip_seen_at R g xs ys i x y zip lt is at =
    let size = length-map xs g in
    let left : get_or (map g xs) i (g x) ≡ g x = get_or-map g xs i x (g x) lt ∙ ap g (sym is) in
    subst (λ z. R z y) left (subst (R (get_or (map g xs) i (g x))) (sym at) (zip_get R (map g xs) ys i (g x) y zip (omega (arith, lt, size))))

pub as_long : {X Y B : Type 0} (R : Y → B → Type 0) (g : X → Y) (xs : List X) (ys : List B) → AllZip R (map g xs) ys → length xs ≡ length ys
as_long R g xs ys zip = sym (length-map xs g) ∙ zip_length R (map g xs) ys zip

pub seen_there : {X Y : Type 0} (g : X → Y) (xs : List X) (i : ℕ) (x : X) → i < length xs → x ≡ get_or xs i x → Contains (map g xs) (g x)
seen_there g xs i x lt is = let size = length-map xs g in (i, omega (arith, lt, size), get_or-map g xs i x (g x) lt ∙ ap g (sym is))
