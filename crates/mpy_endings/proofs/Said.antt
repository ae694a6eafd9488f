-- Lines that are put in pieces.
use Rattle.std.proofs.lemmas.List.{get_or_past, get_or-map, length-map}
use Rattle.std.specs.declared.alloc.Global.{Global}
use Rattle.std.proofs.Common.{◌≡◌, ◌<◌, ◌≤◌, ℕ, Bool, true, false, List, [], ◌∷◌, ◌++◌, ◌==◌, codes, decimal, refl, length, map, get_or, String, string_bytes, arith, Option, Result, Ok, Err, ap, sym, subst, ◌∙◌, inl, inr, append_assoc}
use Rattle.mpy_io.specs.declared.fault.Failed.{Failed}
use Rattle.mpy_io.specs.Count.{Rose}
use Rattle.std.proofs.KnownBytes.{Appends-trans}
use Rattle.mpy_endings.specs.Line.{Puts, Says, path_text}

-- a piece that was cut leaves the line cut that goes on behind it
pub cut : (a b : Option (List ℕ)) (m n : ℕ) (x y : List ℕ) (f : Failed) → Puts a b m n x (Err f) → Puts a b m n (x ++ y) (Err f)
cut a b m n x y f p =
    let front = p.0 in
    (record { front = front.front; rest = front.rest ++ y; parts = ap (λ (bs : List ℕ). bs ++ y) front.parts ∙ append_assoc front.front front.rest y; added = front.added }, p.1)

rose_from : (l m n : ℕ) → m ≡ l → Rose m n → Rose l n
rose_from l m n e r = subst (λ (k : ℕ). Rose k n) e r

-- one piece behind another
pub both : (a b c : Option (List ℕ)) (l m n : ℕ) (x y : List ℕ) (u : Unit {0}) (r : Result (Unit {0}) Failed) → Puts a b l m x (Ok u) → Puts b c m n y r → Puts a c l n (x ++ y) r
both a b c l m n x y u (Ok v) p q = (Appends-trans a b c x y p.0 q.0, q.1 ∙ p.1)
both a b c l m n x y u (Err f) p q =
    let front = q.0 in
    (record { front = x ++ front.front; rest = front.rest; parts = ap (λ (bs : List ℕ). x ++ bs) front.parts ∙ sym (append_assoc x front.front front.rest); added = Appends-trans a b c x front.front p.0 front.added }, rose_from l m n p.1 q.1)

-- the same for pieces that are told by what they equal
pub cut_is : (a b : Option (List ℕ)) (m n : ℕ) (w x y : List ℕ) (f : Failed) → w ≡ x → Puts a b m n w (Err f) → Puts a b m n (x ++ y) (Err f)
cut_is a b m n w x y f e p = cut a b m n x y f (subst (λ (bs : List ℕ). Puts a b m n bs (Err f)) e p)

pub both_are : (a b c : Option (List ℕ)) (l m n : ℕ) (w x y z : List ℕ) (u : Unit {0}) (r : Result (Unit {0}) Failed) → w ≡ x → y ≡ z → Puts a b l m w (Ok u) → Puts b c m n y r → Puts a c l n (x ++ z) r
both_are a b c l m n w x y z u r e g p q =
    both a b c l m n x z u r (subst (λ (bs : List ℕ). Puts a b l m bs (Ok u)) e p) (subst (λ (bs : List ℕ). Puts b c m n bs r) g q)

pub says_from : (a b : Option (List ℕ)) (m n : ℕ) (line : List ℕ) (r : Result (Unit {0}) Failed) → Puts a b m n line r → Says a b m n line
says_from a b m n line (Ok u) p = inl p
says_from a b m n line (Err f) p = inr p

-- a line of four pieces that is cut in the first, the second or the third, and one that isn't
pub cut_first : (a b : Option (List ℕ)) (l m : ℕ) (w w' x y z : List ℕ) (f : Failed) → w ≡ w' → Puts a b l m w (Err f) → Puts a b l m (w' ++ x ++ y ++ z) (Err f)
cut_first a b l m w w' x y z f e p =
    cut a b l m (w' ++ x ++ y) z f (cut a b l m (w' ++ x) y f (cut a b l m w' x f (subst (λ (bs : List ℕ). Puts a b l m bs (Err f)) e p)))

pub cut_second : (a b c : Option (List ℕ)) (l m n : ℕ) (w w' x x' y z : List ℕ) (u : Unit {0}) (f : Failed) → w ≡ w' → x ≡ x' → Puts a b l m w (Ok u) → Puts b c m n x (Err f) → Puts a c l n (w' ++ x' ++ y ++ z) (Err f)
cut_second a b c l m n w w' x x' y z u f e g p q =
    let joined : w ++ x ≡ w' ++ x' = ap (λ (bs : List ℕ). bs ++ x) e ∙ ap (λ (bs : List ℕ). w' ++ bs) g in
    let here = subst (λ (bs : List ℕ). Puts a c l n bs (Err f)) joined (both a b c l m n w x u (Err f) p q) in
    cut a c l n (w' ++ x' ++ y) z f (cut a c l n (w' ++ x') y f here)

pub cut_third : (a b c d : Option (List ℕ)) (l m n o : ℕ) (w w' x x' y y' z : List ℕ) (u v : Unit {0}) (f : Failed) → w ≡ w' → x ≡ x' → y ≡ y' → Puts a b l m w (Ok u) → Puts b c m n x (Ok v) → Puts c d n o y (Err f) → Puts a d l o (w' ++ x' ++ y' ++ z) (Err f)
cut_third a b c d l m n o w w' x x' y y' z u v f e g h p q r =
    let joined : w ++ x ++ y ≡ w' ++ x' ++ y' = ap (λ (bs : List ℕ). bs ++ x ++ y) e ∙ (ap (λ (bs : List ℕ). w' ++ bs ++ y) g ∙ ap (λ (bs : List ℕ). w' ++ x' ++ bs) h) in
    let two = both a b c l m n w x u (Ok v) p q in
    cut a d l o (w' ++ x' ++ y') z f (subst (λ (bs : List ℕ). Puts a d l o bs (Err f)) joined (both a c d l n o (w ++ x) y v (Err f) two r))

pub all_four : (a b c d e : Option (List ℕ)) (l m n o k : ℕ) (w w' x x' y y' z z' : List ℕ) (u v t : Unit {0}) (r : Result (Unit {0}) Failed) → w ≡ w' → x ≡ x' → y ≡ y' → z ≡ z' → Puts a b l m w (Ok u) → Puts b c m n x (Ok v) → Puts c d n o y (Ok t) → Puts d e o k z r → Puts a e l k (w' ++ x' ++ y' ++ z') r
all_four a b c d e l m n o k w w' x x' y y' z z' u v t r i j g h p q s q' =
    let joined : w ++ x ++ y ++ z ≡ w' ++ x' ++ y' ++ z' = ap (λ (bs : List ℕ). bs ++ x ++ y ++ z) i ∙ (ap (λ (bs : List ℕ). w' ++ bs ++ y ++ z) j ∙ (ap (λ (bs : List ℕ). w' ++ x' ++ bs ++ z) g ∙ ap (λ (bs : List ℕ). w' ++ x' ++ y' ++ bs) h)) in
    let two = both a b c l m n w x u (Ok v) p q in
    let three = both a c d l n o (w ++ x) y v (Ok t) two s in
    subst (λ (bs : List ℕ). Puts a e l k bs r) joined (both a d e l o k (w ++ x ++ y) z t r three q')

-- the word at a place, and past the last
pub word_at : (words : List (String Global)) (at : ℕ) (word : String Global) → at < length words → word ≡ get_or words at word → string_bytes word ≡ get_or (map string_bytes words) at []
word_at words at word within read = ap string_bytes read ∙ sym (get_or-map string_bytes words at word [] within)

pub no_word : (words : List (String Global)) (at : ℕ) → length words ≤ at → [] ≡ get_or (map string_bytes words) at []
no_word words at past = sym (get_or_past (map string_bytes words) at [] (omega (arith, length-map words (string_bytes {Z = Global}))))

-- a place with others behind it
pub path_more : (path behind : List ℕ) (place : ℕ) (alone : Bool) → path ≡ place ∷ behind → alone ≡ (length behind == 0) → alone ≡ false → path_text path ≡ (decimal place ++ codes ".") ++ path_text behind
path_more path [] place alone e h n = absurd (let clash : true ≡ false = sym h ∙ n in cc)
path_more path (next ∷ places) place alone e h n = rw e refl
