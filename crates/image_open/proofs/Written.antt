-- An image that is spelled whole is read.
use Rattle.std.proofs.Common.{◌≡◌, ℕ, zero, suc, ◌+◌, ◌≤◌, Bool, true, false, not, cond, ◌&&◌, ◌||◌, List, [], ◌∷◌, ◌++◌, length, length-append, Option, Some, None, Result, Ok, Err, refl, sym, ap, ap₂, subst, ◌∙◌, append_assoc, arith}
use Rattle.std.specs.Prelude.{All, slice_get, position, option_map}
use Rattle.std.specs.List.{list_any}
use Rattle.std.specs.Str.{bytes_eq}
use Rattle.std.proofs.lemmas.List.{append-nil}
use Rattle.std.proofs.lemmas.List.Elements.{recursion_from_All}
use Rattle.std.proofs.lemmas.List.Folds.{list_any-append}
use Rattle.std.proofs.lemmas.Slice.Eq.{bytes_eq-Decides}
use Rattle.mpy_base.specs.declared.limits.TheConstants.{MAX_IMAGE_BYTES}
use Rattle.image_grammar.specs.mpy_tree.File.{Many}
use Rattle.qstr_pool.specs.declared.table.TheConstants.{FIRST_OWN}
use Rattle.qstr_pool.specs.Pool.{Texts, all_differ}
use Rattle.qstr_pool.specs.Static.{static_number_of}
use Rattle.qstr_pool.proofs.Places.{present}
use Rattle.image_grammar.specs.bc_verify.Verified.{IsVerified}
use Rattle.image_grammar.specs.bc_library.Texts.{IsPlain, with_text, with_texts}
use Rattle.image_grammar.proofs.bc_library_lemmas.Pools.{with_static, with_own, same_first}
use Rattle.image_grammar.specs.declared.entry.Entry.{Entry}
use Rattle.image_grammar.specs.declared.fault.ImageFault.{ImageFault}
use Rattle.image_grammar.specs.declared.fault.ImageFault.TheVariants.{Trailing}
use Rattle.image_grammar.specs.Image.{IsOwnText, IsImage, Differ, texts_used}
use Rattle.image_grammar.specs.Opening.{Base, with_last, own_text, pool_below, names_of, table, modules, parts, image}
use Rattle.image_grammar.specs.Steps.{Reading, Bind, goes_on, judge, pure, times}
use Rattle.image_grammar.proofs.Steps.{judged, unjudged}
use Rattle.image_open.proofs.Pools.{differ_push}
use Rattle.image_open.proofs.Taken.{AreNew, with_all, count_read, texts_read, entries_read, base_read}
use Rattle.image_open.proofs.Uses.{IsProper}

-- texts that are no static ones, each once
pub record AreOnce (texts : List (List ℕ)) : Type 0 where
  pub own : (k : ℕ) (text : List ℕ) → slice_get texts k ≡ Some text → static_number_of text ≡ None
  pub differ : all_differ texts ≡ true

pub own_push : (xs : List (List ℕ)) (x : List ℕ) (k : ℕ) (text : List ℕ) → static_number_of x ≡ None → ((i : ℕ) (t : List ℕ) → slice_get xs i ≡ Some t → static_number_of t ≡ None) → slice_get (xs ++ x ∷ []) k ≡ Some text → static_number_of text ≡ None
own_push [] x zero text s each e = let same : x ≡ text = cc in ap static_number_of (sym same) ∙ s
own_push [] x (suc k) text s each e = absurd cc
own_push (y ∷ ys) x zero text s each e = each zero text e
own_push (y ∷ ys) x (suc k) text s each e = own_push ys x k text s (λ i t h. each (suc i) t h) e

pub once_interned : (pool : Texts) (text : List ℕ) (b : Bool) → b ≡ list_any (bytes_eq text) pool.texts → static_number_of text ≡ None → AreOnce pool.texts → AreOnce (cond b pool (with_last pool text)).texts
once_interned pool text true e own a = a
once_interned pool text false e own a = record { own = λ k t h. own_push pool.texts text k t own a.own h; differ = differ_push pool.texts text a.differ (sym e) }

pub once_text : (pool : Texts) (text : List ℕ) (o : Option ℕ) → o ≡ static_number_of text → AreOnce pool.texts → AreOnce (with_text pool text).texts
once_text pool text (Some n) e a = subst (λ (z : Texts). AreOnce z.texts) (with_static pool text n (sym e)) a
once_text pool text None e a = subst (λ (z : Texts). AreOnce z.texts) (with_own pool text (sym e)) (once_interned pool text (list_any (bytes_eq text) pool.texts) refl (sym e) a)

pub once_texts : (pool : Texts) (texts : List (List ℕ)) → AreOnce pool.texts → AreOnce (with_texts pool texts).texts
once_texts pool [] a = a
once_texts pool (text ∷ texts) a = once_texts (with_text pool text) texts (once_text pool text (static_number_of text) refl a)

-- texts that go behind others are new there
-- =========================================

pub no_place : (pool : Texts) (text : List ℕ) (o : Option ℕ) → o ≡ position (bytes_eq text) pool.texts → list_any (bytes_eq text) pool.texts ≡ false → option_map (λ place. pool.first + place) o ≡ None
no_place pool text None e none = refl
no_place pool text (Some i) e none = absurd (let there = present pool.texts text i (sym e) in cc)

pub parts_of : (a b : Bool) → (not a && b) ≡ true → (a ≡ false) × (b ≡ true)
parts_of true b e = cc
parts_of false b e = (refl, e)

pub none_of : (a b : Bool) → (a || b) ≡ false → (a ≡ false) × (b ≡ false)
none_of true b e = cc
none_of false b e = (refl, e)

pub false_unless : (b : Bool) → (b ≡ true → true ≡ false) → b ≡ false
false_unless true e = e refl
false_unless false e = refl

pub other : (x y : List ℕ) → bytes_eq x y ≡ false → bytes_eq y x ≡ false
other x y e = false_unless (bytes_eq y x) (λ same. sym ((bytes_eq-Decides x y).1 (sym ((bytes_eq-Decides y x).0 same))) ∙ e)

-- a text behind others that differ isn't among these
pub not_among : (xs ys : List (List ℕ)) (x : List ℕ) → all_differ (xs ++ x ∷ ys) ≡ true → list_any (bytes_eq x) xs ≡ false
not_among [] ys x d = refl
not_among (z ∷ zs) ys x d =
    let p = parts_of (list_any (bytes_eq z) (zs ++ x ∷ ys)) (all_differ (zs ++ x ∷ ys)) d in
    let q = none_of (list_any (bytes_eq z) zs) (bytes_eq z x || list_any (bytes_eq z) ys) (sym (list_any-append (bytes_eq z) zs (x ∷ ys)) ∙ p.0) in
    let r = none_of (bytes_eq z x) (list_any (bytes_eq z) ys) q.1 in
    ap₂ (λ a b. a || b) (other z x r.0) (not_among zs ys x p.1)

pub middle : (xs ys : List (List ℕ)) (x : List ℕ) → slice_get (xs ++ x ∷ ys) (length xs) ≡ Some x
middle [] ys x = refl
middle (z ∷ zs) ys x = middle zs ys x

pub are_new : (pool : Texts) (own : List (List ℕ)) → AreOnce (pool.texts ++ own) → AreNew pool own
are_new pool [] a = tt
are_new pool (x ∷ xs) a =
    let none = not_among pool.texts xs x a.differ in
    let static = a.own (length pool.texts) x (middle pool.texts xs x) in
    let together : pool.texts ++ x ∷ xs ≡ (pool.texts ++ x ∷ []) ++ xs = sym (append_assoc pool.texts (x ∷ []) xs) in (
      record { own = static; absent = no_place pool x (position (bytes_eq x) pool.texts) refl none },
      are_new (with_last pool x) xs (subst AreOnce together a),
    )

-- texts of an image are plain
pub plain_at : (text : List ℕ) (own : List (List ℕ)) (k : ℕ) (x : List ℕ) → Many IsOwnText text own → slice_get own k ≡ Some x → IsPlain x
plain_at text [] k x m e = absurd cc
plain_at text (y ∷ ys) zero x m e = let same : y ≡ x = cc in subst IsPlain same (record { ascii = m.2.ascii; short = m.2.spells.small })
plain_at text (y ∷ ys) (suc k) x m e = plain_at m.1 ys k x m.4 e

pub plain_both : (below own : List (List ℕ)) (text : List ℕ) (k : ℕ) (x : List ℕ) → ((i : ℕ) (t : List ℕ) → slice_get below i ≡ Some t → IsPlain t) → Many IsOwnText text own → slice_get (below ++ own) k ≡ Some x → IsPlain x
plain_both [] own text k x each m e = plain_at text own k x m e
plain_both (y ∷ ys) own text zero x each m e = each zero x e
plain_both (y ∷ ys) own text (suc k) x each m e = plain_both ys own text k x (λ i t h. each (suc i) t h) m e

-- an image, and what stands behind it
-- ===================================

regrouped : (front a b c d tail : List ℕ) → (front ++ (a ++ (b ++ (c ++ d)))) ++ tail ≡ front ++ (a ++ (b ++ (c ++ (d ++ tail))))
regrouped front a b c d tail = simp append_assoc

-- how the reading of an image ends where such bytes are left
abbrev pub ends_with : List Entry → List ℕ → Reading (List Entry)
ends_with entries left = Bind (judge (left ≡ []) Trailing) (λ _. pure entries)

-- the pool of an image
pub image_proper : (below : Base) (bytes : List ℕ) (entries : List Entry) → IsProper (pool_below below) → (s : IsImage below entries bytes) → IsProper s.pool
image_proper below bytes entries below_proper s =
    let pool = s.pool in
    let start = pool_below below in
    let once_below : AreOnce below.texts = record { own = λ k text e. (below_proper.own.each k text e).own; differ = below_proper.differ } in
    let once : AreOnce pool.texts = subst (λ (z : Texts). AreOnce z.texts) (sym s.first_use) (once_texts start (texts_used entries) once_below) in
    record {
      own = record {
        first = ap (λ (z : Texts). z.first) s.first_use ∙ same_first start (texts_used entries);
        each = λ k text e. record {
          plain = plain_both below.texts s.own s.texts k text (λ i t h. (below_proper.own.each i t h).plain) s.are_texts (sym (ap (λ (z : List (List ℕ)). slice_get z k) s.pool_is) ∙ e);
          own = once.own k text e;
        };
      };
      differ = once.differ;
    }

pub image_goes : (below : Base) (bytes tail : List ℕ) (entries : List Entry) (outcome : Result (List Entry) ImageFault) → IsProper (pool_below below) → IsImage below entries bytes → All (λ e. IsVerified e.held) entries → length (bytes ++ tail) ≤ MAX_IMAGE_BYTES
    → ends_with entries tail outcome → image below (bytes ++ tail) outcome
unfolding image parts table modules
image_goes below bytes tail entries outcome below_proper s verified short last =
    let pool = s.pool in
    let start = pool_below below in
    let proper = image_proper below bytes entries below_proper s in
    let once : AreOnce pool.texts = record { own = λ k text e. (proper.own.each k text e).own; differ = proper.differ } in
    let news : AreNew start s.own = are_new start s.own (subst AreOnce s.pool_is once) in
    let first = proper.own.first in
    let made : with_all start s.own ≡ pool = ap₂ (λ (n : ℕ) (ts : List (List ℕ)). record { first = n; texts = ts }) (sym first) (sym s.pool_is) in
    let behind : List ℕ = s.text_count ++ (s.texts ++ (s.module_count ++ (s.named ++ tail))) in
    let whole : bytes ++ tail ≡ s.front ++ behind = ap (λ (z : List ℕ). z ++ tail) s.bytes_are ∙ regrouped s.front s.text_count s.texts s.module_count s.named tail in
    let f = base_read below (bytes ++ tail) s.front behind s.is_front whole in
    let few_texts = s.few_texts in
    let few_modules = s.few_modules in
    let lengths : length pool.texts ≡ length below.texts + length s.own = ap length s.pool_is ∙ length-append below.texts s.own in
    let names : below.names ++ names_of [] ≡ below.names = append-nil below.names in
    let differ : Differ (below.names ++ names_of []) (names_of entries) = subst (λ (z : List (List ℕ)). Differ z (names_of entries)) (sym names) s.differ in
    let texts = texts_read start s.own (s.texts ++ (s.module_count ++ (s.named ++ tail))) s.texts (s.module_count ++ (s.named ++ tail)) s.are_texts news refl in
    let read = entries_read below pool start [] entries (s.named ++ tail) s.named tail proper s.first_use s.are_named differ (recursion_from_All (λ e. IsVerified e.held) entries verified) refl in
    let used : length (with_texts start (texts_used entries)).texts ≡ length pool.texts = ap (λ (z : Texts). length z.texts) (sym s.first_use) in
    judged short
    (goes_on (f.0, f.1) f.2
    (goes_on behind f.3
    (goes_on (pool, s.module_count ++ (s.named ++ tail))
    (goes_on (length s.own, s.texts ++ (s.module_count ++ (s.named ++ tail))) (count_read _ (length s.own) _ s.text_count _ s.counts_texts (omega (arith, few_texts, lengths)) refl)
    (subst (λ (z : Texts). times (length s.own) own_text start (s.texts ++ (s.module_count ++ (s.named ++ tail))) (Ok (z, s.module_count ++ (s.named ++ tail)))) made texts))
    (goes_on (record { entries = entries; used = length (with_texts start (texts_used entries)).texts }, tail)
    (goes_on (length entries, s.named ++ tail) (count_read _ (length entries) _ s.module_count _ s.counts_modules (omega (arith, few_modules)) refl) read)
    (judged used last)))))

pub image_read : (below : Base) (bytes : List ℕ) (entries : List Entry) → IsProper (pool_below below) → IsImage below entries bytes → All (λ e. IsVerified e.held) entries → image below bytes (Ok entries)
image_read below bytes entries proper s verified =
    let same = append-nil bytes in
    let short = s.short in
    subst (λ (z : List ℕ). image below z (Ok entries)) same
    (image_goes below bytes [] entries (Ok entries) proper s verified (omega (arith, short, ap length same)) (judged refl refl))

-- bytes behind an image are the first fault
pub image_trailing : (below : Base) (bytes tail : List ℕ) (entries : List Entry) → IsProper (pool_below below) → IsImage below entries bytes → All (λ e. IsVerified e.held) entries → (tail ≡ [] → ⊥) → length (bytes ++ tail) ≤ MAX_IMAGE_BYTES → image below (bytes ++ tail) (Err Trailing)
image_trailing below bytes tail entries proper s verified some short = image_goes below bytes tail entries (Err Trailing) proper s verified short (unjudged some)
