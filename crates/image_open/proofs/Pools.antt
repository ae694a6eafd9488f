-- The pool of an image while its texts are read.
use Rattle.std.proofs.Common.{◌≡◌, ℕ, zero, suc, ◌+◌, ◌<◌, ◌^◌, Bool, true, false, not, ◌&&◌, ◌||◌, List, [], ◌∷◌, ◌++◌, length, length-append, Option, Some, None, refl, sym, ap, ap₂, subst, ◌∙◌, append_assoc, arith}
use Rattle.std.specs.Prelude.{position, option_map, slice_get}
use Rattle.std.specs.List.{list_any}
use Rattle.std.specs.Str.{bytes_eq}
use Rattle.std.proofs.lemmas.List.{append-nil}
use Rattle.std.proofs.lemmas.Slice.Eq.{bytes_eq-Decides}
use Rattle.image_grammar.specs.mpy_tree.File.{Many}
use Rattle.qstr_pool.specs.Pool.{Texts, all_differ}
use Rattle.qstr_pool.proofs.Places.{absent}
use Rattle.image_grammar.specs.bc_library.Own.{IsOwnText}
use Rattle.image_grammar.specs.bc_library.Texts.{IsPlain}
use Rattle.image_grammar.specs.Image as image
use Rattle.image_grammar.specs.Opening.{Base, IsNew, with_last, own_text, pool_below}
use Rattle.image_grammar.proofs.Fine.{own_text_found}
use Rattle.image_grammar.proofs.Inversion.{Keeps, Many-push}
use Rattle.image_open.proofs.Uses.{IsProper}

-- a new text behind the others
-- ============================

pub parts : (a b : Bool) → (not a && b) ≡ true → (a ≡ false) × (b ≡ true)
parts true b e = cc
parts false b e = (refl, e)

pub none_of : (a b : Bool) → (a || b) ≡ false → (a ≡ false) × (b ≡ false)
none_of true b e = cc
none_of false b e = (refl, e)

pub false_unless : (b : Bool) → (b ≡ true → true ≡ false) → b ≡ false
false_unless true e = e refl
false_unless false e = refl

pub other : (x y : List ℕ) → bytes_eq x y ≡ false → bytes_eq y x ≡ false
other x y e = false_unless (bytes_eq y x) (λ same. sym ((bytes_eq-Decides x y).1 (sym ((bytes_eq-Decides y x).0 same))) ∙ e)

pub any_push : (p : List ℕ → Bool) (xs : List (List ℕ)) (x : List ℕ) → list_any p xs ≡ false → p x ≡ false → list_any p (xs ++ x ∷ []) ≡ false
any_push p [] x none not_x = ap (λ b. b || false) not_x
any_push p (y ∷ ys) x none not_x =
    let q = none_of (p y) (list_any p ys) none in
    ap₂ (λ a b. a || b) q.0 (any_push p ys x q.1 not_x)

pub differ_push : (xs : List (List ℕ)) (x : List ℕ) → all_differ xs ≡ true → list_any (bytes_eq x) xs ≡ false → all_differ (xs ++ x ∷ []) ≡ true
differ_push [] x d n = refl
differ_push (y ∷ ys) x d n =
    let p = parts (list_any (bytes_eq y) ys) (all_differ ys) d in
    let q = none_of (bytes_eq x y) (list_any (bytes_eq x) ys) n in
    ap₂ (λ a b. not a && b) (any_push (bytes_eq y) ys x p.0 (other x y q.0)) (differ_push ys x p.1 q.1)

pub each_push : (xs : List (List ℕ)) (x : List ℕ) (k : ℕ) (text : List ℕ) → IsOwnText x → ((i : ℕ) (t : List ℕ) → slice_get xs i ≡ Some t → IsOwnText t) → slice_get (xs ++ x ∷ []) k ≡ Some text → IsOwnText text
each_push [] x zero text s each e = let same : x ≡ text = cc in subst IsOwnText same s
each_push [] x (suc k) text s each e = absurd cc
each_push (y ∷ ys) x zero text s each e = each zero text e
each_push (y ∷ ys) x (suc k) text s each e = each_push ys x k text s (λ i t h. each (suc i) t h) e

pub unnumbered : (first : ℕ) (r : Option ℕ) → option_map (λ place. first + place) r ≡ None → r ≡ None
unnumbered first None e = refl
unnumbered first (Some i) e = cc

pub proper_push : (pool : Texts) (text : List ℕ) → IsProper pool → IsNew pool text → IsPlain text → IsProper (with_last pool text)
proper_push pool text p new plain = record {
  own = record {
    first = p.own.first;
    each = λ k t e. each_push pool.texts text k t (record { plain = plain; own = new.own }) (λ i s h. p.own.each i s h) e;
  };
  differ = differ_push pool.texts text p.differ (absent pool.texts text (unnumbered pool.first (position (bytes_eq text) pool.texts) new.absent));
}

-- the texts that were read
-- ========================

pub record TextsRead (below : Base) (start : List ℕ) (i : ℕ) (pool : Texts) (rest : List ℕ) : Type 0 where
  pub own : List (List ℕ)
  pub text : List ℕ
  pub spelled : Many image.IsOwnText text own
  pub bytes_are : start ≡ text ++ rest
  pub texts_are : pool.texts ≡ below.texts ++ own
  pub number : length own ≡ i
  pub proper : IsProper pool

pub none_read : (below : Base) (start : List ℕ) → IsProper (pool_below below) → TextsRead below start 0 (pool_below below) start
none_read below start proper = record { own = []; text = []; spelled = refl; bytes_are = refl; texts_are = sym (append-nil below.texts); number = refl; proper = proper }

pub small_own : (text own : List ℕ) → image.IsOwnText text own → length own < 2 ^ 31
small_own text own s = s.spells.small

pub text_step : (below : Base) (start : List ℕ) → Keeps own_text (TextsRead below start)
text_step below start = record {
  next = λ i pool new bytes rest p h.
      let r = own_text_found pool new bytes rest h in
      let number = p.number in
      subst (λ (z : Texts). TextsRead below start (suc i) z rest) (sym r.new_is) (record {
        own = p.own ++ r.own ∷ [];
        text = p.text ++ r.text;
        spelled = Many-push image.IsOwnText p.text r.text p.own r.own p.spelled r.spelled;
        bytes_are = p.bytes_are ∙ (ap (λ (z : List ℕ). p.text ++ z) r.bytes_are ∙ sym (append_assoc p.text r.text rest));
        texts_are = ap (λ (z : List (List ℕ)). z ++ r.own ∷ []) p.texts_are ∙ append_assoc below.texts p.own (r.own ∷ []);
        number = omega (arith, number, length-append p.own (r.own ∷ []));
        proper = proper_push pool r.own p.proper r.is_new (record { ascii = r.spelled.ascii; short = small_own r.text r.own r.spelled });
      });
}
