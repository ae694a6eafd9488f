-- The table of words.
use Rattle.std.proofs.Common.{◌≡◌, ℕ, ◌+◌, ◌*◌, ◌-◌, ◌%◌, Bool, true, false, inl, inr, List, length, get_or, codes, Contains, Some, refl, sym, ap, ◌∙◌, subst}
use Rattle.std.specs.List.{All}
use Rattle.std.proofs.lemmas.List.Elements.{All-contains, All-from_recursion}
use Rattle.std.proofs.lemmas.Slice.Eq.{bytes_eq-Decides}
use Rattle.std.specs.Str.{bytes_eq}
use Rattle.py_tokens.specs.declared.word.Word.{Word}
use Rattle.py_tokens.specs.declared.word.Word.TheVariants as words
use Rattle.py_tokens.specs.declared.word.TheConstants.{WORDS}
use Rattle.py_tokens.specs.Word.{spelling, refused_words, IsWord}

abbrev pub slot : ℕ → ℕ → ℕ → ℕ
slot len first last = (len + 22 * first + 43 * last) % 48

-- the word in the slot of a text
unfoldable pub slotted : List ℕ → Word
slotted text = get_or WORDS (slot (length text) (get_or text 0 0) (get_or text (length text - 1) 0)) words.False

pub word_slotted : (w : Word) → slotted (spelling w) ≡ w
unfolding slotted
word_slotted words.False = refl
word_slotted words.None = refl
word_slotted words.True = refl
word_slotted words.And = refl
word_slotted words.As = refl
word_slotted words.Assert = refl
word_slotted words.Break = refl
word_slotted words.Continue = refl
word_slotted words.Def = refl
word_slotted words.Del = refl
word_slotted words.Elif = refl
word_slotted words.Else = refl
word_slotted words.Except = refl
word_slotted words.Finally = refl
word_slotted words.For = refl
word_slotted words.From = refl
word_slotted words.Global = refl
word_slotted words.If = refl
word_slotted words.Import = refl
word_slotted words.In = refl
word_slotted words.Is = refl
word_slotted words.Not = refl
word_slotted words.Or = refl
word_slotted words.Pass = refl
word_slotted words.Raise = refl
word_slotted words.Return = refl
word_slotted words.Try = refl
word_slotted words.While = refl

-- the word that the code reads
pub reads : (text : List ℕ) (first last : ℕ) → first ≡ get_or text 0 0 → last ≡ get_or text (length text - 1) 0 → get_or WORDS (slot (length text) first last) words.False ≡ slotted text
unfolding slotted
reads text first last is also = ap (λ k. get_or WORDS (slot (length text) k last) words.False) is ∙ ap (λ k. get_or WORDS (slot (length text) (get_or text 0 0) k) words.False) also

pub is_word : (text : List ℕ) (w v : Word) → w ≡ slotted text → text ≡ spelling v → w ≡ v
is_word text w v at is = at ∙ (ap slotted is ∙ word_slotted v)

some_is : (v w : Word) → Some v ≡ Some w → v ≡ w
some_is v w e = cc

-- a text is the word in its slot, or none
pub slot_has : (text its : List ℕ) (v : Word) (r : Bool) → v ≡ slotted text → its ≡ spelling v → r ≡ bytes_eq text its → r ≡ true → (w : Word) → (Some v ≡ Some w → text ≡ spelling w) × (text ≡ spelling w → Some v ≡ Some w)
slot_has text its v r at is eq equal w =
    let same : text ≡ its = (bytes_eq-Decides text its).0 (sym eq ∙ equal) in
    (λ e. same ∙ (is ∙ ap spelling (some_is v w e)), λ e. ap (λ x. Some x) (is_word text v w at e))

pub slot_lacks : (text its : List ℕ) (v : Word) (r : Bool) → v ≡ slotted text → its ≡ spelling v → r ≡ bytes_eq text its → r ≡ false → (w : Word) → text ≡ spelling w → ⊥
slot_lacks text its v r at is eq other w e =
    let same : text ≡ its = e ∙ (ap spelling (sym (is_word text v w at e)) ∙ sym is) in
    let equal = (bytes_eq-Decides text its).1 same in
    cc

pub one_word : (v w : Word) → spelling v ≡ spelling w → v ≡ w
one_word v w e = sym (word_slotted v) ∙ (ap slotted e ∙ word_slotted w)

-- the words that are left out, and `__debug__`, are no words
IsNone : List ℕ → Type 0
IsNone text = bytes_eq text (spelling (slotted text)) ≡ false

none_is : (text : List ℕ) (w : Word) → IsNone text → text ≡ spelling w → ⊥
unfolding IsNone
none_is text w none is =
    let same : text ≡ spelling (slotted text) = is ∙ ap spelling (sym (word_slotted w) ∙ ap slotted (sym is)) in
    let equal = (bytes_eq-Decides text (spelling (slotted text))).1 same in
    cc

all_none : All IsNone refused_words
unfolding IsNone slotted
all_none = All-from_recursion IsNone refused_words (refl, (refl, (refl, (refl, (refl, (refl, (refl, tt)))))))

pub apart : (w : Word) → Contains refused_words (spelling w) → ⊥
apart w h = none_is (spelling w) w (All-contains IsNone refused_words (spelling w) all_none h) refl

debug_none : IsNone (codes "__debug__")
unfolding IsNone slotted
debug_none = refl

pub debug_apart : (w : Word) → codes "__debug__" ≡ spelling w → ⊥
debug_apart w e = none_is (codes "__debug__") w debug_none e

debug_not_refused : Contains refused_words (codes "__debug__") → ⊥
debug_not_refused h = All-contains (λ text. text ≡ codes "__debug__" → ⊥) refused_words (codes "__debug__") others h refl
  where
    others : All (λ text. text ≡ codes "__debug__" → ⊥) refused_words
    others = All-from_recursion (λ text. text ≡ codes "__debug__" → ⊥) refused_words ((λ e. cc), ((λ e. cc), ((λ e. cc), ((λ e. cc), ((λ e. cc), ((λ e. cc), ((λ e. cc), tt)))))))

pub refused_no_word : (opt : ℕ) (text : List ℕ) (w : Word) → Contains refused_words text → IsWord opt text w → ⊥
refused_no_word opt text w h (inl is) = none_is text w (All-contains IsNone refused_words text all_none h) is
refused_no_word opt text w h (inr is) = debug_not_refused (subst (Contains refused_words) is.0 h)

pub only_word : (opt : ℕ) (text : List ℕ) (v w : Word) → text ≡ spelling v → IsWord opt text w → v ≡ w
only_word opt text v w is (inl its) = one_word v w (sym is ∙ its)
only_word opt text v w is (inr its) = absurd (debug_apart v (sym its.0 ∙ is))
