-- The name that a module stores of its source.
use Rattle.std.proofs.Common.{◌≡◌, ℕ, zero, suc, ◌-◌, ◌<◌, ◌≤◌, Bool, true, false, List, [], ◌∷◌, length, Some, None, refl, ap, ◌∙◌, slice_get, option_and_then, arith}
use Rattle.std.specs.Prelude.{◌&&◌, if◌then◌else◌, nat_lt}
use Rattle.std.proofs.lemmas.Bool.{le-ltb, ltb-true}
use Rattle.std.proofs.lemmas.List.Elements.{All-nil, All-cons}
use Rattle.mpy_tree.specs.qstr_pool.Static.{static_texts, static_text_of}
use Rattle.mpy_tree.specs.qstr_pool.declared.table.TheConstants.{STATIC_COUNT}
use Rattle.mpy_tree.specs.declared.raw.Qstr.{Qstr}
use Rattle.mpy_tree.specs.declared.raw.Qstr.TheVariants.{Static, Own}
use Rattle.mpy_tree.specs.File.{IsAscii, Many, IsQstr, IsModule}
use Rattle.mpy_tree.specs.Raw.{Module, text_of}
use Rattle.mpy_tree.specs.Resolved.{name_at}

-- a test of bytes
abbrev is_ascii : List ℕ → Bool
is_ascii [] = true
is_ascii (byte ∷ bytes) = nat_lt byte 128 && is_ascii bytes

abbrev all_ascii : List (List ℕ) → Bool
all_ascii [] = true
all_ascii (text ∷ texts) = is_ascii text && all_ascii texts

both_true : (a b : Bool) → (a && b) ≡ true → (a ≡ true) × (b ≡ true)
both_true true b e = (refl, e)
both_true false b e = absurd cc

ascii : (text : List ℕ) → is_ascii text ≡ true → IsAscii text
ascii [] e = All-nil (λ byte. byte < 128)
ascii (byte ∷ bytes) e =
    let h = both_true (nat_lt byte 128) (is_ascii bytes) e in
    All-cons (λ b. b < 128) byte bytes (ltb-true byte 128 h.0) (ascii bytes h.1)

found : (texts : List (List ℕ)) (i : ℕ) → i < length texts → all_ascii texts ≡ true → (t : List ℕ) × (slice_get texts i ≡ Some t) × IsAscii t
found [] i lt e = absurd (omega (arith, lt))
found (text ∷ texts) zero lt e = (text, refl, ascii text (both_true (is_ascii text) (all_ascii texts) e).0)
found (text ∷ texts) (suc i) lt e = found texts i (omega (arith, lt)) (both_true (is_ascii text) (all_ascii texts) e).1

statics_ascii : all_ascii static_texts ≡ true
statics_ascii = refl

static_found : (n : ℕ) → 1 ≤ n → n ≤ STATIC_COUNT → (t : List ℕ) × (static_text_of n ≡ Some t) × IsAscii t
static_found n le most =
    let long : length static_texts ≡ STATIC_COUNT = refl in
    let t = found static_texts (n - 1) (omega (arith, le, most, long)) statics_ascii in
    (t.0, ap (λ (b : Bool). if b then None else slice_get static_texts (n - 1)) (le-ltb n 1 le) ∙ t.1, t.2)

entry : (q : Qstr) (text : List ℕ) → IsQstr text q → (t : List ℕ) × (text_of q ≡ Some t) × IsAscii t
entry (Static number) text h = static_found number h.from_one h.known
entry (Own own) text h = (own, refl, h.ascii)

first : (qstrs : List Qstr) (text : List ℕ) → 1 ≤ length qstrs → Many IsQstr text qstrs → (t : List ℕ) × (option_and_then text_of (slice_get qstrs 0) ≡ Some t) × IsAscii t
first [] text some are = absurd (omega (arith, some))
first (q ∷ qstrs) text some are = entry q are.0 are.2

-- it is there, and ASCII
pub stored : (m : Module) → IsModule m → (t : List ℕ) × (name_at m 0 ≡ Some t) × IsAscii t
stored m is = first m.qstrs is.1.qstrs is.1.some_qstrs is.1.are_qstrs
