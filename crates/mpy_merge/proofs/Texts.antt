-- The texts of a module's table may be written.
use Rattle.std.proofs.Common.{◌≡◌, ℕ, zero, suc, ◌-◌, ◌<◌, ◌≤◌, Bool, true, false, cond, ltb, ◌&&◌, List, [], ◌∷◌, length, Option, Some, None, refl, sym, ap, ◌∙◌, arith}
use Rattle.std.specs.Prelude.{slice_get, option_and_then, unwrap_or}
use Rattle.std.specs.List.{list_all, AllByRecursion}
use Rattle.std.proofs.lemmas.Bool.{ltb-true, le-ltb}
use Rattle.mpy_writer.specs.qstr_pool.Static.{static_texts, static_text_of}
use Rattle.mpy_writer.specs.qstr_pool.declared.table.TheConstants.{STATIC_COUNT}
use Rattle.mpy_writer.specs.mpy_tree.declared.raw.Qstr.{Qstr}
use Rattle.mpy_writer.specs.mpy_tree.declared.raw.Qstr.TheVariants.{Static, Own}
use Rattle.mpy_writer.specs.mpy_tree.File.{Many, IsQstr, IsModule}
use Rattle.mpy_writer.specs.mpy_tree.Raw.{Module, text_of}
use Rattle.mpy_writer.specs.mpy_tree.Resolved.{name_at}
use Rattle.mpy_writer.specs.Writable.{IsText}
use Rattle.mpy_writer.proofs.Samples.{text_by}
use Rattle.mpy_merge.specs.Moved.{entry_text, text_at}

none_fine : IsText []
none_fine = text_by [] refl (omega arith)

-- the texts that every file may name by number
is_fine : List ℕ → Bool
is_fine text = list_all (λ byte. ltb byte 128) text && ltb (length text) 128

both : (a b : Bool) → (a && b) ≡ true → (a ≡ true) × (b ≡ true)
both true true e = (refl, refl)
both true false e = absurd cc
both false b e = absurd cc

by_test : (texts : List (List ℕ)) → list_all is_fine texts ≡ true → AllByRecursion IsText texts
unfolding is_fine
by_test [] e = tt
by_test (text ∷ texts) e =
    let parts = both (is_fine text) (list_all is_fine texts) e in
    let test = both (list_all (λ byte. ltb byte 128) text) (ltb (length text) 128) parts.0 in
    (text_by text test.0 (ltb-true (length text) 128 test.1), by_test texts parts.1)

statics_fine : AllByRecursion IsText static_texts
unfolding is_fine
statics_fine = by_test static_texts refl

fine_get : (texts : List (List ℕ)) (n : ℕ) → AllByRecursion IsText texts → IsText (unwrap_or (slice_get texts n) [])
fine_get [] n h = none_fine
fine_get (text ∷ texts) zero h = h.0
fine_get (text ∷ texts) (suc n) h = fine_get texts n h.1

static_fine : (number : ℕ) → IsText (unwrap_or (static_text_of number) [])
static_fine number = by (ltb number 1) where
  by : (b : Bool) → IsText (unwrap_or (cond b None (slice_get static_texts (number - 1))) [])
  by true = none_fine
  by false = fine_get static_texts (number - 1) statics_fine

entry_fine : (text : List ℕ) (q : Qstr) → IsQstr text q → IsText (entry_text q)
entry_fine text (Static number) h = static_fine number
entry_fine text (Own own) h = record { ascii = h.ascii; short = h.spells.small }

all_fine : (text : List ℕ) (qs : List Qstr) → Many IsQstr text qs → AllByRecursion (λ q. IsText (entry_text q)) qs
all_fine text [] h = tt
all_fine text (q ∷ qs) h = (entry_fine h.0 q h.2, all_fine h.1 qs h.4)

pub entries_fine : (m : Module) → IsModule m → AllByRecursion (λ q. IsText (entry_text q)) m.qstrs
entries_fine m h = all_fine h.1.qstrs m.qstrs h.1.are_qstrs

named_fine : (qs : List Qstr) (n : ℕ) → AllByRecursion (λ q. IsText (entry_text q)) qs → IsText (unwrap_or (option_and_then text_of (slice_get qs n)) [])
named_fine [] n h = none_fine
named_fine (q ∷ qs) zero h = h.0
named_fine (q ∷ qs) (suc n) h = named_fine qs n h.1

pub text_fine : (m : Module) → IsModule m → (n : ℕ) → IsText (text_at m n)
text_fine m h n = named_fine m.qstrs n (entries_fine m h)

-- a number of the module leads to a text
told : (o : Option (List ℕ)) (t : List ℕ) → o ≡ Some t → o ≡ Some (unwrap_or o [])
told o t e = e ∙ ap (λ (z : Option (List ℕ)). Some (unwrap_or z [])) (sym e)

get_there : (texts : List (List ℕ)) (n : ℕ) → n < length texts → (t : List ℕ) × (slice_get texts n ≡ Some t)
get_there [] n lt = absurd (omega (arith, lt))
get_there (text ∷ texts) zero lt = (text, refl)
get_there (text ∷ texts) (suc n) lt = get_there texts n (omega (arith, lt))

static_known : (number : ℕ) → 1 ≤ number → number ≤ STATIC_COUNT → static_text_of number ≡ Some (unwrap_or (static_text_of number) [])
static_known number some known =
    let long : length static_texts ≡ STATIC_COUNT = refl in
    let t = get_there static_texts (number - 1) (omega (arith, some, known, long)) in
    told (static_text_of number) t.0 (ap (λ (b : Bool). cond b None (slice_get static_texts (number - 1))) (le-ltb number 1 some) ∙ t.1)

entry_known : (text : List ℕ) (q : Qstr) → IsQstr text q → text_of q ≡ Some (entry_text q)
entry_known text (Static number) h = static_known number h.from_one h.known
entry_known text (Own own) h = refl

named_known : (text : List ℕ) (qs : List Qstr) (n : ℕ) → Many IsQstr text qs → n < length qs → option_and_then text_of (slice_get qs n) ≡ Some (unwrap_or (option_and_then text_of (slice_get qs n)) [])
named_known text [] n h lt = absurd (omega (arith, lt))
named_known text (q ∷ qs) zero h lt = entry_known h.0 q h.2
named_known text (q ∷ qs) (suc n) h lt = named_known h.1 qs n h.4 (omega (arith, lt))

pub text_known : (m : Module) → IsModule m → (n : ℕ) → n < length m.qstrs → name_at m n ≡ Some (text_at m n)
text_known m h n lt = named_known h.1.qstrs m.qstrs n h.1.are_qstrs lt
