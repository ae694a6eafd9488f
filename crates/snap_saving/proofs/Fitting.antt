-- Bytes that are put and few are the spelling of a snapshot, and one that is read again.
use Rattle.std.proofs.Common.{◌≡◌, ℕ, ◌<◌, ◌≤◌, ◌^◌, List, [], ◌∷◌, ◌++◌, length, Some, None, inl, inr, refl, sym, ap, ap₂, subst, ◌∙◌, arith, length-append}
use Rattle.std.specs.Prelude.{◌⊎◌, Option, IfSome}
use Rattle.std.specs.Int.{w64, to_le_bytes}
use Rattle.std.specs.List.{flat_map, AllByRecursion as Each}
use Rattle.std.proofs.lemmas.Bool.{cases_lt}
use Rattle.mpy_base.specs.Vuint.{vuint}
use Rattle.snap_grammar.specs.declared.parts.ValuePart.{ValuePart}
use Rattle.snap_grammar.specs.declared.parts.ValuePart.TheVariants as values
use Rattle.snap_grammar.specs.declared.parts.PairPart.{PairPart}
use Rattle.snap_grammar.specs.declared.parts.ObjectPart.{ObjectPart}
use Rattle.snap_grammar.specs.declared.parts.ObjectPart.TheVariants as objects
use Rattle.snap_grammar.specs.declared.parts.SlotPart.{SlotPart}
use Rattle.snap_grammar.specs.declared.parts.SlotPart.TheVariants as slots
use Rattle.snap_grammar.specs.declared.parts.EntryPart.{EntryPart}
use Rattle.snap_grammar.specs.declared.parts.RolePart.{RolePart}
use Rattle.snap_grammar.specs.declared.parts.RolePart.TheVariants as roles
use Rattle.snap_grammar.specs.declared.parts.FramePart.{FramePart}
use Rattle.snap_grammar.specs.declared.parts.Snapshot.{Snapshot}
use Rattle.snap_grammar.specs.Spelling as spelling
use Rattle.snap_grammar.specs.Spelling.{most, header, mark, takes_iterator, IsNumber, IsText, AreFew, IsValue, IsPair, IsObject, IsSlot, IsEntry, IsRole, IsFrame, Fits}
use Rattle.snap_saving.specs.Put as put
use Rattle.snap_saving.specs.Put.{integer, left, number}
use Rattle.snap_saving.specs.Saved.{IsLong}
use Rattle.snap_saving.proofs.Leaves.{small_number, number_short, number_some, small_integer, integer_short, left_is, left_short}

-- parts of what is few
-- ====================

front_some : (a b : List ℕ) → 1 ≤ length a → 1 ≤ length (a ++ b)
front_some a b le = omega (arith, length-append a b, le)

front_few : (a b : List ℕ) → length (a ++ b) ≤ most → length a ≤ most
front_few a b few = omega (arith, length-append a b, few)

rest_few : (a b : List ℕ) → length (a ++ b) ≤ most → length b ≤ most
rest_few a b few = omega (arith, length-append a b, few)

tail_few : (tag : ℕ) (bytes : List ℕ) → length (tag ∷ bytes) ≤ most → length bytes ≤ most
tail_few tag bytes few = omega (arith, few)

text_short : (bytes : List ℕ) → length (put.text bytes) ≤ most → IsText bytes
text_short bytes few = number_short (length bytes) (front_few (number (length bytes)) bytes few)

module _ {A : Type 0} (one : A → List ℕ) (some : (x : A) → 1 ≤ length (one x)) where
  many_short : (xs : List A) → length xs ≤ length (flat_map one xs)
  many_short [] = omega arith
  many_short (x ∷ xs) = omega (arith, length-append (one x) (flat_map one xs), some x, many_short xs)

  module _ (Is : A → Type 0) (short : (x : A) → length (one x) ≤ most → Is x) where
    each_short : (xs : List A) → length (flat_map one xs) ≤ most → Each Is xs
    each_short [] few = tt
    each_short (x ∷ xs) few = (short x (front_few (one x) (flat_map one xs) few), each_short xs (rest_few (one x) (flat_map one xs) few))

    all_short : (xs : List A) → length (put.all_of one xs) ≤ most → AreFew Is xs
    all_short xs few =
        let behind = rest_few (number (length xs)) (flat_map one xs) few in
        (omega (arith, many_short xs, behind), each_short xs behind)

-- what has a spelling is put as it is spelled
-- ===========================================

tagged : (tag : ℕ) {a b : List ℕ} → a ≡ b → ◌≡◌ {A = List ℕ} (tag ∷ a) (tag ∷ b)
tagged tag e = ap (λ (z : List ℕ). tag ∷ z) e

joined : {a b c d : List ℕ} → a ≡ b → c ≡ d → a ++ c ≡ b ++ d
joined e f = ap₂ (λ (x y : List ℕ). x ++ y) e f

behind : (front : List ℕ) {a b : List ℕ} → a ≡ b → front ++ a ≡ front ++ b
behind front e = ap (λ (z : List ℕ). front ++ z) e

number_same : (n : ℕ) → IsNumber n → number n ≡ vuint n
number_same n h = sym (small_number n h)

text_same : (bytes : List ℕ) → IsText bytes → put.text bytes ≡ spelling.text bytes
text_same bytes h = joined (number_same (length bytes) h) refl

module _ {A : Type 0} (Is : A → Type 0) (one own : A → List ℕ) (same : (x : A) → Is x → one x ≡ own x) where
  each_same : (xs : List A) → Each Is xs → flat_map one xs ≡ flat_map own xs
  each_same [] h = refl
  each_same (x ∷ xs) h = joined (same x h.0) (each_same xs h.1)

  all_same : (xs : List A) → AreFew Is xs → put.all_of one xs ≡ spelling.all_of own xs
  all_same xs h = joined (number_same (length xs) (omega (arith, h.0))) (each_same xs h.1)

-- values and objects
-- ==================

value_some : (v : ValuePart) → 1 ≤ length (put.value v)
value_some values.None = omega arith
value_some values.False = omega arith
value_some values.True = omega arith
value_some (values.Int z) = omega arith
value_some (values.Object n) = omega arith
value_some (values.Str bytes) = omega arith
value_some (values.Fixed m n) = omega arith
value_some values.Empty = omega arith
value_some (values.Named name) = omega arith

value_short : (v : ValuePart) → length (put.value v) ≤ most → IsValue v
value_short values.None few = tt
value_short values.False few = tt
value_short values.True few = tt
value_short (values.Int z) few = integer_short z (tail_few 3 _ few)
value_short (values.Object n) few = number_short n (tail_few 4 _ few)
value_short (values.Str bytes) few = text_short bytes (tail_few 5 _ few)
value_short (values.Fixed m n) few =
    let all = tail_few 6 (number m ++ number n) few in
    (number_short m (front_few (number m) (number n) all), number_short n (rest_few (number m) (number n) all))
value_short values.Empty few = tt
value_short (values.Named name) few = text_short name (tail_few 8 _ few)

value_same : (v : ValuePart) → IsValue v → put.value v ≡ spelling.value v
value_same values.None h = refl
value_same values.False h = refl
value_same values.True h = refl
value_same (values.Int z) h = tagged 3 (sym (small_integer z h))
value_same (values.Object n) h = tagged 4 (number_same n h)
value_same (values.Str bytes) h = tagged 5 (text_same bytes h)
value_same (values.Fixed m n) h = tagged 6 (joined (number_same m h.0) (number_same n h.1))
value_same values.Empty h = refl
value_same (values.Named name) h = tagged 8 (text_same name h)

pair_some : (p : PairPart) → 1 ≤ length (put.pair p)
pair_some p = front_some (put.value p.key) (put.value p.value) (value_some p.key)

pair_short : (p : PairPart) → length (put.pair p) ≤ most → IsPair p
pair_short p few = (
  value_short p.key (front_few (put.value p.key) (put.value p.value) few),
  value_short p.value (rest_few (put.value p.key) (put.value p.value) few),
)

pair_same : (p : PairPart) → IsPair p → put.pair p ≡ spelling.pair p
pair_same p h = joined (value_same p.key h.0) (value_same p.value h.1)

items_short : (items : List ValuePart) → length (put.all_of put.value items) ≤ most → AreFew IsValue items
items_short items few = all_short put.value value_some IsValue value_short items few

items_same : (items : List ValuePart) → AreFew IsValue items → put.all_of put.value items ≡ spelling.all_of spelling.value items
items_same items h = all_same IsValue put.value spelling.value value_same items h

object_some : (o : ObjectPart) → 1 ≤ length (put.object o)
object_some (objects.List room items) = omega arith
object_some (objects.Dict room pairs) = omega arith
object_some (objects.Tuple items) = omega arith
object_some (objects.Text bytes) = omega arith
object_some (objects.Function m code names defaults) = omega arith
object_some (objects.Exception kind args file line name) = omega arith
object_some (objects.Method v method) = omega arith
object_some (objects.Range start stop step) = omega arith
object_some (objects.Module name names) = omega arith

object_short : (o : ObjectPart) → length (put.object o) ≤ most → IsObject o
object_short (objects.List room items) few =
    let all = tail_few 1 (number room ++ put.all_of put.value items) few in
    (number_short room (front_few (number room) _ all), items_short items (rest_few (number room) _ all))
object_short (objects.Dict room pairs) few =
    let all = tail_few 2 (number room ++ put.all_of put.pair pairs) few in
    (number_short room (front_few (number room) _ all), all_short put.pair pair_some IsPair pair_short pairs (rest_few (number room) _ all))
object_short (objects.Tuple items) few = items_short items (tail_few 3 _ few)
object_short (objects.Text bytes) few = text_short bytes (tail_few 4 _ few)
object_short (objects.Function m code names defaults) few =
    let all = tail_few 5 (number m ++ (number code ++ (number names ++ put.value defaults))) few in
    let a = rest_few (number m) _ all in
    let b = rest_few (number code) _ a in (
      number_short m (front_few (number m) _ all),
      number_short code (front_few (number code) _ a),
      number_short names (front_few (number names) (put.value defaults) b),
      value_short defaults (rest_few (number names) (put.value defaults) b),
    )
object_short (objects.Exception kind args file line name) few =
    let all = tail_few 6 (put.text kind ++ (put.value args ++ (put.text file ++ (number line ++ put.text name)))) few in
    let a = rest_few (put.text kind) _ all in
    let b = rest_few (put.value args) _ a in
    let c = rest_few (put.text file) _ b in (
      text_short kind (front_few (put.text kind) _ all),
      value_short args (front_few (put.value args) _ a),
      text_short file (front_few (put.text file) _ b),
      number_short line (front_few (number line) (put.text name) c),
      text_short name (rest_few (number line) (put.text name) c),
    )
object_short (objects.Method v method) few =
    let all = tail_few 7 (put.value v ++ put.text method) few in
    (value_short v (front_few (put.value v) _ all), text_short method (rest_few (put.value v) (put.text method) all))
object_short (objects.Range start stop step) few =
    let all = tail_few 8 (integer start ++ (integer stop ++ integer step)) few in
    let a = rest_few (integer start) _ all in (
      integer_short start (front_few (integer start) _ all),
      integer_short stop (front_few (integer stop) (integer step) a),
      integer_short step (rest_few (integer stop) (integer step) a),
    )
object_short (objects.Module name names) few =
    let all = tail_few 9 (put.text name ++ number names) few in
    (text_short name (front_few (put.text name) _ all), number_short names (rest_few (put.text name) (number names) all))

object_same : (o : ObjectPart) → IsObject o → put.object o ≡ spelling.object o
object_same (objects.List room items) h = tagged 1 (joined (number_same room h.0) (items_same items h.1))
object_same (objects.Dict room pairs) h = tagged 2 (joined (number_same room h.0) (all_same IsPair put.pair spelling.pair pair_same pairs h.1))
object_same (objects.Tuple items) h = tagged 3 (items_same items h)
object_same (objects.Text bytes) h = tagged 4 (text_same bytes h)
object_same (objects.Function m code names defaults) h =
    tagged 5 (joined (number_same m h.0) (joined (number_same code h.1) (joined (number_same names h.2) (value_same defaults h.3))))
object_same (objects.Exception kind args file line name) h =
    tagged 6 (joined (text_same kind h.0) (joined (value_same args h.1) (joined (text_same file h.2) (joined (number_same line h.3) (text_same name h.4)))))
object_same (objects.Method v method) h = tagged 7 (joined (value_same v h.0) (text_same method h.1))
object_same (objects.Range start stop step) h = tagged 8 (joined (sym (small_integer start h.0)) (joined (sym (small_integer stop h.1)) (sym (small_integer step h.2))))
object_same (objects.Module name names) h = tagged 9 (joined (text_same name h.0) (number_same names h.1))

-- frames
-- ======

slot_some : (x : SlotPart) → 1 ≤ length (put.slot x)
slot_some (slots.Value v) = value_some v
slot_some slots.Empty = omega arith
slot_some (slots.Iterator over at) = omega arith
slot_some (slots.Left many over at) = omega arith
slot_some (slots.Return v) = omega arith
slot_some (slots.Jump target entries iterator) = omega arith

slot_short : (x : SlotPart) → length (put.slot x) ≤ most → IsSlot x
slot_short (slots.Value v) few = value_short v few
slot_short slots.Empty few = tt
slot_short (slots.Iterator over at) few =
    let all = tail_few 10 (put.value over ++ number at) few in
    (value_short over (front_few (put.value over) (number at) all), number_short at (rest_few (put.value over) (number at) all))
slot_short (slots.Left many over at) few =
    let all = tail_few 11 (left many ++ (put.value over ++ number at)) few in
    let a = rest_few (left many) _ all in
    let between = left_short many (front_few (left many) _ all) in
    (between.0, between.1, value_short over (front_few (put.value over) (number at) a), number_short at (rest_few (put.value over) (number at) a))
slot_short (slots.Return v) few = value_short v (tail_few 13 _ few)
slot_short (slots.Jump target entries iterator) few =
    let all = tail_few 14 (number target ++ (number entries ++ takes_iterator iterator)) few in
    let a = rest_few (number target) _ all in
    (number_short target (front_few (number target) _ all), number_short entries (front_few (number entries) (takes_iterator iterator) a))

slot_same : (x : SlotPart) → IsSlot x → put.slot x ≡ spelling.slot x
slot_same (slots.Value v) h = value_same v h
slot_same slots.Empty h = refl
slot_same (slots.Iterator over at) h = tagged 10 (joined (value_same over h.0) (number_same at h.1))
slot_same (slots.Left many over at) h = tagged 11 (joined (sym (left_is many h.0 h.1)) (joined (value_same over h.2) (number_same at h.3)))
slot_same (slots.Return v) h = tagged 13 (value_same v h)
slot_same (slots.Jump target entries iterator) h = tagged 14 (joined (number_same target h.0) (joined (number_same entries h.1) refl))

slots_short : (xs : List SlotPart) → length (put.all_of put.slot xs) ≤ most → AreFew IsSlot xs
slots_short xs few = all_short put.slot slot_some IsSlot slot_short xs few

slots_same : (xs : List SlotPart) → AreFew IsSlot xs → put.all_of put.slot xs ≡ spelling.all_of spelling.slot xs
slots_same xs h = all_same IsSlot put.slot spelling.slot slot_same xs h

entry_some : (e : EntryPart) → 1 ≤ length (put.entry e)
entry_some e = front_some (number e.handler) _ (number_some e.handler)

kept_short : (kept : Option ℕ) → length (put.if_kept kept) ≤ most → IfSome kept IsNumber
kept_short None few = tt
kept_short (Some n) few = number_short n (tail_few 1 _ few)

kept_same : (kept : Option ℕ) → IfSome kept IsNumber → put.if_kept kept ≡ spelling.if_kept kept
kept_same None h = refl
kept_same (Some n) h = tagged 1 (number_same n h)

entry_short : (e : EntryPart) → length (put.entry e) ≤ most → IsEntry e
entry_short e few =
    let a = rest_few (number e.handler) _ few in
    let b = rest_few (mark e.is_finally) _ a in
    let c = rest_few (mark e.active) _ b in (
      number_short e.handler (front_few (number e.handler) _ few),
      number_short e.height (front_few (number e.height) (put.if_kept e.kept) c),
      kept_short e.kept (rest_few (number e.height) (put.if_kept e.kept) c),
    )

entry_same : (e : EntryPart) → IsEntry e → put.entry e ≡ spelling.entry e
entry_same e h = joined (number_same e.handler h.0) (behind (mark e.is_finally) (behind (mark e.active) (joined (number_same e.height h.1) (kept_same e.kept h.2))))

role_short : (r : RolePart) → length (put.role r) ≤ most → IsRole r
role_short roles.Main few = tt
role_short roles.Call few = tt
role_short (roles.Import n) few = number_short n (tail_few 2 _ few)

role_same : (r : RolePart) → IsRole r → put.role r ≡ spelling.role r
role_same roles.Main h = refl
role_same roles.Call h = refl
role_same (roles.Import n) h = tagged 2 (number_same n h)

frame_some : (f : FramePart) → 1 ≤ length (put.frame f)
frame_some f = front_some (number f.module_number) _ (number_some f.module_number)

frame_short : (f : FramePart) → length (put.frame f) ≤ most → IsFrame f
frame_short f few =
    let a = rest_few (number f.module_number) _ few in
    let b = rest_few (number f.code) _ a in
    let c = rest_few (number f.at) _ b in
    let d = rest_few (number f.names) _ c in
    let e = rest_few (put.role f.role) _ d in
    let g = rest_few (put.all_of put.slot f.locals) _ e in
    record {
      module_number = number_short f.module_number (front_few (number f.module_number) _ few);
      code = number_short f.code (front_few (number f.code) _ a);
      at = number_short f.at (front_few (number f.at) _ b);
      names = number_short f.names (front_few (number f.names) _ c);
      role = role_short f.role (front_few (put.role f.role) _ d);
      locals = slots_short f.locals (front_few (put.all_of put.slot f.locals) _ e);
      slots = slots_short f.slots (front_few (put.all_of put.slot f.slots) (put.all_of put.entry f.entries) g);
      entries = all_short put.entry entry_some IsEntry entry_short f.entries (rest_few (put.all_of put.slot f.slots) (put.all_of put.entry f.entries) g);
    }

frame_same : (f : FramePart) → IsFrame f → put.frame f ≡ spelling.frame f
frame_same f h =
    joined (number_same f.module_number h.module_number)
    (joined (number_same f.code h.code)
    (joined (number_same f.at h.at)
    (joined (number_same f.names h.names)
    (joined (role_same f.role h.role)
    (joined (slots_same f.locals h.locals)
    (joined (slots_same f.slots h.slots) (all_same IsEntry put.entry spelling.entry entry_same f.entries h.entries)))))))

-- the whole
-- =========

-- where few bytes are put, each part has a spelling
pub whole_short : (s : Snapshot) → s.paid < 2 ^ 64 → length (put.whole s) ≤ most → Fits s
whole_short s paid few =
    let all = rest_few header _ few in
    let a = rest_few (number s.cells) _ all in
    let b = rest_few (number s.bytes) _ a in
    let c = rest_few (number s.used_cells) _ b in
    let d = rest_few (number s.used_bytes) _ c in
    let e = rest_few (to_le_bytes w64 s.paid) _ d in
    let f = rest_few (put.all_of put.object s.objects) _ e in
    record {
      cells = number_short s.cells (front_few (number s.cells) _ all);
      bytes = number_short s.bytes (front_few (number s.bytes) _ a);
      used_cells = number_short s.used_cells (front_few (number s.used_cells) _ b);
      used_bytes = number_short s.used_bytes (front_few (number s.used_bytes) _ c);
      paid = paid;
      objects = all_short put.object object_some IsObject object_short s.objects (front_few (put.all_of put.object s.objects) _ e);
      modules = all_short number number_some IsNumber number_short s.modules (front_few (put.all_of number s.modules) (put.all_of put.frame s.frames) f);
      frames = all_short put.frame frame_some IsFrame frame_short s.frames (rest_few (put.all_of number s.modules) (put.all_of put.frame s.frames) f);
    }

-- where each part has a spelling, it is put as it is spelled
pub whole_same : (s : Snapshot) → Fits s → put.whole s ≡ spelling.spelling s
whole_same s h =
    behind header
    (joined (number_same s.cells h.cells)
    (joined (number_same s.bytes h.bytes)
    (joined (number_same s.used_cells h.used_cells)
    (joined (number_same s.used_bytes h.used_bytes)
    (behind (to_le_bytes w64 s.paid)
    (joined (all_same IsObject put.object spelling.object object_same s.objects h.objects)
    (joined (all_same IsNumber number vuint number_same s.modules h.modules)
    (all_same IsFrame put.frame spelling.frame frame_same s.frames h.frames))))))))

-- where too many bytes are put, the spelling is too long, or a part has none
pub whole_long : (s : Snapshot) → IsLong (put.whole s) → IsLong (spelling.spelling s) ⊎ (Fits s → ⊥)
whole_long s long = elim (cases_lt most (length (spelling.spelling s))) [
  | inl lt ↦ inl lt
  | inr few ↦ inr (λ fits. omega (arith, few, long, ap length (whole_same s fits)))
]

-- few bytes that are put
module _ (s : Snapshot) (steps : s.paid < 2 ^ 63) (bytes : List ℕ) (e : bytes ≡ put.whole s) (few : length bytes ≤ most) where
  pub few_fit : Fits s
  few_fit = whole_short s (omega (arith, steps)) (subst (λ (z : List ℕ). length z ≤ most) e few)

  pub few_spelled : bytes ≡ spelling.spelling s
  few_spelled = e ∙ whole_same s few_fit
