-- A code with its numbers moved may be written by its numbers.
use Rattle.std.proofs.Common.{◌≡◌, ℕ, suc, ◌+◌, ◌-◌, ◌<◌, ◌≤◌, Bool, true, false, cond, ltb, List, [], ◌∷◌, ◌++◌, length, map, drop, All, refl, sym, ap, subst, ◌∙◌, arith, length-append}
use Rattle.std.specs.List.{AllZip, AllByRecursion}
use Rattle.std.specs.List.Sorted.{IsStrictlyIncreasing}
use Rattle.std.proofs.lemmas.Bool.Decides.{nat_tests}
use Rattle.std.proofs.lemmas.List.{length-map}
use Rattle.std.proofs.lemmas.List.Elements.{All-from_recursion, recursion_from_All}
use Rattle.mpy_base.specs.declared.limits.TheConstants.{MAX_CODE_BYTES, MAX_TABLE}
use Rattle.bc_scheme.specs.bc_ops.declared.form.Form.{Form}
use Rattle.bc_scheme.specs.bc_ops.declared.form.Form.TheVariants as forms
use Rattle.bc_scheme.specs.bc_ops.declared.instr.Op.{Op}
use Rattle.bc_scheme.specs.bc_ops.declared.instr.Op.TheVariants as ops
use Rattle.bc_scheme.specs.bc_ops.declared.instr.Instr.{Instr}
use Rattle.bc_scheme.specs.bc_ops.declared.instr.Instr.TheVariants as instrs
use Rattle.bc_scheme.specs.bc_ops.declared.listing.Target.{Target}
use Rattle.bc_scheme.specs.bc_ops.declared.listing.Target.TheVariants.{Position}
use Rattle.bc_scheme.specs.bc_ops.declared.listing.Item as listings
use Rattle.bc_scheme.specs.bc_ops.declared.listing.Item.TheVariants as listed
use Rattle.bc_scheme.specs.bc_ops.Table.{code_of, form_of}
use Rattle.bc_scheme.specs.bc_ops.Code.{IsEncodable, TakesNumber, TakesOffset}
use Rattle.bc_scheme.specs.bc_ops.Listing.{Piece, IsPiece, joined, starts, item, items_at, IsListOf, Lists}
use Rattle.bc_scheme.proofs.bc_ops_lemmas.Law.{encodable}
use Rattle.bc_scheme.proofs.bc_ops_lemmas.Parts as parts
use Rattle.bc_scheme.proofs.bc_ops_lemmas.Lists.{one_listing}
use Rattle.mpy_writer.specs.bc_labels.Labels.{HasNoOffset, HasOffset}
use Rattle.bc_verify.specs.bc_prelude.declared.prelude.Prelude.{Prelude}
use Rattle.bc_verify.proofs.bc_prelude_lemmas.Preludes.{same_prelude}
use Rattle.bc_verify.specs.bc_prelude.Lines.{Entry, entries_of, lines_passed, line_of}
use Rattle.mpy_writer.specs.mpy_tree.declared.module.Item.{Item}
use Rattle.mpy_writer.specs.mpy_tree.declared.module.Code.{Code, out-Code}
use Rattle.mpy_writer.specs.mpy_tree.File.{IsModule}
use Rattle.mpy_writer.specs.mpy_tree.Raw.{Module}
use Rattle.mpy_writer.specs.declared.tables.Tables.{Tables}
use Rattle.mpy_writer.specs.Tables.{TablesFit}
use Rattle.mpy_writer.specs.Writable.{IsText, IsPosition, IsNumberedItem, NeverFall, IsNumberedCode}
use Rattle.mpy_writer.proofs.Labelled.{object_form}
use Rattle.mpy_writer.proofs.Numbers.{number_small}
use Rattle.mpy_merge.specs.Kept.{NamesThere, GoesTo, IsKept, IsKeptCode}
use Rattle.mpy_merge.specs.Moved.{text_at, moved_instr, IsMovedItem, IsMovedCode}
use Rattle.bc_verify.proofs.bc_prelude_lemmas.Pieces.{parts_short, instructions_at}
use Rattle.mpy_merge.proofs.Texts.{text_fine}

-- what bytes spell
-- ================

abbrev IsSpelled : listings.Item → Type 0
IsSpelled (listed.Plain instr) = HasNoOffset instr × IsEncodable instr
IsSpelled (listed.Jump op target) = HasOffset (form_of (code_of op)) op
IsSpelled (listed.Unwind target byte) = Unit {0}

has_offset : (form : Form) (op : Op) (wide : Bool) (z : _) → TakesOffset form op wide z → HasOffset form op
has_offset (forms.Offset o signed) op wide z h = h.0
has_offset (forms.Whole i) op wide z h = absurd h
has_offset (forms.Name o) op wide z h = absurd h
has_offset (forms.Number o) op wide z h = absurd h
has_offset (forms.Call o) op wide z h = absurd h
has_offset forms.Signed op wide z h = absurd h
has_offset forms.Unwind op wide z h = absurd h
has_offset forms.Outside op wide z h = absurd h
has_offset forms.Unknown op wide z h = absurd h

item_spelled : (starts : List ℕ) (end : ℕ) (instr : Instr) → IsEncodable instr → IsSpelled (item starts end instr)
item_spelled starts end (instrs.Jump op offset wide) h = has_offset (form_of (code_of op)) op wide offset h
item_spelled starts end (instrs.Unwind offset wide byte) h = tt
item_spelled starts end (instrs.Plain op) h = (tt, h)
item_spelled starts end (instrs.Name op n) h = (tt, h)
item_spelled starts end (instrs.Num op n) h = (tt, h)
item_spelled starts end (instrs.Int z) h = (tt, h)
item_spelled starts end (instrs.Unary n) h = (tt, h)
item_spelled starts end (instrs.Binary n) h = (tt, h)

pieces_spelled : (starts : List ℕ) (at : ℕ) (pieces : List Piece) → AllByRecursion IsPiece pieces → AllByRecursion IsSpelled (items_at starts at pieces)
pieces_spelled starts at [] h = tt
pieces_spelled starts at (piece ∷ pieces) h =
    (item_spelled starts (at + length piece.text) piece.instr (encodable piece.text piece.instr h.0), pieces_spelled starts (at + length piece.text) pieces h.1)

list_spelled : (bytes : List ℕ) (xs : List listings.Item) → IsListOf bytes xs → AllByRecursion IsSpelled xs
list_spelled bytes xs l = subst (AllByRecursion IsSpelled) (sym l.items_are) (pieces_spelled (starts 0 l.pieces) 0 l.pieces (recursion_from_All IsPiece l.pieces l.spelled))

-- how many instructions there are
some_text : (piece : Piece) → IsPiece piece → 0 < length piece.text
some_text piece s = let e : length piece.text ≡ length (s.first ∷ s.behind) = ap length s.parts in omega (arith, e)

few_items : (from : List ℕ) (at : ℕ) (pieces : List Piece) → AllByRecursion IsPiece pieces → length (items_at from at pieces) ≤ length (joined pieces)
few_items from at [] h = omega arith
few_items from at (piece ∷ pieces) h =
    omega (arith, few_items from (at + length piece.text) pieces h.1, some_text piece h.0, length-append piece.text (joined pieces))

as_many : (from : List ℕ) (at start : ℕ) (pieces : List Piece) → length (items_at from at pieces) ≡ length (starts start pieces)
as_many from at start [] = refl
as_many from at start (piece ∷ pieces) = ap suc (as_many from (at + length piece.text) (start + length piece.text) pieces)

pub short_list : (bytes : List ℕ) (xs : List listings.Item) → IsListOf bytes xs → length xs ≤ length bytes
short_list bytes xs l =
    let few = few_items (starts 0 l.pieces) 0 l.pieces (recursion_from_All IsPiece l.pieces l.spelled) in
    omega (arith, few, ap length l.items_are, ap length l.bytes_are)

pub offsets_each : (bytes : List ℕ) (xs : List listings.Item) (offsets : List ℕ) → Lists bytes xs offsets → length offsets ≡ length xs
offsets_each bytes xs offsets l =
    omega (arith, ap length l.offsets_are, ap length l.is_list.items_are, as_many (starts 0 l.is_list.pieces) 0 0 l.is_list.pieces)

-- where they start
starts_within : (at : ℕ) (pieces : List Piece) → AllByRecursion (λ o. o ≤ at + length (joined pieces)) (starts at pieces)
starts_within at [] = tt
starts_within at (piece ∷ pieces) = (omega arith, weaker (at + length piece.text + length (joined pieces)) (at + length (piece.text ++ joined pieces)) (omega (arith, length-append piece.text (joined pieces))) (starts (at + length piece.text) pieces) (starts_within (at + length piece.text) pieces)) where
  weaker : (a b : ℕ) → a ≤ b → (os : List ℕ) → AllByRecursion (λ o. o ≤ a) os → AllByRecursion (λ o. o ≤ b) os
  weaker a b le [] h = tt
  weaker a b le (o ∷ os) h = let small = h.0 in (omega (arith, le, small), weaker a b le os h.1)

pub offsets_within : (bytes : List ℕ) (xs : List listings.Item) (offsets : List ℕ) (most : ℕ) → Lists bytes xs offsets → length bytes ≤ most → All (λ o. o ≤ most) offsets
offsets_within bytes xs offsets most l le =
    let size = ap length l.is_list.bytes_are in
    All-from_recursion (λ o. o ≤ most) offsets (subst (AllByRecursion (λ o. o ≤ most)) (sym l.offsets_are)
    (bound (length (joined l.is_list.pieces)) (omega (arith, size, le)) (starts 0 l.is_list.pieces) (starts_within 0 l.is_list.pieces))) where
      bound : (a : ℕ) → a ≤ most → (os : List ℕ) → AllByRecursion (λ o. o ≤ 0 + a) os → AllByRecursion (λ o. o ≤ most) os
      bound a le [] h = tt
      bound a le (o ∷ os) h = let small = h.0 in (omega (arith, le, small), bound a le os h.1)

pub offsets_rise : (bytes : List ℕ) (xs : List listings.Item) (offsets : List ℕ) → Lists bytes xs offsets → IsStrictlyIncreasing offsets
offsets_rise bytes xs offsets l =
    parts.rises bytes offsets (items_at [] 0 l.is_list.pieces) (record {
      pieces = l.is_list.pieces;
      spelled = l.is_list.spelled;
      bytes_are = l.is_list.bytes_are;
      offsets_are = l.offsets_are;
      items_are = refl;
    })

-- lines never fall
-- ================

abbrev entry_lines : Entry → ℕ → List Entry → ℕ
entry_lines e o es = e.lines + lines_passed es (o - e.bytes)

passed_more : (es : List Entry) (o p : ℕ) → o ≤ p → lines_passed es o ≤ lines_passed es p
passed_more [] o p le = omega arith
passed_more (e ∷ es) o p le = by (ltb o e.bytes) (ltb p e.bytes) refl refl (λ k l h. passed_more es k l h) where
  by : (a b : Bool) → ltb o e.bytes ≡ a → ltb p e.bytes ≡ b → ((k l : ℕ) → k ≤ l → lines_passed es k ≤ lines_passed es l) → cond a 0 (entry_lines e o es) ≤ cond b 0 (entry_lines e p es)
  by true b f g more = omega arith
  by false false f g more = let rest = more (o - e.bytes) (p - e.bytes) (omega (arith, le)) in omega (arith, rest)
  by false true f g more = absurd (grind (arith, nat_tests))

line_more : (table : List ℕ) (o p : ℕ) → o ≤ p → line_of table o ≤ line_of table p
line_more table o p le = let more = passed_more (entries_of table) o p le in omega (arith, more)

never_fall : (table : List ℕ) (line at : ℕ) (pieces : List Piece) → line ≤ line_of table at → NeverFall line (map (line_of table) (starts at pieces))
never_fall table line at [] le = tt
never_fall table line at (piece ∷ pieces) le = (le, never_fall table (line_of table at) (at + length piece.text) pieces (line_more table at (at + length piece.text) (omega arith)))

-- the items
-- =========

module _ (tables : Tables) (fit : TablesFit tables) (base : ℕ) (m : Module) (few : base + length m.objects ≤ MAX_TABLE) where
  number_kept : (op : Op) (n : ℕ) → NamesThere m (instrs.Num op n) → IsEncodable (instrs.Num op n) → HasNoOffset (moved_instr tables base m (instrs.Num op n)) × IsEncodable (moved_instr tables base m (instrs.Num op n))
  number_kept ops.LoadConstObj n there h =
      let takes : TakesNumber (forms.Number ops.LoadConstObj) ops.LoadConstObj (base + n) = (refl, omega (arith, few, there)) in
      (tt, subst (λ (f : Form). TakesNumber f ops.LoadConstObj (base + n)) (sym (object_form tables)) takes)
  number_kept op n there h = (tt, h)

  instr_sound : (instr : Instr) → NamesThere m instr → HasNoOffset instr → IsEncodable instr → HasNoOffset (moved_instr tables base m instr) × IsEncodable (moved_instr tables base m instr)
  instr_sound (instrs.Name op n) there none h = let small = number_small tables.texts (text_at m n) fit.texts in (tt, (h.0, omega (arith, small)))
  instr_sound (instrs.Num op n) there none h = number_kept op n there h
  instr_sound (instrs.Plain op) there none h = (none, h)
  instr_sound (instrs.Int z) there none h = (none, h)
  instr_sound (instrs.Jump op offset wide) there none h = absurd none
  instr_sound (instrs.Unwind offset wide byte) there none h = absurd none
  instr_sound (instrs.Unary n) there none h = (none, h)
  instr_sound (instrs.Binary n) there none h = (none, h)

  module _ (count : ℕ) (short : count ≤ MAX_CODE_BYTES) where
    same_position : (a b : ℕ) → Position a ≡ Position b → a ≡ b
    same_position a b e = cc

    position_is : (target : Target) (position : ℕ) → GoesTo count target → target ≡ Position position → IsPosition count position
    position_is target position goes e =
        let same : goes.position ≡ position = same_position goes.position position (sym goes.target_is ∙ e) in
        let within = goes.within in
        record { within = omega (arith, within, same); small = omega (arith, within, same, short) }

    item_sound : (x : listings.Item) (y : Item) → IsSpelled x → IsKept m count x → IsMovedItem tables base m x y → IsNumberedItem count y
    item_sound (listed.Plain instr) y s k h = subst (IsNumberedItem count) (sym h) (instr_sound instr k s.0 s.1)
    item_sound (listed.Jump op target) y s k h = subst (IsNumberedItem count) (sym h.2) (s, position_is target h.0 k h.1)
    item_sound (listed.Unwind target byte) y s k h = subst (IsNumberedItem count) (sym h.2) (position_is target h.0 k h.1)

    items_sound : (xs : List listings.Item) (ys : List Item) → AllByRecursion IsSpelled xs → AllByRecursion (IsKept m count) xs → AllZip (IsMovedItem tables base m) xs ys → AllByRecursion (IsNumberedItem count) ys
    items_sound [] [] s k h = tt
    items_sound [] (y ∷ ys) s k h = absurd h
    items_sound (x ∷ xs) [] s k h = absurd h
    items_sound (x ∷ xs) (y ∷ ys) s k h = (item_sound x y s.0 k.0 h.0, items_sound xs ys s.1 k.1 h.1)

moved_length : {A B : Type 0} (R : A → B → Type 0) (xs : List A) (ys : List B) → AllZip R xs ys → length xs ≡ length ys
moved_length R [] [] h = refl
moved_length R [] (y ∷ ys) h = absurd h
moved_length R (x ∷ xs) [] h = absurd h
moved_length R (x ∷ xs) (y ∷ ys) h = ap suc (moved_length R xs ys h.1)

texts_fine : (m : Module) → IsModule m → (numbers : List ℕ) → AllByRecursion IsText (map (text_at m) numbers)
texts_fine m is [] = tt
texts_fine m is (n ∷ ns) = (text_fine m is n, texts_fine m is ns)

module _ (tables : Tables) (fit : TablesFit tables) (base : ℕ) (m : Module) (few : base + length m.objects ≤ MAX_TABLE) (is : IsModule m) where
  pub numbered : (bytes : List ℕ) → IsKeptCode m bytes → (code : Code) → IsMovedCode tables base m bytes code → IsNumberedCode code
  numbered bytes k code c =
      let same : c.prelude ≡ k.prelude = same_prelude bytes c.prelude k.prelude c.begins k.begins in
      let rest : c.begins.instructions ≡ k.begins.instructions = sym (instructions_at bytes c.prelude c.begins) ∙ (ap (λ (z : Prelude). drop z.code_at bytes) same ∙ instructions_at bytes k.prelude k.begins) in
      let theirs : Lists k.begins.instructions k.items (starts 0 k.is_list.pieces) = record { is_list = k.is_list; offsets_are = refl } in
      let found : c.items ≡ k.items = (one_listing k.begins.instructions c.items k.items c.offsets (starts 0 k.is_list.pieces) (subst (λ (z : List ℕ). Lists z c.items c.offsets) rest c.lists) theirs).0 in
      let ys = (out-Code code).instrs in
      let many : length c.items ≡ length ys = moved_length (IsMovedItem tables base m) c.items ys c.instrs in
      let small : length ys ≤ MAX_CODE_BYTES = omega (arith, many, short_list c.begins.instructions c.items c.lists.is_list, parts_short bytes c.prelude c.begins, k.short) in
      let all : AllByRecursion (IsKept m (length k.items)) k.items = recursion_from_All (IsKept m (length k.items)) k.items k.kept in
      let kept : AllByRecursion (IsKept m (length ys)) c.items = subst (λ (n : ℕ). AllByRecursion (IsKept m n) c.items) many (subst (λ (z : List listings.Item). AllByRecursion (IsKept m (length z)) z) (sym found) all) in
      let sound = items_sound tables fit base m few (length ys) small c.items ys (list_spelled c.begins.instructions c.items c.lists.is_list) kept c.instrs in
      let texts : AllByRecursion IsText ((out-Code code).name ∷ (out-Code code).args) = subst (AllByRecursion IsText) (sym c.names) (texts_fine m is c.begins.indexes) in
      let numbers : suc (length (out-Code code).args) ≡ length c.begins.indexes = ap length c.names ∙ length-map c.begins.indexes (text_at m) in
      let sig = c.begins.is_signature in
      let args : length (out-Code code).args ≡ c.prelude.args = omega (arith, numbers, c.begins.count) in
      let defaults : c.prelude.defaults ≤ c.prelude.args = subst (λ (p : Prelude). p.defaults ≤ p.args) (sym same) k.defaults in
      record {
        name = texts.0;
        args = All-from_recursion IsText (out-Code code).args texts.1;
        few_args = omega (arith, args, sig.args, sig.small.arguments);
        defaults = omega (arith, args, defaults, c.defaults);
        some_state = omega (arith, c.n_state, sig.n_state);
        few_state = omega (arith, c.n_state, sig.n_state, sig.small.slots);
        few_handlers = omega (arith, c.n_exc, sig.n_exc, sig.small.handlers);
        instrs = All-from_recursion (IsNumberedItem (length ys)) ys sound;
        a_line_each = omega (arith, ap length c.lines, length-map c.offsets (line_of c.begins.lines), offsets_each c.begins.instructions c.items c.offsets c.lists, many);
        lines = subst (NeverFall 1) (sym (c.lines ∙ ap (map (line_of c.begins.lines)) c.lists.offsets_are)) (never_fall c.begins.lines 1 0 c.lists.is_list.pieces (omega arith));
        few_children = omega (arith, ap length c.alone);
      }
