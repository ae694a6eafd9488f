-- Rounds that make offsets wide, and the bytes of items with their offsets.
use Rattle.std.proofs.Common.{◌≡◌, ℕ, zero, suc, ◌+◌, ◌-◌, ◌<◌, ◌≤◌, Bool, true, false, List, [], ◌∷◌, ◌++◌, length, get_or, set, take, drop, replicate, All, ℤ, pos, refl, sym, ap, ap₂, subst, ◌∙◌, inl, inr, arith, add-one, append_assoc}
use Rattle.std.specs.Prelude.{IsTrue}
use Rattle.std.specs.List.{flat_map, between}
use Rattle.std.proofs.lemmas.Int.{ints}
use Rattle.std.proofs.lemmas.List.{append-nil, length-append, get_or-map, take-append-le, drop-append-le, take_all, drop_all, length-replicate}
use Rattle.std.proofs.lemmas.List.Elements.{All-nil, All-cons, All-get_or}
use Rattle.std.proofs.lemmas.Slice.{between_is}
use Rattle.mpy_tree.specs.bc_ops.declared.form.Form.{Form}
use Rattle.mpy_tree.specs.bc_ops.declared.form.Form.TheVariants as forms
use Rattle.mpy_tree.specs.bc_ops.declared.instr.Op.{Op}
use Rattle.mpy_tree.specs.bc_ops.declared.instr.Instr.{Instr}
use Rattle.mpy_tree.specs.bc_ops.declared.instr.Instr.TheVariants as instrs
use Rattle.mpy_tree.specs.bc_ops.Table.{code_of, form_of}
use Rattle.mpy_tree.specs.bc_ops.Offset.{Fits}
use Rattle.mpy_tree.specs.bc_ops.Code.{is_signed, spelling, TakesOffset, IsEncodable}
use Rattle.bc_labels.specs.declared.labelled.Labelled.{Labelled}
use Rattle.bc_labels.specs.declared.labelled.Labelled.TheVariants.{At}
use Rattle.bc_labels.specs.Labels.{HasOffset, signed_of}
use Rattle.bc_labels.specs.Labels as labels
use Rattle.bc_labels.specs.Places.{item_at, width_at, size_of, place, places_to, offset}
use Rattle.bc_labels.specs.Choice.{FitsAt, ShortFit, IsUnfit, IsRound, IsNeeded, IsFewest, IsLayout, IsTooFar, instr_of, instrs_to, instrs_of}
use Rattle.bc_labels.proofs.Fewest.{one_choice}
use Rattle.bc_labels.proofs.Widening.{IsWidened, kept, widened, unfit, far}
use Rattle.mpy_tree.specs.declared.module.Item.{Item}
use Rattle.mpy_tree.specs.declared.module.Item.TheVariants as items
use Rattle.mpy_tree.specs.Canonical.{offsets}
use Rattle.mpy_writer.specs.declared.layout.Layout.{Layout}
use Rattle.mpy_writer.specs.declared.tables.Tables.{Tables}
use Rattle.mpy_writer.specs.File.{item_of, labelled_from}
use Rattle.mpy_writer.specs.Positions.{is_jump, position_in, signed_in, jump_in, short_size, position_of, numbered, drafted_to, drafted, starts_of, OnlyJumps, spread}
use Rattle.mpy_writer.specs.Layouts.{IsLaidOut}
use Rattle.mpy_writer.specs.Tables.{TablesFit}
use Rattle.mpy_writer.specs.Writable.{IsNumberedItem}
use Rattle.mpy_writer.proofs.Positions.{double, double_is, halved, width_item, length-spread, spread-set, same_instr, length-drafted, whole, label_is, item_is, laid_more, starts_are}

-- an item is a jump as the same with numbers is
pub jumps_same : (tables : Tables) (y : Item) → labels.is_jump (item_of tables y) ≡ is_jump y
jumps_same tables (items.Plain instr) = refl
jumps_same tables (items.Named op text) = refl
jumps_same tables (items.Object object) = refl
jumps_same tables (items.Jump op position) = refl
jumps_same tables (items.Unwind position byte) = refl

pub position_same : (tables : Tables) (y : Item) → position_of (item_of tables y) ≡ position_in y
position_same tables (items.Plain instr) = refl
position_same tables (items.Named op text) = refl
position_same tables (items.Object object) = refl
position_same tables (items.Jump op position) = refl
position_same tables (items.Unwind position byte) = refl

signed_same : (tables : Tables) (y : Item) → signed_of (item_of tables y) ≡ signed_in y
signed_same tables (items.Plain instr) = refl
signed_same tables (items.Named op text) = refl
signed_same tables (items.Object object) = refl
signed_same tables (items.Jump op position) = refl
signed_same tables (items.Unwind position byte) = refl

pub jump_is : (tables : Tables) (y : Item) (z : ℤ) (w : Bool) → is_jump y ≡ true → jump_in y z w ≡ instr_of (item_of tables y) z w
jump_is tables (items.Plain instr) z w jumps = cc
jump_is tables (items.Named op text) z w jumps = cc
jump_is tables (items.Object object) z w jumps = cc
jump_is tables (items.Jump op position) z w jumps = refl
jump_is tables (items.Unwind position byte) z w jumps = refl

-- an item is a jump where its size is not 0
pub size_is : (tables : Tables) (y : Item) → 0 < short_size y → (is_jump y ≡ true) × (size_of (item_of tables y) false ≡ short_size y)
size_is tables (items.Plain instr) some = absurd (omega (arith, some))
size_is tables (items.Named op text) some = absurd (omega (arith, some))
size_is tables (items.Object object) some = absurd (omega (arith, some))
size_is tables (items.Jump op position) some = (refl, refl)
size_is tables (items.Unwind position byte) some = (refl, refl)

pub few_sizes : (y : Item) → short_size y ≤ 3
few_sizes (items.Plain instr) = omega arith
few_sizes (items.Named op text) = omega arith
few_sizes (items.Object object) = omega arith
few_sizes (items.Jump op position) = omega arith
few_sizes (items.Unwind position byte) = omega arith

pub no_size : (y : Item) → short_size y ≤ 0 → is_jump y ≡ false
no_size (items.Plain instr) none = refl
no_size (items.Named op text) none = refl
no_size (items.Object object) none = refl
no_size (items.Jump op position) none = absurd (omega (arith, none))
no_size (items.Unwind position byte) none = absurd (omega (arith, none))

takes : (form : Form) (op : Op) (z : ℤ) (w : Bool) → HasOffset form op → Fits (is_signed form) w z → TakesOffset form op w z
takes (forms.Offset o signed) op z w h fits = (h, fits)
takes form op z w h fits = absurd h

zero_fits : (signed : Bool) → Fits signed false (pos 0)
zero_fits true = record { least = omega (arith, ints); below = omega (arith, ints) }
zero_fits false = record { least = omega (arith, ints); below = omega (arith, ints) }

pub drafted_jump : (op : Op) → HasOffset (form_of (code_of op)) op → IsEncodable (instrs.Jump op (pos 0) false)
drafted_jump op h = takes (form_of (code_of op)) op (pos 0) false h (zero_fits (is_signed (form_of (code_of op))))

pub drafted_unwind : (byte : ℕ) → IsEncodable (instrs.Unwind (pos 0) false byte)
drafted_unwind byte = zero_fits true

single : (instr : Instr) → IsEncodable instr → All IsEncodable (instr ∷ [])
single instr h = All-cons IsEncodable instr [] h (All-nil IsEncodable)

pub encodable : (count : ℕ) (y : Item) (z : ℤ) (w : Bool) → IsNumberedItem count y → (is_jump y ≡ true → Fits (signed_in y) w z) → All IsEncodable (jump_in y z w)
encodable count (items.Plain instr) z w sound fits = All-nil IsEncodable
encodable count (items.Named op text) z w sound fits = All-nil IsEncodable
encodable count (items.Object object) z w sound fits = All-nil IsEncodable
encodable count (items.Jump op position) z w sound fits = single (instrs.Jump op z w) (takes (form_of (code_of op)) op z w sound.0 (fits refl))
encodable count (items.Unwind position byte) z w sound fits = single (instrs.Unwind z w byte) (fits refl)

pub none_wide : (n i : ℕ) → width_at (spread (replicate n false)) i ≡ true → ⊥
none_wide zero i e = cc
none_wide (suc n) zero e = cc
none_wide (suc n) (suc zero) e = cc
none_wide (suc n) (suc (suc i)) e = none_wide n i e

pub none_wide_item : (n i : ℕ) → width_at (replicate n false) i ≡ true → ⊥
none_wide_item n i e = none_wide n (suc (double i)) (width_item (replicate n false) i ∙ e)

-- no width is that of an offset in one byte
narrow_width : (n i : ℕ) → width_at [] i ≡ width_at (replicate n false) i
narrow_width zero i = refl
narrow_width (suc n) zero = refl
narrow_width (suc n) (suc i) = narrow_width n i

narrow_place : (xs : List Labelled) (n i : ℕ) → place xs [] i ≡ place xs (replicate n false) i
narrow_place xs n zero = refl
narrow_place xs n (suc i) = ap₂ (λ (at : ℕ) (wide : Bool). at + size_of (item_at xs i) wide) (narrow_place xs n i) (narrow_width n i)

pub narrow_places : (xs : List Labelled) (n i : ℕ) → places_to xs [] i ≡ places_to xs (replicate n false) i
narrow_places xs n zero = refl
narrow_places xs n (suc i) = ap₂ (λ (ps : List ℕ) (p : ℕ). ps ++ p ∷ []) (narrow_places xs n i) (narrow_place xs n i)

module _ (tables : Tables) (ys : List Item) where
  abbrev pub labelled : List Labelled
  labelled = labelled_from tables 0 ys

  within : (i : ℕ) → i < length ys → suc (double i) < length labelled
  within i lt = omega (arith, lt, whole tables ys, double_is i, double_is (length ys))

  item_there : (i : ℕ) (y : Item) → i < length ys → item_at (numbered tables ys) i ≡ item_of tables y → item_at labelled (suc (double i)) ≡ item_of tables y
  item_there i y lt is = item_is tables ys i lt ∙ is

  -- what the test of an item says of the same with numbers
  with_numbers : (i : ℕ) (y : Item) (w : Bool) (z : ℤ) → i < length ys → item_at (numbered tables ys) i ≡ item_of tables y → (is_jump y ≡ true → Fits (signed_in y) w z)
      → labels.is_jump (item_at labelled (suc (double i))) ≡ true → Fits (signed_of (item_at labelled (suc (double i)))) w z
  with_numbers i y w z lt is fits jumps =
      let same = item_there i y lt is in
      subst (λ (s : Bool). Fits s w z) (sym (ap signed_of same ∙ signed_same tables y)) (fits (sym (jumps_same tables y) ∙ (sym (ap labels.is_jump same) ∙ jumps)))

  without_numbers : (i : ℕ) (y : Item) (w : Bool) (z : ℤ) → i < length ys → item_at (numbered tables ys) i ≡ item_of tables y
      → (labels.is_jump (item_at labelled (suc (double i))) ≡ true → Fits (signed_of (item_at labelled (suc (double i)))) w z) → is_jump y ≡ true → Fits (signed_in y) w z
  without_numbers i y w z lt is fits jumps =
      let same = item_there i y lt is in
      subst (λ (s : Bool). Fits s w z) (ap signed_of same ∙ signed_same tables y) (fits (ap labels.is_jump same ∙ (jumps_same tables y ∙ jumps)))

  pub fits_here : (ws : List Bool) (i : ℕ) (y : Item) (w : Bool) (z : ℤ) → i < length ys → item_at (numbered tables ys) i ≡ item_of tables y → z ≡ offset labelled (spread ws) (suc (double i)) → (is_jump y ≡ true → Fits (signed_in y) w z)
      → labels.is_jump (item_at labelled (suc (double i))) ≡ true → FitsAt labelled (spread ws) (suc (double i)) w
  fits_here ws i y w z lt is z_is fits jumps = subst (Fits (signed_of (item_at labelled (suc (double i)))) w) z_is (with_numbers i y w z lt is fits jumps)

  pub unfit_here : (ws : List Bool) (i : ℕ) (y : Item) (z : ℤ) → i < length ys → item_at (numbered tables ys) i ≡ item_of tables y → z ≡ offset labelled (spread ws) (suc (double i)) → width_at ws i ≡ false
      → ((is_jump y ≡ true → Fits (signed_in y) false z) → IsTrue false) → IsUnfit labelled (spread ws) (suc (double i))
  unfit_here ws i y z lt is z_is short fails =
      unfit labelled (spread ws) (suc (double i)) z z_is (within i lt) (width_item ws i ∙ short) (λ fits. fails (without_numbers i y false z lt is fits))

  pub far_here : (ws : List Bool) (i : ℕ) (y : Item) (w : Bool) (z : ℤ) → w ≡ width_at ws i → i < length ys → item_at (numbered tables ys) i ≡ item_of tables y → z ≡ offset labelled (spread ws) (suc (double i)) → IsFewest labelled (spread ws)
      → ((is_jump y ≡ true → Fits (signed_in y) w z) → IsTrue false) → IsTooFar labelled
  far_here ws i y w z w_is lt is z_is fewest fails =
      far labelled (spread ws) (suc (double i)) w z (w_is ∙ sym (width_item ws i)) z_is fewest (within i lt) (λ fits. fails (without_numbers i y w z lt is fits))

  -- a round goes over a label and over the item behind it
  over_label : (old now : List Bool) (wider : Bool) (i : ℕ) → i < length ys → IsWidened labelled (spread old) (spread now) wider (double i) → IsWidened labelled (spread old) (spread now) wider (suc (double i))
  over_label old now wider i lt known =
      let none_here : labels.is_jump (item_at labelled (double i)) ≡ false = ap labels.is_jump (label_is tables ys i lt) in
      subst (IsWidened labelled (spread old) (spread now) wider) (add-one (double i)) (kept labelled (spread old) (spread now) wider (double i) known (λ jumps _. absurd cc))

  next_is : (i : ℕ) → suc (double i) + 1 ≡ double (i + 1)
  next_is i = add-one (suc (double i)) ∙ sym (ap double (add-one i))

  pub kept_next : (old now : List Bool) (wider : Bool) (i : ℕ) → i < length ys → IsWidened labelled (spread old) (spread now) wider (double i)
      → (labels.is_jump (item_at labelled (suc (double i))) ≡ true → width_at (spread old) (suc (double i)) ≡ false → FitsAt labelled (spread old) (suc (double i)) false)
      → IsWidened labelled (spread old) (spread now) wider (double (i + 1))
  kept_next old now wider i lt known here =
      subst (IsWidened labelled (spread old) (spread now) wider) (next_is i) (kept labelled (spread old) (spread now) wider (suc (double i)) (over_label old now wider i lt known) here)

  pub widened_next : (old now : List Bool) (wider : Bool) (i : ℕ) → i < length ys → i < length now → IsWidened labelled (spread old) (spread now) wider (double i)
      → IsUnfit labelled (spread old) (suc (double i)) → IsWidened labelled (spread old) (spread (set now i true)) true (double (i + 1))
  widened_next old now wider i lt inside known unfit_there =
      let room : suc (double i) < length (spread now) = omega (arith, inside, length-spread now, double_is i, double_is (length now)) in
      let more = widened labelled (spread old) (spread now) wider (suc (double i)) (over_label old now wider i lt known) room unfit_there in
      subst (λ (ws : List Bool). IsWidened labelled (spread old) ws true (double (i + 1))) (sym (spread-set now i))
      (subst (IsWidened labelled (spread old) (set (spread now) (suc (double i)) true) true) (next_is i) more)

  -- the width that an item has in a round
  pub width_now : (old now : List Bool) (wider : Bool) (i : ℕ) → IsWidened labelled (spread old) (spread now) wider (double i) → width_at now i ≡ width_at old i
  width_now old now wider i known = sym (width_item now i) ∙ (known.later (suc (double i)) (omega arith) ∙ width_item old i)

  pub only_more : (old new : List Bool) → OnlyJumps (numbered tables ys) old → IsRound labelled (spread old) (spread new) → OnlyJumps (numbered tables ys) new
  only_more old new only round i e =
      elim (round (suc (double i)) (width_item new i ∙ e)) [
        | inl was ↦ only i (sym (width_item old i) ∙ was)
        | inr h ↦
            let inside = h.within in
            let lt : i < length ys = omega (arith, inside, whole tables ys, double_is i, double_is (length ys)) in
            sym (ap labels.is_jump (item_is tables ys i lt)) ∙ h.jumps
      ]

  pub fewest_is : (old new : List Bool) → new ≡ old → length old ≡ length ys → ShortFit labelled (spread old) → IsNeeded labelled (spread old) → IsFewest labelled (spread new)
  fewest_is old new same size fit need =
      subst (λ (ws : List Bool). IsFewest labelled (spread ws)) (sym same)
      (record { sized = length-spread old ∙ (ap double size ∙ sym (whole tables ys)); short_fit = fit; needed = need })

  -- the bytes of the first `i` items
  abbrev pub laid_to : List Bool → ℕ → List ℕ
  laid_to ws i = flat_map spelling (instrs_to labelled (spread ws) (double i))

  flat_same : (ws : List Bool) (i : ℕ) → i < length ys → labels.is_jump (item_at (numbered tables ys) i) ≡ false
      → flat_map spelling (instr_of (item_at (numbered tables ys) i) (pos 0) false) ≡ flat_map spelling (instr_of (item_at (numbered tables ys) i) (offset labelled (spread ws) (suc (double i))) (width_at ws i))
  flat_same ws i lt flat = ap (flat_map spelling) (same_instr (item_at (numbered tables ys) i) (pos 0) (offset labelled (spread ws) (suc (double i))) false (width_at ws i) flat)

  pub passed_over : (ws : List Bool) (i from : ℕ) (out : List ℕ) → i < length ys → labels.is_jump (item_at (numbered tables ys) i) ≡ false → from ≤ length (drafted_to (numbered tables ys) i)
      → out ++ drop from (drafted_to (numbered tables ys) i) ≡ laid_to ws i → out ++ drop from (drafted_to (numbered tables ys) (i + 1)) ≡ laid_to ws (i + 1)
  passed_over ws i from out lt flat le so_far =
      let xs = numbered tables ys in
      let here = flat_map spelling (instr_of (item_at xs i) (pos 0) false) in
      ap (λ (n : ℕ). out ++ drop from (drafted_to xs n)) (add-one i)
      ∙ (ap (λ (bytes : List ℕ). out ++ bytes) (drop-append-le from (drafted_to xs i) here le)
      ∙ (sym (append_assoc out (drop from (drafted_to xs i)) here)
      ∙ (ap₂ (λ (a b : List ℕ). a ++ b) so_far (flat_same ws i lt flat) ∙ sym (laid_more tables ys ws i lt))))

  -- the text in front of an item
  drafted_front : (n k : ℕ) → (rest : List ℕ) × (drafted_to (numbered tables ys) (n + k) ≡ drafted_to (numbered tables ys) n ++ rest)
  drafted_front n zero =
      let same : n + zero ≡ n = omega arith in
      ([], ap (drafted_to (numbered tables ys)) same ∙ sym (append-nil (drafted_to (numbered tables ys) n)))
  drafted_front n (suc k) =
      let before = drafted_front n k in
      let here = flat_map spelling (instr_of (item_at (numbered tables ys) (n + k)) (pos 0) false) in
      let next : n + suc k ≡ suc (n + k) = omega arith in
      (before.0 ++ here, ap (drafted_to (numbered tables ys)) next ∙ (ap (λ (bytes : List ℕ). bytes ++ here) before.1 ∙ append_assoc (drafted_to (numbered tables ys) n) before.0 here))

  pub front_is : (text : List ℕ) (i from start : ℕ) → text ≡ drafted tables ys → i ≤ length ys → start ≡ place (numbered tables ys) [] i → between from start text ≡ drop from (drafted_to (numbered tables ys) i)
  front_is text i from start are le is =
      let xs = numbered tables ys in
      let k = length ys - i in
      let there : i + k ≡ length ys = omega (arith, le) in
      let parts = drafted_front i k in
      let whole_text : text ≡ drafted_to xs i ++ parts.0 = are ∙ (sym (ap (drafted_to xs) there) ∙ parts.1) in
      let size : start ≡ length (drafted_to xs i) = is ∙ sym (length-drafted xs i) in
      between_is text from start
      ∙ ap (drop from) (ap₂ (λ (n : ℕ) (bytes : List ℕ). take n bytes) size whole_text
      ∙ (take-append-le (length (drafted_to xs i)) (drafted_to xs i) parts.0 (omega arith) ∙ take_all (length (drafted_to xs i)) (drafted_to xs i) (omega arith)))

  pub start_within : (text : List ℕ) (i start : ℕ) → text ≡ drafted tables ys → i ≤ length ys → start ≡ place (numbered tables ys) [] i → start ≤ length text
  start_within text i start are le is =
      let xs = numbered tables ys in
      let there : i + (length ys - i) ≡ length ys = omega (arith, le) in
      let parts = drafted_front i (length ys - i) in
      let size : length text ≡ length (drafted_to xs i) + length parts.0 = ap length (are ∙ (sym (ap (drafted_to xs) there) ∙ parts.1)) ∙ length-append (drafted_to xs i) parts.0 in
      omega (arith, size, is, length-drafted xs i)

  -- the bytes of all items, where the rest of the text is added
  pub filled : (ws : List Bool) (i from : ℕ) (out new behind text : List ℕ) → length ys ≤ i → i ≤ length ys → text ≡ drafted tables ys → behind ≡ drop from text → out ++ drop from (drafted_to (numbered tables ys) i) ≡ laid_to ws i
      → new ≡ out ++ behind → new ≡ laid_to ws (length ys)
  filled ws i from out new behind text past le are is so_far more =
      let same : i ≡ length ys = omega (arith, past, le) in
      let whole_text : text ≡ drafted_to (numbered tables ys) i = are ∙ ap (drafted_to (numbered tables ys)) (sym same) in
      more ∙ (ap (λ (bytes : List ℕ). out ++ bytes) (is ∙ ap (drop from) whole_text) ∙ (so_far ∙ ap (laid_to ws) same))

  pub jumped : (ws : List Bool) (i from to : ℕ) (y : Item) (z : ℤ) (w : Bool) (out new front : List ℕ) → i < length ys → item_at (numbered tables ys) i ≡ item_of tables y → is_jump y ≡ true
      → z ≡ offset labelled (spread ws) (suc (double i)) → w ≡ width_at ws i → front ≡ drop from (drafted_to (numbered tables ys) i) → out ++ drop from (drafted_to (numbered tables ys) i) ≡ laid_to ws i
      → new ≡ (out ++ front) ++ flat_map spelling (jump_in y z w) → length (drafted_to (numbered tables ys) (i + 1)) ≤ to
      → new ++ drop to (drafted_to (numbered tables ys) (i + 1)) ≡ laid_to ws (i + 1)
  jumped ws i from to y z w out new front lt is jumps z_is w_is front_eq so_far more past =
      let xs = numbered tables ys in
      let here : jump_in y z w ≡ instr_of (item_at xs i) (offset labelled (spread ws) (suc (double i))) (width_at ws i) =
      jump_is tables y z w jumps ∙ (ap (λ (it : Labelled). instr_of it z w) (sym is) ∙ ap₂ (λ (o : ℤ) (wide : Bool). instr_of (item_at xs i) o wide) z_is w_is) in
      ap (λ (bytes : List ℕ). new ++ bytes) (drop_all to (drafted_to xs (i + 1)) past)
      ∙ (append-nil new
      ∙ (more ∙ (ap₂ (λ (a : List ℕ) (b : List Instr). a ++ flat_map spelling b) (ap (λ (bytes : List ℕ). out ++ bytes) front_eq ∙ so_far) here ∙ sym (laid_more tables ys ws i lt))))

  pub size_next : (i : ℕ) (y : Item) → item_at (numbered tables ys) i ≡ item_of tables y → 0 < short_size y → length (drafted_to (numbered tables ys) (i + 1)) ≡ place (numbered tables ys) [] i + short_size y
  size_next i y is some =
      let xs = numbered tables ys in
      let size : size_of (item_at xs i) false ≡ short_size y = ap (λ (it : Labelled). size_of it false) is ∙ (size_is tables y some).1 in
      ap (λ (n : ℕ). length (drafted_to xs n)) (add-one i) ∙ (length-drafted xs (suc i) ∙ omega (arith, size))

  -- an offset that fits, where it is a label's or an item's
  pub all_fit : (ws : List Bool) (wide : Bool) → ((p : ℕ) → p < length ys → labels.is_jump (item_at labelled (suc (double p))) ≡ true → width_at ws p ≡ wide → FitsAt labelled (spread ws) (suc (double p)) wide)
      → (k : ℕ) → k < length labelled → labels.is_jump (item_at labelled k) ≡ true → width_at (spread ws) k ≡ wide → FitsAt labelled (spread ws) k wide
  all_fit ws wide fits k lt jumps width =
      let half = halved (length ys) k (omega (arith, lt, whole tables ys)) in
      let p = half.0 in
      elim half.2 [
        | inl even ↦
            let none : labels.is_jump (item_at labelled k) ≡ false = ap (λ (n : ℕ). labels.is_jump (item_at labelled n)) even ∙ ap labels.is_jump (label_is tables ys p half.1) in
            absurd cc
        | inr odd ↦
            subst (λ (n : ℕ). FitsAt labelled (spread ws) n wide) (sym odd)
            (fits p half.1 (sym (ap (λ (n : ℕ). labels.is_jump (item_at labelled n)) odd) ∙ jumps) (sym (width_item ws p) ∙ (sym (ap (width_at (spread ws)) odd) ∙ width)))
      ]

  pub laid_out : (ws : List Bool) (bytes : List ℕ) → bytes ≡ laid_to ws (length ys) → bytes ≡ flat_map spelling (instrs_to labelled (spread ws) (length labelled))
  laid_out ws bytes is = is ∙ ap (λ (n : ℕ). flat_map spelling (instrs_to labelled (spread ws) n)) (sym (whole tables ys))

  pub layout_is : (ws : List Bool) (bytes : List ℕ) → IsFewest labelled (spread ws) → ((p : ℕ) → p < length ys → labels.is_jump (item_at labelled (suc (double p))) ≡ true → width_at ws p ≡ true → FitsAt labelled (spread ws) (suc (double p)) true)
      → bytes ≡ laid_to ws (length ys) → IsLayout labelled bytes
  layout_is ws bytes fewest fits is = record { widths = spread ws; fewest = fewest; wide_fit = all_fit ws true fits; bytes_are = laid_out ws bytes is }

  -- and where they start
  pub laid_out_is : TablesFit tables → All (IsNumberedItem (length ys)) ys → (ws : List Bool) (layout : Layout) → IsFewest labelled (spread ws) → layout.starts.items ≡ starts_of tables ys ws → IsLayout labelled layout.bytes.items → IsLaidOut labelled layout
  laid_out_is fit sound ws layout fewest starts bytes = record {
    bytes = bytes;
    starts = starts ∙ (starts_are tables ys fit sound ws ∙ ap (λ (vs : List Bool). offsets 0 (instrs_of labelled vs)) (one_choice labelled (spread ws) bytes.widths fewest bytes.fewest));
  }

  -- items of which none is a jump
  module _ (none : All (λ (y : Item). is_jump y ≡ false) ys) where
    flat_at : (p : ℕ) → p < length ys → labels.is_jump (item_at (numbered tables ys) p) ≡ false
    flat_at p lt =
        let d : Item = items.Unwind 0 0 in
        ap labels.is_jump (get_or-map (item_of tables) ys p d (At 0) lt)
        ∙ (jumps_same tables (get_or ys p d) ∙ All-get_or (λ (y : Item). is_jump y ≡ false) ys p d lt none)

    abbrev short : List Bool
    short = replicate (length ys) false

    same_bytes : (p : ℕ) → p ≤ length ys → drafted_to (numbered tables ys) p ≡ laid_to short p
    same_bytes zero le = refl
    same_bytes (suc p) le =
        let lt : p < length ys = omega (arith, le) in
        ap₂ (λ (a b : List ℕ). a ++ b) (same_bytes p (omega (arith, le))) (flat_same short p lt (flat_at p lt))
        ∙ (sym (laid_more tables ys short p lt) ∙ ap (laid_to short) (add-one p))

    no_jump : (p : ℕ) → p < length ys → labels.is_jump (item_at labelled (suc (double p))) ≡ true → ⊥
    no_jump p lt jumps = let none_here : labels.is_jump (item_at labelled (suc (double p))) ≡ false = ap labels.is_jump (item_is tables ys p lt) ∙ flat_at p lt in cc

    short_fewest : IsFewest labelled (spread short)
    short_fewest = record {
      sized = length-spread short ∙ (ap double (length-replicate (length ys) false) ∙ sym (whole tables ys));
      short_fit = all_fit short false (λ p lt jumps _. absurd (no_jump p lt jumps));
      needed = λ other _ i wide. absurd (none_wide (length ys) i wide);
    }

    pub straight : TablesFit tables → All (IsNumberedItem (length ys)) ys → (layout : Layout) → layout.bytes.items ≡ drafted tables ys → layout.starts.items ≡ starts_of tables ys [] → IsLaidOut labelled layout
    straight fit sound layout bytes starts =
        laid_out_is fit sound short layout short_fewest (starts ∙ narrow_places (numbered tables ys) (length ys) (length ys))
        (layout_is short layout.bytes.items short_fewest (λ p lt jumps _. absurd (no_jump p lt jumps)) (bytes ∙ same_bytes (length ys) (omega arith)))
