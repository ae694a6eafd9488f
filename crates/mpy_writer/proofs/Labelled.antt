-- The items of a code with their labels.
use Rattle.std.proofs.Common.{◌≡◌, ℕ, suc, ◌+◌, ◌-◌, ◌<◌, ◌≤◌, Bool, true, false, cond, ltb, List, [], ◌∷◌, ◌++◌, length, take, map, All, not, pos, refl, sym, ap, subst, ◌∙◌, inl, inr, arith}
use Rattle.std.specs.List.{flat_map, count_by, before_first, prefix_len, AllByRecursion}
use Rattle.std.proofs.lemmas.Bool.{lt-ltb, cases_eq, ne_eqb, eq-eqb}
use Rattle.std.proofs.lemmas.List.Sums.{sum_by-cons}
use Rattle.std.proofs.lemmas.List.Elements.{All-from_recursion, recursion_from_All}
use Rattle.mpy_tree.specs.bc_ops.declared.form.Form.{Form}
use Rattle.mpy_tree.specs.bc_ops.declared.form.Form.TheVariants as forms
use Rattle.mpy_tree.specs.bc_ops.declared.instr.Op.TheVariants.{LoadConstObj}
use Rattle.mpy_tree.specs.bc_ops.declared.instr.Instr.TheVariants as instrs
use Rattle.mpy_tree.specs.bc_ops.declared.listing.Target.TheVariants.{Position, Offset}
use Rattle.mpy_tree.specs.bc_ops.declared.listing.Item as listings
use Rattle.mpy_tree.specs.bc_ops.declared.listing.Item.TheVariants as listing
use Rattle.mpy_tree.specs.bc_ops.Table.{code_of, form_of, number_form}
use Rattle.mpy_tree.specs.bc_ops.Code.{TakesNumber}
use Rattle.bc_labels.specs.declared.labelled.Labelled.{Labelled}
use Rattle.bc_labels.specs.declared.labelled.Labelled.TheVariants.{At}
use Rattle.bc_labels.specs.Labels.{is_label, StandsOnce, IsSound}
use Rattle.bc_labels.specs.Listed.{is_instr, label_target, listed_item, listed}
use Rattle.mpy_tree.specs.declared.module.Item.{Item}
use Rattle.mpy_tree.specs.declared.module.Item.TheVariants as items
use Rattle.mpy_tree.specs.declared.module.Code.{Code, out-Code}
use Rattle.mpy_writer.specs.declared.tables.Tables.{Tables}
use Rattle.mpy_writer.specs.Tables.{TablesFit, text_number, object_number, spelled}
use Rattle.mpy_writer.specs.File.{item_of, labelled_from, labelled}
use Rattle.mpy_writer.specs.Writable.{IsPosition, IsNumberedItem, IsNumberedCode}
use Rattle.mpy_writer.proofs.Numbers.{number_small}

-- the item of a list
abbrev pub list_item : Tables → Item → listings.Item
list_item tables (items.Plain instr) = listing.Plain instr
list_item tables (items.Named op text) = listing.Plain (instrs.Name op (text_number tables text))
list_item tables (items.Object object) = listing.Plain (instrs.Num LoadConstObj (object_number tables object))
list_item tables (items.Jump op position) = listing.Jump op (Position position)
list_item tables (items.Unwind position byte) = listing.Unwind (Position position) byte

-- what an item adds to a count
abbrev weight : Bool → ℕ
weight b = cond b 1 0

module _ (tables : Tables) where
  no_label : (label : ℕ) (x : Item) → is_label label (item_of tables x) ≡ false
  no_label label (items.Plain instr) = refl
  no_label label (items.Named op text) = refl
  no_label label (items.Object object) = refl
  no_label label (items.Jump op position) = refl
  no_label label (items.Unwind position byte) = refl

  an_instr : (x : Item) → is_instr (item_of tables x) ≡ true
  an_instr (items.Plain instr) = refl
  an_instr (items.Named op text) = refl
  an_instr (items.Object object) = refl
  an_instr (items.Jump op position) = refl
  an_instr (items.Unwind position byte) = refl

  -- counts go item by item
  counted : (p : Labelled → Bool) (at : ℕ) (x : Item) (xs : List Item) → count_by p (labelled_from tables at (x ∷ xs)) ≡ weight (p (At at)) + (weight (p (item_of tables x)) + count_by p (labelled_from tables (at + 1) xs))
  counted p at x xs =
      let weigh = λ (y : Labelled). weight (p y) in
      sum_by-cons weigh (At at) (item_of tables x ∷ labelled_from tables (at + 1) xs)
      ∙ ap (λ (n : ℕ). weight (p (At at)) + n) (sum_by-cons weigh (item_of tables x) (labelled_from tables (at + 1) xs))

  other_label : (label at : ℕ) → (label ≡ at → ⊥) → weight (is_label label (At at)) ≡ 0
  other_label label at apart = ap weight (ne_eqb label at apart)

  none : (label at : ℕ) (xs : List Item) → label < at → count_by (is_label label) (labelled_from tables at xs) ≡ 0
  none label at [] lt = refl
  none label at (x ∷ xs) lt =
      let one = ap weight (no_label label x) in
      omega (arith, counted (is_label label) at x xs, other_label label at (λ e. omega (arith, e, lt)), one, none label (at + 1) xs (omega (arith, lt)))

  pub once : (label at : ℕ) (xs : List Item) → at ≤ label → label < at + length xs → count_by (is_label label) (labelled_from tables at xs) ≡ 1
  once label at [] le lt = absurd (omega (arith, le, lt))
  once label at (x ∷ xs) le lt =
      let one = ap weight (no_label label x) in
      elim (cases_eq label at) [
        | inl same ↦
            let here = ap weight (eq-eqb label at same) in
            omega (arith, counted (is_label label) at x xs, here, one, none label (at + 1) xs (omega (arith, same)))
        | inr apart ↦
            omega (arith, counted (is_label label) at x xs, other_label label at apart, one, once label (at + 1) xs (omega (arith, le, apart)) (omega (arith, lt)))
      ]

  total : (at : ℕ) (xs : List Item) → count_by is_instr (labelled_from tables at xs) ≡ length xs
  total at [] = refl
  total at (x ∷ xs) =
      let one = ap weight (an_instr x) in
      omega (arith, counted is_instr at x xs, one, total (at + 1) xs)

  -- what stands in front of a label
  before_here : (p : Labelled → Bool) (y : Labelled) (ys : List Labelled) → p y ≡ true → before_first p (y ∷ ys) ≡ []
  before_here p y ys e = by_test (p y) e where
    by_test : (b : Bool) → b ≡ true → take (cond (not b) (1 + prefix_len (λ z. not (p z)) ys) 0) (y ∷ ys) ≡ []
    by_test true e = refl
    by_test false e = absurd cc

  before_later : (p : Labelled → Bool) (y : Labelled) (ys : List Labelled) → p y ≡ false → before_first p (y ∷ ys) ≡ y ∷ before_first p ys
  before_later p y ys e = by_test (p y) e where
    by_test : (b : Bool) → b ≡ false → take (cond (not b) (1 + prefix_len (λ z. not (p z)) ys) 0) (y ∷ ys) ≡ y ∷ before_first p ys
    by_test true e = absurd cc
    by_test false e = let next : 1 + prefix_len (λ z. not (p z)) ys ≡ suc (prefix_len (λ z. not (p z)) ys) = omega arith in ap (λ (n : ℕ). take n (y ∷ ys)) next

  in_front : (label at : ℕ) (xs : List Item) → at ≤ label → label < at + length xs → count_by is_instr (before_first (is_label label) (labelled_from tables at xs)) ≡ label - at
  in_front label at [] le lt = absurd (omega (arith, le, lt))
  in_front label at (x ∷ xs) le lt =
      let rest = item_of tables x ∷ labelled_from tables (at + 1) xs in
      let weigh = λ (y : Labelled). weight (is_instr y) in
      elim (cases_eq label at) [
        | inl same ↦
            ap (count_by is_instr) (before_here (is_label label) (At at) rest (eq-eqb label at same)) ∙ omega (arith, same)
        | inr apart ↦
            let others = before_first (is_label label) (labelled_from tables (at + 1) xs) in
            let front = before_later (is_label label) (At at) rest (ne_eqb label at apart)
            ∙ ap (λ (ys : List Labelled). At at ∷ ys) (before_later (is_label label) (item_of tables x) (labelled_from tables (at + 1) xs) (no_label label x)) in
            let one = ap weight (an_instr x) in
            ap (count_by is_instr) front
            ∙ omega (arith, sum_by-cons weigh (At at) (item_of tables x ∷ others), sum_by-cons weigh (item_of tables x) others, one, in_front label (at + 1) xs (omega (arith, le, apart)) (omega (arith, lt)), le, apart)
      ]

  -- a jump to a label goes to its position
  target : (xs : List Item) (len label : ℕ) → IsPosition (length xs) label → label_target (labelled_from tables 0 xs) len label ≡ Position label
  target xs len label p =
      let within = p.within in
      let position = in_front label 0 xs (omega arith) (omega (arith, within)) ∙ omega arith in
      ap (λ (n : ℕ). cond (ltb n (count_by is_instr (labelled_from tables 0 xs))) (Position n) (Offset (pos len))) position
      ∙ (ap (λ (n : ℕ). cond (ltb label n) (Position label) (Offset (pos len))) (total 0 xs)
      ∙ ap (λ (b : Bool). cond b (Position label) (Offset (pos len))) (lt-ltb label (length xs) within))

  -- the list that a layout of the items is read as
  module _ (all : List Labelled) (count len : ℕ) (targets : (label : ℕ) → IsPosition count label → label_target all len label ≡ Position label) where
    one_item : (x : Item) → IsNumberedItem count x → listed_item all len (item_of tables x) ≡ list_item tables x ∷ []
    one_item (items.Plain instr) sound = refl
    one_item (items.Named op text) sound = refl
    one_item (items.Object object) sound = refl
    one_item (items.Jump op position) sound = ap (λ t. listing.Jump op t ∷ []) (targets position sound.1)
    one_item (items.Unwind position byte) sound = ap (λ t. listing.Unwind t byte ∷ []) (targets position sound)

    listed_from : (at : ℕ) (xs : List Item) → AllByRecursion (IsNumberedItem count) xs → flat_map (listed_item all len) (labelled_from tables at xs) ≡ map (list_item tables) xs
    listed_from at [] sound = refl
    listed_from at (x ∷ xs) sound =
        ap (λ (ys : List listings.Item). ys ++ flat_map (listed_item all len) (labelled_from tables (at + 1) xs)) (one_item x sound.0)
        ∙ ap (λ (ys : List listings.Item). list_item tables x ∷ ys) (listed_from (at + 1) xs sound.1)

  pub listed_is : (xs : List Item) (len : ℕ) → AllByRecursion (IsNumberedItem (length xs)) xs → listed (labelled_from tables 0 xs) len ≡ map (list_item tables) xs
  listed_is xs len sound = listed_from (labelled_from tables 0 xs) (length xs) len (target xs len) 0 xs sound

  -- the items may be laid out
  pub object_form : form_of (code_of LoadConstObj) ≡ forms.Number LoadConstObj
  unfolding form_of number_form
  object_form = refl

  module _ (fit : TablesFit tables) (all : List Labelled) (count : ℕ) (stand : (label : ℕ) → IsPosition count label → StandsOnce all label) where
    sound_item : (x : Item) → IsNumberedItem count x → IsSound all (item_of tables x)
    sound_item (items.Plain instr) h = (h.1, h.0)
    sound_item (items.Named op text) h = let small = number_small tables.texts text fit.texts in ((h.0, omega (arith, small)), tt)
    sound_item (items.Object object) h =
        let small = number_small tables.objects (spelled object) fit.objects in
        let takes : TakesNumber (forms.Number LoadConstObj) LoadConstObj (object_number tables object) = (refl, omega (arith, small)) in
        (subst (λ (f : Form). TakesNumber f LoadConstObj (object_number tables object)) (sym object_form) takes, tt)
    sound_item (items.Jump op position) h = (h.0, stand position h.1)
    sound_item (items.Unwind position byte) h = stand position h

    sound_from : (at : ℕ) (xs : List Item) → AllByRecursion (IsNumberedItem count) xs → AllByRecursion (IsSound all) (labelled_from tables at xs)
    sound_from at [] h = tt
    sound_from at (x ∷ xs) h = (tt, (sound_item x h.0, sound_from (at + 1) xs h.1))

  pub sound_labels : (code : Code) → TablesFit tables → IsNumberedCode code → All (IsSound (labelled tables code)) (labelled tables code)
  sound_labels code fit sound =
      let xs = (out-Code code).instrs in
      let all = labelled tables code in
      let stand = λ (label : ℕ) (p : IsPosition (length xs) label). let within = p.within in once label 0 xs (omega arith) (omega (arith, within)) in
      All-from_recursion (IsSound all) all (sound_from fit all (length xs) stand 0 xs (recursion_from_All (IsNumberedItem (length xs)) xs sound.instrs))
