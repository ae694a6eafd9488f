-- Items by their positions, and the same items with a label in front of each.
use Rattle.std.proofs.Common.{◌≡◌, ℕ, zero, suc, ◌+◌, ◌*◌, ◌<◌, ◌≤◌, Bool, true, false, List, [], ◌∷◌, ◌++◌, length, get_or, set, All, ℤ, pos, ◌-ℤ◌, refl, sym, ap, ap₂, subst, ◌∙◌, ◌⊎◌, inl, inr, arith, add-one}
use Rattle.std.specs.List.{flat_map, AllByRecursion}
use Rattle.std.proofs.lemmas.List.{append-nil, length-append, get_or-map}
use Rattle.std.proofs.lemmas.List.Concat.{flat_map-append}
use Rattle.std.proofs.lemmas.List.Elements.{recursion_from_All}
use Rattle.mpy_tree.specs.bc_ops.declared.form.Form.{Form}
use Rattle.mpy_tree.specs.bc_ops.declared.form.Form.TheVariants as forms
use Rattle.mpy_tree.specs.bc_ops.declared.instr.Op.TheVariants.{LoadConstObj}
use Rattle.mpy_tree.specs.bc_ops.declared.instr.Instr.{Instr}
use Rattle.mpy_tree.specs.bc_ops.Code.{spelling, TakesNumber}
use Rattle.bc_labels.specs.declared.labelled.Labelled.{Labelled}
use Rattle.bc_labels.specs.declared.labelled.Labelled.TheVariants.{At, Plain, Jump, Unwind}
use Rattle.bc_labels.specs.Labels.{StandsOnce, target_of, label_item}
use Rattle.bc_labels.specs.Labels as labels
use Rattle.bc_labels.specs.Places.{item_at, width_at, offset_size, size_of, place, places_to, offset}
use Rattle.bc_labels.specs.Choice.{instr_of, instrs_to, instrs_of}
use Rattle.bc_labels.proofs.Reading.{length-instrs}
use Rattle.bc_labels.proofs.Standing.{stands}
use Rattle.bc_labels.proofs.Sizes.{size_bound, get_or-places_to, length-places_to}
use Rattle.mpy_tree.specs.declared.module.Item.{Item}
use Rattle.mpy_tree.specs.declared.module.Item.TheVariants as items
use Rattle.mpy_tree.specs.Canonical.{offsets}
use Rattle.mpy_writer.specs.declared.tables.Tables.{Tables}
use Rattle.mpy_writer.specs.File.{item_of, labelled_from}
use Rattle.mpy_writer.specs.Positions.{position_of, IsPlaced, numbered, drafted_to, starts_of, spread}
use Rattle.mpy_writer.specs.Tables.{TablesFit, object_number, spelled}
use Rattle.mpy_writer.specs.Writable.{IsNumberedItem}
use Rattle.mpy_writer.proofs.Labelled.{once, object_form}
use Rattle.mpy_writer.proofs.Numbers.{number_small}

-- an item stands behind the label of its position
abbrev pub double : ℕ → ℕ
double zero = zero
double (suc n) = suc (suc (double n))

pub double_is : (n : ℕ) → double n ≡ n + n
double_is zero = refl
double_is (suc n) = omega (arith, double_is n)

-- a place is that of a label, or behind it
abbrev pub Halved : ℕ → ℕ → Type 0
Halved n i = (p : ℕ) × (p < n) × ((i ≡ double p) ⊎ (i ≡ suc (double p)))

pub halved : (n i : ℕ) → i < double n → Halved n i
halved zero i lt = absurd (omega (arith, lt))
halved (suc n) zero lt = (0, omega arith, inl refl)
halved (suc n) (suc zero) lt = (0, omega arith, inr refl)
halved (suc n) (suc (suc i)) lt =
    let rest = halved n i (omega (arith, lt)) in
    let within = rest.1 in
    elim rest.2 [
      | inl even ↦ (suc rest.0, omega (arith, within), inl (ap (λ (k : ℕ). suc (suc k)) even))
      | inr odd ↦ (suc rest.0, omega (arith, within), inr (ap (λ (k : ℕ). suc (suc k)) odd))
    ]

-- the widths with those of the labels
pub width_label : (ws : List Bool) (p : ℕ) → width_at (spread ws) (double p) ≡ false
width_label [] p = refl
width_label (w ∷ ws) zero = refl
width_label (w ∷ ws) (suc p) = width_label ws p

pub width_item : (ws : List Bool) (p : ℕ) → width_at (spread ws) (suc (double p)) ≡ width_at ws p
width_item [] p = refl
width_item (w ∷ ws) zero = refl
width_item (w ∷ ws) (suc p) = width_item ws p

pub length-spread : (ws : List Bool) → length (spread ws) ≡ double (length ws)
length-spread [] = refl
length-spread (w ∷ ws) = ap (λ (n : ℕ). suc (suc n)) (length-spread ws)

pub spread-set : (ws : List Bool) (p : ℕ) → spread (set ws p true) ≡ set (spread ws) (suc (double p)) true
spread-set [] p = refl
spread-set (w ∷ ws) zero = refl
spread-set (w ∷ ws) (suc p) = ap (λ (vs : List Bool). false ∷ w ∷ vs) (spread-set ws p)

pub spread-same : (a b : List Bool) → spread a ≡ spread b → a ≡ b
spread-same [] [] e = refl
spread-same [] (w ∷ b) e = cc
spread-same (w ∷ a) [] e = cc
spread-same (w ∷ a) (v ∷ b) e =
    let head : w ≡ v = cc in
    let rest : spread a ≡ spread b = cc in
    ap₂ (λ (x : Bool) (xs : List Bool). x ∷ xs) head (spread-same a b rest)

-- an offset and a width count only in a jump
pub same_instr : (it : Labelled) (y z : ℤ) (w v : Bool) → labels.is_jump it ≡ false → instr_of it y w ≡ instr_of it z v
same_instr (At label) y z w v flat = refl
same_instr (Plain instr) y z w v flat = refl
same_instr (Jump op label) y z w v flat = absurd cc
same_instr (Unwind label byte) y z w v flat = absurd cc

-- an item that may be written may be so with numbers
pub placed_item : (tables : Tables) → TablesFit tables → (count : ℕ) (x : Item) → IsNumberedItem count x → IsPlaced count (item_of tables x)
placed_item tables fit count (items.Plain instr) h = (h.1, h.0)
placed_item tables fit count (items.Named op text) h = let small = number_small tables.texts text fit.texts in ((h.0, omega (arith, small)), tt)
placed_item tables fit count (items.Object object) h =
    let small = number_small tables.objects (spelled object) fit.objects in
    let takes : TakesNumber (forms.Number LoadConstObj) LoadConstObj (object_number tables object) = (refl, omega (arith, small)) in
    (subst (λ (f : Form). TakesNumber f LoadConstObj (object_number tables object)) (sym (object_form tables)) takes, tt)
placed_item tables fit count (items.Jump op position) h = (h.0, h.1.within)
placed_item tables fit count (items.Unwind position byte) h = h.within

pub placed_at : (tables : Tables) → TablesFit tables → (ys : List Item) → All (IsNumberedItem (length ys)) ys → (p : ℕ) → p < length ys → IsPlaced (length ys) (item_at (numbered tables ys) p)
placed_at tables fit ys sound p lt =
    at p ys lt (recursion_from_All (IsNumberedItem (length ys)) ys sound) where
      at : (p : ℕ) (zs : List Item) → p < length zs → AllByRecursion (IsNumberedItem (length ys)) zs → IsPlaced (length ys) (item_at (numbered tables zs) p)
      at p [] lt h = absurd (omega (arith, lt))
      at zero (z ∷ zs) lt h = placed_item tables fit (length ys) z h.0
      at (suc p) (z ∷ zs) lt h = at p zs (omega (arith, lt)) h.1

pub seen_item : (tables : Tables) (ys : List Item) (i : ℕ) (y : Item) → i < length ys → y ≡ get_or ys i y → item_at (numbered tables ys) i ≡ item_of tables y
seen_item tables ys i y lt is = get_or-map (item_of tables) ys i y (At 0) lt ∙ ap (item_of tables) (sym is)

-- an item has at most six bytes
pub few_bytes : (count : ℕ) (it : Labelled) (wide : Bool) → IsPlaced count it → size_of it wide ≤ 6
few_bytes count (At label) wide placed = absurd placed
few_bytes count (Plain instr) wide placed = size_bound [] (Plain instr) wide placed
few_bytes count (Jump op q) true placed = omega arith
few_bytes count (Jump op q) false placed = omega arith
few_bytes count (Unwind q byte) true placed = omega arith
few_bytes count (Unwind q byte) false placed = omega arith

position_within : (count : ℕ) (it : Labelled) → IsPlaced count it → 0 < count → position_of it < count
position_within count (At label) placed some = absurd placed
position_within count (Plain instr) placed some = some
position_within count (Jump op q) placed some = placed.1
position_within count (Unwind q byte) placed some = placed

-- the bytes of an item
pub length-instr : (it : Labelled) (z : ℤ) (wide : Bool) → length (flat_map spelling (instr_of it z wide)) ≡ size_of it wide
length-instr (At label) z wide = refl
length-instr (Plain instr) z wide = ap length (append-nil (spelling instr))
length-instr (Jump op label) z true = refl
length-instr (Jump op label) z false = refl
length-instr (Unwind label byte) z true = refl
length-instr (Unwind label byte) z false = refl

-- the instructions of a list start behind those of another
offsets-append : (at : ℕ) (a b : List Instr) → offsets at (a ++ b) ≡ offsets at a ++ offsets (at + length (flat_map spelling a)) b
offsets-append at [] b = ap (λ (n : ℕ). offsets n b) (omega arith)
offsets-append at (x ∷ a) b =
    let next : at + length (spelling x) + length (flat_map spelling a) ≡ at + length (flat_map spelling (x ∷ a)) = omega (arith, length-append (spelling x) (flat_map spelling a)) in
    ap (λ (ns : List ℕ). at ∷ ns) (offsets-append (at + length (spelling x)) a b ∙ ap (λ (n : ℕ). offsets (at + length (spelling x)) a ++ offsets n b) next)

one_offset : (count at : ℕ) (it : Labelled) (z : ℤ) (wide : Bool) → IsPlaced count it → offsets at (instr_of it z wide) ≡ at ∷ []
one_offset count at (At label) z wide placed = absurd placed
one_offset count at (Plain instr) z wide placed = refl
one_offset count at (Jump op q) z wide placed = refl
one_offset count at (Unwind q byte) z wide placed = refl

pub length-drafted : (xs : List Labelled) (i : ℕ) → length (drafted_to xs i) ≡ place xs [] i
length-drafted xs zero = refl
length-drafted xs (suc i) =
    let here = flat_map spelling (instr_of (item_at xs i) (pos 0) false) in
    omega (arith, length-append (drafted_to xs i) here, length-drafted xs i, length-instr (item_at xs i) (pos 0) false)

module _ (tables : Tables) where
  label_before : (at p : ℕ) (ys : List Item) → p < length ys → item_at (labelled_from tables at ys) (double p) ≡ At (at + p)
  label_before at p [] lt = absurd (omega (arith, lt))
  label_before at zero (y ∷ ys) lt = let next : at ≡ at + 0 = omega arith in ap At next
  label_before at (suc p) (y ∷ ys) lt = let next : at + 1 + p ≡ at + suc p = omega arith in label_before (at + 1) p ys (omega (arith, lt)) ∙ ap At next

  item_behind : (at p : ℕ) (ys : List Item) → p < length ys → item_at (labelled_from tables at ys) (suc (double p)) ≡ item_at (numbered tables ys) p
  item_behind at p [] lt = absurd (omega (arith, lt))
  item_behind at zero (y ∷ ys) lt = refl
  item_behind at (suc p) (y ∷ ys) lt = item_behind (at + 1) p ys (omega (arith, lt))

  length-labelled : (at : ℕ) (ys : List Item) → length (labelled_from tables at ys) ≡ double (length ys)
  length-labelled at [] = refl
  length-labelled at (y ∷ ys) = ap (λ (n : ℕ). suc (suc n)) (length-labelled (at + 1) ys)

  module _ (ys : List Item) where
    abbrev pub all : List Labelled
    all = labelled_from tables 0 ys

    abbrev pub xs : List Labelled
    xs = numbered tables ys

    pub whole : length all ≡ double (length ys)
    whole = length-labelled 0 ys

    pub label_is : (p : ℕ) → p < length ys → item_at all (double p) ≡ At p
    label_is p lt = label_before 0 p ys lt ∙ ap At (omega arith)

    pub item_is : (p : ℕ) → p < length ys → item_at all (suc (double p)) ≡ item_at xs p
    item_is p lt = item_behind 0 p ys lt

    -- a jump goes to the label of the position that it names
    pub label_found : (q : ℕ) → q < length ys → label_item all q ≡ double q
    label_found q lt =
        let stands_once : StandsOnce all q = once tables q 0 ys (omega arith) (omega (arith, lt)) in
        stands all q (double q) stands_once (omega (arith, whole, double_is q, double_is (length ys), lt)) (label_is q lt)

    module _ (ws : List Bool) where
      label_size : (p : ℕ) → p < length ys → size_of (item_at all (double p)) (width_at (spread ws) (double p)) ≡ 0
      label_size p lt = ap (λ (it : Labelled). size_of it (width_at (spread ws) (double p))) (label_is p lt)

      item_size : (p : ℕ) → p < length ys → size_of (item_at all (suc (double p))) (width_at (spread ws) (suc (double p))) ≡ size_of (item_at xs p) (width_at ws p)
      item_size p lt = ap₂ (λ (it : Labelled) (wide : Bool). size_of it wide) (item_is p lt) (width_item ws p)

      place_is : (p : ℕ) → p ≤ length ys → place all (spread ws) (double p) ≡ place xs ws p
      place_is zero le = refl
      place_is (suc p) le =
          let lt : p < length ys = omega (arith, le) in
          omega (arith, place_is p (omega (arith, le)), label_size p lt, item_size p lt)

      place_behind : (p : ℕ) → p < length ys → place all (spread ws) (suc (double p)) ≡ place xs ws p
      place_behind p lt = omega (arith, place_is p (omega (arith, lt)), label_size p lt)

      target_is : (it : Labelled) → IsPlaced (length ys) it → place all (spread ws) (target_of all it) ≡ place xs ws (position_of it)
      target_is (At label) placed = absurd placed
      target_is (Plain instr) placed = refl
      target_is (Jump op q) placed = ap (place all (spread ws)) (label_found q placed.1) ∙ place_is q (let lt = placed.1 in omega (arith, lt))
      target_is (Unwind q byte) placed = ap (place all (spread ws)) (label_found q placed) ∙ place_is q (omega (arith, placed))

      -- the instruction of one item more
      instrs_more : (p : ℕ) → p < length ys → instrs_to all (spread ws) (double (suc p)) ≡ instrs_to all (spread ws) (double p) ++ instr_of (item_at xs p) (offset all (spread ws) (suc (double p))) (width_at ws p)
      instrs_more p lt =
          let o = offset all (spread ws) (double p) in
          let w = width_at (spread ws) (double p) in
          let none : instr_of (item_at all (double p)) o w ≡ [] = ap (λ (it : Labelled). instr_of it o w) (label_is p lt) in
          let front : instrs_to all (spread ws) (suc (double p)) ≡ instrs_to all (spread ws) (double p) =
          ap (λ (is : List Instr). instrs_to all (spread ws) (double p) ++ is) none ∙ append-nil (instrs_to all (spread ws) (double p)) in
          let next = offset all (spread ws) (suc (double p)) in
          let here : instr_of (item_at all (suc (double p))) next (width_at (spread ws) (suc (double p))) ≡ instr_of (item_at xs p) next (width_at ws p) =
          ap₂ (λ (it : Labelled) (wide : Bool). instr_of it next wide) (item_is p lt) (width_item ws p) in
          ap₂ (λ (a b : List Instr). a ++ b) front here

      pub laid_more : (p : ℕ) → p < length ys → flat_map spelling (instrs_to all (spread ws) (double (p + 1)))
          ≡ flat_map spelling (instrs_to all (spread ws) (double p)) ++ flat_map spelling (instr_of (item_at xs p) (offset all (spread ws) (suc (double p))) (width_at ws p))
      laid_more p lt =
          ap (λ (n : ℕ). flat_map spelling (instrs_to all (spread ws) (double n))) (add-one p)
          ∙ (ap (flat_map spelling) (instrs_more p lt)
          ∙ flat_map-append spelling (instrs_to all (spread ws) (double p)) (instr_of (item_at xs p) (offset all (spread ws) (suc (double p))) (width_at ws p)))

    module _ (fit : TablesFit tables) (sound : All (IsNumberedItem (length ys)) ys) where
      -- where the items start
      pub near : (ws : List Bool) (i : ℕ) → i ≤ length ys → place xs ws i ≤ 6 * i
      near ws zero le = omega arith
      near ws (suc i) le =
          let lt : i < length ys = omega (arith, le) in
          omega (arith, near ws i (omega (arith, le)), few_bytes (length ys) (item_at xs i) (width_at ws i) (placed_at tables fit ys sound i lt))

      pub start_is : (ws : List Bool) (starts : List ℕ) (i d : ℕ) → starts ≡ starts_of tables ys ws → i < length ys → get_or starts i d ≡ place xs ws i
      start_is ws starts i d are lt = ap (λ (ps : List ℕ). get_or ps i d) are ∙ get_or-places_to xs ws (length ys) i d lt

      pub starts_near : (ws : List Bool) (starts : List ℕ) → starts ≡ starts_of tables ys ws → All (λ start. start ≤ 6 * length starts) starts
      starts_near ws starts are i d lt =
          let size : length starts ≡ length ys = ap length are ∙ length-places_to xs ws (length ys) in
          let within : i < length ys = omega (arith, lt, size) in
          omega (arith, within, size, start_is ws starts i d are within, near ws i (omega (arith, within)))

      -- the items start where their instructions do
      offsets_to : (ws : List Bool) (p : ℕ) → p ≤ length ys → places_to xs ws p ≡ offsets 0 (instrs_to all (spread ws) (double p))
      offsets_to ws zero le = refl
      offsets_to ws (suc p) le =
          let lt : p < length ys = omega (arith, le) in
          let front = instrs_to all (spread ws) (double p) in
          let here = instr_of (item_at xs p) (offset all (spread ws) (suc (double p))) (width_at ws p) in
          let size : 0 + length (flat_map spelling front) ≡ place xs ws p = omega (arith, length-instrs all (spread ws) (double p), place_is ws p (omega (arith, lt))) in
          let one = one_offset (length ys) (place xs ws p) (item_at xs p) (offset all (spread ws) (suc (double p))) (width_at ws p) (placed_at tables fit ys sound p lt) in
          ap₂ (λ (a b : List ℕ). a ++ b) (offsets_to ws p (omega (arith, lt))) (sym one)
          ∙ (ap (λ (n : ℕ). offsets 0 front ++ offsets n here) (sym size)
          ∙ (sym (offsets-append 0 front here) ∙ ap (offsets 0) (sym (instrs_more ws p lt))))

      pub starts_are : (ws : List Bool) → starts_of tables ys ws ≡ offsets 0 (instrs_of all (spread ws))
      starts_are ws = offsets_to ws (length ys) (omega arith) ∙ ap (λ (n : ℕ). offsets 0 (instrs_to all (spread ws) n)) (sym whole)

      pub named : (i : ℕ) → i < length ys → position_of (item_at xs i) < length ys
      named i lt = position_within (length ys) (item_at xs i) (placed_at tables fit ys sound i lt) (omega (arith, lt))

      -- the offset that the starts give
      pub offset_is : (ws : List Bool) (starts : List ℕ) (i to : ℕ) (wide : Bool) → starts ≡ starts_of tables ys ws → i < length ys → to ≡ position_of (item_at xs i) → width_at ws i ≡ wide
          → pos (get_or starts to 0) -ℤ pos (get_or starts i 0 + 1 + offset_size wide) ≡ offset all (spread ws) (suc (double i))
      offset_is ws starts i to wide are lt is width =
          let placed = placed_at tables fit ys sound i lt in
          let there : get_or starts to 0 ≡ place all (spread ws) (target_of all (item_at all (suc (double i)))) =
          ap (λ (k : ℕ). get_or starts k 0) is ∙ (start_is ws starts (position_of (item_at xs i)) 0 are (named i lt)
          ∙ (sym (target_is ws (item_at xs i) placed) ∙ ap (λ (it : Labelled). place all (spread ws) (target_of all it)) (sym (item_is i lt)))) in
          let size : offset_size (width_at (spread ws) (suc (double i))) ≡ offset_size wide = ap offset_size (width_item ws i ∙ width) in
          let here : get_or starts i 0 + 1 + offset_size wide ≡ place all (spread ws) (suc (double i)) + 1 + offset_size (width_at (spread ws) (suc (double i))) =
          omega (arith, start_is ws starts i 0 are lt, place_behind ws i lt, size) in
          ap₂ (λ (a b : ℕ). pos a -ℤ pos b) there here

pub as_many : (tables : Tables) (ys : List Item) (ws : List Bool) (starts : List ℕ) → starts ≡ starts_of tables ys ws → length starts ≡ length ys
as_many tables ys ws starts are = ap length are ∙ length-places_to (numbered tables ys) ws (length ys)

-- what a wide offset adds to the size of an item
pub grown_size : (it : Labelled) (wide : Bool) (more : ℕ) → (wide ≡ true → labels.is_jump it ≡ true) → more + 1 ≡ offset_size wide → size_of it false + more ≡ size_of it wide
grown_size it false more jumps e = omega (arith, e)
grown_size (At label) true more jumps e = absurd (let no = jumps refl in cc)
grown_size (Plain instr) true more jumps e = absurd (let no = jumps refl in cc)
grown_size (Jump op label) true more jumps e = omega (arith, e)
grown_size (Unwind label byte) true more jumps e = omega (arith, e)

-- a list of starts, and the text of a draft, with one item more
pub started_more : (xs : List Labelled) (ws : List Bool) (i start : ℕ) (old new : List ℕ) → old ≡ places_to xs ws i → start ≡ place xs ws i → new ≡ old ++ start ∷ [] → new ≡ places_to xs ws (i + 1)
started_more xs ws i start old new so_far is more =
    more ∙ (ap₂ (λ (ps : List ℕ) (p : ℕ). ps ++ p ∷ []) so_far is ∙ ap (places_to xs ws) (sym (add-one i)))

pub drafted_more : (xs : List Labelled) (i : ℕ) (it : Labelled) (old new : List ℕ) → item_at xs i ≡ it → old ≡ drafted_to xs i → new ≡ old ++ flat_map spelling (instr_of it (pos 0) false) → new ≡ drafted_to xs (i + 1)
drafted_more xs i it old new is so_far more =
    more ∙ (ap₂ (λ (bytes : List ℕ) (y : Labelled). bytes ++ flat_map spelling (instr_of y (pos 0) false)) so_far (sym is) ∙ ap (drafted_to xs) (sym (add-one i)))

pub drafted_grows : (xs : List Labelled) (i : ℕ) → length (drafted_to xs i) ≤ length (drafted_to xs (i + 1))
drafted_grows xs i =
    let here = flat_map spelling (instr_of (item_at xs i) (pos 0) false) in
    let next : length (drafted_to xs (i + 1)) ≡ length (drafted_to xs i) + length here = ap (λ (n : ℕ). length (drafted_to xs n)) (add-one i) ∙ length-append (drafted_to xs i) here in
    omega (arith, next)
