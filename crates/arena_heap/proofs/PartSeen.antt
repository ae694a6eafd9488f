-- From the heads of functions, exceptions, bound methods, ranges and modules to what contracts see of them.
use Rattle.std.proofs.Common.{ℕ, suc, ◌+◌, ◌<◌, ◌≤◌, ◌≡◌, List, [], ◌∷◌, length, Option, Some, None, get_or, set, refl, sym, ◌∙◌, ap, subst, arith, le_refl, get_or-set_same, get_or-set_other}
use Rattle.std.proofs.Math.Path.{ap₂}
use Rattle.std.specs.List.{All}
use Rattle.std.specs.Option.{IfSome, MatchOption, option_map}
use Rattle.std.specs.Vec.{vec_capacity}
use Rattle.std.proofs.lemmas.List.{get_or_default}
use Rattle.qstr_pool.specs.mpy_base.declared.kind.Kind.{Kind}
use Rattle.qstr_pool.specs.mpy_base.declared.builtin.Builtin.{Builtin}
use Rattle.arena_heap.specs.declared.arena.Arena.TheInside.{Inside}
use Rattle.arena_heap.specs.declared.value.Value.{Value}
use Rattle.arena_heap.specs.declared.value.Value.TheVariants as values
use Rattle.arena_heap.specs.declared.value.DictNo.{DictNo}
use Rattle.arena_heap.specs.declared.cells.Cell.{Cell}
use Rattle.arena_heap.specs.declared.cells.Cell.TheVariants as variants
use Rattle.qstr_pool.specs.mpy_base.World.{Heap, FunctionObject, ExceptionObject, MethodObject, ModuleObject, ADict, AnException, AModule, IsA, kind_of, object, placed, named, with_place, with_names}
use Rattle.arena_heap.specs.Values.{ArenaObject, BeginsAt, Leads, held, IsFormed}
use Rattle.arena_heap.specs.Cells.{blank, value_of, dict_number, dict_in, place_in, kind_at, head_of, heads, object_in, first, size, part, decode, read, heap_of, In, Holds, IsArena}
use Rattle.arena_heap.proofs.Regions.{length-part, get_or-part}
use Rattle.arena_heap.proofs.Frame.{holds_plain}
use Rattle.arena_heap.proofs.ListCells.{part-set}
use Rattle.arena_heap.proofs.Sounds.{all_one}
use Rattle.arena_heap.proofs.Seen.{seen, objects, Invariant, holds_now, seen_object, seen_within, seen_head, seen_sound, replaced_again, replaced_seen}

-- the cells behind a head are there
pub behind : (a : Inside) → Invariant a → (n : ℕ) (c : Cell) → heads a.cells.items n ≡ c → first n c + size c ≤ length a.cells.items
behind a i n c head = subst (λ (x : Cell). first n x + size x ≤ length a.cells.items) head (i.kept.cells_apart.inside n)

-- a cell that was read, as part of a region right behind a head
pub read_part : (cells : List Cell) (n k m p : ℕ) (x : Cell) → k < m → p ≡ suc n + k → p < length cells → x ≡ get_or cells p x → get_or (part cells (suc n) m) k blank ≡ x
read_part cells n k m p x lt at low e =
    get_or-part cells (suc n) m k blank lt ∙ (ap (λ (j : ℕ). get_or cells j blank) (sym at) ∙ sym (e ∙ get_or_default cells p x blank low))

-- what is kept of an object with this description
pub sound_parts : (a : Inside) {h : Heap Value ℕ} → Invariant a → seen a ≡ h → (n : ℕ) (o : ArenaObject) → object h.objects n ≡ Some o → All (Leads h.objects) (held (Some o)) × IsFormed (Some o)
sound_parts a {h} i e n o is =
    let s = seen_sound a i e in
    (subst (λ (x : Option ArenaObject). All (Leads h.objects) (held x)) is (s.leads n), subst IsFormed is (s.formed n))

exception_cell : (c : Cell) → kind_at c ≡ Some AnException → (kind : Kind) × (c ≡ variants.ExcHead kind)
exception_cell (variants.ExcHead kind) q = (kind, refl)
exception_cell _ q = absurd cc

pub exception_head : (a : Inside) {h : Heap Value ℕ} → seen a ≡ h → (n : ℕ) → IsA h.objects AnException n → (kind : Kind) × (heads a.cells.items n ≡ variants.ExcHead kind)
exception_head a e n is = exception_cell (heads a.cells.items n) (seen_head a e AnException n is)

module_cell : (c : Cell) → kind_at c ≡ Some AModule → (name : ℕ) × (c ≡ variants.ModuleHead name)
module_cell (variants.ModuleHead name) q = (name, refl)
module_cell _ q = absurd cc

pub module_head : (a : Inside) {h : Heap Value ℕ} → seen a ≡ h → (n : ℕ) → IsA h.objects AModule n → (name : ℕ) × (heads a.cells.items n ≡ variants.ModuleHead name)
module_head a e n is = module_cell (heads a.cells.items n) (seen_head a e AModule n is)

-- the namespace of a module, where it has one, is a dict
pub namespace : (a : Inside) {h : Heap Value ℕ} → Invariant a → seen a ≡ h → (n name : ℕ) (names : Option DictNo)
    → object h.objects n ≡ Some (ModuleObject name (option_map (λ (d : DictNo). d.cell) names)) → IfSome names (λ d. IsA h.objects ADict d.cell)
namespace a i e n name None is = tt
namespace a i e n name (Some d) is = ((sound_parts a i e n (ModuleObject name (Some d.cell)) is).0 0 values.None (omega arith)).meets

module _ (a : Inside) {h : Heap Value ℕ} (i : Invariant a) (e : seen a ≡ h) (n : ℕ) where
  pub placed_exception : (is : IsA h.objects AnException n) (file line name : ℕ)
      → IsArena a.keys (set a.cells.items (n + 2) (variants.Place file line name)) a.bytes.items a.room.cells a.room.bytes (vec_capacity a.cells) (vec_capacity a.bytes)
      × (heap_of (set a.cells.items (n + 2) (variants.Place file line name)) a.bytes.items a.room.cells a.room.bytes ≡ with_place h n file line name)
  placed_exception is file line name =
      let head = exception_head a e n is in
      let x : Cell = variants.Place file line name in
      let cells1 : List Cell = set a.cells.items (n + 2) x in
      let inside = behind a i n (variants.ExcHead head.0) head.1 in
      let ps : List Cell = part a.cells.items (suc n) 2 in
      let lp : length ps ≡ 2 = length-part a.cells.items (suc n) 2 inside in
      let args : Value = value_of (get_or ps 0 blank) in
      let was = place_in (get_or ps 1 blank) in
      let old : object h.objects n ≡ Some (ExceptionObject head.0 args was.file was.line was.name) = seen_object a e n head.1 in
      let o : ArenaObject = ExceptionObject head.0 args file line name in
      let place : suc n + 1 ≡ n + 2 = omega arith in
      let parts : part cells1 (suc n) 2 ≡ set ps 1 x =
      ap (λ (j : ℕ). part (set a.cells.items j x) (suc n) 2) (sym place) ∙ part-set a.cells.items (suc n) 2 1 x (omega arith) in
      let reads : read n (heads a.cells.items n) cells1 a.bytes.items ≡ Some o =
      ap (λ (c : Cell). read n c cells1 a.bytes.items) head.1
      ∙ (ap (λ (qs : List Cell). decode (variants.ExcHead head.0) qs (part a.bytes.items 0 0)) parts
      ∙ ap₂ (λ (p q : Cell). decode (variants.ExcHead head.0) (p ∷ q ∷ []) (part a.bytes.items 0 0))
      (get_or-set_other ps 1 0 x blank (omega arith)) (get_or-set_same ps 1 x blank (omega arith))) in
      let held1 : Holds a.keys cells1 a.bytes.items (set (objects a) n (Some o)) =
      subst (λ (y : Option ArenaObject). Holds a.keys cells1 a.bytes.items (set (objects a) n y)) reads
      (holds_plain (holds_now a i) n (n + 2) x refl (seen_within a e AnException n is)
      (subst (λ (c : Cell). In (first n c) (size c) (n + 2)) (sym head.1) (record { low = omega arith; high = omega arith }))
      (λ below k r2 q. let q2 : variants.ExcHead head.0 ≡ variants.DictHead r2 = sym head.1 ∙ q in absurd cc)) in
      let sound = sound_parts a i e n (ExceptionObject head.0 args was.file was.line was.name) old in (
        replaced_again a i e AnException n is o refl cells1 a.bytes.items (vec_capacity a.cells) (vec_capacity a.bytes) held1 refl (le_refl _) (le_refl _) sound.0 sound.1,
        replaced_seen a e n (Some o) cells1 a.bytes.items held1 refl
            ∙ ap (λ (y : Option ArenaObject). record h { objects = set h.objects n (placed y file line name) }) (sym old),
      )

  pub named_as : (is : IsA h.objects AModule n) (names : DictNo) → IsA h.objects ADict names.cell
      → IsArena a.keys (set a.cells.items (n + 1) (variants.Dict names)) a.bytes.items a.room.cells a.room.bytes (vec_capacity a.cells) (vec_capacity a.bytes)
      × (heap_of (set a.cells.items (n + 1) (variants.Dict names)) a.bytes.items a.room.cells a.room.bytes ≡ with_names h n names.cell)
  named_as is names leads =
      let head = module_head a e n is in
      let x : Cell = variants.Dict names in
      let cells1 : List Cell = set a.cells.items (n + 1) x in
      let inside = behind a i n (variants.ModuleHead head.0) head.1 in
      let ps : List Cell = part a.cells.items (suc n) 1 in
      let lp : length ps ≡ 1 = length-part a.cells.items (suc n) 1 inside in
      let old : object h.objects n ≡ Some (ModuleObject head.0 (dict_in (get_or ps 0 blank))) = seen_object a e n head.1 in
      let o : ArenaObject = ModuleObject head.0 (Some names.cell) in
      let place : suc n + 0 ≡ n + 1 = omega arith in
      let parts : part cells1 (suc n) 1 ≡ set ps 0 x =
      ap (λ (j : ℕ). part (set a.cells.items j x) (suc n) 1) (sym place) ∙ part-set a.cells.items (suc n) 1 0 x (omega arith) in
      let reads : read n (heads a.cells.items n) cells1 a.bytes.items ≡ Some o =
      ap (λ (c : Cell). read n c cells1 a.bytes.items) head.1
      ∙ (ap (λ (qs : List Cell). Some (ModuleObject head.0 (dict_in (get_or qs 0 blank)))) parts
      ∙ ap (λ (p : Cell). Some (ModuleObject head.0 (dict_in p))) (get_or-set_same ps 0 x blank (omega arith))) in
      let held1 : Holds a.keys cells1 a.bytes.items (set (objects a) n (Some o)) =
      subst (λ (y : Option ArenaObject). Holds a.keys cells1 a.bytes.items (set (objects a) n y)) reads
      (holds_plain (holds_now a i) n (n + 1) x refl (seen_within a e AModule n is)
      (subst (λ (c : Cell). In (first n c) (size c) (n + 1)) (sym head.1) (record { low = omega arith; high = omega arith }))
      (λ below k r2 q. let q2 : variants.ModuleHead head.0 ≡ variants.DictHead r2 = sym head.1 ∙ q in absurd cc)) in (
        replaced_again a i e AModule n is o refl cells1 a.bytes.items (vec_capacity a.cells) (vec_capacity a.bytes) held1 refl (le_refl _) (le_refl _)
            (all_one (Leads h.objects) (values.Dict (record { cell = names.cell })) (record { meets = leads; small = tt })) tt,
        replaced_seen a e n (Some o) cells1 a.bytes.items held1 refl
            ∙ ap (λ (y : Option ArenaObject). record h { objects = set h.objects n (named y names.cell) }) (sym old),
      )

module _ (a : Inside) {h : Heap Value ℕ} (i : Invariant a) (e : seen a ≡ h) (n : ℕ) where
  pub seen_exception : {kind : Kind} (x y : Cell) (args : Value) (file line name : ℕ) → heads a.cells.items n ≡ variants.ExcHead kind
      → x ≡ get_or a.cells.items (n + 1) x → y ≡ get_or a.cells.items (n + 2) y → args ≡ value_of x
      → file ≡ (place_in y).file → line ≡ (place_in y).line → name ≡ (place_in y).name → object h.objects n ≡ Some (ExceptionObject kind args file line name)
  seen_exception {kind} x y args file line name head ex ey e0 e1 e2 e3 =
      let inside = behind a i n (variants.ExcHead kind) head in
      let ps : List Cell = part a.cells.items (suc n) 2 in
      let at_x = read_part a.cells.items n 0 2 (n + 1) x (omega arith) (omega arith) (omega arith) ex in
      let at_y = read_part a.cells.items n 1 2 (n + 2) y (omega arith) (omega arith) (omega arith) ey in
      seen_object a e n head
      ∙ (ap₂ (λ (p q : Cell). let w = place_in q in Some (ExceptionObject kind (value_of p) w.file w.line w.name)) at_x at_y
      ∙ (ap (λ (v : Value). let w = place_in y in Some (ExceptionObject kind v w.file w.line w.name)) (sym e0)
      ∙ (ap₂ (λ (f l : ℕ). Some (ExceptionObject kind args f l (place_in y).name)) (sym e1) (sym e2) ∙ ap (λ (m : ℕ). Some (ExceptionObject kind args file line m)) (sym e3))))

  pub seen_function : {name module_no code : ℕ} (x y : Cell) (names : ℕ) (defaults : Value) → heads a.cells.items n ≡ variants.FunHead name module_no code
      → x ≡ get_or a.cells.items (n + 1) x → y ≡ get_or a.cells.items (n + 2) y → names ≡ dict_number x → defaults ≡ value_of y
      → object h.objects n ≡ Some (FunctionObject name module_no code names defaults)
  seen_function {name} {module_no} {code} x y names defaults head ex ey e0 e1 =
      let inside = behind a i n (variants.FunHead name module_no code) head in
      let at_x = read_part a.cells.items n 0 2 (n + 1) x (omega arith) (omega arith) (omega arith) ex in
      let at_y = read_part a.cells.items n 1 2 (n + 2) y (omega arith) (omega arith) (omega arith) ey in
      seen_object a e n head
      ∙ (ap₂ (λ (p q : Cell). Some (FunctionObject name module_no code (dict_number p) (value_of q))) at_x at_y
      ∙ ap₂ (λ (k : ℕ) (v : Value). Some (FunctionObject name module_no code k v)) (sym e0) (sym e1))

  pub seen_method : {method : Builtin} (x : Cell) (v : Value) → heads a.cells.items n ≡ variants.MethodHead method
      → x ≡ get_or a.cells.items (n + 1) x → v ≡ value_of x → object h.objects n ≡ Some (MethodObject v method)
  seen_method {method} x v head ex e0 =
      let inside = behind a i n (variants.MethodHead method) head in
      let at_x = read_part a.cells.items n 0 1 (n + 1) x (omega arith) (omega arith) (omega arith) ex in
      seen_object a e n head ∙ (ap (λ (p : Cell). Some (MethodObject (value_of p) method)) at_x ∙ ap (λ (w : Value). Some (MethodObject w method)) (sym e0))

  pub seen_module : {name : ℕ} (x : Cell) (names : Option ℕ) → heads a.cells.items n ≡ variants.ModuleHead name
      → x ≡ get_or a.cells.items (n + 1) x → names ≡ dict_in x → object h.objects n ≡ Some (ModuleObject name names)
  seen_module {name} x names head ex e0 =
      let inside = behind a i n (variants.ModuleHead name) head in
      let at_x = read_part a.cells.items n 0 1 (n + 1) x (omega arith) (omega arith) (omega arith) ex in
      seen_object a e n head ∙ (ap (λ (p : Cell). Some (ModuleObject name (dict_in p))) at_x ∙ ap (λ (k : Option ℕ). Some (ModuleObject name k)) (sym e0))

-- the object that begins at a cell that was read
pub seen_begins : (a : Inside) {h : Heap Value ℕ} → seen a ≡ h → (n : ℕ) (c : Cell) → get_or a.cells.items n blank ≡ c → MatchOption (object_in c n) (object h.objects n ≡ None) (BeginsAt h.objects n)
seen_begins a e n (variants.ListHead r) q = (refl, ap kind_of (seen_object a e n (ap head_of q)))
seen_begins a e n (variants.DictHead r) q = (refl, ap kind_of (seen_object a e n (ap head_of q)))
seen_begins a e n (variants.TupleHead k) q = (refl, ap kind_of (seen_object a e n (ap head_of q)))
seen_begins a e n (variants.TextHead t) q = (refl, ap kind_of (seen_object a e n (ap head_of q)))
seen_begins a e n (variants.FunHead name m code) q = (refl, ap kind_of (seen_object a e n (ap head_of q)))
seen_begins a e n (variants.ExcHead kind) q = (refl, ap kind_of (seen_object a e n (ap head_of q)))
seen_begins a e n (variants.MethodHead method) q = (refl, ap kind_of (seen_object a e n (ap head_of q)))
seen_begins a e n (variants.RangeHead start stop step) q = (refl, ap kind_of (seen_object a e n (ap head_of q)))
seen_begins a e n (variants.ModuleHead name) q = (refl, ap kind_of (seen_object a e n (ap head_of q)))
seen_begins a e n _ q = seen_object a e n (ap head_of q)
