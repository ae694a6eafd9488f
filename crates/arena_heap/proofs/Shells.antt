-- What the shells of objects leave in the cells.
use Rattle.std.proofs.Common.{ℕ, suc, ◌+◌, ◌-◌, ◌^◌, ◌≤◌, ◌<◌, ◌≡◌, List, [], ◌∷◌, ◌++◌, length, Option, Some, None, get_or, take, map, replicate, refl, sym, ◌∙◌, ap, subst, subst₂, arith, length-append}
use Rattle.std.proofs.Math.Path.{fun_ext, ap₂}
use Rattle.std.proofs.lemmas.List.{length-replicate, length-map, get_or-map, take-map, take_more, map-append, append-nil}
use Rattle.std.proofs.lemmas.List.Concat.{length-flat_map}
use Rattle.std.proofs.lemmas.List.Sums.{sum_by_more, sum_by_more_le}
use Rattle.std.proofs.lemmas.Grind.{flat_map-append}
use Rattle.std.specs.List.{sum_by}
use Rattle.qstr_pool.specs.mpy_base.declared.kind.Kind.{Kind}
use Rattle.qstr_pool.specs.mpy_base.declared.room.Room.{Room}
use Rattle.qstr_pool.specs.mpy_base.World.{ExceptionObject, ModuleObject}
use Rattle.qstr_pool.specs.mpy_base.Weights.{more_cells, cells_of, bytes_of}
use Rattle.arena_heap.specs.declared.value.Value.{Value}
use Rattle.arena_heap.specs.declared.value.DictNo.{DictNo}
use Rattle.arena_heap.specs.declared.cells.Cell.{Cell}
use Rattle.arena_heap.specs.declared.cells.Cell.TheVariants as variants
use Rattle.arena_heap.specs.declared.building.Shell.{Shell}
use Rattle.arena_heap.specs.declared.building.Shell.TheVariants as shells
use Rattle.arena_heap.specs.Values.{ArenaObject, Sound}
use Rattle.arena_heap.specs.Cells.{blank, cell_of, decode, part, heap_of, Holds, IsArena}
use Rattle.arena_heap.specs.Building.{shell_object, HasRoom, laid, all_laid, heap_with, shell_head, shell_parts, shell_text, part_count, blank_count}
use Rattle.arena_heap.proofs.CellValues.{head_of-cell_of, value_of-cell_of}
use Rattle.arena_heap.proofs.Frame.{length_held, holds_used, holds_more_bytes}
use Rattle.arena_heap.proofs.NewObjects.{blanks, plain_cons, holds_made_cells, part_behind, list_made, dict_made, tuple_made, text_made, function_made, method_made, range_made}

-- an object's bytes
pub byte_counted : (s : Shell) → bytes_of (shell_object s) ≡ length (shell_text s)
byte_counted (shells.Text bytes) = refl
byte_counted (shells.List room) = refl
byte_counted _ = refl

module _ {cells : List Cell} {bytes : List ℕ} {obs : List (Option ArenaObject)} {keys : Option ℕ} (h : Holds keys cells bytes obs) where
  -- an exception that was raised
  raised_made : (kind : Kind) (args : Value) (file line name : ℕ)
      → Holds keys (cells ++ variants.ExcHead kind ∷ cell_of args ∷ variants.Place file line name ∷ replicate 3 blank) bytes (obs ++ laid (ExceptionObject kind args file line name))
  raised_made kind args file line name =
      let ps : List Cell = cell_of args ∷ variants.Place file line name ∷ replicate 3 blank in
      holds_made_cells h (variants.ExcHead kind) ps (ExceptionObject kind args file line name)
      (plain_cons (cell_of args) (variants.Place file line name ∷ replicate 3 blank) (head_of-cell_of args) (plain_cons (variants.Place file line name) (replicate 3 blank) refl (blanks 3))) refl refl tt refl (omega arith) (λ x i. omega (arith, i.low))
      (ap (λ (qs : List Cell). decode (variants.ExcHead kind) qs (part bytes 0 0)) (part_behind cells ps 2) ∙ ap (λ v. Some (ExceptionObject kind v file line name)) (value_of-cell_of args))
      (λ texts below r q. absurd cc)

  -- a module with its namespace
  named_made : (name : ℕ) (names : DictNo)
      → Holds keys (cells ++ variants.ModuleHead name ∷ variants.Dict names ∷ replicate 2 blank) bytes (obs ++ laid (ModuleObject name (Some names.cell)))
  named_made name names =
      let ps : List Cell = variants.Dict names ∷ replicate 2 blank in
      holds_made_cells h (variants.ModuleHead name) ps (ModuleObject name (Some names.cell))
      (plain_cons (variants.Dict names) (replicate 2 blank) refl (blanks 2)) refl refl tt refl (omega arith) (λ x i. omega (arith, i.low))
      (ap (λ (qs : List Cell). decode (variants.ModuleHead name) qs (part bytes 0 0)) (part_behind cells ps 1))
      (λ texts below r q. absurd cc)

-- the cells and the bytes of a shell
abbrev pub shell_cells : (cell byte : ℕ) → Shell → List Cell
shell_cells cell byte s = shell_head cell byte s ∷ (take (part_count s) (shell_parts s) ++ replicate (blank_count s) blank)

without_bytes : {cells : List Cell} {bytes : List ℕ} {obs : List (Option ArenaObject)} {keys : Option ℕ} → Holds keys cells bytes obs → Holds keys cells (bytes ++ []) obs
without_bytes {cells} {bytes} {obs} {keys} h = subst (λ (bs : List ℕ). Holds keys cells bs obs) (sym (append-nil bytes)) h

pub shell_made : {cells : List Cell} {bytes : List ℕ} {obs : List (Option ArenaObject)} {keys : Option ℕ} → Holds keys cells bytes obs → (s : Shell) → HasRoom s
    → Holds keys (cells ++ shell_cells (length cells) (length bytes) s) (bytes ++ shell_text s) (obs ++ laid (shell_object s))
shell_made h (shells.List room) is = without_bytes (list_made h room is)
shell_made h (shells.Dict room) is = without_bytes (dict_made h room is)
shell_made h (shells.Tuple count) is = without_bytes (tuple_made h count)
shell_made h (shells.Text bytes) is = text_made h bytes.now
shell_made h (shells.Fun name module_no code names defaults) is = without_bytes (function_made h name module_no code names defaults)
shell_made h (shells.Exc kind args file line name) is = without_bytes (raised_made h kind args file line name)
shell_made h (shells.Method object method) is = without_bytes (method_made h object method)
shell_made h (shells.Range start stop step) is = without_bytes (range_made h start stop step)
shell_made h (shells.Module name names) is = without_bytes (named_made h name names)

-- what is put for a shell
pub put_cells : (s : Shell) {head : Cell} {ps : List Cell} {count blanks cell byte n m : ℕ} → head ≡ shell_head cell byte s → ps ≡ shell_parts s → count ≡ part_count s → blanks ≡ blank_count s → cell ≡ n → byte ≡ m
    → head ∷ (take count ps ++ replicate blanks blank) ≡ shell_cells n m s
put_cells s {head} {ps} {count} {blanks} {cell} {byte} {n} {m} eh ep ec eb en em =
    let first : head ≡ shell_head n m s = eh ∙ ap₂ (λ (i j : ℕ). shell_head i j s) en em in
    let parts : take count ps ≡ take (part_count s) (shell_parts s) = ap₂ (λ (k : ℕ) (xs : List Cell). take k xs) ec ep in
    ap₂ (λ (x : Cell) (xs : List Cell). x ∷ xs) first (ap₂ (λ (xs : List Cell) (k : ℕ). xs ++ replicate k blank) parts eb)

-- the cells of objects
pub length-laid : (o : ArenaObject) → length (laid o) ≡ cells_of o
length-laid o = ap suc (length-replicate (more_cells o) none_of)
  where
    none_of : Option ArenaObject
    none_of = None

pub length-all_laid : (os : List ArenaObject) → length (all_laid os) ≡ sum_by cells_of os
length-all_laid os = length-flat_map laid os ∙ ap (λ (f : ArenaObject → ℕ). sum_by f os) (fun_ext length-laid)

-- how many cells hold them
pub taken_cells : {cells : List Cell} {bytes : List ℕ} {keys : Option ℕ} (os : List ArenaObject) → Holds keys cells bytes (all_laid os) → length cells ≡ sum_by cells_of os
taken_cells os h = sym (length_held h) ∙ length-all_laid os

module _ (ss : List Shell) (i : ℕ) (d : Shell) (lt : i < length ss) where
  -- an object more
  laid_more : all_laid (map shell_object (take (i + 1) ss)) ≡ all_laid (map shell_object (take i ss)) ++ laid (shell_object (get_or ss i d))
  laid_more =
      ap (λ (xs : List Shell). all_laid (map shell_object xs)) (take_more ss i d lt)
      ∙ (ap all_laid (map-append shell_object (take i ss) (get_or ss i d ∷ []))
      ∙ (flat_map-append laid (map shell_object (take i ss)) (shell_object (get_or ss i d) ∷ [])
      ∙ ap (λ (xs : List (Option ArenaObject)). all_laid (map shell_object (take i ss)) ++ xs) (append-nil (laid (shell_object (get_or ss i d))))))

  within : i < length (map shell_object ss)
  within = omega (arith, lt, length-map ss shell_object)

  -- what is summed up of an object more
  sum_more : (f : ArenaObject → ℕ) → sum_by f (map shell_object (take (i + 1) ss)) ≡ sum_by f (map shell_object (take i ss)) + f (shell_object (get_or ss i d))
  sum_more f =
      ap (sum_by f) (sym (take-map shell_object (i + 1) ss))
      ∙ (sum_by_more f (map shell_object ss) i (shell_object d) within
      ∙ ap₂ (λ (x y : ℕ). x + y) (ap (sum_by f) (take-map shell_object i ss)) (ap f (get_or-map shell_object ss i d (shell_object d) lt)))

  -- it is part of the whole
  sum_within : (f : ArenaObject → ℕ) → sum_by f (map shell_object (take i ss)) + f (shell_object (get_or ss i d)) ≤ sum_by f (map shell_object ss)
  sum_within f =
      let e : sum_by f (take i (map shell_object ss)) + f (get_or (map shell_object ss) i (shell_object d)) ≡ sum_by f (map shell_object (take i ss)) + f (shell_object (get_or ss i d)) =
      ap₂ (λ (x y : ℕ). x + y) (ap (sum_by f) (take-map shell_object i ss)) (ap f (get_or-map shell_object ss i d (shell_object d) lt)) in
      omega (arith, e, sum_by_more_le f (map shell_object ss) i (shell_object d) within)

  pub holds_more : {cells : List Cell} {bytes : List ℕ} {keys : Option ℕ} → Holds keys cells bytes (all_laid (map shell_object (take i ss)) ++ laid (shell_object (get_or ss i d)))
      → Holds keys cells bytes (all_laid (map shell_object (take (i + 1) ss)))
  holds_more {cells} {bytes} {keys} h = subst (λ (x : List (Option ArenaObject)). Holds keys cells bytes x) (sym laid_more) h

  pub bytes_more : (old new : ℕ) → new ≡ old + bytes_of (shell_object (get_or ss i d)) → old ≡ sum_by bytes_of (map shell_object (take i ss)) → new ≡ sum_by bytes_of (map shell_object (take (i + 1) ss))
  bytes_more old new e is = e ∙ (ap (λ (x : ℕ). x + bytes_of (shell_object (get_or ss i d))) is ∙ sym (sum_more bytes_of))

  pub fits_more : (f : ArenaObject → ℕ) (old limit : ℕ) → old ≡ sum_by f (map shell_object (take i ss)) → sum_by f (map shell_object ss) ≤ limit → old + f (shell_object (get_or ss i d)) ≤ limit
  fits_more f old limit is le = omega (arith, is, le, sum_within f)

  pub few_more : (f : ArenaObject → ℕ) (old limit : ℕ) → old ≡ sum_by f (map shell_object (take i ss)) → sum_by f (map shell_object ss) < limit → old + f (shell_object (get_or ss i d)) < limit
  few_more f old limit is lt = omega (arith, is, lt, sum_within f)

-- cells and bytes that belong to no object
pub rest_held : {cells : List Cell} {bytes : List ℕ} {obs : List (Option ArenaObject)} {keys : Option ℕ} → Holds keys cells bytes obs → (k m : ℕ)
    → Holds keys (cells ++ replicate k blank) (bytes ++ replicate m 0) (obs ++ replicate k None)
rest_held {cells} {bytes} {obs} {keys} h k m =
    subst (λ (j : ℕ). Holds keys (cells ++ replicate k blank) (bytes ++ replicate m 0) (obs ++ replicate j None)) (length-replicate k blank)
    (holds_more_bytes (holds_used h (replicate k blank) (blanks k)) (replicate m 0))

-- the whole
module _ (os : List ArenaObject) (used size : Room) {cells all : List Cell} {bytes whole : List ℕ} (k m : ℕ) (h : Holds (Some 0) cells bytes (all_laid os))
    (ec : all ≡ cells ++ replicate k blank) (eb : whole ≡ bytes ++ replicate m 0) (more : length cells + k ≡ used.cells) (more_bytes : length bytes + m ≡ used.bytes)
  where
    held_all : Holds (Some 0) all whole (heap_with os used size).objects
    held_all =
        let rest : k ≡ used.cells - length (all_laid os) = omega (arith, more, length_held h) in
        subst (λ (j : ℕ). Holds (Some 0) all whole (all_laid os ++ replicate j None)) rest
        (subst₂ (λ (cs : List Cell) (bs : List ℕ). Holds (Some 0) cs bs (all_laid os ++ replicate k None)) (sym ec) (sym eb) (rest_held h k m))

    length_all : length all ≡ used.cells
    length_all = ap length ec ∙ (length-append cells (replicate k blank) ∙ omega (arith, more, length-replicate k blank))

    length_whole : length whole ≡ used.bytes
    length_whole = ap length eb ∙ (length-append bytes (replicate m 0) ∙ omega (arith, more_bytes, length-replicate {A = ℕ} m 0))

    pub built_seen : heap_of all whole size.cells size.bytes ≡ heap_with os used size
    built_seen = ap₂ (λ (objects : List (Option ArenaObject)) (j : ℕ). record { objects = objects; bytes = j; cell_size = size.cells; byte_size = size.bytes }) held_all.objects length_whole

    pub built_arena : Sound (heap_with os used size).objects → used.cells ≤ size.cells → used.bytes ≤ size.bytes → (cell_capacity byte_capacity : ℕ) → size.cells < 2 ^ 32 → size.bytes < 2 ^ 32
        → size.cells ≤ cell_capacity → size.bytes ≤ byte_capacity → IsArena (Some 0) all whole size.cells size.bytes cell_capacity byte_capacity
    built_arena sound fit byte_fit cell_capacity byte_capacity few few_bytes taken byte_taken = record {
      kept = held_all.kept;
      linked = held_all.linked;
      sound = subst Sound (sym held_all.objects) sound;
      cells_fit = omega (arith, length_all, fit);
      bytes_fit = omega (arith, length_whole, byte_fit);
      cells_few = few;
      bytes_few = few_bytes;
      cells_taken = taken;
      bytes_taken = byte_taken;
    }
