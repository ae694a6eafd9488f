-- Modules have one image at most, or one fault.
use Rattle.std.proofs.Common.{◌≡◌, ◌⊎◌, ℕ, ◌+◌, ◌<◌, ◌≤◌, List, [], ◌∷◌, ◌++◌, length, length-append, drop, map, Result, Ok, Err, refl, sym, ap, subst, ◌∙◌, inl, inr, arith}
use Rattle.std.specs.List.{flat_map}
use Rattle.std.proofs.lemmas.List.{length-map}
use Rattle.mpy_base.specs.Vuint.{vuint}
use Rattle.mpy_base.specs.declared.refused.Refused.{Refused}
use Rattle.mpy_base.specs.declared.refused.Refused.TheVariants as refusals
use Rattle.mpy_base.specs.declared.limits.TheConstants.{MAX_DEPTH, MAX_IMAGE_BYTES, MAX_MODULES, MAX_TABLE}
use Rattle.qstr_pool.specs.Pool.{Texts}
use Rattle.mpy_writer.specs.mpy_tree.Canonical.{code_bytes, object_bytes}
use Rattle.image_open.proofs.bc_library_lemmas.Pools.{longer}
use Rattle.image_open.specs.image_grammar.declared.entry.Entry.{Entry}
use Rattle.image_open.specs.image_grammar.declared.fault.ImageFault.{ImageFault}
use Rattle.image_open.specs.image_grammar.declared.fault.ImageFault.TheVariants.{BadHeader, Truncated, BadNumber, BadModule, Twice, Trailing, TooBig, BadBase}
use Rattle.image_open.specs.image_grammar.Image.{Differ, texts_used}
use Rattle.image_open.specs.image_grammar.Opening.{Base, entry_of, names_of, pool_below}
use Rattle.image_freeze.specs.declared.named.Named.{Named}
use Rattle.image_freeze.specs.Ends.{Ends, IsFrozen}
use Rattle.image_freeze.specs.Frozen.{FreezeFault, IsTooBig, IsTwice, entries_of, entry_bytes, frozen, image_bytes, number_bytes, own_bytes, parts_of, pool_of, text_number}
use Rattle.image_freeze.specs.Uses.{FaultIs, PassesTable}
use Rattle.image_freeze.proofs.Exits.{failed}
use Rattle.image_freeze.proofs.Twice.{not_twice, one_twice, source_names}

-- one fault
-- =========

module _ (front : List ℕ) (below : Base) (entries : List Entry) where
  pub one_fault : (f g : ImageFault) → FreezeFault front below entries f → FreezeFault front below entries g → f ≡ g
  one_fault (Twice a) (Twice b) h k = ap Twice (one_twice below.names (names_of entries) a b h k)
  one_fault (Twice a) TooBig h k = absurd (not_twice below.names (names_of entries) a k.differ h)
  one_fault (Twice a) BadHeader h k = absurd k
  one_fault (Twice a) Truncated h k = absurd k
  one_fault (Twice a) BadNumber h k = absurd k
  one_fault (Twice a) (BadModule index) h k = absurd k
  one_fault (Twice a) Trailing h k = absurd k
  one_fault (Twice a) BadBase h k = absurd k
  one_fault TooBig (Twice b) h k = absurd (not_twice below.names (names_of entries) b h.differ k)
  one_fault TooBig TooBig h k = refl
  one_fault TooBig BadHeader h k = absurd k
  one_fault TooBig Truncated h k = absurd k
  one_fault TooBig BadNumber h k = absurd k
  one_fault TooBig (BadModule index) h k = absurd k
  one_fault TooBig Trailing h k = absurd k
  one_fault TooBig BadBase h k = absurd k
  one_fault BadHeader g h k = absurd h
  one_fault Truncated g h k = absurd h
  one_fault BadNumber g h k = absurd h
  one_fault (BadModule index) g h k = absurd h
  one_fault Trailing g h k = absurd h
  one_fault BadBase g h k = absurd h

  not_big : (bytes : List ℕ) → IsFrozen front below entries bytes → IsTooBig front below entries → ⊥
  not_big bytes is big =
      let few_modules = is.few_modules in
      let few_texts = is.few_texts in
      let short = is.short in
      elim big.big [
        | inl past ↦ omega (arith, past, few_modules)
        | inr (inl past) ↦ omega (arith, past, few_texts)
        | inr (inr past) ↦ omega (arith, past, short, ap length is.bytes_are)
      ]

  pub never : (bytes : List ℕ) (f : ImageFault) → IsFrozen front below entries bytes → FreezeFault front below entries f → ⊥
  never bytes (Twice a) is h = not_twice below.names (names_of entries) a is.differ h
  never bytes TooBig is h = not_big bytes is h
  never bytes BadHeader is h = h
  never bytes Truncated is h = h
  never bytes BadNumber is h = h
  never bytes (BadModule index) is h = h
  never bytes Trailing is h = h
  never bytes BadBase is h = h

  -- so a call that ends as it should answers each fault
  pub answered : {A : Type 0} (bytes_of : A → List ℕ) (r : Result A (Refused ImageFault)) → Ends front below entries bytes_of r → (f : ImageFault) → FreezeFault front below entries f → (r ≡ Err (refusals.Fault f)) ⊎ (r ≡ Err refusals.NoMemory)
  answered bytes_of (Ok x) ends f h = absurd (never (bytes_of x) f ends h)
  answered bytes_of (Err refusals.NoMemory) ends f h = inr refl
  answered {A} bytes_of (Err (refusals.Fault g)) ends f h =
      let made = λ (z : ImageFault). let r : Result A (Refused ImageFault) = Err (refusals.Fault z) in r in
      inl (ap made (one_fault g f ends h))

  pub told : {A : Type 0} (bytes_of : A → List ℕ) (r : Result A (Refused ImageFault)) → Ends front below entries bytes_of r → (f : ImageFault) → r ≡ Err (refusals.Fault f) → FreezeFault front below entries f
  told {A} bytes_of r ends f is = let P : Result A (Refused ImageFault) → Type 0 = λ z. Ends front below entries bytes_of z in subst P is ends

  pub exit_ends : {A : Type 0} (bytes_of : A → List ℕ) (P : ImageFault → Type 0) (r : Result A (Refused ImageFault)) (y e : Refused ImageFault) → r ≡ Err y → y ≡ e → FaultIs e P → ((f : ImageFault) → P f → FreezeFault front below entries f) → Ends front below entries bytes_of r
  exit_ends {A} bytes_of P r y e is same h more =
      let made : Result A (Refused ImageFault) = Err e in
      let whole : r ≡ made = is ∙ ap (λ z. Err z) same in
      let F : Result A (Refused ImageFault) → Type 0 = λ z. Ends front below entries bytes_of z in
      subst F (sym whole) (failed P (FreezeFault front below entries) e h more)

-- names
-- =====

names_are : (modules : List Named) → source_names modules ≡ names_of (entries_of modules)
names_are [] = refl
names_are (m ∷ ms) = ap (λ (z : List (List ℕ)). m.name ∷ z) (names_are ms)

pub entries_differ : (before : List (List ℕ)) (modules : List Named) → Differ before (source_names modules) → Differ before (names_of (entries_of modules))
entries_differ before modules d = subst (Differ before) (names_are modules) d

-- the fault of a name that stands twice
pub twice_ends : (front : List ℕ) (below : Base) (modules : List Named) (name : List ℕ) (e : Refused ImageFault) → IsTwice below.names (source_names modules) name → (e ≡ refusals.Fault (Twice name)) ⊎ (e ≡ refusals.NoMemory) → FaultIs e (FreezeFault front below (entries_of modules))
twice_ends front below modules name e again (inl is) =
    subst (λ (z : Refused ImageFault). FaultIs z (FreezeFault front below (entries_of modules))) (sym is) (subst (λ (z : List (List ℕ)). IsTwice below.names z name) (names_are modules) again)
twice_ends front below modules name e again (inr is) =
    subst (λ (z : Refused ImageFault). FaultIs z (FreezeFault front below (entries_of modules))) (sym is) tt

-- sizes
-- =====

count_entries : (modules : List Named) → length (entries_of modules) ≡ length modules
count_entries modules = length-map modules (λ (m : Named). entry_of m.name (frozen m.held))

-- the bytes of modules with this pool
abbrev written : List ℕ → Base → Texts → List Entry → List ℕ
written front below pool entries = front ++ parts_of pool (drop (length below.texts) pool.texts) entries

parts_long : (front : List ℕ) (pool : Texts) (own : List (List ℕ)) (entries : List Entry) → length (flat_map own_bytes own) + length (flat_map (entry_bytes pool) entries) ≤ length (front ++ parts_of pool own entries)
parts_long front pool own entries =
    let count = vuint (length own) in
    let texts = flat_map own_bytes own in
    let modules = vuint (length entries) in
    let named = flat_map (entry_bytes pool) entries in
    omega (arith, length-append front (count ++ (texts ++ (modules ++ named))), length-append count (texts ++ (modules ++ named)), length-append texts (modules ++ named), length-append modules named)

abbrev pub objects_of : Named → List ℕ
objects_of m = flat_map (object_bytes MAX_DEPTH) m.held.objects

module_long : (pool : Texts) (m : Named) → length (objects_of m) ≤ length (entry_bytes pool (entry_of m.name (frozen m.held)))
module_long pool m =
    let name = vuint (text_number pool m.name) in
    let count = vuint (length (frozen m.held).qstrs) in
    let numbers = flat_map (number_bytes pool) (frozen m.held).qstrs in
    let objects = vuint (length m.held.objects) in
    let code = code_bytes MAX_DEPTH m.held.code in
    let mine = objects_of m in
    omega (arith, length-append name (count ++ (numbers ++ (objects ++ (mine ++ code)))), length-append count (numbers ++ (objects ++ (mine ++ code))), length-append numbers (objects ++ (mine ++ code)), length-append objects (mine ++ code), length-append mine code)

modules_long : (pool : Texts) (modules : List Named) → length (flat_map objects_of modules) ≤ length (flat_map (entry_bytes pool) (entries_of modules))
modules_long pool [] = omega arith
modules_long pool (m ∷ ms) =
    let here = module_long pool m in
    let others = modules_long pool ms in
    omega (arith, here, others, length-append (objects_of m) (flat_map objects_of ms), length-append (entry_bytes pool (entry_of m.name (frozen m.held))) (flat_map (entry_bytes pool) (entries_of ms)))

module _ (front : List ℕ) (below : Base) (modules : List Named) (d : Differ below.names (source_names modules)) where
  pub many_modules : MAX_MODULES < length below.names + length modules → IsTooBig front below (entries_of modules)
  many_modules past = record { differ = entries_differ below.names modules d; big = inl (omega (arith, past, count_entries modules)) }

  pub many_texts : (f : ImageFault) → PassesTable (pool_below below) (texts_used (entries_of modules)) f → FreezeFault front below (entries_of modules) f
  many_texts f h =
      subst (FreezeFault front below (entries_of modules)) (sym h.0) (record { differ = entries_differ below.names modules d; big = inr (inl h.1) })

  -- the texts below pass the table alone
  pub many_below : (f : ImageFault) → (f ≡ TooBig) × (MAX_TABLE < length below.texts) → FreezeFault front below (entries_of modules) f
  many_below f h =
      let more = longer (pool_below below) (texts_used (entries_of modules)) in
      let past = h.1 in
      many_texts f (h.0, omega (arith, past, more))

  -- the image of a pool
  bytes_are : (pool : Texts) → pool ≡ pool_of below (entries_of modules) → written front below pool (entries_of modules) ≡ image_bytes front below (entries_of modules)
  bytes_are pool e = ap (λ (z : Texts). written front below z (entries_of modules)) e

  pub long_bytes : (pool : Texts) (bytes : List ℕ) → pool ≡ pool_of below (entries_of modules) → bytes ≡ written front below pool (entries_of modules) → MAX_IMAGE_BYTES < length bytes → IsTooBig front below (entries_of modules)
  long_bytes pool bytes e is past =
      record { differ = entries_differ below.names modules d; big = inr (inr (omega (arith, past, ap length (is ∙ bytes_are pool e)))) }

  pub long_texts : (pool : Texts) → pool ≡ pool_of below (entries_of modules) → MAX_IMAGE_BYTES < length (flat_map own_bytes (drop (length below.texts) pool.texts)) → IsTooBig front below (entries_of modules)
  long_texts pool e past =
      let all = parts_long front pool (drop (length below.texts) pool.texts) (entries_of modules) in
      long_bytes pool (written front below pool (entries_of modules)) e refl (omega (arith, past, all))

  pub long_objects : (pool : Texts) → pool ≡ pool_of below (entries_of modules) → MAX_IMAGE_BYTES < length (flat_map objects_of modules) → IsTooBig front below (entries_of modules)
  long_objects pool e past =
      let all = parts_long front pool (drop (length below.texts) pool.texts) (entries_of modules) in
      let inside = modules_long pool modules in
      long_bytes pool (written front below pool (entries_of modules)) e refl (omega (arith, past, all, inside))

  pub is_frozen : (pool : Texts) (bytes : List ℕ) → length below.names + length modules ≤ MAX_MODULES → pool ≡ pool_of below (entries_of modules) → length pool.texts ≤ MAX_TABLE → bytes ≡ written front below pool (entries_of modules) → length bytes ≤ MAX_IMAGE_BYTES
      → IsFrozen front below (entries_of modules) bytes
  is_frozen pool bytes few e few_texts is short = record {
    bytes_are = is ∙ bytes_are pool e;
    differ = entries_differ below.names modules d;
    few_modules = omega (arith, few, count_entries modules);
    few_texts = omega (arith, few_texts, ap (λ (z : Texts). length z.texts) e);
    short = short;
  }
