-- The registered modules of a snapshot are modules of the library that have their names, and names stand in dicts.
use Rattle.std.proofs.Common.{◌≡◌, ◌≢◌, ℕ, zero, suc, ◌<◌, List, [], ◌∷◌, length, map, get_or, Option, Some, None, slice_get, refl, sym, ap, ap₂, ◌∙◌, subst, arith, All}
use Rattle.std.specs.Prelude.{Contains, codes, option_and_then}
use Rattle.std.specs.List.{IsDistinct}
use Rattle.std.specs.Map.{keys_of}
use Rattle.std.specs.Option.{option_map}
use Rattle.std.specs.Str.{bytes_eq}
use Rattle.std.proofs.Math.ListN.{get_or-map}
use Rattle.std.proofs.lemmas.List.Elements.{All-map, All-weaker, All-head, All-tail}
use Rattle.std.proofs.lemmas.Map.Made.{IsDistinct-from_AllPairs}
use Rattle.std.proofs.lemmas.Slice.Eq.{bytes_eq-Decides}
use Rattle.mpy_base.specs.World.{Objects, ADict, AModule, object, IsA}
use Rattle.mpy_base.specs.Val.{Val}
use Rattle.arena_heap.specs.Values.{ArenaObject}
use Rattle.bc_library.specs.Constants.{items_at, text_at}
use Rattle.bc_library.specs.Shelf.{Shelf, Named, names}
use Rattle.bc_library.specs.Texts.{text_numbered}
use Rattle.vm_starting.specs.vm_states.bc_progress.py_effects.Heaps.{refers, Formed, HasNames, Registered}
use Rattle.vm_starting.specs.vm_states.prim_modules.declared.entry.Entry.{Entry}
use Rattle.vm_starting.specs.vm_states.prim_modules.Registry.{plain_entry, plain_modules}
use Rattle.vm_starting.specs.frame_calls.prim_walks.Plain.{plain_name, plain_object, plain_heap}
use Rattle.vm_starting.specs.frame_calls.arena_objects.Iterables.{or_nothing}
use Rattle.vm_kept.specs.state_exits.Own.{AreOwn}
use Rattle.vm_kept.proofs.Plain.{to_plain}
use Rattle.snap_grammar.specs.declared.parts.ObjectPart.{ObjectPart}
use Rattle.snap_grammar.specs.declared.parts.ObjectPart.TheVariants as objects
use Rattle.snap_grammar.specs.declared.parts.Snapshot.{Snapshot}
use Rattle.snap_states.specs.Parts.{part_kind, cell_of}
use Rattle.snap_states.specs.States.{IsAt, IsName, IsNamespace, AreFineObjects, AreRegisteredParts, registered_name, name_in_part as name_in}
use Rattle.snap_states.specs.Decoded.{name_in_part, name_number, object_of, heap_of, entry_of, modules_of}
use Rattle.snap_loading.specs.Given.{IsLibrary}
use Rattle.snap_loading.proofs.Finding.{name_found}
use Rattle.snap_loading.proofs.Lying.{object_at, each_object, is_at}

some_is : {A : Type 0} (x y : A) → Some x ≡ Some y → x ≡ y
some_is x y e = cc

main_text : (shelf : Shelf) → text_numbered shelf.pool 21 ≡ Some (codes "__main__")
unfolding text_numbered
main_text shelf = refl

-- a name of a module is a text of the library
named_in : (ms : List Named) (k : ℕ) (x : List ℕ) → k < length (map (λ (n : Named). n.name) ms) → get_or (map (λ (n : Named). n.name) ms) k x ≡ x → (n : Named) × (slice_get ms k ≡ Some n) × (n.name ≡ x)
named_in [] k x lt e = absurd (omega (arith, lt))
named_in (m ∷ ms) zero x lt e = (m, refl, e)
named_in (m ∷ ms) (suc k) x lt e = named_in ms k x (omega (arith, lt)) e

name_at : (shelf : Shelf) → IsLibrary shelf → (name : List ℕ) (k : ℕ) → k < length (codes "__main__" ∷ names shelf) → get_or (codes "__main__" ∷ names shelf) k name ≡ name → IsName shelf name
name_at shelf is name zero lt e = (21, main_text shelf ∙ ap (λ z. Some z) e)
name_at shelf is name (suc k) lt e =
    let n = named_in shelf.modules k name (omega (arith, lt)) e in
    let t = is.titled k n.0 n.1 in
    (t.0, t.1 ∙ ap (λ z. Some z) n.2)

pub name_known : (shelf : Shelf) → IsLibrary shelf → (name : List ℕ) → Contains (codes "__main__" ∷ names shelf) name → IsName shelf name
name_known shelf is name c = name_at shelf is name c.0 c.1 c.2

-- a module of a snapshot
record IsModule (s : Snapshot) (n : ℕ) : Type 0 where
  name : List ℕ
  number : ℕ
  is : slice_get s.objects n ≡ Some (objects.Module name number)

module_at : (s : Snapshot) (n : ℕ) → IsAt s AModule n → IsModule s n
module_at s n e = by (slice_get s.objects n) refl e
  where
    by : (o : Option ObjectPart) → slice_get s.objects n ≡ o → option_map part_kind o ≡ Some AModule → IsModule s n
    by (Some (objects.Module name number)) f g = record { name = name; number = number; is = f }
    by None f g = absurd cc
    by (Some (objects.List room items)) f g = absurd cc
    by (Some (objects.Dict room pairs)) f g = absurd cc
    by (Some (objects.Tuple items)) f g = absurd cc
    by (Some (objects.Text bytes)) f g = absurd cc
    by (Some (objects.Function m code names defaults)) f g = absurd cc
    by (Some (objects.Exception kind args file line name)) f g = absurd cc
    by (Some (objects.Method o method)) f g = absurd cc
    by (Some (objects.Range start stop step)) f g = absurd cc

module _ (shelf : Shelf) (s : Snapshot) (title : ℕ → ℕ → ℕ) (is : IsLibrary shelf) (fine : AreFineObjects shelf s) where
  abbrev plain_objects : Objects Val (List ℕ)
  plain_objects = (plain_heap (text_at shelf) (items_at shelf) (heap_of shelf s title)).objects

  plain_at : (n : ℕ) → object plain_objects n ≡ plain_object (text_at shelf) (items_at shelf) (object (heap_of shelf s title).objects n)
  plain_at n = get_or-map (plain_object (text_at shelf) (items_at shelf)) (heap_of shelf s title).objects n None

  -- names stand in dicts
  -- ====================

  abbrev RefersWell : Option ArenaObject → Type 0
  RefersWell r = (number : ℕ) → refers (plain_object (text_at shelf) (items_at shelf) r) ≡ Some number → IsA (heap_of shelf s title).objects ADict number

  dict_at : (number : ℕ) → IsNamespace s number → (k : ℕ) → Some (cell_of s.objects number) ≡ Some k → IsA (heap_of shelf s title).objects ADict k
  dict_at number h k e = subst (IsA (heap_of shelf s title).objects ADict) (some_is _ k e) (is_at shelf s title ADict number h.dict)

  refers_well : (i : ℕ) (o : ObjectPart) → slice_get s.objects i ≡ Some o → RefersWell (Some (object_of shelf s title o))
  refers_well i (objects.Function m code names defaults) e k h = dict_at names (fine i _ e).namespace k h
  refers_well i (objects.Module name names) e k h = dict_at names (fine i _ e).namespace k h
  refers_well i (objects.List room items) e k h = absurd cc
  refers_well i (objects.Dict room pairs) e k h = absurd cc
  refers_well i (objects.Tuple items) e k h = absurd cc
  refers_well i (objects.Text bytes) e k h = absurd cc
  refers_well i (objects.Exception kind args file line name) e k h = absurd cc
  refers_well i (objects.Method o method) e k h = absurd cc
  refers_well i (objects.Range start stop step) e k h = absurd cc

  nothing_refers : RefersWell None
  nothing_refers k e = absurd cc

  pub formed : Formed (plain_heap (text_at shelf) (items_at shelf) (heap_of shelf s title))
  formed = record {
    dicts = λ n number e.
        to_plain (text_at shelf) (items_at shelf) (heap_of shelf s title).objects ADict number
        (each_object shelf s title RefersWell nothing_refers refers_well n number (ap refers (sym (plain_at n)) ∙ e));
  }

  -- registered modules
  -- ==================

  has_names : (n : ℕ) → IsAt s AModule n → HasNames (plain_heap (text_at shelf) (items_at shelf) (heap_of shelf s title)) (cell_of s.objects n)
  has_names n h =
      let m = module_at s n h in record {
        names = cell_of s.objects m.number;
        is_module = to_plain (text_at shelf) (items_at shelf) (heap_of shelf s title).objects AModule (cell_of s.objects n) (is_at shelf s title AModule n h);
        has = ap refers (plain_at (cell_of s.objects n) ∙ ap (plain_object (text_at shelf) (items_at shelf)) (object_at shelf s title n (objects.Module m.name m.number) m.is));
      }

  registered_in : (ns : List ℕ) → All (IsAt s AModule) ns → Registered (map (plain_entry (text_at shelf) (items_at shelf)) (map (entry_of shelf s) ns)) (plain_heap (text_at shelf) (items_at shelf) (heap_of shelf s title))
  registered_in [] h = tt
  registered_in (n ∷ ns) h = (has_names n (All-head (IsAt s AModule) n ns h), registered_in ns (All-tail (IsAt s AModule) n ns h))

  abbrev title_of : ℕ → List ℕ
  title_of n = name_in_part (slice_get s.objects n)

  title_is : (n : ℕ) (m : IsModule s n) → title_of n ≡ m.name
  title_is n m = ap name_in_part m.is

  -- what a module is registered as is its name
  key_is : (n : ℕ) → IsAt s AModule n → plain_name (text_at shelf) (items_at shelf) (name_number shelf (title_of n)) ≡ title_of n
  key_is n h =
      let m = module_at s n h in
      let known = (fine n (objects.Module m.name m.number) m.is).known in
      let t = name_known shelf is m.name known in
      let f = name_found shelf m.name t.0 is.first t.1 in
      ap (λ z. or_nothing (text_numbered shelf.pool (name_number shelf z))) (title_is n m) ∙ (ap or_nothing f ∙ sym (title_is n m))

  own_name : (n : ℕ) → IsAt s AModule n → Contains (codes "__main__" ∷ names shelf) (plain_name (text_at shelf) (items_at shelf) (name_number shelf (title_of n)))
  own_name n h =
      let m = module_at s n h in
      subst (Contains (codes "__main__" ∷ names shelf)) (sym (key_is n h ∙ title_is n m)) (fine n (objects.Module m.name m.number) m.is).known

  keys_in : (ns : List ℕ) → All (IsAt s AModule) ns → keys_of (map (plain_entry (text_at shelf) (items_at shelf)) (map (entry_of shelf s) ns)) ≡ map title_of ns
  keys_in [] h = refl
  keys_in (n ∷ ns) h = ap₂ (λ a zs. a ∷ zs) (key_is n (All-head (IsAt s AModule) n ns h)) (keys_in ns (All-tail (IsAt s AModule) n ns h))

  module _ (reg : AreRegisteredParts s) where
    get_title : (ns : List ℕ) (i : ℕ) (d : List ℕ) → i < length (map title_of ns) → (m : ℕ) × (slice_get ns i ≡ Some m) × (get_or (map title_of ns) i d ≡ title_of m)
    get_title [] i d lt = absurd (omega (arith, lt))
    get_title (n ∷ ns) zero d lt = (n, refl, refl)
    get_title (n ∷ ns) (suc i) d lt = get_title ns i d (omega (arith, lt))

    all_get : (ns : List ℕ) (i m : ℕ) → All (IsAt s AModule) ns → slice_get ns i ≡ Some m → IsAt s AModule m
    all_get [] i m h e = absurd cc
    all_get (n ∷ ns) zero m h e = subst (IsAt s AModule) (some_is n m e) (All-head (IsAt s AModule) n ns h)
    all_get (n ∷ ns) (suc i) m h e = all_get ns i m (All-tail (IsAt s AModule) n ns h) e

    same_name : (m n : ℕ) → IsAt s AModule m → IsAt s AModule n → title_of m ≡ title_of n → registered_name s m ≡ registered_name s n
    same_name m n a b e =
        let x = module_at s m a in
        let y = module_at s n b in
        let names_same : x.name ≡ y.name = sym (title_is m x) ∙ (e ∙ title_is n y) in
        ap (option_and_then name_in) x.is ∙ (ap (λ z. Some z) names_same ∙ sym (ap (option_and_then name_in) y.is))

    titles_differ : (i j : ℕ) (d : List ℕ) → i < j → j < length (map title_of s.modules) → get_or (map title_of s.modules) i d ≢ get_or (map title_of s.modules) j d
    titles_differ i j d lt within e =
        let a = get_title s.modules i d (omega (arith, lt, within)) in
        let b = get_title s.modules j d within in
        reg.once i j a.0 b.0 lt a.1 b.1 (same_name a.0 b.0 (all_get s.modules i a.0 reg.modules a.1) (all_get s.modules j b.0 reg.modules b.1) (sym a.2 ∙ (e ∙ b.2)))

    pub registered : Registered (plain_modules (text_at shelf) (items_at shelf) (modules_of shelf s)) (plain_heap (text_at shelf) (items_at shelf) (heap_of shelf s title))
    registered = registered_in s.modules reg.modules

    pub own : AreOwn (codes "__main__" ∷ names shelf) (plain_modules (text_at shelf) (items_at shelf) (modules_of shelf s))
    own = record {
      named =
          All-map (λ m. Contains (codes "__main__" ∷ names shelf) (m.0)) (plain_entry (text_at shelf) (items_at shelf)) (map (entry_of shelf s) s.modules)
          (All-map (λ (e : Entry). Contains (codes "__main__" ∷ names shelf) (plain_name (text_at shelf) (items_at shelf) e.name)) (entry_of shelf s) s.modules
          (All-weaker (IsAt s AModule) (λ n. Contains (codes "__main__" ∷ names shelf) (plain_name (text_at shelf) (items_at shelf) (name_number shelf (title_of n)))) own_name s.modules reg.modules));
      once = subst (IsDistinct bytes_eq) (sym (keys_in s.modules reg.modules)) (IsDistinct-from_AllPairs bytes_eq-Decides (map title_of s.modules) titles_differ);
    }
