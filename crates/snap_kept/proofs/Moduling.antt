-- Functions and modules that are made, registered, forgotten and stored.
use Rattle.std.proofs.Common.{◌≡◌, ◌⊎◌, ℕ, List, [], ◌∷◌, set, Bool, true, false, cond, Option, Some, None, Result, Ok, Err, inl, inr, refl, sym, ap, ◌∙◌, subst, ◌+◌, ◌≤◌, arith, length-set}
use Rattle.std.specs.Prelude.{bytes_eq, codes}
use Rattle.std.specs.List.{AllByRecursion as Each}
use Rattle.bc_progress.specs.mpy_base.World.{Object, ModuleObject, DictObject, FunctionObject, ADict, AModule, object, kind_of, IsA, names_of, named, with_object, with_names}
use Rattle.bc_progress.specs.mpy_base.Weights.{used, does_fit, cells_of, bytes_of, with_made}
use Rattle.bc_progress.specs.mpy_base.Val.{Val, Nil, Str, At, PlainWorld}
use Rattle.bc_progress.specs.py_values.Shown.{PlainHeap}
use Rattle.bc_progress.specs.py_primitives.Outcome.{Stop, Raises, Full, Outcome, gives, is_full, followed_by, making}
use Rattle.bc_progress.specs.py_primitives.Uses.{put_pair}
use Rattle.bc_progress.specs.py_effects.Effect.{Effect, does, number_of}
use Rattle.bc_progress.specs.py_effects.Modules.{make_function, Made, registered, making_module, make_module, registered_as, forget_module, module_or_port, module_named, last_part, stored_in, stored_under, outer_name, store_module}
use Rattle.bc_progress.specs.bc_machine.Library.{Name, Library}
use Rattle.bc_progress.proofs.Knowing.{made_there}
use Rattle.snap_kept.specs.Texts.{IsName, IsText}
use Rattle.snap_kept.specs.Values.{title_of, NamesOf, IsNamespace, IsPlain, IsFunction, IsModuleName, IsModule, cells_in, IsFine, AreFine}
use Rattle.snap_kept.specs.Effects.{IsSound}
use Rattle.snap_kept.proofs.Onward.{Obj, core, Onward, title_kind, title_on, namespace_on, fine_on, onward_same, function_on}
use Rattle.snap_kept.proofs.Changes.{Comes, comes_same, set_cells, made_cells, set_cases, set_there, set_others, made_cases, made_old, none_used, made_onward, names_dict, plain_at}
use Rattle.snap_kept.proofs.Lists.{each_append, each_filter}
use Rattle.snap_kept.proofs.Making.{IsIn, onto, followed, making_in}
use Rattle.snap_kept.proofs.Using.{name_in}
use Rattle.snap_kept.proofs.Acting.{WorldComes, heap_in, AnswerW, EffectIn, E, nothing, store_in}

some_same : {A : Type 0} (x y : A) → Some x ≡ Some y → x ≡ y
some_same x y e = cc

module _ (library : Library) where
  -- a module that was made
  abbrev pub MadeIn : PlainHeap → Made → Type 0
  MadeIn h made = IsA h.objects AModule made.number × IsNamespace h made.names

  -- one that was made with this name, before it is registered
  abbrev pub MadeAs : Name → PlainHeap → Made → Type 0
  MadeAs name h made = (title_of (object h.objects made.number) ≡ Some name) × IsNamespace h made.names

  module _ (h : PlainHeap) (f : AreFine library h) (name : Name) (is_name : IsModuleName library name) (text : IsText library name) where
    abbrev o1 : Object Val (List ℕ)
    o1 = ModuleObject name None

    abbrev h1 : PlainHeap
    h1 = with_made h o1

    abbrev n : ℕ
    n = used h

    abbrev o2 : Object Val (List ℕ)
    o2 = DictObject [] 4

    abbrev h2 : PlainHeap
    h2 = with_made h1 o2

    abbrev d : ℕ
    d = used h1

    abbrev o3 : Object Val (List ℕ)
    o3 = ModuleObject name (Some d)

    abbrev h3 : PlainHeap
    h3 = with_object h2 n o3

    module_there : object h2.objects n ≡ Some o1
    module_there = made_old library h1 o2 n o1 (made_there h o1)

    apart : d ≡ n → ⊥
    apart e = let never : None ≡ Some o1 = sym (none_used library h1) ∙ ap (object h1.objects) e ∙ made_there h o1 in cc

    module_last : object h3.objects n ≡ Some o3
    module_last = set_there h2.objects n (Some o3) o1 module_there

    dict_last : object h3.objects d ≡ Some o2
    dict_last = set_others h2.objects n d (Some o3) apart ∙ made_there h1 o2

    -- an object that was there is neither
    old_apart : (m : ℕ) (x : Object Val (List ℕ)) → object h.objects m ≡ Some x → m ≡ n → ⊥
    old_apart m x e q = let never : None ≡ Some x = sym (none_used library h) ∙ ap (object h.objects) (sym q) ∙ e in cc

    old_last : (m : ℕ) (x : Object Val (List ℕ)) → object h.objects m ≡ Some x → object h3.objects m ≡ Some x
    old_last m x e = set_others h2.objects n m (Some o3) (old_apart m x e) ∙ made_old library h1 o2 m x (made_old library h o1 m x e)

    -- the dict wasn't there
    dict_new : object h.objects d ≡ None
    dict_new = by (object h.objects d) refl
      where
        by : (o : Obj) → object h.objects d ≡ o → object h.objects d ≡ None
        by None q = q
        by (Some x) q = absurd (let never : None ≡ Some x = sym (none_used library h1) ∙ made_old library h o1 d x q in cc)

    -- what is there: the module, its dict, and what was there
    last_cases : (m : ℕ) (x : Object Val (List ℕ)) → object h3.objects m ≡ Some x → ((m ≡ n) × (o3 ≡ x)) ⊎ (((m ≡ d) × (o2 ≡ x)) ⊎ (object h.objects m ≡ Some x))
    last_cases m x e = elim (set_cases h2.objects n (Some o3) m x e) [
      | inl at ↦ inl (at.0, some_same o3 x (at.1))
      | inr old ↦ inr (elim (made_cases library h1 o2 m x (old.1)) [
        | inl before ↦ inr (elim (made_cases library h o1 m x before) [
          | inl first ↦ first
          | inr at ↦ absurd (old.0 (at.0))
        ])
        | inr at ↦ inl at
      ])
    ]

    names_cases : (m r : ℕ) → NamesOf h3 m r → ((m ≡ n) × (r ≡ d)) ⊎ NamesOf h m r
    names_cases m r e = by (object h3.objects m) refl
      where
        by : (o : Obj) → object h3.objects m ≡ o → ((m ≡ n) × (r ≡ d)) ⊎ NamesOf h m r
        by None q = absurd (let never : None ≡ Some r = ap names_of (sym q) ∙ e in cc)
        by (Some x) q = elim (last_cases m x q) [
          | inl at ↦ inl (at.0, (let same : Some d ≡ Some r = ap (λ z. names_of (Some z)) (at.1) ∙ ap names_of (sym q) ∙ e in sym (some_same d r same)))
          | inr other ↦ elim other [
            | inl at ↦ absurd (let never : None ≡ Some r = ap (λ z. names_of (Some z)) (at.1) ∙ ap names_of (sym q) ∙ e in cc)
            | inr old ↦ inr (ap names_of (old ∙ sym q) ∙ e)
          ]
        ]

    last_onward : Onward h h3
    last_onward = record {
      stays = λ m x e. ap core (old_last m x e);
      fresh = λ m r e. elim (names_cases m r e) [
        | inl at ↦ inr (ap (object h.objects) (at.1) ∙ dict_new)
        | inr old ↦ inl old
      ];
    }

    last_module : IsModule library h3 n name (Some d)
    last_module = record {
      named = is_name;
      dict = d;
      is = refl;
      is_dict = ap kind_of dict_last;
      alone = λ m e. elim (names_cases m d e) [
        | inl at ↦ at.0
        | inr old ↦ absurd (let never : None ≡ Some ADict = ap kind_of (sym dict_new) ∙ names_dict library h m d f old in cc)
      ];
    }

    last_fine : (m : ℕ) (x : Object Val (List ℕ)) → object h3.objects m ≡ Some x → IsFine library h3 m x
    last_fine m x e = elim (last_cases m x e) [
      | inl at ↦ subst (λ z. IsFine library h3 z x) (sym (at.0)) (subst (IsFine library h3 n) (at.1) last_module)
      | inr other ↦ elim other [
        | inl at ↦ subst (IsFine library h3 m) (at.1) (record { plain = tt; differ = tt; named = λ names. tt })
        | inr old ↦ fine_on h h3 last_onward library m x (x, old) (f.fine m x old)
      ]
    ]

    last_comes : Comes library h h3
    last_comes =
        let held = made_cells h1 o2 (made_cells h o1 f.cells) in
        let room : cells_in (Some o3) ≤ cells_in (object h2.objects n) + 0 = subst (λ z. cells_in (Some o3) ≤ cells_in z + 0) (sym module_there) (omega arith) in
        let sum = set_cells h2.objects n (Some o3) 0 room in
        let long = length-set h2.objects n (Some o3) in
        record { onward = last_onward; fine = record { cells = omega (arith, held, sum, long); fine = last_fine } }

    abbrev put : PlainHeap → Outcome Val
    put g = put_pair g d (Str (codes "__name__")) (Str name)

    abbrev end : Val → PlainHeap → Outcome Made
    end stored last = gives (record { number = n; names = d }) last

    -- the module's own name goes into its names
    filled_in : IsIn library (MadeAs name) h (followed_by (put h3) end)
    filled_in =
        let names : IsNamespace h3 d = (n, ap names_of module_last) in
        let o = followed_by (put h3) end in
        onto library (MadeAs name) h h3 o.heap o.answer last_comes
        (followed library (IsPlain library) (MadeAs name) h3 (put h3) end (name_in library h3 last_comes.fine d (codes "__name__") (Str name) names IsName.own_name text) (λ v c p.
        (comes_same library (put h3).heap c.fine, (title_on h3 (put h3).heap c.onward n name (ap title_of module_last), namespace_on h3 (put h3).heap c.onward d names))))

    names_are : with_names h2 n d ≡ h3
    names_are = ap (λ z. record h2 { objects = set h2.objects n (named z d) }) module_there

    named_in : IsIn library (MadeAs name) h (followed_by (put (with_names h2 n d)) end)
    named_in = subst (λ g. IsIn library (MadeAs name) h (followed_by (put g) end)) (sym names_are) filled_in

    abbrev dicts : Val → PlainHeap → Outcome Made
    dicts names last = followed_by (put_pair (with_names last n (number_of names)) (number_of names) (Str (codes "__name__")) (Str name)) (λ stored z. gives (record { number = n; names = number_of names }) z)

    dict_made : (b : Bool) → IsIn library (MadeAs name) h (followed_by (cond b (gives (At d) h2) (is_full h1 (cells_of o2) (bytes_of o2))) dicts)
    dict_made true = named_in
    dict_made false = tt

    abbrev modules : Val → PlainHeap → Outcome Made
    modules m behind = followed_by (making behind (DictObject [] 4)) (λ names last. followed_by (put_pair (with_names last (number_of m) (number_of names)) (number_of names) (Str (codes "__name__")) (Str name)) (λ stored z. gives (record { number = number_of m; names = number_of names }) z))

    module_made : (b : Bool) → IsIn library (MadeAs name) h (followed_by (cond b (gives (At n) h1) (is_full h (cells_of o1) (bytes_of o1))) modules)
    module_made true = dict_made (does_fit h1 (cells_of o2) (bytes_of o2))
    module_made false = tt

    pub making_module_in : IsIn library (MadeAs name) h (followed_by (making h o1) modules)
    making_module_in = module_made (does_fit h (cells_of o1) (bytes_of o1))

  module _ (w : PlainWorld) (s : IsSound library w) where
    made_by : (name : Name) (e : Effect Made) (r : Result Made Stop) → e.answer ≡ r → AnswerW library (MadeAs name) w e.world r → EffectIn library MadeIn w (elim r [ Ok made ↦ record { answer = Ok made; world = registered e.world name made; visits = 0 } | Err stop ↦ e ])
    made_by name e (Ok made) q p =
        let c = p.0 in (
          record {
            onward = c.onward;
            sound = record { heap = c.sound.heap; titles = each_append (λ (m : List ℕ × ℕ). title_of (object e.world.heap.objects (m.1)) ≡ Some (m.0)) e.world.modules ((name, made.number) ∷ []) c.sound.titles ((p.1).0, tt) };
          },
          (title_kind (object e.world.heap.objects made.number) name (p.1).0, (p.1).1),
        )
    made_by name e (Err (Raises fault)) q p = subst (AnswerW library MadeIn w e.world) (sym q) p
    made_by name e (Err (Full room)) q p = subst (AnswerW library MadeIn w e.world) (sym q) p

    pub module_in : (name : Name) → IsModuleName library name → IsText library name → EffectIn library MadeIn w (make_module w name)
    module_in name is_name text = made_by name (making_module w name) (making_module w name).answer refl (heap_in library (MadeAs name) w (followed_by (making w.heap (ModuleObject name None)) (modules w.heap s.heap name is_name text)) s (making_module_in w.heap s.heap name is_name text))

    pub function_in : (name module_name : Name) (code names : ℕ) (defaults : Val) → IsFunction library w.heap name module_name code names defaults → E library w s (make_function w name module_name code names defaults)
    function_in name module_name code names defaults is =
        let o = FunctionObject name module_name code names defaults in
        heap_in library (IsPlain library) w (making w.heap o) s (making_in library w.heap o s.heap refl (function_on w.heap (with_made w.heap o) (made_onward library w.heap o refl) library name module_name code names defaults is))

    -- a module that raised is no longer registered
    pub forget_in : (name : Name) → WorldComes library w (forget_module w name)
    forget_in name = record {
      onward = onward_same w.heap;
      sound = record { heap = s.heap; titles = each_filter (λ (m : List ℕ × ℕ). title_of (object w.heap.objects (m.1)) ≡ Some (m.0)) _ w.modules s.titles };
    }

    registered_in : (modules : List (List ℕ × ℕ)) (name : Name) (m : ℕ) → Each (λ m. title_of (object w.heap.objects (m.1)) ≡ Some (m.0)) modules → registered_as modules name ≡ Some m → IsA w.heap.objects AModule m
    registered_in [] name m p e = absurd cc
    registered_in (x ∷ modules) name m p e = by (bytes_eq (x.0) name) e (registered_in modules name m (p.1))
      where
        by : (b : Bool) → cond b (Some (x.1)) (registered_as modules name) ≡ Some m → (registered_as modules name ≡ Some m → IsA w.heap.objects AModule m) → IsA w.heap.objects AModule m
        by true q rest = let same : x.1 ≡ m = cc in subst (IsA w.heap.objects AModule) same (title_kind (object w.heap.objects (x.1)) (x.0) (p.0))
        by false q rest = rest q

    -- the number of a module is a plain value
    pub module_plain : (m : ℕ) → IsA w.heap.objects AModule m → IsPlain library w.heap (At m)
    module_plain m is = plain_at library w.heap m AModule s.heap is (λ e. cc)

    or_port_in : (name : Name) (o : Option ℕ) → registered_as w.modules name ≡ o → IsPlain library w.heap (module_or_port o)
    or_port_in name (Some m) e = module_plain m (registered_in w.modules name m s.titles e)
    or_port_in name None e = refl

    pub named_module_in : (name : Name) → IsPlain library w.heap (module_named w name)
    named_module_in name = or_port_in name (registered_as w.modules name) refl

    -- a module is stored in the names of another one
    stored_in_in : (name : Name) (m r : ℕ) (o : Option ℕ) → names_of (object w.heap.objects r) ≡ o → IsName library (last_part name) → IsA w.heap.objects AModule m → E library w s (stored_in w name m o)
    stored_in_in name m r (Some names) e last is = store_in library w s names (last_part name) (At m) (r, e) last (module_plain m is)
    stored_in_in name m r None e last is = nothing library w s

    under_by : (name : Name) (m : ℕ) (o : Option ℕ) → IsName library (last_part name) → IsA w.heap.objects AModule m → E library w s (elim o [ Some r ↦ stored_in w name m (names_of (object w.heap.objects r)) | None ↦ does Nil w ])
    under_by name m (Some r) last is = stored_in_in name m r (names_of (object w.heap.objects r)) refl last is
    under_by name m None last is = nothing library w s

    under_in : (name : Name) (m : ℕ) (o : Option (List ℕ)) → IsName library (last_part name) → IsA w.heap.objects AModule m → E library w s (stored_under w name m o)
    under_in name m (Some outer) last is = under_by name m (registered_as w.modules outer) last is
    under_in name m None last is = nothing library w s

    pub store_module_in : (name : Name) (m : ℕ) → IsName library (last_part name) → IsA w.heap.objects AModule m → E library w s (store_module w name m)
    store_module_in name m last is = under_in name m (outer_name name) last is
