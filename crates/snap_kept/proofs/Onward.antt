-- What stays true of values while a heap goes on.
use Rattle.std.proofs.Common.{◌≡◌, ◌⊎◌, ℕ, List, [], ◌∷◌, length, replicate, false, Option, Some, None, inl, inr, refl, sym, ap, ◌∙◌, subst}
use Rattle.std.specs.Prelude.{is_some}
use Rattle.std.specs.List.{AllByRecursion as Each}
use Rattle.std.proofs.lemmas.List.{length-replicate}
use Rattle.bc_progress.specs.mpy_base.declared.builtin.Builtin.{Builtin}
use Rattle.bc_progress.specs.mpy_base.World.{Object, ObjectKind, ListObject, TupleObject, TextObject, DictObject, FunctionObject, ExceptionObject, MethodObject, RangeObject, ModuleObject, AList, ATuple, AText, ADict, AFunction, AnException, AMethod, ARange, AModule, object, names_of, kind_of, IsA}
use Rattle.bc_progress.specs.mpy_base.Val.{Val, Nil, Truth, Int, Str, Fixed, Empty, Built, At}
use Rattle.bc_progress.specs.py_values.Shown.{PlainHeap, shown_object}
use Rattle.bc_progress.specs.py_values.Keys.{PlainKey, shown_key, key_of, has_key, is_same_key}
use Rattle.bc_progress.specs.bc_machine.Library.{Name, Library}
use Rattle.bc_progress.specs.Known.{HasMethod, KindHas}
use Rattle.snap_kept.specs.Values.{IsThere, title_of, NamesOf, IsNamespace, count_shown, count_of, Differ, IsPlain, IsPair, IsDict, IsFunction, IsFine}

abbrev pub Obj : Type 0
Obj = Option (Object Val (List ℕ))

-- an object without what may change in it
abbrev pub core : Obj → Obj
core None = None
core (Some (ListObject items room)) = Some (ListObject [] 0)
core (Some (TupleObject items)) = Some (TupleObject (replicate (length items) Nil))
core (Some (TextObject bytes)) = Some (TextObject bytes)
core (Some (DictObject pairs room)) = Some (DictObject [] 0)
core (Some (FunctionObject name module_name code names defaults)) = Some (FunctionObject name module_name code names defaults)
core (Some (ExceptionObject kind args file line name)) = Some (ExceptionObject kind args [] 0 [])
core (Some (MethodObject v method)) = Some (MethodObject v method)
core (Some (RangeObject start stop step)) = Some (RangeObject start stop step)
core (Some (ModuleObject name names)) = Some (ModuleObject name names)

pub kind_core : (o : Obj) → kind_of (core o) ≡ kind_of o
kind_core None = refl
kind_core (Some (ListObject items room)) = refl
kind_core (Some (TupleObject items)) = refl
kind_core (Some (TextObject bytes)) = refl
kind_core (Some (DictObject pairs room)) = refl
kind_core (Some (FunctionObject name module_name code names defaults)) = refl
kind_core (Some (ExceptionObject kind args file line name)) = refl
kind_core (Some (MethodObject v method)) = refl
kind_core (Some (RangeObject start stop step)) = refl
kind_core (Some (ModuleObject name names)) = refl

pub names_core : (o : Obj) → names_of (core o) ≡ names_of o
names_core None = refl
names_core (Some (ListObject items room)) = refl
names_core (Some (TupleObject items)) = refl
names_core (Some (TextObject bytes)) = refl
names_core (Some (DictObject pairs room)) = refl
names_core (Some (FunctionObject name module_name code names defaults)) = refl
names_core (Some (ExceptionObject kind args file line name)) = refl
names_core (Some (MethodObject v method)) = refl
names_core (Some (RangeObject start stop step)) = refl
names_core (Some (ModuleObject name names)) = refl

title_core : (o : Obj) → title_of (core o) ≡ title_of o
title_core None = refl
title_core (Some (ListObject items room)) = refl
title_core (Some (TupleObject items)) = refl
title_core (Some (TextObject bytes)) = refl
title_core (Some (DictObject pairs room)) = refl
title_core (Some (FunctionObject name module_name code names defaults)) = refl
title_core (Some (ExceptionObject kind args file line name)) = refl
title_core (Some (MethodObject v method)) = refl
title_core (Some (RangeObject start stop step)) = refl
title_core (Some (ModuleObject name names)) = refl

-- what has a name as a module is one
pub title_kind : (o : Obj) (name : List ℕ) → title_of o ≡ Some name → kind_of o ≡ Some AModule
title_kind (Some (ModuleObject title names)) name e = refl
title_kind None name e = absurd cc
title_kind (Some (ListObject items room)) name e = absurd cc
title_kind (Some (TupleObject items)) name e = absurd cc
title_kind (Some (TextObject bytes)) name e = absurd cc
title_kind (Some (DictObject pairs room)) name e = absurd cc
title_kind (Some (FunctionObject title module_name code names defaults)) name e = absurd cc
title_kind (Some (ExceptionObject kind args file line title)) name e = absurd cc
title_kind (Some (MethodObject v method)) name e = absurd cc
title_kind (Some (RangeObject start stop step)) name e = absurd cc

count_core : (o : Obj) → count_shown (shown_object (core o)) ≡ count_shown (shown_object o)
count_core None = refl
count_core (Some (ListObject items room)) = refl
count_core (Some (TupleObject items)) = ap Some (length-replicate (length items) Nil)
count_core (Some (TextObject bytes)) = refl
count_core (Some (DictObject pairs room)) = refl
count_core (Some (FunctionObject name module_name code names defaults)) = refl
count_core (Some (ExceptionObject kind args file line name)) = refl
count_core (Some (MethodObject v method)) = refl
count_core (Some (RangeObject start stop step)) = refl
count_core (Some (ModuleObject name names)) = refl

key_core : (o : Obj) → shown_key (shown_object (core o)) ≡ shown_key (shown_object o)
key_core None = refl
key_core (Some (ListObject items room)) = refl
key_core (Some (TupleObject items)) = refl
key_core (Some (TextObject bytes)) = refl
key_core (Some (DictObject pairs room)) = refl
key_core (Some (FunctionObject name module_name code names defaults)) = refl
key_core (Some (ExceptionObject kind args file line name)) = refl
key_core (Some (MethodObject v method)) = refl
key_core (Some (RangeObject start stop step)) = refl
key_core (Some (ModuleObject name names)) = refl

there_by : (o : Obj) (k : ObjectKind) → kind_of o ≡ Some k → (x : Object Val (List ℕ)) × (o ≡ Some x)
there_by None k e = absurd cc
there_by (Some x) k e = (x, refl)

kind_there : (x : Object Val (List ℕ)) → (k : ObjectKind) × (kind_of (Some x) ≡ Some k)
kind_there (ListObject items room) = (AList, refl)
kind_there (TupleObject items) = (ATuple, refl)
kind_there (TextObject bytes) = (AText, refl)
kind_there (DictObject pairs room) = (ADict, refl)
kind_there (FunctionObject name module_name code names defaults) = (AFunction, refl)
kind_there (ExceptionObject kind args file line name) = (AnException, refl)
kind_there (MethodObject v method) = (AMethod, refl)
kind_there (RangeObject start stop step) = (ARange, refl)
kind_there (ModuleObject name names) = (AModule, refl)

-- each object stays, but for what may change in it, and no dict that was there becomes that of a module's names
pub record Onward (old new : PlainHeap) : Type 0 where
  pub stays : (n : ℕ) (o : Object Val (List ℕ)) → object old.objects n ≡ Some o → core (object new.objects n) ≡ core (Some o)
  pub fresh : (m n : ℕ) → NamesOf new m n → NamesOf old m n ⊎ (object old.objects n ≡ None)

module _ (h k : PlainHeap) (on : Onward h k) where
  pub kind_on : (n : ℕ) (kind : ObjectKind) → IsA h.objects kind n → IsA k.objects kind n
  kind_on n kind is =
      let x = there_by (object h.objects n) kind is in
      sym (kind_core (object k.objects n)) ∙ ap kind_of (on.stays n x.0 x.1) ∙ kind_core (Some x.0) ∙ ap kind_of (sym x.1) ∙ is

  pub title_on : (n : ℕ) (name : List ℕ) → title_of (object h.objects n) ≡ Some name → title_of (object k.objects n) ≡ Some name
  title_on n name e =
      let x = there_by (object h.objects n) AModule (title_kind (object h.objects n) name e) in
      sym (title_core (object k.objects n)) ∙ ap title_of (on.stays n x.0 x.1) ∙ title_core (Some x.0) ∙ ap title_of (sym x.1) ∙ e

  pub there_on : (n : ℕ) → IsThere h n → IsThere k n
  there_on n x =
      let kind = kind_there x.0 in
      there_by (object k.objects n) kind.0 (kind_on n kind.0 (ap kind_of x.1 ∙ kind.1))

  pub names_on : (m n : ℕ) → NamesOf h m n → NamesOf k m n
  names_on m n e = by (object h.objects m) refl
    where
      by : (o : Obj) → object h.objects m ≡ o → NamesOf k m n
      by None q = absurd (let none : None ≡ Some n = ap names_of (sym q) ∙ e in cc)
      by (Some x) q = sym (names_core (object k.objects m)) ∙ ap names_of (on.stays m x q) ∙ names_core (Some x) ∙ ap names_of (sym q) ∙ e

  pub namespace_on : (n : ℕ) → IsNamespace h n → IsNamespace k n
  namespace_on n p = (p.0, names_on (p.0) n (p.1))

  -- what wasn't one still isn't
  pub namespace_back : (n : ℕ) → IsThere h n → IsNamespace k n → IsNamespace h n
  namespace_back n there p =
      elim (on.fresh (p.0) n (p.1)) [
        | inl e ↦ (p.0, e)
        | inr none ↦ absurd (let never : None ≡ Some (there.0) = sym none ∙ there.1 in cc)
      ]

  pub shown_on : (n : ℕ) (A : Type 0) (f : Obj → A) → ((o : Obj) → f (core o) ≡ f o) → IsThere h n → f (object k.objects n) ≡ f (object h.objects n)
  shown_on n A f by x = sym (by (object k.objects n)) ∙ ap f (on.stays n (x.0) (x.1)) ∙ by (Some (x.0)) ∙ ap f (sym (x.1))

  module _ (library : Library) where
    pub plain_on : (v : Val) → IsPlain library h v → IsPlain library k v
    plain_on Nil p = p
    plain_on (Truth b) p = p
    plain_on (Int z) p = p
    plain_on (Str bytes) p = p
    plain_on (Fixed items) p = p
    plain_on Empty p = p
    plain_on (Built b) p = p
    plain_on (At n) p = (there_on n (p.0), λ names. p.1 (namespace_back n (p.0) names))

    pub plains_on : (vs : List Val) → Each (IsPlain library h) vs → Each (IsPlain library k) vs
    plains_on [] p = tt
    plains_on (v ∷ vs) p = (plain_on v (p.0), plains_on vs (p.1))

    pub count_on : (v : Val) → IsPlain library h v → count_of k v ≡ count_of h v
    count_on Nil p = refl
    count_on (Truth b) p = refl
    count_on (Int z) p = refl
    count_on (Str bytes) p = refl
    count_on (Fixed items) p = refl
    count_on Empty p = refl
    count_on (Built b) p = refl
    count_on (At n) p = shown_on n (Option ℕ) (λ o. count_shown (shown_object o)) count_core (p.0)

    pub key_on : (v : Val) → IsPlain library h v → key_of k v ≡ key_of h v
    key_on Nil p = refl
    key_on (Truth b) p = refl
    key_on (Int z) p = refl
    key_on (Str bytes) p = refl
    key_on (Fixed items) p = refl
    key_on Empty p = refl
    key_on (Built b) p = refl
    key_on (At n) p = shown_on n (Option PlainKey) (λ o. shown_key (shown_object o)) key_core (p.0)

    pub pair_on : (p : Val × Val) → IsPair library h p → IsPair library k p
    pair_on p q = (plain_on (p.0) (q.0), ap is_some (key_on (p.0) (q.0)) ∙ q.1, plain_on (p.1) (q.2))

    pub pairs_on : (ps : List (Val × Val)) → Each (IsPair library h) ps → Each (IsPair library k) ps
    pairs_on [] q = tt
    pairs_on (p ∷ ps) q = (pair_on p (q.0), pairs_on ps (q.1))

    has_key_on : (key : Val) (p : Val × Val) → IsPlain library h key → IsPair library h p → has_key k key p ≡ has_key h key p
    has_key_on key p a b = ap (λ z. is_same_key z (key_of k key)) (key_on (p.0) (b.0)) ∙ ap (is_same_key (key_of h (p.0))) (key_on key a)

    other_on : (key : Val) (ps : List (Val × Val)) → IsPlain library h key → Each (IsPair library h) ps → Each (λ q. has_key h key q ≡ false) ps → Each (λ q. has_key k key q ≡ false) ps
    other_on key [] a b d = tt
    other_on key (p ∷ ps) a b d = (has_key_on key p a (b.0) ∙ d.0, other_on key ps a (b.1) (d.1))

    differ_on : (ps : List (Val × Val)) → Each (IsPair library h) ps → Differ h ps → Differ k ps
    differ_on [] q d = tt
    differ_on (p ∷ ps) q d = (other_on (p.0) ps ((q.0).0) (q.1) (d.0), differ_on ps (q.1) (d.1))

    pub method_on : (v : Val) (m : Builtin) → IsPlain library h v → HasMethod h.objects v m → HasMethod k.objects v m
    method_on (Str bytes) m p has = has
    method_on (At n) m p has = subst (λ z. KindHas z m) (sym (shown_on n (Option ObjectKind) kind_of kind_core (p.0))) has
    method_on Nil m p has = has
    method_on (Truth b) m p has = has
    method_on (Int z) m p has = has
    method_on (Fixed items) m p has = has
    method_on Empty m p has = has
    method_on (Built b) m p has = has

    pub dict_on : (n : ℕ) (pairs : List (Val × Val)) → IsThere h n → IsDict library h n pairs → IsDict library k n pairs
    dict_on n pairs there d = record { plain = pairs_on pairs d.plain; differ = differ_on pairs d.plain d.differ; named = λ names. d.named (namespace_back n there names) }

    counted_on : (v : Val) (count : ℕ) → IsPlain library h v → (v ≡ Nil) ⊎ (count_of h v ≡ Some count) → (v ≡ Nil) ⊎ (count_of k v ≡ Some count)
    counted_on v count p (inl e) = inl e
    counted_on v count p (inr e) = inr (count_on v p ∙ e)

    pub function_on : (name module_name : Name) (code names : ℕ) (defaults : Val) → IsFunction library h name module_name code names defaults → IsFunction library k name module_name code names defaults
    function_on name module_name code names defaults f = record {
      namespace = namespace_on names f.namespace;
      plain = plain_on defaults f.plain;
      its = f.its;
      there = f.there;
      named = f.named;
      count = counted_on defaults f.its.given f.plain f.count;
    }

    -- what an object holds is as fine behind
    pub fine_on : (n : ℕ) (o : Object Val (List ℕ)) → IsThere h n → IsFine library h n o → IsFine library k n o
    fine_on n (ListObject items room) there f = plains_on items f
    fine_on n (TupleObject items) there f = plains_on items f
    fine_on n (TextObject bytes) there f = tt
    fine_on n (DictObject pairs room) there f = dict_on n pairs there f
    fine_on n (FunctionObject name module_name code names defaults) there f = function_on name module_name code names defaults f
    fine_on n (ExceptionObject kind args file line name) there f = record {
      plain = plain_on args f.plain;
      tuple = ap is_some (count_on args f.plain) ∙ f.tuple;
      file_named = f.file_named;
      name_named = f.name_named;
    }
    fine_on n (MethodObject v method) there f = (plain_on v (f.0), method_on v method (f.0) (f.1))
    fine_on n (RangeObject start stop step) there f = tt
    fine_on n (ModuleObject name names) there f = record {
      named = f.named;
      dict = f.dict;
      is = f.is;
      is_dict = kind_on f.dict ADict f.is_dict;
      alone = λ m q. f.alone m (elim (on.fresh m f.dict q) [
        | inl old ↦ old
        | inr none ↦ absurd (let never : None ≡ Some ADict = ap kind_of (sym none) ∙ f.is_dict in cc)
      ]);
    }

pub onward_same : (h : PlainHeap) → Onward h h
onward_same h = record { stays = λ n o e. ap core e; fresh = λ m n e. inl e }

none_back : (a b : PlainHeap) → Onward a b → (n : ℕ) → object b.objects n ≡ None → object a.objects n ≡ None
none_back a b p n e = by (object a.objects n) refl
  where
    by : (o : Obj) → object a.objects n ≡ o → object a.objects n ≡ None
    by None q = q
    by (Some x) q = absurd (let there = there_on a b p n (x, q) in let never : None ≡ Some (there.0) = sym e ∙ there.1 in cc)

pub onward_on : (a b c : PlainHeap) → Onward a b → Onward b c → Onward a c
onward_on a b c p q = record {
  stays = λ n o e. let there = there_on a b p n (o, e) in q.stays n (there.0) (there.1) ∙ ap core (sym (there.1)) ∙ p.stays n o e;
  fresh = λ m n e. elim (q.fresh m n e) [ inl old ↦ p.fresh m n old | inr none ↦ inr (none_back a b p n none) ];
}
