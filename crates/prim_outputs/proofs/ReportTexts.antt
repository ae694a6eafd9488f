-- The texts of reports, by what they are of.
use Rattle.std.proofs.Common.{◌≡◌, ℕ, ℤ, List, [], ◌∷◌, ◌++◌, Bool, Option, Some, None, map, length, refl, sym, ap, ◌∙◌, arith}
use Rattle.std.specs.Prelude.{codes, slice_get}
use Rattle.std.proofs.lemmas.List.{length-map}
use Rattle.mpy_base.specs.declared.kind.Kind.{Kind}
use Rattle.mpy_base.specs.Kind.{kind_name}
use Rattle.mpy_base.specs.World.{TextObject, ExceptionObject, Heap, AList, ADict, ATuple, AText, AFunction, AnException, AMethod, ARange, AModule, IsA, object, kind_of}
use Rattle.mpy_base.specs.Val.{Val, At}
use Rattle.prim_builtins.specs.arena_heap.declared.value.Value.{Value}
use Rattle.prim_builtins.specs.arena_heap.declared.value.Value.TheVariants as values
use Rattle.prim_builtins.specs.arena_heap.declared.value.StrNo.{StrNo}
use Rattle.prim_builtins.specs.arena_heap.declared.value.ConstNo.{ConstNo}
use Rattle.prim_builtins.specs.arena_heap.declared.value.TextNo.{TextNo}
use Rattle.prim_builtins.specs.arena_heap.Values.{ArenaObject, IsTuple, Leads}
use Rattle.prim_builtins.specs.arena_objects.Iterables.{or_nothing, items_in}
use Rattle.prim_builtins.specs.py_values.Shown.{PlainHeap, shown, shown_object}
use Rattle.prim_builtins.specs.py_primitives.Texts.{items_of_tuple}
use Rattle.py_effects.specs.Ends.{Raised, shown_text, sole_text, arguments_text, report_of, end_report}
use Rattle.prim_builtins.specs.prim_walks.declared.look.Look.{Look}
use Rattle.prim_builtins.specs.prim_walks.declared.look.Look.TheVariants as looks
use Rattle.prim_builtins.specs.prim_walks.Looks.{seen}
use Rattle.prim_builtins.specs.prim_walks.Plain.{plain_by, fixed_of, fixed_within, plain, plain_name, plain_object, plain_heap}
use Rattle.prim_builtins.proofs.prim_walks_lemmas.PlainValues.{object_plain, within_step}
use Rattle.prim_builtins.proofs.prim_walks_lemmas.LeafTexts.{items_looked}
use Rattle.prim_outputs.specs.Reports.{first_lines}

module _ (texts : StrNo → Option (List ℕ)) (tuples : ConstNo → Option (List Value)) (heap : Heap Value ℕ) where
  abbrev own : PlainHeap
  own = plain_heap texts tuples heap

  of_fixed : (items : List Val) → sole_text own (fixed_of items) ≡ codes "..."
  of_fixed [] = refl
  of_fixed (v ∷ vs) = refl

  of_object : (o : Option ArenaObject) → (kind_of o ≡ Some AText → ⊥) → shown_text (shown_object (plain_object texts tuples o)) ≡ codes "..."
  of_object None ne = refl
  of_object (Some (TextObject bytes)) ne = absurd (ne refl)
  of_object _ ne = refl

  at_object : (n : ℕ) → (IsA heap.objects AText n → ⊥) → sole_text own (At n) ≡ codes "..."
  at_object n ne = ap (λ o. shown_text (shown_object o)) (object_plain texts tuples heap.objects n) ∙ of_object (object heap.objects n) ne

  -- the text of a value that is no None, bool, number or str
  pub other_text : (v : Value) → (v ≡ values.None → ⊥) → ((b : Bool) → v ≡ values.Bool b → ⊥) → ((z : ℤ) → v ≡ values.Int z → ⊥) → ((s : StrNo) → v ≡ values.Str s → ⊥) → ((t : TextNo) → v ≡ values.Text t → ⊥)
      → Leads heap.objects v → sole_text own (plain texts tuples v) ≡ codes "..."
  other_text values.None none bool int str text leads = absurd (none refl)
  other_text (values.Bool b) none bool int str text leads = absurd (bool b refl)
  other_text (values.Int z) none bool int str text leads = absurd (int z refl)
  other_text (values.Str s) none bool int str text leads = absurd (str s refl)
  other_text (values.Text t) none bool int str text leads = absurd (text t refl)
  other_text (values.Fixed c) none bool int str text leads =
      ap (sole_text own) (within_step texts tuples 31 c) ∙ of_fixed (map (plain_by texts (fixed_within texts tuples 31)) (or_nothing (tuples c)))
  other_text values.Empty none bool int str text leads = refl
  other_text (values.List l) none bool int str text leads = at_object l.cell (λ is. let both : Some AList ≡ Some AText = sym leads.meets ∙ is in absurd cc)
  other_text (values.Dict d) none bool int str text leads = at_object d.cell (λ is. let both : Some ADict ≡ Some AText = sym leads.meets ∙ is in absurd cc)
  other_text (values.Tuple t) none bool int str text leads = at_object t.cell (λ is. let both : Some ATuple ≡ Some AText = sym leads.meets ∙ is in absurd cc)
  other_text (values.Fun f) none bool int str text leads = at_object f.cell (λ is. let both : Some AFunction ≡ Some AText = sym leads.meets ∙ is in absurd cc)
  other_text (values.Exc e) none bool int str text leads = at_object e.cell (λ is. let both : Some AnException ≡ Some AText = sym leads.meets ∙ is in absurd cc)
  other_text (values.Method m) none bool int str text leads = at_object m.cell (λ is. let both : Some AMethod ≡ Some AText = sym leads.meets ∙ is in absurd cc)
  other_text (values.Range r) none bool int str text leads = at_object r.cell (λ is. let both : Some ARange ≡ Some AText = sym leads.meets ∙ is in absurd cc)
  other_text (values.Module m) none bool int str text leads = at_object m.cell (λ is. let both : Some AModule ≡ Some AText = sym leads.meets ∙ is in absurd cc)
  other_text (values.Built b) none bool int str text leads = refl

  -- the arguments, by how many there are
  pub no_argument : (items : List Value) → length items ≡ 0 → arguments_text own (map (plain texts tuples) items) ≡ []
  no_argument [] e = refl
  no_argument (x ∷ xs) e = absurd (omega arith)

  pub one_argument : (items : List Value) (x : Value) → length items ≡ 1 → slice_get items 0 ≡ Some x → arguments_text own (map (plain texts tuples) items) ≡ sole_text own (plain texts tuples x)
  one_argument [] x e g = absurd (omega arith)
  one_argument (y ∷ []) x e g = let p : y ≡ x = cc in ap (λ (v : Value). sole_text own (plain texts tuples v)) p
  one_argument (y ∷ z ∷ xs) x e g = absurd (omega arith)

  pub more_arguments : (items : List Value) → (length items ≡ 0 → ⊥) → (length items ≡ 1 → ⊥) → arguments_text own (map (plain texts tuples) items) ≡ codes "..."
  more_arguments [] n m = absurd (n refl)
  more_arguments (x ∷ []) n m = absurd (m refl)
  more_arguments (x ∷ y ∷ xs) n m = refl

  -- a look that is none at a tuple shows no items
  pub no_items : (v : Value) (look : Look) → ((count : ℕ) → look ≡ looks.Tuple count → ⊥) → items_of_tuple (seen texts tuples heap v look) ≡ []
  no_items v (looks.Tuple count) ne = absurd (ne count refl)
  no_items v _ ne = refl

  -- so a tuple at which there is such a look has none
  pub no_count : (v : Value) (look : Look) → ((count : ℕ) → look ≡ looks.Tuple count → ⊥) → IsTuple v → Leads heap.objects v → seen texts tuples heap v look ≡ shown own (plain texts tuples v) → 0 ≡ length (items_in tuples heap v)
  no_count v look ne t leads e =
      let none : map (plain texts tuples) (items_in tuples heap v) ≡ [] = sym (items_looked texts tuples heap v look t leads e) ∙ (ap items_of_tuple (sym e) ∙ no_items v look ne) in
      sym (ap (λ (ws : List Val). length ws) none) ∙ length-map (items_in tuples heap v) (plain texts tuples)

  -- a report, by its parts
  pub report_is : (n : ℕ) (kind : Kind) (args : Value) (file line name : ℕ) → object heap.objects n ≡ Some (ExceptionObject kind args file line name)
      → first_lines (plain_name texts tuples file) line (plain_name texts tuples name) ++ kind_name kind ++ codes ": " ++ arguments_text own (items_of_tuple (shown own (plain texts tuples args))) ++ codes "\n" ≡ end_report own (Raised n)
  report_is n kind args file line name is = sym (ap (report_of own) (object_plain texts tuples heap.objects n ∙ ap (plain_object texts tuples) is))
