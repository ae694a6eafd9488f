-- A library of a program's modules has the code of each text of the program, and of each merge.
use Rattle.std.proofs.Common.{◌≡◌, ℕ, zero, suc, pred, ◌+◌, ◌≤◌, List, [], ◌∷◌, ◌++◌, length, map, Bool, true, false, Option, Some, None, ◌⊎◌, inl, inr, refl, sym, ap, ◌∙◌, subst, arith}
use Rattle.std.specs.Prelude.{slice_get, bytes_eq, codes, option_and_then, if◌then◌else◌}
use Rattle.std.specs.Option.{option_map}
use Rattle.std.proofs.lemmas.Slice.Eq.{bytes_eq-Decides}
use Rattle.std.proofs.lemmas.Option.{slice_get-map}
use Rattle.std.proofs.lemmas.List.{length-append, map-append}
use Rattle.bc_scheme.specs.bc_ops.declared.instr.Op.TheVariants as ops
use Rattle.bc_scheme.specs.bc_ops.declared.instr.Instr.TheVariants as instrs
use Rattle.bc_scheme.specs.mpy_base.World.{PortState}
use Rattle.bc_scheme.specs.mpy_tree.Resolved.{Resolved, plain, Tree, node, Trees, no_more, more, ResolvedModule}
use Rattle.bc_scheme.specs.bc_machine.Library as libraries
use Rattle.bc_scheme.specs.bc_machine.Library.{Line, line_of, Code, Library, Holds, module_in, code_in, code_at, size_of, sizes_of, numbers_from, codes_from, codes_of, module_of}
use Rattle.bc_scheme.specs.py_meaning.Tree.{Name, Function, functions}
use Rattle.bc_scheme.specs.py_meaning.Program as programs
use Rattle.bc_scheme.specs.py_meaning.Program.{Source, Unit, Single, Merge, Units, Part, Parts, Runs, Refused, Program, Text, Content, OfText, first_file, first_file_of, module_text, function_texts, source_texts, contents, contents_of, entry_in, unit_in}
use Rattle.bc_scheme.specs.Statements.{StandsB}
use Rattle.bc_scheme.specs.Translation.{own, StandsCode, StandAll, Translates}
use Rattle.bc_scheme.specs.Merge.{calls, on_line_1, outer_body, trees_of, merge_of}
use Rattle.bc_scheme.specs.Link.{IsModuleOf, translated, merged, AreModulesOf, last_unit, next_unit, IsEntryOf, Links}
use Rattle.bc_scheme.specs.Correct.{Behaves}
use Rattle.sim_stmt.specs.Sites.{shifted}
use Rattle.sim_stmt.proofs.Sizes.{bsize}
use Rattle.sim_stmt.proofs.Blocks.{IsText, IsCall, AreCalls, IsOuter, IsUnit, AreUnits, IsCode, Coded, head_of, StartsUnit, IsStart, Started}
use Rattle.sim_stmt.proofs.Behaves.{behaves}

-- ---- lists

got_left : {A : Type 0} (xs ys : List A) (n : ℕ) (x : A) → slice_get xs n ≡ Some x → slice_get (xs ++ ys) n ≡ Some x
got_left [] ys n x e = absurd cc
got_left (z ∷ xs) ys zero x e = e
got_left (z ∷ xs) ys (suc n) x e = got_left xs ys n x e

got_right : {A : Type 0} (xs ys : List A) (n : ℕ) → slice_get (xs ++ ys) (length xs + n) ≡ slice_get ys n
got_right [] ys n = ap (slice_get ys) (omega arith)
got_right (x ∷ xs) ys n = let e : suc (length xs) + n ≡ suc (length xs + n) = omega arith in ap (slice_get (x ∷ xs ++ ys)) e ∙ got_right xs ys n

-- an element of two lists stands in one of them
got_in : {A : Type 0} (xs ys : List A) (n : ℕ) (x : A) → slice_get (xs ++ ys) n ≡ Some x → (slice_get xs n ≡ Some x) ⊎ ((i : ℕ) × (n ≡ length xs + i) × (slice_get ys i ≡ Some x))
got_in [] ys n x e = inr (n, omega arith, e)
got_in (z ∷ xs) ys zero x e = inl e
got_in (z ∷ xs) ys (suc n) x e = elim (got_in xs ys n x e) [ inl p ↦ inl p | inr q ↦ inr (q.0, omega (arith, q.1), q.2) ]

same_none : {A B : Type 0} (xs : List A) (ys : List B) (n : ℕ) → length xs ≡ length ys → slice_get xs n ≡ None → slice_get ys n ≡ None
same_none [] [] n e f = refl
same_none [] (y ∷ ys) n e f = absurd cc
same_none (x ∷ xs) [] n e f = refl
same_none (x ∷ xs) (y ∷ ys) zero e f = absurd cc
same_none (x ∷ xs) (y ∷ ys) (suc n) e f = same_none xs ys n (ap pred e) f

-- a list from a position on
pub record From {A : Type 0} (all : List A) (p : ℕ) (xs : List A) : Type 0 where
  pub each : (i : ℕ) → slice_get all (p + i) ≡ slice_get xs i

from_first : {A : Type 0} (all xs : List A) (p : ℕ) (x : A) → From all p (x ∷ xs) → slice_get all p ≡ Some x
from_first all xs p x f = let e : p ≡ p + 0 = omega arith in ap (slice_get all) e ∙ f.each 0

from_more : {A : Type 0} (all xs : List A) (p : ℕ) (x : A) → From all p (x ∷ xs) → From all (suc p) xs
from_more all xs p x f = record { each = λ i. let e : suc p + i ≡ p + suc i = omega arith in ap (slice_get all) e ∙ f.each (suc i) }

-- these codes stand among all, from a number on
abbrev IsAt : List Code → ℕ → List Code → Type 0
IsAt all base cs = (n : ℕ) (c : Code) → slice_get cs n ≡ Some c → slice_get all (base + n) ≡ Some c

at_front : (all : List Code) (base : ℕ) (xs ys : List Code) → IsAt all base (xs ++ ys) → IsAt all base xs
at_front all base xs ys h n c e = h n c (got_left xs ys n c e)

at_behind : (all : List Code) (base size : ℕ) (xs ys : List Code) → length xs ≡ size → IsAt all base (xs ++ ys) → IsAt all (base + size) ys
at_behind all base size xs ys l h n c e = let i : (base + size) + n ≡ base + (length xs + n) = omega (arith, l) in ap (slice_get all) i ∙ h (length xs + n) c (got_right xs ys n ∙ e)

at_more : (all : List Code) (base : ℕ) (x : Code) (xs : List Code) → IsAt all base (x ∷ xs) → IsAt all (suc base) xs
at_more all base x xs h n c e = let i : suc base + n ≡ base + suc n = omega arith in ap (slice_get all) i ∙ h (suc n) c e

-- ---- codes by a number in front

numbers_shift : (s n : ℕ) (ts : Trees) → numbers_from (s + n) ts ≡ map (λ m. s + m) (numbers_from n ts)
numbers_shift s n no_more = refl
numbers_shift s n (more t ts) =
    let e : (s + n) + size_of t ≡ s + (n + size_of t) = omega arith in ap (λ l. (s + n) ∷ l) (ap (λ m. numbers_from m ts) e ∙ numbers_shift s (n + size_of t) ts)

mutual
  codes_shift : (s n : ℕ) (t : Tree) → codes_from (s + n) t ≡ map (shifted s) (codes_from n t)
  codes_shift s n (node body ts) =
      let e : suc (s + n) ≡ s + suc n = omega arith in
      ap (λ m. libraries.code_of body (numbers_from m ts) ∷ codes_of m ts) e
      ∙ ap (λ l. libraries.code_of body l ∷ codes_of (s + suc n) ts) (numbers_shift s (suc n) ts)
      ∙ ap (λ l. libraries.code_of body (map (λ m. s + m) (numbers_from (suc n) ts)) ∷ l) (codes_shift_all s (suc n) ts)

  codes_shift_all : (s n : ℕ) (ts : Trees) → codes_of (s + n) ts ≡ map (shifted s) (codes_of n ts)
  codes_shift_all s n no_more = refl
  codes_shift_all s n (more t ts) =
      let e : (s + n) + size_of t ≡ s + (n + size_of t) = omega arith in
      ap (λ l. l ++ codes_of ((s + n) + size_of t) ts) (codes_shift s n t)
      ∙ ap (λ m. map (shifted s) (codes_from n t) ++ codes_of m ts) e
      ∙ ap (λ l. map (shifted s) (codes_from n t) ++ l) (codes_shift_all s (n + size_of t) ts)
      ∙ sym (map-append (shifted s) (codes_from n t) (codes_of (n + size_of t) ts))

mutual
  length_codes : (n : ℕ) (t : Tree) → length (codes_from n t) ≡ size_of t
  length_codes n (node body ts) = ap suc (length_all (suc n) ts)

  length_all : (n : ℕ) (ts : Trees) → length (codes_of n ts) ≡ sizes_of ts
  length_all n no_more = refl
  length_all n (more t ts) = omega (arith, length-append (codes_from n t) (codes_of (n + size_of t) ts), length_codes n t, length_all (n + size_of t) ts)

-- ---- texts and codes are in step

-- a text has its code, and no text none
abbrev Stands : List Code → Option Text → Option Code → Type 0
Stands all (Some text) o = (code : Code) × (o ≡ Some code) × (is_module : Bool) × StandsCode all is_module text code
Stands all None o = o ≡ None

stand_at : (all : List Code) (b : Bool) (ts : List Text) (cs : List Code) (number : ℕ) → StandAll all b ts cs → Stands all (slice_get ts number) (slice_get cs number)
stand_at all b [] cs number s = subst (λ l. slice_get l number ≡ None) (sym s) refl
stand_at all b (text ∷ ts) cs zero s = subst (λ l. Stands all (Some text) (slice_get l 0)) (sym s.2) (s.0, refl, b, s.3)
stand_at all b (text ∷ ts) cs (suc number) s = subst (λ l. Stands all (slice_get ts number) (slice_get l (suc number))) (sym s.2) (stand_at all false ts s.1 number s.4)

length_stand : (all : List Code) (b : Bool) (ts : List Text) (cs : List Code) → StandAll all b ts cs → length ts ≡ length cs
length_stand all b [] cs s = sym (ap length s)
length_stand all b (text ∷ ts) cs s = ap suc (length_stand all false ts s.1 s.4) ∙ sym (ap length s.2)

-- a text behind other codes, in another file
abbrev placed : Name → ℕ → Text → Text
placed file base text = record text { file = file; base = base }

placed_functions : (file file1 : Name) (source : Source) (base base1 : ℕ) (fs : List Function) (tables : List (List Name)) → function_texts file source base fs tables ≡ map (placed file base) (function_texts file1 source base1 fs tables)
placed_functions file file1 source base base1 [] tables = refl
placed_functions file file1 source base base1 (f ∷ fs) [] = ap (λ l. programs.function_text file source base [] f ∷ l) (placed_functions file file1 source base base1 fs [])
placed_functions file file1 source base base1 (f ∷ fs) (locals ∷ tables) = ap (λ l. programs.function_text file source base locals f ∷ l) (placed_functions file file1 source base base1 fs tables)

placed_texts : (file file1 : Name) (source : Source) (base base1 : ℕ) → source_texts file source base ≡ map (placed file base) (source_texts file1 source base1)
placed_texts file file1 source base base1 = ap (λ l. module_text file source base ∷ l) (placed_functions file file1 source base base1 (functions source.body) source.locals)

-- each text of a source knows the number in front of it
abbrev base_or : ℕ → Option Text → ℕ
base_or base (Some text) = text.base
base_or base None = base

base_placed : (file : Name) (base : ℕ) (o : Option Text) → base_or base (option_map (placed file base) o) ≡ base
base_placed file base (Some text) = refl
base_placed file base None = refl

text_base : (file : Name) (source : Source) (base n : ℕ) (text : Text) → slice_get (source_texts file source base) n ≡ Some text → text.base ≡ base
text_base file source base n text e =
    ap (base_or base) (sym e ∙ ap (λ l. slice_get l n) (placed_texts file file source base base) ∙ slice_get-map (placed file base) (source_texts file source base) n) ∙ base_placed file base (slice_get (source_texts file source base) n)

-- the place of a text is no part of what its code is
placed_stands : (all : List Code) (b : Bool) (text : Text) (code : Code) (file : Name) (base : ℕ) → text.base ≡ 0 → StandsCode all b text code → StandsCode all b (record (placed file base text) { base = 0 }) code
placed_stands all b text code file base e s = record {
  name = s.name;
  params = s.params;
  given = s.given;
  locals = s.locals;
  children = subst (λ n. code.children ≡ map (λ m. n + m) (own text.body)) e s.children;
  last = s.last;
  length = s.length;
  body = subst (λ n. StandsB (record { lines = code.lines; level = text.level; is_module = b; locals = text.locals; children = code.children; base = n; codes = all })
      (record { brk = s.last; cont = s.last; count = 0; iterator = false }) 0 text.body s.last) e s.body;
  none = s.none;
  return = s.return;
}

-- ---- sizes

abbrev total : List Text → ℕ
total [] = 0
total (text ∷ ts) = bsize text.body + total ts

abbrev or_size : Option Text → ℕ
or_size (Some text) = bsize text.body
or_size None = 0

in_total : (ts : List Text) (number : ℕ) → or_size (slice_get ts number) ≤ total ts
in_total [] number = omega arith
in_total (text ∷ ts) zero = omega arith
in_total (text ∷ ts) (suc number) = omega (arith, in_total ts number)

abbrev mutual
  unit_total : Unit → ℕ
  unit_total (Single source) = total (source_texts source.file source 0)
  unit_total (Merge units) = units_total units

  units_total : Units → ℕ
  units_total (Part u) = unit_total u
  units_total (Parts u us) = unit_total u + units_total us

abbrev entry_total : programs.Entry → ℕ
entry_total (Runs unit) = unit_total unit
entry_total Refused = 0

abbrev entries_total : List (Name × programs.Entry) → ℕ
entries_total [] = 0
entries_total (e ∷ entries) = entry_total (e.1) + entries_total entries

-- no body of the program is greater
abbrev pub greatest : Program → ℕ
greatest program = suc (unit_total program.main + entries_total program.entries)

abbrev found_total : Option programs.Entry → ℕ
found_total (Some entry) = entry_total entry
found_total None = 0

found_by : (b : Bool) (entry : programs.Entry) (o : Option programs.Entry) (m : ℕ) → found_total o ≤ m → found_total (if b then Some entry else o) ≤ entry_total entry + m
found_by true entry o m le = omega arith
found_by false entry o m le = omega (arith, le)

in_entries : (entries : List (Name × programs.Entry)) (name : Name) → found_total (entry_in entries name) ≤ entries_total entries
in_entries [] name = omega arith
in_entries (e ∷ entries) name = found_by (bytes_eq (e.0) name) (e.1) (entry_in entries name) (entries_total entries) (in_entries entries name)

-- a unit has as many codes as its module's tree
length_map : {A B : Type 0} (f : A → B) (xs : List A) → length (map f xs) ≡ length xs
length_map f [] = refl
length_map f (x ∷ xs) = ap suc (length_map f xs)

mutual
  length_unit : (file : Name) (base : ℕ) (u : Unit) (m : ResolvedModule) → IsModuleOf u m → length (contents file u base) ≡ size_of m.code
  length_unit file base (Single source) m (translated tr) =
      length_map OfText (source_texts file source base) ∙ ap length (placed_texts file source.file source base 0) ∙ length_map (placed file base) (source_texts source.file source 0)
      ∙ length_stand (codes_from 0 m.code) true (source_texts source.file source 0) (codes_from 0 m.code) tr.codes ∙ length_codes 0 m.code
  length_unit file base (Merge units) _ (merged {m = m} {ms = ms} are) = ap suc (length_units file (suc base) units m ms are)

  length_units : (file : Name) (base : ℕ) (us : Units) (m : ResolvedModule) (ms : List ResolvedModule) → AreModulesOf us m ms → length (contents_of file us base) ≡ sizes_of (trees_of (m ∷ ms))
  length_units file base (Part u) m _ (last_unit is) = let e = length_unit file base u m is in omega (arith, e)
  length_units file base (Parts u us) m _ (next_unit {n = n} {ns = ns} is are) =
      let k = base + length (contents file u base) in
      omega (arith, length-append (contents file u base) (contents_of file us k), length_unit file base u m is, length_units file k us n ns are)

mutual
  first_is : (u : Unit) (m : ResolvedModule) → IsModuleOf u m → m.source ≡ first_file u
  first_is (Single source) m (translated tr) = tr.file
  first_is (Merge units) _ (merged {m = m} {ms = ms} are) = first_of_is units m ms are

  first_of_is : (us : Units) (m : ResolvedModule) (ms : List ResolvedModule) → AreModulesOf us m ms → m.source ≡ first_file_of us
  first_of_is (Part u) m _ (last_unit is) = first_is u m is
  first_of_is (Parts u us) m _ (next_unit is are) = first_is u m is

-- ---- what a library holds of a unit

module _ (library : Library) (K : ℕ) (name : Name) (whole : ResolvedModule) (entry : libraries.entry_in library name ≡ Some (Holds (module_of whole))) (file : Name) (file_is : whole.source ≡ file) where
  abbrev all : List Code
  all = codes_from 0 whole.code

  code_is : (n : ℕ) → code_at library name n ≡ slice_get all n
  code_is n = ap (λ o. code_in (module_in o) n) entry

  -- the codes of a source's own module, where they stand behind others
  shifted_at : (base : ℕ) (m : ResolvedModule) → IsAt all base (codes_from base m.code) → (n : ℕ) (c : Code) → slice_get (codes_from 0 m.code) n ≡ Some c → slice_get all (base + n) ≡ Some (shifted base c)
  shifted_at base m at n c e =
      let i : base ≡ base + 0 = omega arith in
      at n (shifted base c) (ap (λ k. slice_get (codes_from k m.code) n) i ∙ ap (λ l. slice_get l n) (codes_shift base 0 m.code) ∙ slice_get-map (shifted base) (codes_from 0 m.code) n ∙ ap (option_map (shifted base)) e)

  text_held : (source : Source) (m : ResolvedModule) → Translates source m → (base : ℕ) → IsAt all base (codes_from base m.code) → total (source_texts source.file source 0) ≤ K → (n : ℕ) (text : Text)
      → slice_get (source_texts source.file source 0) n ≡ Some text → (number : ℕ) → number ≡ base + n → IsText library K name number (placed file base text)
  text_held source m tr base at le n text e number is =
      let held : Stands (codes_from 0 m.code) (Some text) (slice_get (codes_from 0 m.code) n) = subst (λ o. Stands (codes_from 0 m.code) o (slice_get (codes_from 0 m.code) n)) e (stand_at (codes_from 0 m.code) true (source_texts source.file source 0) (codes_from 0 m.code) n tr.codes) in
      let size : bsize text.body ≤ total (source_texts source.file source 0) = subst (λ o. or_size o ≤ total (source_texts source.file source 0)) e (in_total (source_texts source.file source 0) n) in
      record {
        m = module_of whole;
        code = shifted base held.0;
        of_module = ap module_in entry;
        of_code = ap (code_at library name) is ∙ code_is (base + n) ∙ shifted_at base m at n held.0 held.1;
        file = file_is;
        own = held.0;
        all = codes_from 0 m.code;
        is_own = refl;
        codes = shifted_at base m at;
        is_module = held.2;
        stands = placed_stands (codes_from 0 m.code) held.2 text held.0 file base (text_base source.file source 0 n text e) held.3;
        small = omega (arith, size, le);
      }

  -- the lines of a merge's own code
  abbrev lines_of : ℕ → List Resolved → List Line
  lines_of size rs = map (line_of size) (map on_line_1 rs)

  calls_held : (code : Code) (size : ℕ) (end : List Resolved) (us : Units) (m : ResolvedModule) (ms : List ResolvedModule) → AreModulesOf us m ms → (p index child : ℕ) → From code.lines p (lines_of size (calls index (suc (length ms)) ++ end))
      → From code.children index (numbers_from child (trees_of (m ∷ ms))) → (q : ℕ) × AreCalls code p index child us q × From code.lines q (lines_of size end)
  calls_held code size end (Part u) m _ (last_unit is) p index child f g =
      let f1 = from_more code.lines _ p _ f in
      let f2 = from_more code.lines _ (suc p) _ f1 in (
        suc (suc (suc p)),
        (record { make = from_first code.lines _ p _ f; call = from_first code.lines _ (suc p) _ f1; pop = from_first code.lines _ (suc (suc p)) _ f2; is = from_first code.children _ index child g }, refl),
        from_more code.lines _ (suc (suc p)) _ f2,
      )
  calls_held code size end (Parts u us) m _ (next_unit {n = n} {ns = ns} is are) p index child f g =
      let f1 = from_more code.lines _ p _ f in
      let f2 = from_more code.lines _ (suc p) _ f1 in
      let call : IsCall code p index child = record { make = from_first code.lines _ p _ f; call = from_first code.lines _ (suc p) _ f1; pop = from_first code.lines _ (suc (suc p)) _ f2; is = from_first code.children _ index child g } in
      let same : child + size_of m.code ≡ child + programs.size u = omega (arith, length_unit [] 0 u m is) in
      let rest = calls_held code size end us n ns are (suc (suc (suc p))) (suc index) (child + size_of m.code) (from_more code.lines _ (suc (suc p)) _ f2) (from_more code.children _ index child g) in
      (rest.0, (call, subst (λ k. AreCalls code (suc (suc (suc p))) (suc index) k us rest.0) same rest.1), rest.2)

  outer_held : (base : ℕ) (units : Units) (m : ResolvedModule) (ms : List ResolvedModule) → AreModulesOf units m ms → IsAt all base (codes_from base (merge_of m ms).code) → IsOuter library file name base units
  outer_held base units m ms are at =
      let body = outer_body (suc (length ms)) in
      let code = libraries.code_of body (numbers_from (suc base) (trees_of (m ∷ ms))) in
      let end = plain (instrs.Plain ops.LoadConstNone) ∷ plain (instrs.Plain ops.ReturnValue) ∷ [] in
      let i : base ≡ base + 0 = omega arith in
      let held = calls_held code (length body.lines) end units m ms are 0 0 (suc base) (record { each = λ i. ap (slice_get code.lines) (omega arith) }) (record { each = λ i. ap (slice_get code.children) (omega arith) }) in
      record {
        m = module_of whole;
        code = code;
        of_module = ap module_in entry;
        of_code = code_is base ∙ ap (slice_get all) i ∙ at 0 code refl;
        file_is = file_is;
        name_is = refl;
        params = refl;
        given = refl;
        last = held.0;
        calls = held.1;
        none = from_first code.lines _ held.0 _ held.2;
        return = from_first code.lines _ (suc held.0) _ (from_more code.lines _ held.0 _ held.2);
      }

  mutual
    unit_held : (u : Unit) (m : ResolvedModule) → IsModuleOf u m → (base : ℕ) → IsAt all base (codes_from base m.code) → unit_total u ≤ K → IsUnit library K file name base u
    unit_held (Single source) m (translated tr) base at le = text_held source m tr base at le 0 (module_text source.file source 0) refl base (omega arith)
    unit_held (Merge units) _ (merged {m = m} {ms = ms} are) base at le =
        (outer_held base units m ms are at, units_held units m ms are (suc base) (at_more all base _ (codes_of (suc base) (trees_of (m ∷ ms))) at) le)

    units_held : (us : Units) (m : ResolvedModule) (ms : List ResolvedModule) → AreModulesOf us m ms → (base : ℕ) → IsAt all base (codes_of base (trees_of (m ∷ ms))) → units_total us ≤ K → AreUnits library K file name base us
    units_held (Part u) m _ (last_unit is) base at le = unit_held u m is base (at_front all base (codes_from base m.code) [] at) le
    units_held (Parts u us) m _ (next_unit {n = n} {ns = ns} is are) base at le =
        let rest = codes_of (base + size_of m.code) (trees_of (n ∷ ns)) in (
          unit_held u m is base (at_front all base (codes_from base m.code) rest at) (omega (arith, le)),
          subst (λ k. AreUnits library K file name (base + k) us) (sym (length_unit [] 0 u m is))
              (units_held us n ns are (base + size_of m.code) (at_behind all base (size_of m.code) (codes_from base m.code) rest (length_codes base m.code) at) (omega (arith, le))),
        )

  -- each content of a unit
  text_by : (source : Source) (m : ResolvedModule) → Translates source m → (base : ℕ) → IsAt all base (codes_from base m.code) → total (source_texts source.file source 0) ≤ K → (n number : ℕ) → number ≡ base + n
      → (o : Option Text) → slice_get (source_texts source.file source 0) n ≡ o → (c : Content) → option_map OfText (option_map (placed file base) o) ≡ Some c → IsCode library K name number (Some c)
  text_by source m tr base at le n number is (Some text) e c f = subst (λ o. IsCode library K name number o) f (text_held source m tr base at le n text e number is)
  text_by source m tr base at le n number is None e c f = absurd cc

  mutual
    content_held : (u : Unit) (m : ResolvedModule) → IsModuleOf u m → (base : ℕ) → IsAt all base (codes_from base m.code) → unit_total u ≤ K → (n : ℕ) (c : Content) → slice_get (contents file u base) n ≡ Some c
        → (number : ℕ) → number ≡ base + n → IsCode library K name number (Some c)
    content_held (Single source) m (translated tr) base at le n c e number is =
        text_by source m tr base at le n number is (slice_get (source_texts source.file source 0) n) refl c
        (sym (slice_get-map OfText (source_texts file source base) n ∙ ap (option_map OfText) (ap (λ l. slice_get l n) (placed_texts file source.file source base 0) ∙ slice_get-map (placed file base) (source_texts source.file source 0) n)) ∙ e)
    content_held (Merge units) _ (merged {m = m} {ms = ms} are) base at le zero c e number is =
        subst (λ o. IsCode library K name number o) e (omega (arith, is), unit_held (Merge units) (merge_of m ms) (merged are) base at le)
    content_held (Merge units) _ (merged {m = m} {ms = ms} are) base at le (suc n) c e number is =
        contents_held units m ms are (suc base) (at_more all base _ (codes_of (suc base) (trees_of (m ∷ ms))) at) le n c e number (omega (arith, is))

    contents_held : (us : Units) (m : ResolvedModule) (ms : List ResolvedModule) → AreModulesOf us m ms → (base : ℕ) → IsAt all base (codes_of base (trees_of (m ∷ ms))) → units_total us ≤ K → (n : ℕ) (c : Content) → slice_get (contents_of file us base) n ≡ Some c
        → (number : ℕ) → number ≡ base + n → IsCode library K name number (Some c)
    contents_held (Part u) m _ (last_unit is) base at le n c e number i = content_held u m is base (at_front all base (codes_from base m.code) [] at) le n c e number i
    contents_held (Parts u us) m _ (next_unit {n = n1} {ns = ns} is are) base at le n c e number i =
        let rest = codes_of (base + size_of m.code) (trees_of (n1 ∷ ns)) in
        let first = contents file u base in
        let same : length first ≡ size_of m.code = length_unit file base u m is in
        elim (got_in first (contents_of file us (base + length first)) n c e) [
          | inl p ↦ content_held u m is base (at_front all base (codes_from base m.code) rest at) (omega (arith, le)) n c p number i
          | inr q ↦ contents_held us n1 ns are (base + size_of m.code) (at_behind all base (size_of m.code) (codes_from base m.code) rest (length_codes base m.code) at) (omega (arith, le)) q.0 c
              (ap (λ k. slice_get (contents_of file us (base + k)) (q.0)) (sym same) ∙ q.2) number (omega (arith, i, q.1, same))
        ]

  at_all : IsAt all 0 all
  at_all n c e = let i : 0 + n ≡ n = omega arith in ap (slice_get all) i ∙ e

  content_is : (u : Unit) → IsModuleOf u whole → unit_total u ≤ K → (n : ℕ) (o : Option Content) → slice_get (contents file u 0) n ≡ o → IsCode library K name n o
  content_is u is le n (Some c) e = content_held u whole is 0 at_all le n c e n (omega arith)
  content_is u is le n None e = code_is n ∙ same_none (contents file u 0) all n (length_unit file 0 u whole is ∙ sym (length_codes 0 whole.code)) e

-- ---- names

module _ (library : Library) (K : ℕ) (name : Name) where
  started_unit : (u : Unit) (m : ResolvedModule) → IsModuleOf u m → libraries.entry_in library name ≡ Some (Holds (module_of m)) → unit_total u ≤ K → StartsUnit library K name u
  started_unit u m is entry le =
      let unit : IsUnit library K (first_file u) name 0 u = unit_held library K name m entry (first_file u) (first_is u m is) u m is 0 (at_all library K name m entry (first_file u) (first_is u m is)) le in
      let head = head_of library K (first_file u) name 0 u unit in
      record { m = module_of m; code = head.code; entry = entry; of_code = sym (ap (λ o. code_in (module_in o) 0) entry) ∙ head.of_code; unit = unit }

  started_entry : (o : Option programs.Entry) → IsEntryOf o (libraries.entry_in library name) → found_total o ≤ K → IsStart library K name o
  started_entry None e le = e
  started_entry (Some Refused) e le = e
  started_entry (Some (Runs u)) e le = started_unit u e.0 e.1 e.2 le

  by_unit : (u : Unit) (m : ResolvedModule) → IsModuleOf u m → libraries.entry_in library name ≡ Some (Holds (module_of m)) → unit_total u ≤ K → (number : ℕ) → IsCode library K name number (slice_get (contents (first_file u) u 0) number)
  by_unit u m is entry le number = content_is library K name m entry (first_file u) (first_is u m is) u is le number (slice_get (contents (first_file u) u 0) number) refl

  by_entry : (o : Option programs.Entry) → IsEntryOf o (libraries.entry_in library name) → found_total o ≤ K → (number : ℕ) → IsCode library K name number (option_and_then (λ unit. slice_get (contents (first_file unit) unit 0) number) (unit_in o))
  by_entry None e le number = ap (λ x. code_in (module_in x) number) e
  by_entry (Some Refused) e le number = ap (λ x. code_in (module_in x) number) e
  by_entry (Some (Runs u)) e le number = by_unit u e.0 e.1 e.2 le number

-- no body of a program is greater than K, of which there is a least one
module _ (program : Program) (library : Library) (links : Links program library) (K : ℕ) (le : greatest program ≤ K) where
  by_name : (name : Name) (number : ℕ) (b : Bool) → bytes_eq name program.main_name ≡ b
      → IsCode library K name number (option_and_then (λ unit. slice_get (contents (first_file unit) unit 0) number) (if b then Some program.main else unit_in (entry_in program.entries name)))
  by_name name number true e =
      subst (λ y. IsCode library K y number (slice_get (contents (first_file program.main) program.main 0) number)) (sym ((bytes_eq-Decides name program.main_name).0 e))
      (by_unit library K program.main_name program.main links.main.0 links.main.1 links.main.2 (omega (arith, le)) number)
  by_name name number false e =
      by_entry library K name (entry_in program.entries name) (links.entries name differs) (omega (arith, in_entries program.entries name, le)) number
    where
      differs : name ≡ codes "__main__" → program.main_name ≡ codes "__main__" → ⊥
      differs p q = let same : bytes_eq name program.main_name ≡ true = (bytes_eq-Decides name program.main_name).1 (p ∙ sym q) in cc

  -- each text and each merge of a program has its code in a library of its modules
  pub linked : Coded program library K
  linked name number = by_name name number (bytes_eq name program.main_name) refl

  -- and each entry is there
  pub started_all : Started program library K
  started_all name other = started_entry library K name (entry_in program.entries name) (links.entries name (λ p q. other p)) (omega (arith, in_entries program.entries name, le))

-- a program, in a library of its modules, behaves as it means
pub behaves_linked : (program : Program) (library : Library) → Links program library → (cells bytes : ℕ) (ports : List PortState) → Behaves program library cells bytes ports
behaves_linked program library links cells bytes ports =
    let K = greatest program in
    let start : StartsUnit library K program.main_name program.main = started_unit library K program.main_name program.main links.main.0 links.main.1 links.main.2 (omega arith) in
    behaves program library K (omega arith) (linked program library links K (omega arith)) (started_all program library links K (omega arith)) start.code (ap (λ o. code_in (module_in o) 0) start.entry ∙ start.of_code) start.unit cells bytes ports
