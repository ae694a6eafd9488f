-- Each code of a translation may be written.
use Rattle.std.proofs.Common.{◌≡◌, ℕ, suc, ◌+◌, ◌<◌, ◌≤◌, ◌^◌, Bool, true, false, List, [], ◌∷◌, length, map, Some, refl, sym, ap, subst, ◌∙◌, arith, slice_get, get_or, All}
use Rattle.std.specs.Prelude.{nat_eq, if◌then◌else◌}
use Rattle.std.specs.List.{list_all, AllByRecursion}
use Rattle.std.proofs.lemmas.List.{length-map}
use Rattle.std.proofs.lemmas.List.Elements.{All-from_recursion}
use Rattle.emit_module.specs.bc_machine.bc_ops.Table.{form_of, name_form, number_form, jump_form, plain_form, short_form}
use Rattle.mpy_writer.specs.mpy_tree.declared.module.Code.{Code as Made, out-Code}
use Rattle.mpy_writer.specs.mpy_tree.Resolved.{ResolvedLine, Body, resolved_item, IsBodyOf}
use Rattle.mpy_writer.specs.mpy_tree.declared.module.Item.TheVariants as items
use Rattle.mpy_writer.specs.bc_labels.Choice.{IsTooFar}
use Rattle.mpy_writer.specs.declared.tables.Tables.{Tables}
use Rattle.mpy_writer.specs.File.{labelled}
use Rattle.mpy_writer.specs.Tables.{TablesFit}
use Rattle.mpy_writer.specs.Writable.{IsText, IsSoundItem, NeverFall, IsSoundCode}
use Rattle.mpy_writer.proofs.Near.{GoesAhead, none_far}
use Rattle.emit_module.specs.py_meaning.Tree.{Name}
use Rattle.emit_module.specs.py_meaning.Program.{Text}
use Rattle.emit_module.specs.bc_machine.Library.{Code, Line, code_of, item_of, line_of}
use Rattle.emit_module.specs.bc_scheme.Context.{Context}
use Rattle.emit_module.specs.bc_scheme.Translation.{own, StandsCode, HasState}
use Rattle.emit_module.specs.bc_resolved.Operands.{IsInside}
use Rattle.emit_module.specs.bc_resolved.Verified.{IsVerifiedBody}
use Rattle.emit_module.specs.tr_source.Within as limits
use Rattle.emit_module.specs.emit_measures.Lengths.{text_length}
use Rattle.emit_module.specs.emit_measures.Wide.{wide_length}
use Rattle.emit_module.specs.emit_measures.Stands.{IsCodeOf}
use Rattle.emit_module.specs.tr_source.Spelled.{IsAscii, AllAscii, BlockSpelled}
use Rattle.mpy_compile.specs.Texts.{text_fits, code_fits}
use Rattle.mpy_compile.proofs.Wells.{IsWell, IsAhead, Kept}
use Rattle.mpy_compile.proofs.Near.{sizes_few, item_at, goes_ahead}
use Rattle.mpy_compile.proofs.Regions.{Region, Fine, joined, behind}
use Rattle.mpy_compile.proofs.Stmts.{b_own}
use Rattle.mpy_compile.proofs.Lengths.{own_few, no_more_lines}
use Rattle.mpy_compile.proofs.Items.{and_left, and_right, text_is, item_in, line_at, items_sound, lines_rise, front, front_is, found_line, line_found, within_found}

abbrev pub LengthsLaw : Type 0
LengthsLaw = (c : Context) (text : Text) → IsCodeOf c text → wide_length c.lines ≡ text_length text.locals text.level text.body

-- what is known of a text
pub record Known (text : Text) : Type 0 where
  pub name : IsAscii text.name
  pub params : AllAscii text.params
  pub given : text.given ≤ length text.params
  pub first : ℕ
  pub last : ℕ
  pub from_one : 1 ≤ first
  pub body : BlockSpelled first last text.body
  pub within : limits.IsWithin text
  pub short : text_length text.locals text.level text.body ≤ 16000

-- what is known of a code without its children
pub record BodyFact (all : List Code) (body : Body) (numbers : List ℕ) : Type 0 where
  pub text : Text
  pub known : Known text
  pub is_module : Bool
  pub stands : StandsCode all is_module text (code_of body numbers)
  pub state : HasState text body

module _ (law : LengthsLaw) (all : List Code) (body : Body) (numbers : List ℕ) (f : BodyFact all body numbers) (count : ℕ) (counted : length numbers ≡ count) (verified : IsVerifiedBody count body) where
  abbrev size : ℕ
  size = length body.lines

  abbrev text : Text
  text = f.text

  abbrev c : Context
  c = record { lines = map (line_of size) body.lines; level = text.level; is_module = f.is_module; locals = text.locals; children = numbers; base = text.base; codes = all }

  is_code : IsCodeOf c text
  is_code = record { level = refl; locals = refl; last = f.stands.last; length = f.stands.length; body = f.stands.body; none = f.stands.none; return = f.stands.return }

  bytes : wide_length c.lines ≤ 16000
  bytes = let e = law c text is_code in let s = f.known.short in omega (arith, e, s)

  few_lines : size ≤ 16000
  few_lines = let a = no_more_lines c.lines in let b = bytes in let e = length-map body.lines (line_of size) in omega (arith, a, b, e)

  pub few_children : count ≤ 65535
  few_children =
      let e = ap length f.stands.children in
      let m = length-map (own text.body) (λ n. text.base + n) in
      let o = own_few text.locals text.level false false text.body in
      let s = f.known.short in
      omega (arith, e, m, o, s, counted)

  small_state : body.n_state ≤ 4096
  small_state = let e = f.state.n_state in let w = f.known.within.slots in omega (arith, e, w)

  kept : (p : ℕ) (l : Line) → slice_get c.lines p ≡ Some l → Kept size body.n_state count l.item
  kept p l e =
      let x = line_found size body.lines p l e in
      subst (λ (z : Line). Kept size body.n_state count z.item) x.is (verified.instructions p x.line.item x.here)

  -- the whole code
  whole : Region c size body.n_state count kept 0 (suc (suc f.stands.last)) f.known.first f.known.last
  unfolding form_of name_form number_form jump_form plain_form short_form
  whole =
      let last = f.stands.last in
      let k = f.known in
      joined c size body.n_state count kept
      (joined c size body.n_state count kept (b_own c size body.n_state count small_state few_children kept (record { brk = last; cont = last; count = 0; iterator = false }) k.first k.last 0 last text.body k.body k.within.arguments f.stands.body)
      (behind c size body.n_state count kept last k.last _ (λ z. (tt, refl)) f.stands.none))
      (behind c size body.n_state count kept (suc last) k.last _ (λ z. (tt, refl)) f.stands.return)

  shown_one : (b : Bool) (n : ℕ) → 1 ≤ n → 1 ≤ (if b then 1 else n)
  shown_one true n h = omega arith
  shown_one false n h = h

  fine : (i : ℕ) (x : ResolvedLine) → slice_get body.lines i ≡ Some x → Fine c size body.n_state count kept i (line_of size x)
  fine i x e =
      let within = within_found body.lines i x e in
      let long = f.stands.length in
      let lines = length-map body.lines (line_of size) in
      whole.each (shown_one (nat_eq c.level 3) f.known.first f.known.from_one) i (line_of size x) (omega arith) (omega (arith, within, long, lines)) (found_line size body.lines i x e)

  is_ahead : (i : ℕ) (x : ResolvedLine) → slice_get body.lines i ≡ Some x → IsAhead i (item_of size x.item)
  is_ahead i x e = (fine i x e).ahead

  good : (i : ℕ) (x : ResolvedLine) → slice_get body.lines i ≡ Some x → IsWell (item_of size x.item) × IsInside size (item_of size x.item)
  good i x e = ((fine i x e).well, (kept i (line_of size x) (found_line size body.lines i x e)).target)

  rise : (i : ℕ) (x : ResolvedLine) → slice_get body.lines i ≡ Some x → front 1 body.lines i ≤ x.line
  rise i x e = let up = (fine i x e).up in let same = front_is size body.lines i in omega (arith, up, same)

  -- no jump is too far
  pub code_near : (tables : Tables) → TablesFit tables → (made : Made) → IsBodyOf made body → IsTooFar (labelled tables made) → ⊥
  code_near tables fit made is =
      let instrs = (out-Code made).instrs in
      let bytes_few = bytes in
      let most = sizes_few size body.n_state count small_state few_children tables fit body.lines instrs is.instrs (λ i x e. ((fine i x e).well, kept i (line_of size x) (found_line size body.lines i x e))) in
      let count_is : size ≡ length instrs = omega (arith, ap length is.instrs, length-map body.lines item_in, length-map instrs resolved_item) in
      none_far tables instrs (omega (arith, most, bytes_few))
      (λ p lt.
      let x = item_at body.lines instrs is.instrs p lt in
      subst (λ (n : ℕ). GoesAhead n p (get_or instrs p (items.Unwind 0 0))) count_is
      (goes_ahead size p (get_or instrs p (items.Unwind 0 0))
      (subst (λ r. IsInside size (item_of size r)) x.same (good p x.line x.here).1)
      (subst (λ r. IsAhead p (item_of size r)) x.same (is_ahead p x.line x.here))))

  texts_are : (names : List Name) → AllAscii names → list_all text_fits names ≡ true → AllByRecursion IsText names
  texts_are [] a e = tt
  texts_are (name ∷ names) a e = (text_is name a.0 (and_left (text_fits name) _ e), texts_are names a.1 (and_right (text_fits name) _ e))

  few_lines_small : size < 2 ^ 32
  few_lines_small = let h = few_lines in omega (arith, h)

  pub code_sound : (made : Made) → IsBodyOf made body → code_fits made ≡ true → length (out-Code made).children ≡ count → IsSoundCode made
  code_sound made is fits children =
      let k = f.known in
      let texts = and_right (text_fits (out-Code made).name) _ fits in
      let name : (out-Code made).name ≡ text.name = sym is.name ∙ f.stands.name in
      let args : (out-Code made).args ≡ text.params = sym is.args ∙ f.stands.params in
      let n_state = is.n_state in
      let n_exc = is.n_exc in
      let state = f.state.n_state in
      let held = f.state.n_exc in
      let slots = k.within.slots in
      let entries = k.within.entries in
      let params = k.within.params in
      let given = k.given in
      let defaults = is.defaults in
      let told = f.stands.given in
      let same_args = ap length args in
      let instrs = ap length is.instrs in
      let lines = ap length is.lines in
      let l1 = length-map body.lines item_in in
      let l2 = length-map body.lines line_at in
      let l3 = length-map (out-Code made).instrs resolved_item in
      let few = few_children in
      let count_is : size ≡ length (out-Code made).instrs = omega (arith, instrs, l1, l3) in
      record {
        name = text_is (out-Code made).name (subst IsAscii (sym name) k.name) (and_left (text_fits (out-Code made).name) _ fits);
        args = All-from_recursion IsText (out-Code made).args (texts_are (out-Code made).args (subst AllAscii (sym args) k.params) (and_left (list_all text_fits (out-Code made).args) _ texts));
        few_args = omega (arith, same_args, params);
        defaults = omega (arith, same_args, given, defaults, told);
        some_state = omega (arith, n_state, state);
        few_state = omega (arith, n_state, state, slots);
        few_handlers = omega (arith, n_exc, held, entries);
        instrs = subst (λ n. All (IsSoundItem n) (out-Code made).instrs) count_is
            (All-from_recursion (IsSoundItem size) (out-Code made).instrs (items_sound size few_lines_small body.lines (out-Code made).instrs is.instrs good (and_right (list_all text_fits (out-Code made).args) _ texts)));
        a_line_each = omega (arith, lines, l2, count_is);
        lines = subst (NeverFall 1) is.lines (lines_rise 1 body.lines rise);
        few_children = omega (arith, children, few);
      }
