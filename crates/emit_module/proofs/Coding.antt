-- The code of a text, and of a function.
use Rattle.std.proofs.Common.{◌≡◌, ◌≤◌, ◌<◌, ℕ, suc, ◌+◌, Bool, true, false, List, [], ◌∷◌, ◌++◌, length, map, Option, Some, None, refl, sym, ap, ◌∙◌, subst, arith, add-one, append-nil}
use Rattle.std.specs.Prelude.{Result, Ok, Err, IfOk, IfErr, OnOk, IfNone, IfSome, slice_get}
use Rattle.mpy_base.specs.declared.source.SourceFault.{SourceFault}
use Rattle.mpy_base.specs.declared.refused.Refused.{Refused}
use Rattle.mpy_base.specs.declared.refused.Refused.TheVariants.{Fault, NoMemory}
use Rattle.mpy_writer.specs.mpy_tree.declared.module.Code.{out-Code}
use Rattle.py_tree.specs.declared.stmt.Param.{Param}
use Rattle.py_tree.specs.declared.stmt.Stmt as stmts
use Rattle.tr_source.specs.py_meaning.Tree.{Name, count, Function, Block, End}
use Rattle.tr_source.specs.py_meaning.Plain.{Part, defaults_of, numbered}
use Rattle.tr_source.specs.py_meaning.Program.{Source, Text, or_none}
use Rattle.emit_stmt.specs.emit_draft.declared.draft.Draft.{Draft}
use Rattle.emit_stmt.specs.emit_draft.declared.scope.Scope.{Scope}
use Rattle.emit_measures.specs.Lengths.{text_length}
use Rattle.emit_measures.specs.TextLengths.{HasTextLength}
use Rattle.emit_measures.specs.declared.faults.Measures.{Measures}
use Rattle.emit_measures.specs.Limits.{saturated}
use Rattle.emit_measures.specs.Faults.{fault_of, IsMeasured}
use Rattle.emit_measures.specs.bc_scheme.Heights.{tall_block, held_in}
use Rattle.emit_stmt.specs.emit_draft.Finished.{Names, IsFinished}
use Rattle.emit_stmt.specs.Parts.{plain_block}
use Rattle.emit_stmt.specs.Text.{EmitsText}
use Rattle.emit_module.specs.declared.own.Place.{Place}
use Rattle.emit_module.specs.declared.own.OwnCode.{OwnCode}
use Rattle.emit_module.specs.declared.walk.Children.{Children}
use Rattle.emit_module.specs.Counted.{HasLength, on_draft, on_tree, AreCounted, IsFine, IsBroken}
use Rattle.emit_module.specs.Own.{IsTextOf, IsCounted, IsOwn, IsRefused, IsWritten}
use Rattle.emit_module.specs.Walk.{Forest, size, def_lines, planted, planted_in, text_at, IsTextCode, IsTextRefused, IsMadeCode, Grows, no_code, with_code, Breaks, here, inside, IsWalked, Walks, WalksAll, begun, BodyWalks, WalksBody, place_of, CodesText, CodesFunction, IsPut}
use Rattle.emit_module.proofs.Limiting.{shallow, few_params}

-- ---- a text

length_of : {place : Place} {draft : Draft} {scope : Scope} {body : List stmts.Stmt} {text : Text} (m : Measures) (crowded : Bool) → crowded ≡ draft.crowded → EmitsText draft text.level scope (plain_block body)
    → IsTextOf place scope body text → IsCounted place draft text m → HasLength text m.length
length_of m true e emitted is counted = on_tree (counted.full (sym e))
length_of {draft = draft} {scope = scope} {body = body} m false e emitted is counted = on_draft (record {
  draft = draft;
  scope = scope;
  locals = sym is.locals;
  part = plain_block body;
  first = is.first;
  body = is.body;
  emitted = emitted;
  roomy = sym e;
  is = counted.roomy (sym e);
})

counts_are : {place : Place} {draft : Draft} {scope : Scope} {body : List stmts.Stmt} {text : Text} {m : Measures} → EmitsText draft place.level scope (plain_block body) → IsTextOf place scope body text → IsCounted place draft text m
    → AreCounted (record { line = place.line; depth = place.depth }) text m
counts_are {place = place} {draft = draft} {scope = scope} {body = body} {text = text} {m = m} emitted is counted = record {
  numbers = counted.numbers;
  length = length_of m draft.crowded refl (subst (λ z. EmitsText draft z scope (plain_block body)) (sym is.level) emitted) is counted;
  depth = counted.depth;
  crowded = counted.crowded ∙ emitted.crowded is.first ∙ ap (λ z. Rattle.emit_stmt.specs.Crowded.crowded_block z 0 ((plain_block body).make is.first)) (sym is.level)
      ∙ ap (λ z. Rattle.emit_stmt.specs.Crowded.crowded_block text.level 0 z) (sym is.body);
}

refused_text : (place : Place) (draft : Draft) (scope : Scope) (body : List stmts.Stmt) (text : Text) (refusal : Refused SourceFault) → EmitsText draft place.level scope (plain_block body) → IsTextOf place scope body text
    → IsRefused place draft text refusal → IsTextRefused (record { line = place.line; depth = place.depth }) text refusal
refused_text place draft scope body text (Fault fault) emitted is r = record { counts = r.counts; are_counts = counts_are emitted is r.counted; code = r.code; line = r.line; word = r.word }
refused_text place draft scope body text NoMemory emitted is r = tt

pub codes_text : (place : Place) (draft : Draft) (scope : Scope) (body : List stmts.Stmt) (r : Result OwnCode (Refused SourceFault)) → EmitsText draft place.level scope (plain_block body)
    → IfOk r (λ code. IsFinished draft code.lines) → IfOk r (λ code. (text : Text) → IsTextOf place scope body text → IsOwn place draft text code)
    → IfErr r (λ refused. (text : Text) → IsTextOf place scope body text → IsRefused place draft text refused)
    → (text : Text) → IsTextOf place scope body text → CodesText place scope.is_module body text r
codes_text place draft scope body (Ok code) emitted lines within refused text is =
    let o = within text is in
    record {
      draft = draft;
      scope = scope;
      is_module = refl;
      is_text = is;
      emitted = emitted;
      roomy = o.roomy;
      finished = lines;
      n_state = o.n_state;
      n_exc = o.n_exc;
      within = record { counts = o.counts; are_counts = counts_are emitted is o.counted; none = o.within };
    }
codes_text place draft scope body (Err refusal) emitted lines within refused text is = refused_text place draft scope body text refusal emitted is (refused text is)

pub no_text : (place : Place) (own : Bool) (body : List stmts.Stmt) (refusal : Refused SourceFault) (text : Text) → refusal ≡ NoMemory → CodesText place own body text (Err refusal)
no_text place own body (Fault fault) text e = cc
no_text place own body NoMemory text e = tt

-- ---- a function

length_names : (params : List Param) → length (map (λ (param : Param). param.name) params) ≡ length params
length_names [] = refl
length_names (p ∷ ps) = ap suc (length_names ps)

pub function_codes : {slots : List (List Name)} {scope : Scope} (around : Children) (line len : ℕ) (params : List Param) (body : List stmts.Stmt) (r : Result OwnCode (Refused SourceFault)) → len ≡ length params
    → Names scope false (or_none (slice_get slots around.next))
    → ((text : Text) → IsTextOf (record { level = around.level; line = line; depth = around.depth + 1; params = len }) scope body text
    → CodesText (record { level = around.level; line = line; depth = around.depth + 1; params = len }) scope.is_module body text r) → CodesFunction slots around line params body r
function_codes {slots = slots} {scope = scope} around line len params body r count names codes = record {
  by = λ source l s f is.
      let text = text_at source around.next f in
      subst (λ z. CodesText (record { level = around.level; line = line; depth = around.depth + 1; params = z }) false body text r) count
      (subst (λ z. CodesText (record { level = around.level; line = line; depth = around.depth + 1; params = len }) z body text r) names.is_module
      (codes text (record {
        level = l;
        params = count ∙ sym (length_names params) ∙ ap length (sym is.names);
        locals = ap (λ z. or_none (slice_get z around.next)) s ∙ sym names.locals;
        first = is.number;
        body = is.made;
      })));
}

pub no_function : {slots : List (List Name)} {around : Children} {line : ℕ} {params : List Param} {body : List stmts.Stmt} (refusal : Refused SourceFault) → refusal ≡ NoMemory → CodesFunction slots around line params body (Err refusal)
no_function {around = around} {line = line} {params = params} {body = body} refusal e = record { by = λ source l s f is. no_text (place_of around line params) false body refusal (text_at source around.next f) e }

some_code : {slots : List (List Name)} {around : Children} {line : ℕ} {params : List Param} {body : List stmts.Stmt} (own : OwnCode) → CodesFunction slots around line params body (Ok own)
    → (text : Text) × IsTextCode (place_of around line params) false body text own
some_code {slots = slots} {around = around} {params = params} {body = body} own codes =
    let f : Function = record { name = []; params = map (λ (param : Param). param.name) params; given = 0; body = (plain_block body).make 0 } in
    let source : Source = record { file = []; level = around.level; body = End; locals = slots } in
    (text_at source around.next f, codes.by source refl refl f (record { names = refl; number = 0; made = refl }))

pub function_shallow : {slots : List (List Name)} {around : Children} {line : ℕ} {params : List Param} {body : List stmts.Stmt} (r : Result OwnCode (Refused SourceFault)) → CodesFunction slots around line params body r → OnOk r (around.depth + 1 < 32)
function_shallow (Ok own) codes = let c = some_code own codes in let h = shallow c.1.within.counts c.1.within.none in let d = c.1.within.are_counts.depth in omega (arith, h, d)
function_shallow (Err refusal) codes = tt

pub function_params : {slots : List (List Name)} {around : Children} {line : ℕ} {params : List Param} {body : List stmts.Stmt} (r : Result OwnCode (Refused SourceFault)) → CodesFunction slots around line params body r → OnOk r (length params ≤ 255)
function_params {params = params} (Ok own) codes =
    let c = some_code own codes in
    let h = few_params c.1.within.counts c.1.within.none in
    let d = c.1.within.are_counts.numbers.params in
    let e = c.1.is_text.params in
    omega (arith, h, d, e)
function_params (Err refusal) codes = tt

-- the fault of a function with many locals
abbrev IsManyFault : (level : ℕ) → List Name → List stmts.Stmt → SourceFault → Type 0
IsManyFault level locals body fault = (text : Text) (n : ℕ) → text.level ≡ level → text.locals ≡ locals → text.body ≡ (plain_block body).make n
    → (measures : Measures) → IsMeasured text measures → HasTextLength text measures → fault_of measures ≡ Some fault.code

pub many_fault : {slots : List (List Name)} (around : Children) (line : ℕ) (params : List Param) (body : List stmts.Stmt) (fault : SourceFault)
    → IsManyFault around.level (or_none (slice_get slots around.next)) body fault → fault.line ≡ line → fault.word ≡ [] → CodesFunction slots around line params body (Err (Fault fault))
many_fault around line params body fault code line_is word = record {
  by = λ source l s f is.
      let text : Text = text_at source around.next f in
      let m : Measures = record {
        length = saturated (text_length text.locals text.level text.body);
        locals = length text.locals;
        params = length text.params;
        height = saturated (tall_block text.level text.body);
        entries = saturated (held_in text.body);
        depth = around.depth + 1;
        crowded = Rattle.emit_stmt.specs.Crowded.crowded_block text.level 0 text.body;
      } in
      record {
        counts = m;
        are_counts = record { numbers = record { locals = refl; params = refl; height = refl; entries = refl }; length = on_tree refl; depth = refl; crowded = refl };
        code = code text is.number l (ap (λ z. or_none (slice_get z around.next)) s) is.made m (record { locals = refl; params = refl; height = refl; entries = refl }) refl;
        line = line_is;
        word = word;
      };
}

-- ---- a function with those in it

at_site : {text : Text} (line depth : ℕ) → IsFine (record { line = line; depth = depth + 1 }) text → IsFine (record { line = line; depth = suc depth }) text
at_site {text = text} line depth h = subst (λ z. IsFine (record { line = line; depth = z }) text) (add-one depth) h

one_function : {slots : List (List Name)} (a b inner : Children) (line : ℕ) (name : Name) (params : List Param) (body : List stmts.Stmt) (own : OwnCode)
    → CodesFunction slots a line params body (Ok own) → WalksBody slots (plain_block body) a (Ok inner) → IsPut a b line name params own inner
    → (source : Source) → source.level ≡ a.level → source.locals ≡ slots → (n : ℕ) → IsWalked source (planted_in line ((numbered name params (plain_block body)).make n)) a b
one_function a b inner line name params body own codes walks put source l s n =
    let f : Function = record { name = name; params = map (λ (param : Param). param.name) params; given = count (defaults_of params); body = (plain_block body).make (suc n) } in
    let forest : Forest = planted ((plain_block body).make (suc n)) in
    let text : Text = text_at source a.next f in
    let c : IsTextCode (place_of a line params) false body text own = codes.by source l s f (record { names = refl; number = suc n; made = refl }) in
    let w : IsWalked source forest (begun a) inner = walks.by source l s (suc n) in
    let written : IsWritten text c.draft c.scope put.head own.lines = record {
      place = place_of a line params;
      stmts = body;
      is_text = c.is_text;
      emitted = c.emitted;
      roomy = c.roomy;
      finished = c.finished;
      name = put.head_is.is_named;
      params = put.head_is.takes;
      given = put.head_is.given;
    } in
    let k = put.code_is in
    let made : IsMadeCode false (record { line = line; depth = suc a.depth }) text put.code = record {
      draft = c.draft;
      scope = c.scope;
      head = put.head;
      lines = own.lines;
      is_module = c.is_module;
      written = written;
      code_is = record { name = k.name; args = k.args; defaults = k.defaults; n_state = k.n_state; n_exc = k.n_exc; instrs = k.instrs; lines = k.lines; children = refl };
      n_state = put.head_is.slots ∙ c.n_state;
      n_exc = put.head_is.entries ∙ c.n_exc;
      within = at_site line a.depth c.within;
    } in
    let children_are : (out-Code put.code).children ≡ w.more = k.children ∙ w.codes in
    let inner_grows : Grows source (suc a.depth) (suc a.next) forest (out-Code put.code).children =
    subst (λ z. Grows source (suc a.depth) z forest (out-Code put.code).children) (add-one a.next)
    (subst (λ z. Grows source z (a.next + 1) forest (out-Code put.code).children) (add-one a.depth) (subst (Grows source (a.depth + 1) (a.next + 1) forest) (sym children_are) w.grows)) in
    let next : b.next ≡ a.next + suc (size forest + 0) = omega (arith, put.next, w.next) in
    record {
      level = put.level;
      depth = put.depth;
      more = put.code ∷ [];
      codes = put.codes;
      next = next;
      lines = put.lines ∙ ap (λ z. a.lines ++ line ∷ z) (w.lines ∙ sym (append-nil (def_lines forest)));
      grows = with_code made refl inner_grows no_code;
    }

pub function_walked : {A : Type 0} {slots : List (List Name)} {a b inner : Children} {line : ℕ} (name : Name) (params : List Param) (body : List stmts.Stmt) (own : OwnCode) (v : A)
    → CodesFunction slots a line params body (Ok own) → WalksBody slots (plain_block body) a (Ok inner) → IsPut a b line name params own inner
    → WalksAll slots (λ n. planted_in line ((numbered name params (plain_block body)).make n)) a b (Ok v)
function_walked {a = a} {b = b} {inner = inner} {line = line} name params body own v codes walks put = record { by = one_function a b inner line name params body own codes walks put }

no_code_of : (A : Type 0) {slots : List (List Name)} (a b : Children) (line : ℕ) (name : Name) (params : List Param) (body : List stmts.Stmt) (e : Refused SourceFault) → CodesFunction slots a line params body (Err e)
    → (source : Source) → source.level ≡ a.level → source.locals ≡ slots → (n : ℕ) → Walks {A = A} source (planted_in line ((numbered name params (plain_block body)).make n)) a b (Err e)
no_code_of A a b line name params body (Fault fault) codes source l s n =
    let f : Function = record { name = name; params = map (λ (param : Param). param.name) params; given = count (defaults_of params); body = (plain_block body).make (suc n) } in
    let h : IsBroken (record { line = line; depth = a.depth + 1 }) (text_at source a.next f) fault = codes.by source l s f (record { names = refl; number = suc n; made = refl }) in
    here (subst (λ z. IsBroken (record { line = line; depth = z }) (text_at source a.next f) fault) (add-one a.depth) h)
no_code_of A a b line name params body NoMemory codes source l s n = tt

pub function_fails : {A : Type 0} {slots : List (List Name)} {a b : Children} {line : ℕ} (name : Name) (params : List Param) (body : List stmts.Stmt) (e : Refused SourceFault) → CodesFunction slots a line params body (Err e)
    → WalksAll {A = A} slots (λ n. planted_in line ((numbered name params (plain_block body)).make n)) a b (Err e)
function_fails {A = A} {a = a} {b = b} {line = line} name params body e codes = record { by = no_code_of A a b line name params body e codes }

no_body_of : (A : Type 0) {slots : List (List Name)} (a b : Children) (line : ℕ) (name : Name) (params : List Param) (body : List stmts.Stmt) (own : OwnCode) (e : Refused SourceFault)
    → CodesFunction slots a line params body (Ok own) → WalksBody slots (plain_block body) a (Err e)
    → (source : Source) → source.level ≡ a.level → source.locals ≡ slots → (n : ℕ) → Walks {A = A} source (planted_in line ((numbered name params (plain_block body)).make n)) a b (Err e)
no_body_of A a b line name params body own (Fault fault) codes walks source l s n =
    let f : Function = record { name = name; params = map (λ (param : Param). param.name) params; given = count (defaults_of params); body = (plain_block body).make (suc n) } in
    let forest : Forest = planted ((plain_block body).make (suc n)) in
    let c : IsTextCode (place_of a line params) false body (text_at source a.next f) own = codes.by source l s f (record { names = refl; number = suc n; made = refl }) in
    let h : Breaks source (a.depth + 1) (a.next + 1) forest fault = walks.by source l s (suc n) in
    inside (at_site line a.depth c.within) (subst (λ z. Breaks source (suc a.depth) z forest fault) (add-one a.next) (subst (λ z. Breaks source z (a.next + 1) forest fault) (add-one a.depth) h))
no_body_of A a b line name params body own NoMemory codes walks source l s n = tt

pub body_fails : {A : Type 0} {slots : List (List Name)} {a b : Children} {line : ℕ} (name : Name) (params : List Param) (body : List stmts.Stmt) (own : OwnCode) (e : Refused SourceFault)
    → CodesFunction slots a line params body (Ok own) → WalksBody slots (plain_block body) a (Err e) → WalksAll {A = A} slots (λ n. planted_in line ((numbered name params (plain_block body)).make n)) a b (Err e)
body_fails {A = A} {a = a} {b = b} {line = line} name params body own e codes walks = record { by = no_body_of A a b line name params body own e codes walks }

want : (A : Type 0) (source : Source) (f : Forest) (a b : Children) (e : Refused SourceFault) → e ≡ NoMemory → Walks {A = A} source f a b (Err e)
want A source f a b (Fault fault) e = cc
want A source f a b NoMemory e = tt

pub no_memory : {A : Type 0} {slots : List (List Name)} {F : ℕ → Forest} {a b : Children} (e : Refused SourceFault) → e ≡ NoMemory → WalksAll {A = A} slots F a b (Err e)
no_memory {A = A} {F = F} {a = a} {b = b} e is = record { by = λ source l s n. want A source (F n) a b e is }

-- ---- where the functions in the next one begin

pub begun_ok : {A : Type 0} {slots : List (List Name)} {part : Part Block} {around first last : Children} (v : A) → first ≡ begun around → WalksAll slots (λ n. planted (part.make n)) first last (Ok v) → WalksBody slots part around (Ok last)
begun_ok {slots = slots} {part = part} {around = around} {last = last} v e h =
    let g : WalksAll slots (λ n. planted (part.make n)) (begun around) last (Ok v) = subst (λ z. WalksAll slots (λ n. planted (part.make n)) z last (Ok v)) e h in
    record { by = g.by }

body_err : (A : Type 0) (source : Source) (f : Forest) (around last : Children) (e : Refused SourceFault) → Walks {A = A} source f (begun around) last (Err e) → BodyWalks source f around (Err e)
body_err A source f around last (Fault fault) h = h
body_err A source f around last NoMemory h = h

pub begun_err : {A : Type 0} {slots : List (List Name)} {part : Part Block} {around first last : Children} (e : Refused SourceFault) → first ≡ begun around
    → WalksAll {A = A} slots (λ n. planted (part.make n)) first last (Err e) → WalksBody slots part around (Err e)
begun_err {A = A} {slots = slots} {part = part} {around = around} {last = last} e is h =
    let g : WalksAll {A = A} slots (λ n. planted (part.make n)) (begun around) last (Err e) = subst (λ z. WalksAll {A = A} slots (λ n. planted (part.make n)) z last (Err e)) is h in
    record { by = λ source l s n. body_err A source (planted (part.make n)) around last e (g.by source l s n) }

-- ---- what is found or not

pub if_none : {T P : Type 0} (o : Option T) → IfNone o P → o ≡ None → P
if_none None h e = h
if_none (Some x) h e = cc

pub if_some : {T : Type 0} (P : T → Type 0) (o : Option T) (x : T) → IfSome o P → o ≡ Some x → P x
if_some P None x h e = cc
if_some P (Some y) x h e = let same : y ≡ x = cc in subst P same h
