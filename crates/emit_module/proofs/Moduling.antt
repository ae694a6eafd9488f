-- The module of a source, by the codes of its texts.
use Rattle.std.proofs.Common.{◌≡◌, ◌<◌, ◌^◌, ℕ, suc, ◌+◌, Bool, true, false, List, [], ◌∷◌, ◌++◌, drop, map, Some, refl, sym, ap, ap₂, ◌∙◌, subst, arith}
use Rattle.std.specs.Prelude.{slice_get, Ok, Err}
use Rattle.mpy_base.specs.declared.source.SourceFault.{SourceFault}
use Rattle.mpy_base.specs.declared.refused.Refused.{Refused}
use Rattle.mpy_base.specs.declared.refused.Refused.TheVariants.{Fault, NoMemory}
use Rattle.mpy_writer.specs.mpy_tree.declared.module.Code as codes
use Rattle.mpy_writer.specs.mpy_tree.declared.module.Code.{out-Code}
use Rattle.mpy_writer.specs.mpy_tree.declared.module.ModuleCode.{ModuleCode}
use Rattle.mpy_writer.specs.mpy_tree.Resolved.{ResolvedLine, Body, Tree, Trees, node, no_more, more, ResolvedModule, IsBodyOf, IsTreeOf, AreTreesOf}
use Rattle.py_tree.specs.declared.stmt.Module.{Module}
use Rattle.py_tree.specs.declared.stmt.Stmt as stmts
use Rattle.tr_source.specs.py_meaning.Tree.{Name, Block, Function, functions}
use Rattle.py_scopes.specs.Scopes.{slots_of}
use Rattle.tr_source.specs.py_meaning.Plain.{Part, plain_tree}
use Rattle.tr_source.specs.py_meaning.Program.{Source, Text, module_text, function_texts, source_texts}
use Rattle.tr_source.specs.bc_machine.Library.{Code, code_of, numbers_from, codes_of}
use Rattle.emit_measures.specs.bc_scheme.Translation.{own, StandAll, HaveStates, bodies_of}
use Rattle.emit_stmt.specs.emit_draft.declared.scope.Scope.{Scope}
use Rattle.emit_stmt.specs.emit_draft.Finished.{Names, body_of}
use Rattle.emit_stmt.specs.emit_draft.Children.{starts, sizes, AllCount}
use Rattle.emit_stmt.specs.Parts.{plain_block}
use Rattle.emit_module.specs.declared.own.Place.{Place}
use Rattle.emit_module.specs.declared.own.OwnCode.{OwnCode}
use Rattle.emit_module.specs.declared.walk.Children.{Children}
use Rattle.emit_module.specs.First.{Site, sites, source_sites, AllWithin, one_within, FirstFault, AreWithin, IsFirstFault}
use Rattle.emit_module.specs.First as first
use Rattle.emit_module.specs.Counted.{IsFine, IsBroken}
use Rattle.emit_module.specs.Module.{source_of, IsResolved, IsTranslated}
use Rattle.emit_module.specs.Own.{IsTextOf, IsWritten}
use Rattle.emit_module.specs.Walk.{Forest, planted, IsTextCode, IsTextRefused, CodesText, IsWalked, Walks, WalksAll, Breaks, IsModuleOf, top, TopWalks, WalksTop}
use Rattle.emit_module.proofs.Forests.{fine_of}
use Rattle.emit_module.proofs.Plants.{flat, sites_at, sites_lines, texts_at, lists, Lists, texts_are}
use Rattle.emit_module.proofs.Judging.{LengthLaw, within_is, fault_is, all_within, first_fault}
use Rattle.emit_module.proofs.Trees.{Laws, AllNamed, IsAt, trees_of, are_trees, tree_tops, named_of, looked, stands_at, stand_all, have_states}

-- ---- texts

drop_none : {X : Type 0} (xs : List X) → drop 0 xs ≡ xs
drop_none [] = refl
drop_none (x ∷ xs) = refl

texts_of : (source : Source) → function_texts source.file source 0 (functions source.body) source.locals ≡ texts_at source 0 (planted source.body)
texts_of source =
    ap (λ z. function_texts source.file source 0 (functions source.body) z) (sym (drop_none source.locals))
    ∙ ap (λ z. function_texts source.file source 0 z (drop 0 source.locals)) (sym (lists source.body).functions) ∙ texts_are source 0 (planted source.body)

sites_of : (source : Source) → sites_at 0 (planted source.body) ≡ sites 0 source.body
sites_of source = (lists source.body).sites 0

-- ---- the module's own text and the functions

pub record Parts (source : Source) (place : Place) (body : List stmts.Stmt) (own : OwnCode) (children : Children) : Type 0 where
  pub code : IsTextCode place true body (module_text source.file source 0) own
  pub line : place.line ≡ 1
  pub depth : place.depth ≡ 0
  pub walked : IsWalked source (planted source.body) (top source.level) children

-- how the functions of a source are numbered
pub record IsNumbered (source : Source) : Type 0 where
  pub outer : own source.body ≡ starts 1 (sizes source.body)
  pub functions : AllCount 1 (functions source.body)

flat_counts : {source : Source} → IsNumbered source → AllCount 1 (flat (planted source.body))
flat_counts {source = source} h = subst (AllCount 1) (sym (lists source.body).functions) h.functions

own_within : LengthLaw → (source : Source) {place : Place} {body : List stmts.Stmt} {code : OwnCode} → IsNumbered source → place.line ≡ 1 → place.depth ≡ 0
    → IsTextCode place true body (module_text source.file source 0) code → first.IsWithin (record { line = 1; depth = 0 }) (module_text source.file source 0)
own_within law source {place = place} numbered l d c =
    within_is law 1 numbered.outer
    (subst (λ z. IsFine (record { line = z; depth = 0 }) (module_text source.file source 0)) l
    (subst (λ z. IsFine (record { line = place.line; depth = z }) (module_text source.file source 0)) d c.within))

pub are_within : LengthLaw → {source : Source} {place : Place} {body : List stmts.Stmt} {code : OwnCode} {children : Children} → IsNumbered source → Parts source place body code children → AreWithin source
are_within law {source = source} numbered p =
    one_within (own_within law source numbered p.line p.depth p.code)
    (subst (λ z. AllWithin (sites 0 source.body) z) (sym (texts_of source))
    (subst (λ z. AllWithin z (texts_at source 0 (planted source.body))) (sites_of source) (all_within law source 0 0 (planted source.body) (flat_counts numbered) (fine_of p.walked.grows))))

pub later_fault : LengthLaw → {source : Source} {place : Place} {body : List stmts.Stmt} {code : OwnCode} {fault : SourceFault} → IsNumbered source → place.line ≡ 1 → place.depth ≡ 0
    → IsTextCode place true body (module_text source.file source 0) code → Breaks source 0 0 (planted source.body) fault → IsFirstFault source fault
later_fault law {source = source} {fault = fault} numbered l d c b =
    first.later (own_within law source numbered l d c)
    (subst (λ z. FirstFault (sites 0 source.body) z fault) (sym (texts_of source))
    (subst (λ z. FirstFault z (texts_at source 0 (planted source.body)) fault) (sites_of source) (first_fault law (flat_counts numbered) b)))

-- the lines of the sites
pub lines_are : {source : Source} {children : Children} (lines : List ℕ) → lines ≡ children.lines → IsWalked source (planted source.body) (top source.level) children
    → 1 ∷ lines ≡ map (λ (s : Site). s.line) (source_sites source)
lines_are {source = source} lines same walked =
    ap (λ z. 1 ∷ z) (same ∙ walked.lines ∙ sym (sites_lines 0 (planted source.body)) ∙ ap (map (λ (s : Site). s.line)) (sites_of source))

-- ---- the translation

empty_left : {X : Type 0} (xs ys : List X) → xs ≡ [] ++ ys → xs ≡ ys
empty_left xs ys e = e

pub translated : Laws → {source : Source} {place : Place} {body : List stmts.Stmt} {code : OwnCode} {children : Children} (whole : ModuleCode) → Parts source place body code children
    → IsModuleOf source.file code children whole → AllNamed (source_texts source.file source 0)
    → own source.body ≡ starts 1 (sizes source.body) → AllCount 1 (functions source.body) → IsTranslated source whole
translated laws {source = source} {place = place} {body = body} {code = code} {children = children} whole p m named starts_are counts =
    let c = p.code in
    let g = p.walked.grows in
    let trees : Trees = trees_of g in
    let b : Body = body_of m.head code.lines in
    let head_code : Code = code_of b (numbers_from 1 trees) in
    let all : List Code = head_code ∷ codes_of 1 trees in
    let text : Text = module_text source.file source 0 in
    let forest = planted source.body in
    let l : Lists forest (functions source.body) (sizes source.body) (λ depth. sites depth source.body) = lists source.body in
    let inner : AreTreesOf trees children.codes = subst (AreTreesOf trees) (sym p.walked.codes) (are_trees laws.tree g) in
    let tree : IsTreeOf (node b trees) whole.code = laws.tree c.draft m.head code.lines children.codes whole.code trees c.finished m.code inner in
    let written : IsWritten text c.draft c.scope m.head code.lines = record {
      place = place;
      stmts = body;
      is_text = c.is_text;
      emitted = c.emitted;
      roomy = c.roomy;
      finished = c.finished;
      name = m.name;
      params = m.args;
      given = m.defaults;
    } in
    let at : (q : ℕ) (f : Function) → slice_get (flat forest) q ≡ Some f → IsAt all (suc 0 + q) f =
    λ q f e.
    let k = looked (named_of 1 g) q f e in
    let n : suc q ≡ suc 0 + q = omega arith in
    subst (λ z. IsAt all z f) n (record { code = k.code; found = k.found; name = k.name; given = k.given }) in
    let own_at : (q : ℕ) (f : Function) → slice_get (functions source.body) q ≡ Some f → IsAt all (suc 0 + q) f =
    λ q f e. at q f (ap (λ z. slice_get z q) l.functions ∙ e) in
    let stands = stands_at laws all text c.draft c.scope m.head code.lines trees 0 true c.is_module refl named.0 written starts_are (tree_tops g ∙ l.sizes) own_at in
    let others : StandAll all false (function_texts source.file source 0 (functions source.body) source.locals) (codes_of 1 trees) =
    subst (λ z. StandAll all false z (codes_of 1 trees)) (sym (texts_of source))
    (stand_all laws all g (subst AllNamed (texts_of source) named.1) (subst (AllCount 1) (sym l.functions) counts) at) in
    let states : HaveStates (function_texts source.file source 0 (functions source.body) source.locals) (bodies_of trees) =
    subst (λ z. HaveStates z (bodies_of trees)) (sym (texts_of source)) (have_states g) in
    record {
      resolved = record { source = source.file; code = node b trees };
      is = record { source = sym m.source; code = tree };
      translates = record {
        file = refl;
        codes = (head_code, codes_of 1 trees, refl, stands, others);
        states = (b, bodies_of trees, refl, record { n_state = m.n_state ∙ c.n_state; n_exc = m.n_exc ∙ c.n_exc }, states);
      };
    }

-- ---- one tree

lines_same : (xs ys : List ResolvedLine) → map (λ (l : ResolvedLine). l.item) xs ≡ map (λ (l : ResolvedLine). l.item) ys
    → map (λ (l : ResolvedLine). l.line) xs ≡ map (λ (l : ResolvedLine). l.line) ys → xs ≡ ys
lines_same [] [] e h = refl
lines_same [] (y ∷ ys) e h = cc
lines_same (x ∷ xs) [] e h = cc
lines_same (x ∷ xs) (y ∷ ys) e h =
    let items : x.item ≡ y.item = cc in
    let lines : x.line ≡ y.line = cc in
    let same : x ≡ y = ap₂ (λ i l. record { item = i; line = l }) items lines in
    let e_rest : map (λ (l : ResolvedLine). l.item) xs ≡ map (λ (l : ResolvedLine). l.item) ys = cc in
    let h_rest : map (λ (l : ResolvedLine). l.line) xs ≡ map (λ (l : ResolvedLine). l.line) ys = cc in
    let rest : xs ≡ ys = lines_same xs ys e_rest h_rest in
    ap₂ (λ z zs. z ∷ zs) same rest

body_same : (a b : Body) (code : codes.Code) → IsBodyOf code a → IsBodyOf code b → a ≡ b
body_same a b code x y =
    let name : a.name ≡ b.name = x.name ∙ sym y.name in
    let args : a.args ≡ b.args = x.args ∙ sym y.args in
    let defaults : a.defaults ≡ b.defaults = x.defaults ∙ sym y.defaults in
    let n_state : a.n_state ≡ b.n_state = x.n_state ∙ sym y.n_state in
    let n_exc : a.n_exc ≡ b.n_exc = x.n_exc ∙ sym y.n_exc in
    let lines : a.lines ≡ b.lines = lines_same a.lines b.lines (x.instrs ∙ sym y.instrs) (x.lines ∙ sym y.lines) in
    ap₂ (λ n s. record { name = n; args = s; defaults = a.defaults; n_state = a.n_state; n_exc = a.n_exc; lines = a.lines }) name args
    ∙ ap₂ (λ d s. record { name = b.name; args = b.args; defaults = d; n_state = s; n_exc = a.n_exc; lines = a.lines }) defaults n_state
    ∙ ap₂ (λ e ls. record { name = b.name; args = b.args; defaults = b.defaults; n_state = b.n_state; n_exc = e; lines = ls }) n_exc lines

mutual
  tree_same : (s t : Tree) (code : codes.Code) → IsTreeOf s code → IsTreeOf t code → s ≡ t
  tree_same (node a ss) (node b ts) code h k = ap₂ node (body_same a b code h.0 k.0) (trees_same ss ts (out-Code code).children h.1 k.1)

  trees_same : (ss ts : Trees) (cs : List codes.Code) → AreTreesOf ss cs → AreTreesOf ts cs → ss ≡ ts
  trees_same no_more no_more cs h k = refl
  trees_same no_more (more t ts) cs h k = let clash = sym h ∙ k.2 in cc
  trees_same (more s ss) no_more cs h k = let clash = sym k ∙ h.2 in cc
  trees_same (more s ss) (more t ts) cs h k =
      let both = sym h.2 ∙ k.2 in
      let same : h.0 ≡ k.0 = cc in
      let rest : h.1 ≡ k.1 = cc in
      ap₂ more (tree_same s t k.0 (subst (IsTreeOf s) same h.3) k.3) (trees_same ss ts k.1 (subst (AreTreesOf ss) rest h.4) k.4)

pub resolved_same : (whole : ModuleCode) (m n : ResolvedModule) → IsResolved whole m → IsResolved whole n → m ≡ n
resolved_same whole m n x y =
    let source : m.source ≡ n.source = x.source ∙ sym y.source in
    let code : m.code ≡ n.code = tree_same m.code n.code whole.code x.code y.code in
    ap₂ (λ s t. record { source = s; code = t }) source code

-- ---- the calls of `emit`

pub module_is_text : {place : Place} {scope : Scope} {body : List stmts.Stmt} (file : Name) (level : ℕ) (tree : Module) → place.level ≡ level → place.params ≡ 0 → Names scope true [] → body ≡ tree.body
    → IsTextOf place scope body (module_text file (source_of file level tree) 0)
module_is_text {body = body} file level tree l p names b = record {
  level = sym l;
  params = p;
  locals = sym names.locals;
  first = 1;
  body = ap (λ z. (plain_block z).make 1) (sym b);
}

own_refused : (site : Site) (text : Text) (refusal : Refused SourceFault) (fault : SourceFault) → refusal ≡ Fault fault → IsTextRefused site text refusal → IsBroken site text fault
own_refused site text (Fault f) fault e h = let same : f ≡ fault = cc in subst (IsBroken site text) same h
own_refused site text NoMemory fault e h = cc

pub own_fault : LengthLaw → (place : Place) (own : Bool) (body : List stmts.Stmt) (source : Source) (refusal : Refused SourceFault) (fault : SourceFault) → IsNumbered source → refusal ≡ Fault fault → place.line ≡ 1 → place.depth ≡ 0
    → CodesText place own body (module_text source.file source 0) (Err refusal) → IsFirstFault source fault
own_fault law place own body source refusal fault numbered e l d h =
    let text = module_text source.file source 0 in
    let f : IsBroken (record { line = place.line; depth = place.depth }) text fault = own_refused (record { line = place.line; depth = place.depth }) text refusal fault e h in
    first.here (fault_is law 1 numbered.outer
    (subst (λ z. IsBroken (record { line = z; depth = 0 }) text fault) l
    (subst (λ z. IsBroken (record { line = place.line; depth = z }) text fault) d f)))

walk_refused : (level : ℕ) (source : Source) (forest : Forest) (refusal : Refused SourceFault) (fault : SourceFault) → refusal ≡ Fault fault → TopWalks level source forest (Err refusal) → Breaks source 0 0 forest fault
walk_refused level source forest (Fault f) fault e h = let same : f ≡ fault = cc in subst (Breaks source 0 0 forest) same h
walk_refused level source forest NoMemory fault e h = cc

pub walk_fault : LengthLaw → {place : Place} {body : List stmts.Stmt} {code : OwnCode} (source : Source) (refusal : Refused SourceFault) (fault : SourceFault) → IsNumbered source → refusal ≡ Fault fault → place.line ≡ 1 → place.depth ≡ 0
    → IsTextCode place true body (module_text source.file source 0) code → TopWalks source.level source (planted source.body) (Err refusal) → IsFirstFault source fault
walk_fault law source refusal fault numbered e l d c h = later_fault law numbered l d c (walk_refused source.level source (planted source.body) refusal fault e h)

-- ---- the walk over all functions

pub top_ok : {A : Type 0} {slots : List (List Name)} {part : Part Block} {a b : Children} (level : ℕ) (v : A) → a ≡ top level → WalksAll slots (λ n. planted (part.make n)) a b (Ok v) → WalksTop level slots part (Ok b)
top_ok {slots = slots} {part = part} {b = b} level v e h =
    let g : WalksAll slots (λ n. planted (part.make n)) (top level) b (Ok v) = subst (λ z. WalksAll slots (λ n. planted (part.make n)) z b (Ok v)) e h in
    record { by = g.by }

top_walks : (A : Type 0) (level : ℕ) (source : Source) (f : Forest) (b : Children) (e : Refused SourceFault) → Walks {A = A} source f (top level) b (Err e) → TopWalks level source f (Err e)
top_walks A level source f b (Fault fault) h = h
top_walks A level source f b NoMemory h = h

pub top_err : {A : Type 0} {slots : List (List Name)} {part : Part Block} {a b : Children} (level : ℕ) (e : Refused SourceFault) → a ≡ top level → WalksAll {A = A} slots (λ n. planted (part.make n)) a b (Err e) → WalksTop level slots part (Err e)
top_err {A = A} {slots = slots} {part = part} {b = b} level e is h =
    let g : WalksAll {A = A} slots (λ n. planted (part.make n)) (top level) b (Err e) = subst (λ z. WalksAll {A = A} slots (λ n. planted (part.make n)) z b (Err e)) is h in
    record { by = λ source l s n. top_walks A level source (planted (part.make n)) b e (g.by source l s n) }

-- ---- all of a source

pub at_top : {children : Children} {slots : List (List Name)} {body : List stmts.Stmt} (file : Name) (level : ℕ) (tree : Module) → slots ≡ slots_of tree → body ≡ tree.body → WalksTop level slots (plain_block body) (Ok children)
    → IsWalked (source_of file level tree) (planted (plain_tree tree)) (top level) children
at_top {children = children} {body = body} file level tree s b h =
    subst (λ z. IsWalked (source_of file level tree) (planted ((plain_block z).make 1)) (top level) children) b (h.by (source_of file level tree) refl (sym s) 1)

pub fails_at_top : {slots : List (List Name)} {body : List stmts.Stmt} (file : Name) (level : ℕ) (tree : Module) (e : Refused SourceFault) → slots ≡ slots_of tree → body ≡ tree.body → WalksTop level slots (plain_block body) (Err e)
    → TopWalks level (source_of file level tree) (planted (plain_tree tree)) (Err e)
fails_at_top {body = body} file level tree e s b h =
    subst (λ z. TopWalks level (source_of file level tree) (planted ((plain_block z).make 1)) (Err e)) b (h.by (source_of file level tree) refl (sym s) 1)

pub as_own : {place : Place} {body : List stmts.Stmt} {text : Text} {code : OwnCode} (own : Bool) → own ≡ true → CodesText place own body text (Ok code) → IsTextCode place true body text code
as_own {place = place} {body = body} {text = text} {code = code} own e h = subst (λ z. IsTextCode place z body text code) e h

pub few_defs : (tree : Module) (body : List stmts.Stmt) → body ≡ tree.body → (plain_block tree.body).defs < 2 ^ 32 → (plain_block body).defs < 2 ^ 32
few_defs tree body e h = subst (λ z. (plain_block z).defs < 2 ^ 32) (sym e) h
