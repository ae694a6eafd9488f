-- The functions of a text as a forest and as lists.
use Rattle.std.proofs.Common.{◌≡◌, ℕ, zero, suc, ◌+◌, List, [], ◌∷◌, ◌++◌, length, map, drop, refl, sym, ap, ap₂, ◌∙◌, arith, append_assoc, append-nil, length-append}
use Rattle.std.specs.Prelude.{slice_get}
use Rattle.std.proofs.lemmas.List.{map-append}
use Rattle.tr_source.specs.py_meaning.Tree.{Name, count, Stmt, If, While, For, Try, Finally, TryFinally, Def, Block, End, Next, Branches, Else, Case, Handlers, NoHandler, Any, On, OnAs, Function, functions, functions_in, functions_of, functions_by}
use Rattle.tr_source.specs.py_meaning.Program.{Source, Text, or_none, function_text, function_texts}
use Rattle.emit_stmt.specs.emit_draft.Children.{sizes, sizes_in, sizes_of, sizes_by}
use Rattle.emit_module.specs.First.{Site, sites, sites_in, sites_of, sites_by}
use Rattle.emit_module.specs.Walk.{Forest, bare, grow, beside, size, def_lines, planted, planted_in, planted_of, planted_by, text_at}

abbrev pub flat : Forest → List Function
flat bare = []
flat (grow line f inner others) = f ∷ (flat inner ++ flat others)

abbrev pub tops : Forest → List ℕ
tops bare = []
tops (grow line f inner others) = suc (size inner) ∷ tops others

abbrev pub sites_at : (depth : ℕ) → Forest → List Site
sites_at depth bare = []
sites_at depth (grow line f inner others) = record { line = line; depth = suc depth } ∷ (sites_at (suc depth) inner ++ sites_at depth others)

abbrev pub texts_at : Source → ℕ → Forest → List Text
texts_at source n bare = []
texts_at source n (grow line f inner others) = text_at source n f ∷ (texts_at source (suc n) inner ++ texts_at source (suc (n + size inner)) others)

-- ---- a text's own functions

pub length_flat : (f : Forest) → length (flat f) ≡ size f
length_flat bare = refl
length_flat (grow line f inner others) = let a = length_flat inner in let b = length_flat others in let c = length-append (flat inner) (flat others) in omega (arith, a, b, c)

flat_on : (f g : Forest) → flat (beside f g) ≡ flat f ++ flat g
flat_on bare g = refl
flat_on (grow line f inner others) g = ap (λ z. f ∷ (flat inner ++ z)) (flat_on others g) ∙ ap (λ z. f ∷ z) (sym (append_assoc (flat inner) (flat others) (flat g)))

tops_on : (f g : Forest) → tops (beside f g) ≡ tops f ++ tops g
tops_on bare g = refl
tops_on (grow line f inner others) g = ap (λ z. suc (size inner) ∷ z) (tops_on others g)

sites_on : (depth : ℕ) (f g : Forest) → sites_at depth (beside f g) ≡ sites_at depth f ++ sites_at depth g
sites_on depth bare g = refl
sites_on depth (grow line f inner others) g =
    let s : Site = record { line = line; depth = suc depth } in
    ap (λ z. s ∷ (sites_at (suc depth) inner ++ z)) (sites_on depth others g) ∙ ap (λ z. s ∷ z) (sym (append_assoc (sites_at (suc depth) inner) (sites_at depth others) (sites_at depth g)))

pub sites_lines : (depth : ℕ) (f : Forest) → map (λ (s : Site). s.line) (sites_at depth f) ≡ def_lines f
sites_lines depth bare = refl
sites_lines depth (grow line f inner others) =
    ap (λ z. line ∷ z) (map-append (λ (s : Site). s.line) (sites_at (suc depth) inner) (sites_at depth others) ∙ ap₂ (λ x y. x ++ y) (sites_lines (suc depth) inner) (sites_lines depth others))

-- the forest has these functions, these sizes of its own ones, and these sites
pub record Lists (f : Forest) (fs : List Function) (ss : List ℕ) (ps : ℕ → List Site) : Type 0 where
  pub functions : flat f ≡ fs
  pub sizes : tops f ≡ ss
  pub sites : (depth : ℕ) → sites_at depth f ≡ ps depth

none : Lists bare [] [] (λ depth. [])
none = record { functions = refl; sizes = refl; sites = λ depth. refl }

two : {f g : Forest} {fs gs : List Function} {ss ts : List ℕ} {ps qs : ℕ → List Site} → Lists f fs ss ps → Lists g gs ts qs → Lists (beside f g) (fs ++ gs) (ss ++ ts) (λ depth. ps depth ++ qs depth)
two {f = f} {g = g} a b = record {
  functions = flat_on f g ∙ ap₂ (λ x y. x ++ y) a.functions b.functions;
  sizes = tops_on f g ∙ ap₂ (λ x y. x ++ y) a.sizes b.sizes;
  sites = λ depth. sites_on depth f g ∙ ap₂ (λ x y. x ++ y) (a.sites depth) (b.sites depth);
}

mutual
  pub lists : (b : Block) → Lists (planted b) (functions b) (sizes b) (λ depth. sites depth b)
  lists End = none
  lists (Next line s b) = two (lists_in line s) (lists b)

  lists_in : (line : ℕ) (s : Stmt) → Lists (planted_in line s) (functions_in s) (sizes_in s) (λ depth. sites_in depth line s)
  lists_in line (If branches) = lists_of branches
  lists_in line (While e body rest) = two (lists body) (lists rest)
  lists_in line (For t e body rest) = two (lists body) (lists rest)
  lists_in line (Try body handlers rest) = two (two (lists body) (lists_by handlers)) (lists rest)
  lists_in line (Finally body last) = two (lists body) (lists last)
  lists_in line (TryFinally body handlers rest last) = two (two (two (lists body) (lists_by handlers)) (lists rest)) (lists last)
  lists_in line (Def number name params defaults body) =
      let l = lists body in
      let f : Function = record { name = name; params = params; given = count defaults; body = body } in
      record {
        functions = ap (λ z. f ∷ z) (append-nil (flat (planted body)) ∙ l.functions);
        sizes = ap (λ z. suc z ∷ []) (sym (length_flat (planted body)) ∙ ap length l.functions);
        sites = λ depth. ap (λ z. record { line = line; depth = suc depth } ∷ z) (append-nil (sites_at (suc depth) (planted body)) ∙ l.sites (suc depth));
      }
  lists_in line _ = none

  lists_of : (branches : Branches) → Lists (planted_of branches) (functions_of branches) (sizes_of branches) (λ depth. sites_of depth branches)
  lists_of (Else b) = lists b
  lists_of (Case line e b branches) = two (lists b) (lists_of branches)

  lists_by : (handlers : Handlers) → Lists (planted_by handlers) (functions_by handlers) (sizes_by handlers) (λ depth. sites_by depth handlers)
  lists_by NoHandler = none
  lists_by (Any line b) = lists b
  lists_by (On line e b handlers) = two (lists b) (lists_by handlers)
  lists_by (OnAs line e name b handlers) = two (lists b) (lists_by handlers)

-- ---- texts

first_text : (source : Source) (f : Function) (fs : List Function) (tables : List (List Name)) (n : ℕ)
    → function_texts source.file source 0 (f ∷ fs) (drop n tables)
    ≡ function_text source.file source 0 (or_none (slice_get tables n)) f ∷ function_texts source.file source 0 fs (drop (suc n) tables)
first_text source f fs [] zero = refl
first_text source f fs [] (suc n) = refl
first_text source f fs (t ∷ ts) zero = refl
first_text source f fs (t ∷ ts) (suc n) = first_text source f fs ts n

texts_on : (source : Source) (fs gs : List Function) (n : ℕ)
    → function_texts source.file source 0 (fs ++ gs) (drop n source.locals)
    ≡ function_texts source.file source 0 fs (drop n source.locals) ++ function_texts source.file source 0 gs (drop (n + length fs) source.locals)
texts_on source [] gs n = let e : n + 0 ≡ n = omega arith in ap (λ k. function_texts source.file source 0 gs (drop k source.locals)) (sym e)
texts_on source (f ∷ fs) gs n =
    let e : suc n + length fs ≡ n + suc (length fs) = omega arith in
    first_text source f (fs ++ gs) source.locals n ∙ ap (λ z. text_at source n f ∷ z) (texts_on source fs gs (suc n))
    ∙ ap (λ k. text_at source n f ∷ (function_texts source.file source 0 fs (drop (suc n) source.locals) ++ function_texts source.file source 0 gs (drop k source.locals))) e
    ∙ ap (λ z. z ++ function_texts source.file source 0 gs (drop (n + suc (length fs)) source.locals)) (sym (first_text source f fs source.locals n))

pub texts_are : (source : Source) (n : ℕ) (f : Forest) → function_texts source.file source 0 (flat f) (drop n source.locals) ≡ texts_at source n f
texts_are source n bare = refl
texts_are source n (grow line f inner others) =
    let e : suc n + length (flat inner) ≡ suc (n + size inner) = let l = length_flat inner in omega (arith, l) in
    first_text source f (flat inner ++ flat others) source.locals n
    ∙ ap (λ z. text_at source n f ∷ z) (texts_on source (flat inner) (flat others) (suc n)
    ∙ ap₂ (λ x y. x ++ y) (texts_are source (suc n) inner) (ap (λ k. function_texts source.file source 0 (flat others) (drop k source.locals)) e ∙ texts_are source (suc (n + size inner)) others))
