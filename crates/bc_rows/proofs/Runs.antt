-- The codes of a module and those of its tree, each for each.
use Rattle.std.proofs.Common.{◌≡◌, ℕ, zero, suc, ◌+◌, List, [], ◌∷◌, ◌++◌, length, map, option_map, Option, Some, None, refl, sym, ap, ap₂, subst, ◌∙◌, length-append, arith}
use Rattle.std.specs.Prelude.{slice_get, max, option_and_then, unwrap_or}
use Rattle.std.proofs.lemmas.List.{length-map}
use Rattle.std.proofs.lemmas.Option.{slice_get-map}
use Rattle.mpy_base.specs.declared.limits.TheConstants.{MAX_DEPTH}
use Rattle.bc_machine.specs.bc_ops.declared.instr.Op.{Op}
use Rattle.bc_machine.specs.bc_ops.declared.instr.Op.TheVariants as ops
use Rattle.bc_machine.specs.bc_ops.declared.instr.Instr.{Instr}
use Rattle.bc_machine.specs.bc_ops.declared.instr.Instr.TheVariants as instrs
use Rattle.bc_machine.specs.bc_ops.declared.listing.Item.{Item}
use Rattle.bc_machine.specs.bc_ops.declared.listing.Item.TheVariants as listed
use Rattle.bc_machine.specs.bc_ops.Listing as listing
use Rattle.bc_machine.specs.bc_ops.Listing.{Lists, starts}
use Rattle.bc_machine.proofs.bc_ops_lemmas.Lists.{one_listing}
use Rattle.bc_prelude.specs.declared.prelude.Prelude.{Prelude}
use Rattle.bc_prelude.specs.Lines as tables
use Rattle.bc_labels.specs.Positions.{CodeList, Listed, Starts, Reads, position_in}
use Rattle.bc_machine.specs.mpy_tree.declared.raw.RawCode.{RawCode}
use Rattle.bc_machine.specs.mpy_tree.Raw as raw
use Rattle.bc_machine.specs.mpy_tree.declared.module.Constant.{Constant}
use Rattle.bc_machine.specs.mpy_tree.Values.{value_of}
use Rattle.bc_machine.specs.mpy_tree.Codes.{Placed, codes_by, numbers_by, codes_to, codes_of}
use Rattle.bc_machine.proofs.mpy_tree_lemmas.Codes.{children, Nests, EachNests, whole, module_nests}
use Rattle.bc_machine.specs.mpy_tree.Resolved as trees
use Rattle.bc_machine.specs.mpy_tree.File.{IsModule}
use Rattle.bc_machine.specs.mpy_tree.Resolved.{Resolved, ResolvedLine, Body, instrs_of, line_numbers, Tree, node, Trees, no_more, more, ResolvedModule, name_at, resolved, IsBody, ResolvesCode, ResolveCodes, Resolves}
use Rattle.bc_library.specs.Shelf.{Shelf, module_at, table_text}
use Rattle.bc_library.specs.Texts.{text_numbered}
use Rattle.bc_machine.specs.Library as machine
use Rattle.bc_machine.specs.Library.{Code, Line, code_of, codes_from, size_of, sizes_of, numbers_from, module_of}
use Rattle.bc_rows.specs.declared.row.Row.{Row}
use Rattle.bc_library.specs.bc_flow.Code.{item_locals, locals}
use Rattle.bc_rows.specs.Rows.{IsRowOf, IsRow}
use Rattle.bc_rows.specs.Runs.{RunsAs, line_at}
use Rattle.bc_rows.proofs.Preludes.{SameParts, same_parts}

-- the machine's codes, one for each
-- =================================

pub record IsCodeOf (m : raw.Module) (n : Placed) (code : Code) : Type 0 where
  pub body : Body
  pub is_body : IsBody m n.bytes body
  pub code_is : code ≡ code_of body n.children

abbrev pub Match : raw.Module → List Placed → List Code → Type 0
Match m [] [] = Unit {0}
Match m [] (c ∷ cs) = ⊥
Match m (n ∷ ns) [] = ⊥
Match m (n ∷ ns) (c ∷ cs) = IsCodeOf m n c × Match m ns cs

match_append : (m : raw.Module) (a b : List Placed) (x y : List Code) → Match m a x → Match m b y → Match m (a ++ b) (x ++ y)
match_append m [] b [] y h k = k
match_append m [] b (c ∷ x) y h k = absurd h
match_append m (n ∷ a) b [] y h k = absurd h
match_append m (n ∷ a) b (c ∷ x) y h k = (h.0, match_append m a b x y h.1 k)

pub match_count : (m : raw.Module) (a : List Placed) (x : List Code) → Match m a x → length x ≡ length a
match_count m [] [] h = refl
match_count m [] (c ∷ x) h = absurd h
match_count m (n ∷ a) [] h = absurd h
match_count m (n ∷ a) (c ∷ x) h = ap suc (match_count m a x h.1)

pub match_at : (m : raw.Module) (a : List Placed) (x : List Code) (k : ℕ) (n : Placed) → Match m a x → slice_get a k ≡ Some n → (code : Code) × (slice_get x k ≡ Some code) × IsCodeOf m n code
match_at m [] x k n h e = absurd cc
match_at m (p ∷ a) [] k n h e = absurd h
match_at m (p ∷ a) (c ∷ x) zero n h e = let same : p ≡ n = cc in (c, refl, subst (λ z. IsCodeOf m z c) same h.0)
match_at m (p ∷ a) (c ∷ x) (suc k) n h e = match_at m a x k n h.1 e

-- how many codes a tree has
mutual
  count_tree : (number : ℕ) (tree : Tree) → length (codes_from number tree) ≡ size_of tree
  count_tree number (node body trees) = ap suc (count_trees (suc number) trees)

  count_trees : (number : ℕ) (trees : Trees) → length (machine.codes_of number trees) ≡ sizes_of trees
  count_trees number no_more = refl
  count_trees number (more tree trees) =
      length-append (codes_from number tree) (machine.codes_of (number + size_of tree) trees)
      ∙ ap₂ (λ a b. a + b) (count_tree number tree) (count_trees (number + size_of tree) trees)

module _ (m : raw.Module) where
  abbrev texts : ℕ
  texts = length m.qstrs

  record MatchAll (levels : ℕ) (path : List ℕ) (place number : ℕ) (trees : Trees) (codes : List RawCode) : Type 0 where
    codes_match : Match m (codes_by (codes_to levels) path place number codes) (machine.codes_of number trees)
    numbers_match : numbers_by (codes_to levels) path place number codes ≡ numbers_from number trees

  no_codes : (levels : ℕ) (path : List ℕ) (place number : ℕ) (codes : List RawCode) → codes ≡ [] → MatchAll levels path place number no_more codes
  no_codes levels path place number codes e =
      subst (MatchAll levels path place number no_more) (sym e) (record { codes_match = tt; numbers_match = refl })

  more_codes : (levels : ℕ) (path : List ℕ) (place number : ℕ) (tree : Tree) (trees : Trees) (first : RawCode) (others : List RawCode) → Match m (codes_to levels (path ++ place ∷ []) number first) (codes_from number tree) → MatchAll levels path (suc place) (number + size_of tree) trees others → MatchAll levels path place number (more tree trees) (first ∷ others)
  more_codes levels path place number tree trees first others h k =
      let here = codes_to levels (path ++ place ∷ []) number first in
      let size : number + length here ≡ number + size_of tree = ap (λ n. number + n) (sym (match_count m here (codes_from number tree) h) ∙ count_tree number tree) in
      let behind = codes_by (codes_to levels) path (suc place) in
      record {
        codes_match = subst (λ n. Match m (here ++ behind n others) (codes_from number tree ++ machine.codes_of (number + size_of tree) trees)) (sym size)
            (match_append m here (behind (number + size_of tree) others) (codes_from number tree) (machine.codes_of (number + size_of tree) trees) h k.codes_match);
        numbers_match = ap (λ z. number ∷ z) (ap (λ n. numbers_by (codes_to levels) path (suc place) n others) size ∙ k.numbers_match);
      }

  mutual
    unfolding codes_to

    tree_matches : (levels : ℕ) (path : List ℕ) (number : ℕ) (tree : Tree) (code : RawCode) → Nests texts levels code → ResolvesCode m tree code → Match m (codes_to levels path number code) (codes_from number tree)
    tree_matches zero path number (node body trees) code nests h = absurd (let w = whole texts 0 code nests in let no : 0 ≡ suc w.below = w.levels_are in cc)
    tree_matches (suc levels) path number (node body trees) code nests h =
        let w = whole texts (suc levels) code nests in
        let below : w.below ≡ levels = omega (arith, w.levels_are) in
        let each = subst (λ l. EachNests texts l (children code)) below w.each in
        let all = trees_match levels path 0 (suc number) trees (children code) each h.1 in
        (record { body = body; is_body = h.0; code_is = ap (code_of body) (sym all.numbers_match) }, all.codes_match)

    trees_match : (levels : ℕ) (path : List ℕ) (place number : ℕ) (trees : Trees) (codes : List RawCode) → EachNests texts levels codes → ResolveCodes m trees codes → MatchAll levels path place number trees codes
    trees_match levels path place number no_more codes each h = no_codes levels path place number codes h
    trees_match levels path place number (more tree trees) codes each h =
        let here : slice_get codes 0 ≡ Some h.0 = ap (λ z. slice_get z 0) h.2 in
        let others : EachNests texts levels h.1 = λ n code at. each (suc n) code (ap (λ z. slice_get z (suc n)) h.2 ∙ at) in
        let first = tree_matches levels (path ++ place ∷ []) number tree h.0 (each 0 h.0 here) h.3 in
        let behind = trees_match levels path (suc place) (number + size_of tree) trees h.1 others h.4 in
        subst (MatchAll levels path place number (more tree trees)) (sym h.2) (more_codes levels path place number tree trees h.0 h.1 first behind)

pub all_match : (m : raw.Module) (tree : ResolvedModule) → IsModule m → Resolves m tree → Match m (codes_of m) (module_of tree).codes
all_match m tree is r = tree_matches m MAX_DEPTH [] 0 tree.code m.code (module_nests m is) r.code

-- a row and the machine's code
-- ============================

-- lines by their items and their numbers
both_at : (xs : List ResolvedLine) (p : ℕ) (item : Resolved) (line : ℕ) → slice_get (map (λ (l : ResolvedLine). l.item) xs) p ≡ Some item → slice_get (map (λ (l : ResolvedLine). l.line) xs) p ≡ Some line → slice_get xs p ≡ Some (record { item = item; line = line })
both_at [] p item line e f = absurd cc
both_at (x ∷ xs) zero item line e f =
    let items : x.item ≡ item = cc in
    let lines : x.line ≡ line = cc in
    ap₂ (λ i n. Some (record { item = i; line = n })) items lines
both_at (x ∷ xs) (suc p) item line e f = both_at xs p item line e f

-- the instruction that an object is loaded by
abbrev made : Constant → Resolved
made c = trees.object (value_of c)

named_local : (op : Op) (n : ℕ) (o : Option (List ℕ)) → machine.local_of (unwrap_or (option_map (trees.named op) o) (trees.plain (instrs.Name op n))) ≡ 0
named_local op n None = refl
named_local op n (Some t) = refl

object_local : (n : ℕ) (o : Option Constant) → machine.local_of (unwrap_or (option_map made o) (trees.plain (instrs.Num ops.LoadConstObj n))) ≡ 0
object_local n None = refl
object_local n (Some t) = refl

one_more : (n : ℕ) → suc n ≡ n + 1
one_more n = omega arith

local_is : (m : raw.Module) (item : Item) → machine.local_of (resolved m item) ≡ item_locals item
unfolding item_locals
local_is m (listed.Plain (instrs.Name op n)) = named_local op n (name_at m n)
local_is m (listed.Plain (instrs.Num ops.LoadConstObj n)) = object_local n (slice_get m.objects n)
local_is m (listed.Plain (instrs.Num ops.LoadFast n)) = one_more n
local_is m (listed.Plain (instrs.Num ops.StoreFast n)) = one_more n
local_is m (listed.Plain (instrs.Num ops.LoadFastN n)) = one_more n
local_is m (listed.Plain (instrs.Num ops.StoreFastN n)) = one_more n
local_is m (listed.Plain (instrs.Num ops.DeleteFast n)) = one_more n
local_is m (listed.Plain instr) = refl
local_is m (listed.Jump op t) = refl
local_is m (listed.Unwind t b) = refl

locals_are : (m : raw.Module) (params : ℕ) (items : List Item) → machine.locals_of params (map (resolved m) items) ≡ locals params items
locals_are m params [] = refl
locals_are m params (item ∷ items) = ap₂ max (local_is m item) (locals_are m params items)

-- texts
texts_known : (shelf : Shelf) (i : ℕ) (m : raw.Module) → module_at shelf i ≡ Some m → (indexes : List ℕ) → map (table_text shelf i) indexes ≡ map (name_at m) indexes
texts_known shelf i m e [] = refl
texts_known shelf i m e (n ∷ ns) =
    ap₂ (λ t ts. t ∷ ts) (ap (λ o. option_and_then raw.text_of (option_and_then (λ (m : raw.Module). slice_get m.qstrs n) o)) e) (texts_known shelf i m e ns)

-- what a row and a body say of the same bytes
record Same (m : raw.Module) (row : Row) (body : Body) : Type 0 where
  items : List Item
  offsets : List ℕ
  lists : Lists row.instructions.now items offsets
  instrs : instrs_of body ≡ map (resolved m) items
  lines : line_numbers body ≡ map (tables.line_of row.line_table.now) offsets

same : (shelf : Shelf) (i : ℕ) (m : raw.Module) (n : Placed) (row : Row) (body : Body) → IsRowOf shelf i n row → IsBody m n.bytes body → Same m row body
same shelf i m n row body r b =
    let parts : SameParts n.bytes b.prelude r.prelude b.begins r.begins = same_parts n.bytes b.prelude r.prelude b.begins r.begins in
    let lists : Lists b.begins.instructions b.items (starts 0 b.is_list.pieces) = record { is_list = b.is_list; offsets_are = refl } in
    record {
      items = b.items;
      offsets = starts 0 b.is_list.pieces;
      lists = subst (λ z. Lists z b.items (starts 0 b.is_list.pieces)) (parts.instructions ∙ sym r.instructions) lists;
      instrs = b.instrs;
      lines = b.lines ∙ ap (λ z. map (tables.line_of z) (starts 0 b.is_list.pieces)) (parts.lines ∙ sym r.line_table);
    }

size_is : (m : raw.Module) (items : List Item) (body : Body) → instrs_of body ≡ map (resolved m) items → length body.lines ≡ length items
size_is m items body e = sym (length-map body.lines (λ (l : ResolvedLine). l.item)) ∙ (ap length e ∙ length-map items (resolved m))

line_there : (m : raw.Module) (row : Row) (body : Body) (children : List ℕ) (s : Same m row body) (l : CodeList) (at : ℕ) (instr : Instr) (end : ℕ) → Listed row.instructions.now l → Starts l.offsets at → Reads l at instr end
    → slice_get (code_of body children).lines (position_in l.offsets at) ≡ Some (line_at m (length l.items) row.line_table.now at (listing.item l.offsets end instr))
line_there m row body children s l at instr end listed starts reads =
    let one = one_listing row.instructions.now l.items s.items l.offsets s.offsets listed s.lists in
    let p = position_in l.offsets at in
    let item = listing.item l.offsets end instr in
    let here : slice_get s.items p ≡ Some item = ap (λ z. slice_get z p) (sym one.0) ∙ reads.is in
    let items : slice_get (instrs_of body) p ≡ Some (resolved m item) = ap (λ z. slice_get z p) s.instrs ∙ (slice_get-map (resolved m) s.items p ∙ ap (option_map (resolved m)) here) in
    let there : slice_get s.offsets p ≡ Some at = ap (λ z. slice_get z p) (sym one.1) ∙ starts in
    let numbers : slice_get (line_numbers body) p ≡ Some (tables.line_of row.line_table.now at) =
    ap (λ z. slice_get z p) s.lines ∙ (slice_get-map (tables.line_of row.line_table.now) s.offsets p ∙ ap (option_map (tables.line_of row.line_table.now)) there) in
    let line = both_at body.lines p (resolved m item) (tables.line_of row.line_table.now at) items numbers in
    let size : length body.lines ≡ length l.items = size_is m s.items body s.instrs ∙ ap length (sym one.0) in
    slice_get-map (machine.line_of (length body.lines)) body.lines p
    ∙ (ap (option_map (machine.line_of (length body.lines))) line
    ∙ ap (λ z. Some (line_at m z row.line_table.now at item)) size)

runs_as : (shelf : Shelf) (i : ℕ) (m : raw.Module) (n : Placed) (row : Row) (code : Code) → module_at shelf i ≡ Some m → IsRowOf shelf i n row → IsCodeOf m n code → RunsAs shelf m row code
runs_as shelf i m n row code there r c =
    let body = c.body in
    let b = c.is_body in
    let parts : SameParts n.bytes b.prelude r.prelude b.begins r.begins = same_parts n.bytes b.prelude r.prelude b.begins r.begins in
    let s = same shelf i m n row body r b in
    let one = one_listing row.instructions.now r.list.items s.items r.list.offsets s.offsets r.listed s.lists in
    let args : b.prelude.args ≡ r.prelude.args = ap (λ (p : Prelude). p.args) parts.prelude in
    let texts : map (text_numbered shelf.pool) (row.name ∷ row.params) ≡ map Some (body.name ∷ body.args) =
    r.names ∙ (texts_known shelf i m there r.begins.indexes ∙ (ap (map (name_at m)) (sym parts.indexes) ∙ b.names)) in
    let params : length body.args ≡ r.prelude.args =
    (let n1 = ap length b.names in let n2 = length-map b.begins.indexes (name_at m) in let n3 : length (map (λ (t : List ℕ). Some t) body.args) ≡ length body.args = length-map body.args (λ (t : List ℕ). Some t) in omega (arith, n1, n2, n3, b.begins.count, args)) in
    let is = c.code_is in
    subst (RunsAs shelf m row) (sym is) (record {
      name = cc;
      params = cc;
      given = r.given ∙ (ap (λ (p : Prelude). p.defaults) (sym parts.prelude) ∙ sym b.defaults);
      locals = r.locals ∙ (ap₂ locals (sym params) one.0 ∙ (sym (locals_are m (length body.args) s.items) ∙ ap (machine.locals_of (length body.args)) (sym s.instrs)));
      children = r.children;
      as_many = λ l h.
          (let two = one_listing row.instructions.now l.items s.items l.offsets s.offsets h s.lists in
          length-map body.lines (machine.line_of (length body.lines)) ∙ (size_is m s.items body s.instrs ∙ ap length (sym two.0)));
      line = line_there m row body n.children s;
    })

-- the machine's code of a number, where there is one
pub runs_at : (shelf : Shelf) (i k : ℕ) (m : raw.Module) (tree : ResolvedModule) (n : Placed) (row : Row) → module_at shelf i ≡ Some m → IsModule m → Resolves m tree → slice_get (codes_of m) k ≡ Some n → IsRowOf shelf i n row → (code : Code) × (slice_get (module_of tree).codes k ≡ Some code) × RunsAs shelf m row code
runs_at shelf i k m tree n row there is resolves at r =
    let found = match_at m (codes_of m) (module_of tree).codes k n (all_match m tree is resolves) at in
    (found.0, found.1, runs_as shelf i m n row found.0 there r found.2)

pub as_many : (m : raw.Module) (tree : ResolvedModule) → IsModule m → Resolves m tree → length (module_of tree).codes ≡ length (codes_of m)
as_many m tree is resolves = match_count m (codes_of m) (module_of tree).codes (all_match m tree is resolves)

-- what is said of a row of a library
pub row_runs : (shelf : Shelf) (i k : ℕ) (m : raw.Module) (tree : ResolvedModule) (row : Row) → IsModule m → module_at shelf i ≡ Some m → Resolves m tree → IsRow shelf i k row → (code : Code) × (slice_get (module_of tree).codes k ≡ Some code) × RunsAs shelf m row code
row_runs shelf i k m tree row is there resolves r =
    let at : slice_get (codes_of m) k ≡ Some r.code = sym (ap (option_and_then (λ (m : raw.Module). slice_get (codes_of m) k)) there) ∙ r.there in
    runs_at shelf i k m tree r.code row there is resolves at r.is_row

pub row_file : (shelf : Shelf) (i k : ℕ) (m : raw.Module) (tree : ResolvedModule) (row : Row) → module_at shelf i ≡ Some m → Resolves m tree → IsRow shelf i k row → text_numbered shelf.pool row.source ≡ Some tree.source
row_file shelf i k m tree row there resolves r =
    r.is_row.source ∙ (ap (λ o. option_and_then raw.text_of (option_and_then (λ (m : raw.Module). slice_get m.qstrs 0) o)) there ∙ resolves.source)
