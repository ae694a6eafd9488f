use Rattle.std.proofs.Common.{ℕ, ◌-◌, List, [], ◌++◌, Bool, true, false, Option, Result, Err, map, sym, ap, ◌∙◌, subst, arith}
use Rattle.std.specs.Prelude.{codes}
use Rattle.py_primitives.specs.mpy_base.World.{object, pairs_at}
use Rattle.py_primitives.specs.mpy_base.Val.{Val}
use Rattle.arena_objects.specs.Iterables.{items_in}
use Rattle.py_primitives.specs.py_values.Equality.{Walk}
use Rattle.py_primitives.specs.Walks.{walk_all}
use Rattle.py_primitives.specs.mpy_base.Kind.{kind_name}
use Rattle.arena_objects.specs.arena_heap.declared.value.Value.{Value}
use Rattle.arena_objects.specs.arena_heap.Values.{Leads}
use Rattle.py_primitives.specs.Texts.{write_within, pair_text, joined, object_text, exception_str, texts_between, written}
use Rattle.prim_walks.specs.Leaves.{leaf_text}
use Rattle.prim_walks.specs.declared.budget.Halt.{Halt}
use Rattle.prim_walks.specs.Runs.{run}
use Rattle.prim_walks.specs.Plain.{plain, plain_pair, plain_object, plain_heap}
use Rattle.prim_walks.proofs.RunSteps.{run_answers}
use Rattle.prim_walks.proofs.EqualSteps.{dropped, none_left}
use Rattle.prim_walks.proofs.PenSteps.{wrote_nothing}
use Rattle.prim_walks.proofs.TextSteps.{Progress, progress_start, progress_step, progress_err, progress_end, map_err, between, wrought_by, behind_text, pair_err, pair_end}
use Rattle.prim_walks.proofs.LeafTexts.{halted, visited, list_written, dict_written, written_at, leaf_written, leaf_else, raised_written, no_argument, one_argument, more_arguments}
use Rattle.prim_walks.proofs.writing.+write_value.Goals as goal

pub write_all-loop-at-preserved : goal.write_all-loop-at-preserved
write_all-loop-at-preserved g t c =
    let texts = g.C.Constants.text_of c.args.consts.now in
    let tuples = g.C.Constants.items_of c.args.consts.now in
    let h = c.args.arena.now in
    let heap = plain_heap texts tuples h in
    let walk = write_within heap c.args.depth false in
    let items = items_in tuples h c.args.v in
    let xs = map (plain texts tuples) items in
    let rest = dropped (plain texts tuples) items c.loop-at.at c.item_at-item.result c.item_at-item.ensures.item in
    let left = c.loop-at.budget.left in
    let pen = c.loop-at.pen in
    let p = subst (λ (ys : List Val). Progress g.P.Pen.Takes walk xs ys c.loop-at.at c.args.budget.now.left left c.args.pen.now pen) rest c.loop-at.invariant in
    let w = c.in-Ok.ensures in
    progress_step walk (plain texts tuples c.item_at-item.result) w.answer p c.put_separator.ensures w.is w.wrote

pub write_all-returns-in-Err : goal.write_all-returns-in-Err
write_all-returns-in-Err g t c =
    let texts = g.C.Constants.text_of c.args.consts.now in
    let tuples = g.C.Constants.items_of c.args.consts.now in
    let h = c.args.arena.now in
    let heap = plain_heap texts tuples h in
    let walk = write_within heap c.args.depth false in
    let items = items_in tuples h c.args.v in
    let xs = map (plain texts tuples) items in
    let rest = dropped (plain texts tuples) items c.loop-at.at c.item_at-item.result c.item_at-item.ensures.item in
    let left = c.loop-at.budget.left in
    let pen = c.loop-at.pen in
    let p = subst (λ (ys : List Val). Progress g.P.Pen.Takes walk xs ys c.loop-at.at c.args.budget.now.left left c.args.pen.now pen) rest c.loop-at.invariant in
    progress_err walk (plain texts tuples c.item_at-item.result) c.in-Err.halt p c.in-Err.ensures

pub write_all-returns : goal.write_all-returns
write_all-returns g t c =
    let texts = g.C.Constants.text_of c.args.consts.now in
    let tuples = g.C.Constants.items_of c.args.consts.now in
    let h = c.args.arena.now in
    let heap = plain_heap texts tuples h in
    let walk = write_within heap c.args.depth false in
    let items = items_in tuples h c.args.v in
    let xs = map (plain texts tuples) items in
    let none = none_left (plain texts tuples) items c.loop-at.at (omega (arith, c.loop-at-test.false, c.item_count-at-end.ensures)) in
    progress_end walk (subst (λ (ys : List Val). Progress g.P.Pen.Takes walk xs ys c.loop-at.at c.args.budget.now.left c.loop-at.budget.left c.args.pen.now c.loop-at.pen) none c.loop-at.invariant)

pub write_pairs-loop-at-preserved : goal.write_pairs-loop-at-preserved
write_pairs-loop-at-preserved g t c =
    let texts = g.C.Constants.text_of c.args.consts.now in
    let tuples = g.C.Constants.items_of c.args.consts.now in
    let h = c.args.arena.now in
    let heap = plain_heap texts tuples h in
    let walk = pair_text heap (write_within heap c.args.depth) in
    let pairs = pairs_at h c.args.d.cell in
    let xs = map (plain_pair texts tuples) pairs in
    let rest = dropped (plain_pair texts tuples) pairs c.loop-at.at c.pair_at-key.result c.pair_at-key.ensures.pair in
    let left = c.loop-at.budget.left in
    let pen = c.loop-at.pen in
    let p = subst (λ (ys : List (Val × Val)). Progress g.P.Pen.Takes walk xs ys c.loop-at.at c.args.budget.now.left left c.args.pen.now pen) rest c.loop-at.invariant in
    let w = c.in-Ok.ensures in
    progress_step walk (plain_pair texts tuples c.pair_at-key.result) w.answer p c.put_separator.ensures w.is w.wrote

pub write_pairs-returns-in-Err : goal.write_pairs-returns-in-Err
write_pairs-returns-in-Err g t c =
    let texts = g.C.Constants.text_of c.args.consts.now in
    let tuples = g.C.Constants.items_of c.args.consts.now in
    let h = c.args.arena.now in
    let heap = plain_heap texts tuples h in
    let walk = pair_text heap (write_within heap c.args.depth) in
    let pairs = pairs_at h c.args.d.cell in
    let xs = map (plain_pair texts tuples) pairs in
    let rest = dropped (plain_pair texts tuples) pairs c.loop-at.at c.pair_at-key.result c.pair_at-key.ensures.pair in
    let left = c.loop-at.budget.left in
    let pen = c.loop-at.pen in
    let p = subst (λ (ys : List (Val × Val)). Progress g.P.Pen.Takes walk xs ys c.loop-at.at c.args.budget.now.left left c.args.pen.now pen) rest c.loop-at.invariant in
    progress_err walk (plain_pair texts tuples c.pair_at-key.result) c.in-Err.halt p c.in-Err.ensures

pub write_pairs-returns : goal.write_pairs-returns
write_pairs-returns g t c =
    let texts = g.C.Constants.text_of c.args.consts.now in
    let tuples = g.C.Constants.items_of c.args.consts.now in
    let h = c.args.arena.now in
    let heap = plain_heap texts tuples h in
    let walk = pair_text heap (write_within heap c.args.depth) in
    let pairs = pairs_at h c.args.d.cell in
    let xs = map (plain_pair texts tuples) pairs in
    let none = none_left (plain_pair texts tuples) pairs c.loop-at.at (omega (arith, c.loop-at-test.false, c.dict_len-at-end.ensures)) in
    progress_end walk (subst (λ (ys : List (Val × Val)). Progress g.P.Pen.Takes walk xs ys c.loop-at.at c.args.budget.now.left c.loop-at.budget.left c.args.pen.now c.loop-at.pen) none c.loop-at.invariant)

pub write_items-returns-in-Err : goal.write_items-returns-in-Err
write_items-returns-in-Err g t c =
    let texts = g.C.Constants.text_of c.args.consts.now in
    let tuples = g.C.Constants.items_of c.args.consts.now in
    let h = c.args.arena.now in
    let heap = plain_heap texts tuples h in
    let walk = write_within heap c.args.depth false in
    let items = items_in tuples h c.args.v in
    let xs = map (plain texts tuples) items in
    map_err (λ (texts : List (List ℕ)). c.args.front.now ++ joined (codes ", ") texts ++ c.args.end.now) (walk_all walk xs) c.args.budget.now.left c.write_all.new.budget.left c.in-Err.halt c.in-Err.ensures

pub write_items-returns : goal.write_items-returns
write_items-returns g t c =
    let texts = g.C.Constants.text_of c.args.consts.now in
    let tuples = g.C.Constants.items_of c.args.consts.now in
    let h = c.args.arena.now in
    let heap = plain_heap texts tuples h in
    let walk = write_within heap c.args.depth false in
    let items = items_in tuples h c.args.v in
    let xs = map (plain texts tuples) items in
    between g.P.Pen.Takes c.args.front.now c.args.end.now (walk_all walk xs) _ _ _ _ _ _ c.put.ensures c.in-Ok.ensures c.put-2.ensures

pub write_dict-returns-in-Err : goal.write_dict-returns-in-Err
write_dict-returns-in-Err g t c =
    let texts = g.C.Constants.text_of c.args.consts.now in
    let tuples = g.C.Constants.items_of c.args.consts.now in
    let h = c.args.arena.now in
    let heap = plain_heap texts tuples h in
    let walk = pair_text heap (write_within heap c.args.depth) in
    let pairs = pairs_at h c.args.d.cell in
    let xs = map (plain_pair texts tuples) pairs in
    map_err (λ (texts : List (List ℕ)). (codes "{") ++ joined (codes ", ") texts ++ (codes "}")) (walk_all walk xs) c.args.budget.now.left c.write_pairs.new.budget.left c.in-Err.halt c.in-Err.ensures

pub write_dict-returns : goal.write_dict-returns
write_dict-returns g t c =
    let texts = g.C.Constants.text_of c.args.consts.now in
    let tuples = g.C.Constants.items_of c.args.consts.now in
    let h = c.args.arena.now in
    let heap = plain_heap texts tuples h in
    let walk = pair_text heap (write_within heap c.args.depth) in
    let pairs = pairs_at h c.args.d.cell in
    let xs = map (plain_pair texts tuples) pairs in
    between g.P.Pen.Takes (codes "{") (codes "}") (walk_all walk xs) _ _ _ _ _ _ c.put.ensures c.in-Ok.ensures c.put-2.ensures

pub write_pair-returns-in-Err : goal.write_pair-returns-in-Err
write_pair-returns-in-Err g t c =
    let texts = g.C.Constants.text_of c.args.consts.now in
    let tuples = g.C.Constants.items_of c.args.consts.now in
    let h = c.args.arena.now in
    let heap = plain_heap texts tuples h in
    let write = write_within heap c.args.depth in
    pair_err heap write (plain texts tuples c.args.key) (plain texts tuples c.args.x) c.in-Err.halt _ _ c.in-Err.ensures

pub write_pair-returns : goal.write_pair-returns
write_pair-returns g t c =
    let texts = g.C.Constants.text_of c.args.consts.now in
    let tuples = g.C.Constants.items_of c.args.consts.now in
    let h = c.args.arena.now in
    let heap = plain_heap texts tuples h in
    let write = write_within heap c.args.depth in
    pair_end heap write (plain texts tuples c.args.key) (plain texts tuples c.args.x) g.P.Pen.Takes c.write_value-2.result _ _ _ _ _ _ _ c.in-Ok.ensures c.put.ensures c.write_value-2.ensures

pub write_arguments-returns-then-count-eq0 : goal.write_arguments-returns-then-count-eq0
write_arguments-returns-then-count-eq0 g t c =
    let texts = g.C.Constants.text_of c.args.consts.now in
    let tuples = g.C.Constants.items_of c.args.consts.now in
    let h = c.args.arena.now in
    let heap = plain_heap texts tuples h in
    let write = write_within heap c.args.depth in
    let items = items_in tuples h c.args.args in
    let left = c.args.budget.now.left in
    record {
      answer = [];
      is = ap (λ (walk : Walk (List ℕ)). run walk left) (no_argument heap write (plain texts tuples c.args.args) (plain texts tuples) items (sym c.item_count-count.ensures ∙ c.if-count-eq0.true)) ∙ run_answers [] left;
      wrote = wrote_nothing c.args.pen.now;
    }

pub write_arguments-returns-then-count-eq1 : goal.write_arguments-returns-then-count-eq1
write_arguments-returns-then-count-eq1 g t c =
    let texts = g.C.Constants.text_of c.args.consts.now in
    let tuples = g.C.Constants.items_of c.args.consts.now in
    let h = c.args.arena.now in
    let heap = plain_heap texts tuples h in
    let write = write_within heap c.args.depth in
    let items = items_in tuples h c.args.args in
    let left = c.args.budget.now.left in
    wrought_by g.P.Pen.Takes (λ (text : List ℕ). text) c.write_value.result _ _ _ _ _
    (ap (λ (walk : Walk (List ℕ)). run walk left) (one_argument heap write (plain texts tuples c.args.args) (plain texts tuples) items c.item_at-only.result (sym c.item_count-count.ensures ∙ c.if-count-eq1.true) c.item_at-only.ensures.item)) c.write_value.ensures

pub write_arguments-returns : goal.write_arguments-returns
write_arguments-returns g t c =
    let texts = g.C.Constants.text_of c.args.consts.now in
    let tuples = g.C.Constants.items_of c.args.consts.now in
    let h = c.args.arena.now in
    let heap = plain_heap texts tuples h in
    let write = write_within heap c.args.depth in
    let items = items_in tuples h c.args.args in
    let left = c.args.budget.now.left in
    wrought_by g.P.Pen.Takes (λ (text : List ℕ). text) c.write_value-2.result _ _ _ _ _
    (ap (λ (walk : Walk (List ℕ)). run walk left) (more_arguments heap write (plain texts tuples c.args.args) (plain texts tuples) items (λ e. c.if-count-eq0.false (c.item_count-count.ensures ∙ e)) (λ e. c.if-count-eq1.false (c.item_count-count.ensures ∙ e)))) c.write_value-2.ensures

pub write_exception-returns-then-raw : goal.write_exception-returns-then-raw
write_exception-returns-then-raw g t c =
    let texts = g.C.Constants.text_of c.args.consts.now in
    let tuples = g.C.Constants.items_of c.args.consts.now in
    let h = c.args.arena.now in
    let heap = plain_heap texts tuples h in
    let write = write_within heap c.args.depth in
    let x = c.exception_parts-kind.result in
    let parts = c.exception_parts-kind.ensures in
    let left = c.args.budget.now.left in
    let o = object h.objects c.args.e.cell in
    wrought_by g.P.Pen.Takes (λ (text : List ℕ). text) c.write_arguments.result _ _ _ _ _
    (ap (λ (walk : Walk (List ℕ)). run walk left) (ap (λ (raw : Bool). object_text heap write raw (plain_object texts tuples o)) c.if-raw.true
    ∙ (raised_written texts tuples h write true o (x.0) (x.1) parts.parts ∙ ap (exception_str heap write (plain texts tuples (x.1))) parts.items))) c.write_arguments.ensures

pub write_exception-returns : goal.write_exception-returns
write_exception-returns g t c =
    let texts = g.C.Constants.text_of c.args.consts.now in
    let tuples = g.C.Constants.items_of c.args.consts.now in
    let h = c.args.arena.now in
    let heap = plain_heap texts tuples h in
    let write = write_within heap c.args.depth in
    let x = c.exception_parts-kind.result in
    let parts = c.exception_parts-kind.ensures in
    let left = c.args.budget.now.left in
    let o = object h.objects c.args.e.cell in
    wrought_by g.P.Pen.Takes (λ (text : List ℕ). text) c.write_items.result _ _ _ _ _
    (ap (λ (walk : Walk (List ℕ)). run walk left) (ap (λ (raw : Bool). object_text heap write raw (plain_object texts tuples o)) c.if-raw.false
    ∙ (raised_written texts tuples h write false o (x.0) (x.1) parts.parts ∙ ap (texts_between heap write (kind_name (x.0) ++ codes "(") (codes ")")) parts.items)))
    (behind_text g.P.Pen.Takes (kind_name (x.0)) (codes "(") (codes ")") (walk_all (write false) (map (plain texts tuples) (items_in tuples h (x.1)))) c.write_items.result left _ _ _ _ c.put_kind.ensures c.write_items.ensures)

pub write_value-returns-in-Err : goal.write_value-returns-in-Err
write_value-returns-in-Err g t c =
    let texts = g.C.Constants.text_of c.args.consts.now in
    let tuples = g.C.Constants.items_of c.args.consts.now in
    let left : Option ℕ = c.args.budget.now.left in
    let pair : Halt → Result (List ℕ) Halt × Option ℕ = λ halt. (Err halt, left) in
    let kept : Option ℕ → Result (List ℕ) Halt × Option ℕ = λ n. (Err c.in-Err.halt, n) in
    halted (plain_heap texts tuples c.args.arena.now) c.args.raw (plain texts tuples c.args.v) c.args.depth left c.if-depth-eq0.false c.in-Err.ensures.spent
    ∙ (ap pair (sym c.in-Err.ensures.cause) ∙ ap kept (sym c.in-Err.ensures.kept))

pub write_value-returns-in-List : goal.write_value-returns-in-List
write_value-returns-in-List g t c =
    let texts = g.C.Constants.text_of c.args.consts.now in
    let tuples = g.C.Constants.items_of c.args.consts.now in
    let h = c.args.arena.now in
    let heap = plain_heap texts tuples h in
    let write = write_within heap (c.args.depth - 1) in
    let mid = c.spend.new.self.left in
    let seen = visited heap c.args.raw (plain texts tuples c.args.v) c.args.depth c.args.budget.now.left mid c.if-depth-eq0.false c.in-Ok.ensures.ok in
    let own = ap (λ (v : Value). run (written heap write c.args.raw (plain texts tuples v)) mid) c.in-List.is in
    let on : Walk (List ℕ) → Result (List ℕ) Halt × Option ℕ = λ walk. run walk mid in
    let leads = subst (Leads h.objects) c.in-List.is c.requires.leads in
    wrought_by g.P.Pen.Takes (λ (text : List ℕ). text) c.write_items.result _ _ _ _ _ (seen ∙ (own ∙ (ap on (list_written texts tuples h write c.args.raw c.in-List.field-0.cell leads.meets) ∙ sym (ap (λ (v : Value). run (texts_between heap write (codes "[") (codes "]") (map (plain texts tuples) (items_in tuples h v))) mid) c.in-List.is)))) c.write_items.ensures

pub write_value-returns-in-Fixed : goal.write_value-returns-in-Fixed
write_value-returns-in-Fixed g t c =
    let texts = g.C.Constants.text_of c.args.consts.now in
    let tuples = g.C.Constants.items_of c.args.consts.now in
    let heap = plain_heap texts tuples c.args.arena.now in
    let write = write_within heap (c.args.depth - 1) in
    let mid = c.spend.new.self.left in
    let seen = visited heap c.args.raw (plain texts tuples c.args.v) c.args.depth c.args.budget.now.left mid c.if-depth-eq0.false c.in-Ok.ensures.ok in
    let on : Walk (List ℕ) → Result (List ℕ) Halt × Option ℕ = λ walk. run walk mid in
    wrought_by g.P.Pen.Takes (λ (text : List ℕ). text) c.write_items-in-Fixed.result _ _ _ _ _ (seen ∙ ap on (c.tuple_end-end.ensures.written write c.args.raw)) c.write_items-in-Fixed.ensures

pub write_value-returns-in-Dict : goal.write_value-returns-in-Dict
write_value-returns-in-Dict g t c =
    let texts = g.C.Constants.text_of c.args.consts.now in
    let tuples = g.C.Constants.items_of c.args.consts.now in
    let h = c.args.arena.now in
    let heap = plain_heap texts tuples h in
    let write = write_within heap (c.args.depth - 1) in
    let mid = c.spend.new.self.left in
    let seen = visited heap c.args.raw (plain texts tuples c.args.v) c.args.depth c.args.budget.now.left mid c.if-depth-eq0.false c.in-Ok.ensures.ok in
    let own = ap (λ (v : Value). run (written heap write c.args.raw (plain texts tuples v)) mid) c.in-Dict.is in
    let on : Walk (List ℕ) → Result (List ℕ) Halt × Option ℕ = λ walk. run walk mid in
    let leads = subst (Leads h.objects) c.in-Dict.is c.requires.leads in
    wrought_by g.P.Pen.Takes (λ (text : List ℕ). text) c.write_dict.result _ _ _ _ _ (seen ∙ (own ∙ (ap on (dict_written texts tuples h write c.args.raw c.in-Dict.d.cell leads.meets)))) c.write_dict.ensures

pub write_value-returns-in-Exc : goal.write_value-returns-in-Exc
write_value-returns-in-Exc g t c =
    let texts = g.C.Constants.text_of c.args.consts.now in
    let tuples = g.C.Constants.items_of c.args.consts.now in
    let h = c.args.arena.now in
    let heap = plain_heap texts tuples h in
    let write = write_within heap (c.args.depth - 1) in
    let mid = c.spend.new.self.left in
    let seen = visited heap c.args.raw (plain texts tuples c.args.v) c.args.depth c.args.budget.now.left mid c.if-depth-eq0.false c.in-Ok.ensures.ok in
    let own = ap (λ (v : Value). run (written heap write c.args.raw (plain texts tuples v)) mid) c.in-Exc.is in
    let on : Walk (List ℕ) → Result (List ℕ) Halt × Option ℕ = λ walk. run walk mid in
    let leads = subst (Leads h.objects) c.in-Exc.is c.requires.leads in
    wrought_by g.P.Pen.Takes (λ (text : List ℕ). text) c.write_exception.result _ _ _ _ _ (seen ∙ (own ∙ (ap on (written_at texts tuples h write c.args.raw c.in-Exc.e.cell)))) c.write_exception.ensures

pub write_value-returns-in_default : goal.write_value-returns-in_default
write_value-returns-in_default g t c =
    let texts = g.C.Constants.text_of c.args.consts.now in
    let tuples = g.C.Constants.items_of c.args.consts.now in
    let h = c.args.arena.now in
    let heap = plain_heap texts tuples h in
    let write = write_within heap (c.args.depth - 1) in
    let mid = c.spend.new.self.left in
    let seen = visited heap c.args.raw (plain texts tuples c.args.v) c.args.depth c.args.budget.now.left mid c.if-depth-eq0.false c.in-Ok.ensures.ok in
    let on : Walk (List ℕ) → Result (List ℕ) Halt × Option ℕ = λ walk. run walk mid in
    let text = leaf_text texts h c.args.raw c.args.v in
    let d = c.in_default in
    record {
      answer = text;
      is = seen ∙ (ap on (leaf_written texts tuples h write c.args.raw c.args.v (leaf_else c.args.v d.not-Fixed d.not-Empty d.not-List d.not-Dict d.not-Tuple d.not-Exc) c.requires.leads) ∙ run_answers text mid);
      wrote = c.put_leaf.ensures;
    }

pub write_value-put_leaf-requires-clause-leaf : goal.write_value-put_leaf-requires-clause-leaf
write_value-put_leaf-requires-clause-leaf g t c =
    let d = c.in_default in
    leaf_else c.args.v d.not-Fixed d.not-Empty d.not-List d.not-Dict d.not-Tuple d.not-Exc

pub write_all-loop-at-init : goal.write_all-loop-at-init
write_all-loop-at-init g t c =
    let texts = g.C.Constants.text_of c.args.consts.now in
    let tuples = g.C.Constants.items_of c.args.consts.now in
    let h = c.args.arena.now in
    let heap = plain_heap texts tuples h in
    progress_start (write_within heap c.args.depth false) (map (plain texts tuples) (items_in tuples h c.args.v)) c.args.budget.now.left c.args.pen.now

pub write_pairs-loop-at-init : goal.write_pairs-loop-at-init
write_pairs-loop-at-init g t c =
    let texts = g.C.Constants.text_of c.args.consts.now in
    let tuples = g.C.Constants.items_of c.args.consts.now in
    let h = c.args.arena.now in
    let heap = plain_heap texts tuples h in
    progress_start (pair_text heap (write_within heap c.args.depth)) (map (plain_pair texts tuples) (pairs_at h c.args.d.cell)) c.args.budget.now.left c.args.pen.now
