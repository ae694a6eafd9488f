use Rattle.std.proofs.Common.{ℕ, ◌+◌, ◌<◌, ◌≡◌, List, ◌∷◌, ◌++◌, length, Some, None, sym, ◌∙◌, ap, subst, replicate, arith, subst₂, length-append}
use Rattle.std.proofs.Math.Path.{ap₂}
use Rattle.std.proofs.lemmas.List.{length-replicate}
use Rattle.std.proofs.lemmas.List.Elements.{All-nil, All-replicate}
use Rattle.arena_heap.specs.declared.cells.Cell.{Cell}
use Rattle.arena_heap.specs.declared.cells.Cell.TheVariants as variants
use Rattle.qstr_pool.specs.mpy_base.World.{kind_of, TextObject}
use Rattle.qstr_pool.specs.mpy_base.Weights.{Fits, more_cells}
use Rattle.qstr_pool.proofs.mpy_base_lemmas.Worlds.{later_made, object_made}
use Rattle.arena_heap.specs.Values.{ArenaObject, Leads}
use Rattle.arena_heap.specs.Cells.{blank, Holds}
use Rattle.arena_heap.proofs.NewObjects.{text_made}
use Rattle.arena_heap.proofs.Seen.{objects, holds_now, seen_fits, made_again, made_seen}
use Rattle.arena_heap.proofs.arena.Arena.make_text.Goals as goal
use Rattle.arena_heap.proofs.arena.Arena.make_text.Goals.{After-take_cells}

abbrev new : (c : After-take_cells) → ArenaObject
new c = TextObject (replicate c.args.count 0)

more_bytes : (c : After-take_cells) → length c.take_bytes.new.bytes.items ≡ length c.self.inside.bytes.items + length {A = ℕ} (replicate c.args.count 0)
more_bytes c = ap length c.take_bytes.ensures.items ∙ length-append c.self.inside.bytes.items (replicate c.args.count 0)

left : (c : After-take_cells) → Holds c.self.inside.keys c.take_cells.new.cells.items c.take_bytes.new.bytes.items (objects c.self.inside ++ Some (new c) ∷ replicate (more_cells (new c)) None)
left c =
    let a = c.self.inside in
    let h = text_made (holds_now a c.self.invariant) (replicate c.args.count 0) in
    let start : length a.bytes.items ≡ c.len-start.result = omega arith in
    let e : a.cells.items ++ variants.TextHead (record { start = length a.bytes.items; len = length {A = ℕ} (replicate c.args.count 0) }) ∷ replicate 1 blank ≡ c.take_cells.new.cells.items =
    ap₂ (λ (i j : ℕ). a.cells.items ++ variants.TextHead (record { start = i; len = j }) ∷ replicate 1 blank) start (length-replicate {A = ℕ} c.args.count 0) ∙ sym c.take_cells.ensures.items in
    subst₂ (λ (x : List Cell) (y : List ℕ). Holds c.self.inside.keys x y (objects a ++ Some (new c) ∷ replicate 1 None)) e (sym c.take_bytes.ensures.items) h

pub take_cells-requires : goal.take_cells-requires
take_cells-requires c = let f = seen_fits c.self.inside c.self.view_is c.in_ok-ask.ensures.ok in omega (arith, f.0, c.self.invariant.cells_taken)

pub invariant_of-self : goal.invariant_of-self
invariant_of-self c =
    made_again c.self.inside c.self.invariant c.self.view_is (new c) _ _ _ _ (subst (λ (x : ℕ). Fits c.args.self.now 2 x) (sym (length-replicate {A = ℕ} c.args.count 0)) c.in_ok-ask.ensures.ok) (left c) (more_bytes c) c.take_cells.ensures.capacity c.take_bytes.ensures.capacity
    (All-nil (Leads c.args.self.now.objects)) (All-replicate (λ (b : ℕ). b < 128) c.args.count 0 (omega arith))

pub returns-clause-made : goal.returns-clause-made
returns-clause-made c = made_seen c.self.inside c.self.view_is (new c) _ _ (subst (λ (x : ℕ). Fits c.args.self.now 2 x) (sym (length-replicate {A = ℕ} c.args.count 0)) c.in_ok-ask.ensures.ok) (left c) (more_bytes c) c.len-cell.result (omega arith)

pub returns-clause-later : goal.returns-clause-later
returns-clause-later c = later_made (returns-clause-made c)

pub take_bytes-requires : goal.take_bytes-requires
take_bytes-requires c = let f = seen_fits c.self.inside c.self.view_is c.in_ok-ask.ensures.ok in omega (arith, f.1, c.self.invariant.bytes_taken)

pub returns-clause-kind : goal.returns-clause-kind
returns-clause-kind c = ap kind_of (object_made (returns-clause-made c))
