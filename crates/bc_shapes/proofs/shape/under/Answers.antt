use Rattle.std.proofs.Common.{◌≡◌, ◌∙◌, length, true, sym, ap, subst, rules}
use Rattle.std.proofs.lemmas.Bool.{false≢true}
use Rattle.bc_shapes.specs.Shape.{Belows, same_entries}
use Rattle.bc_shapes.proofs.Joins.{belows-length, same_entries_is, same_entries_from}
use Rattle.bc_shapes.proofs.shape.under.Goals as goal

pub returns-then-len : goal.returns-then-len
returns-then-len c =
    let one : c.len.result ≡ length c.args.x.now.slots.items = search rules in
    let other : c.len-2.result ≡ length c.args.y.now.slots.items = search rules in
    (λ t. absurd (false≢true t), λ h. absurd (c.if-len.true (one ∙ belows-length _ _ h.slots ∙ sym other)))

pub returns-then-same_entries : goal.returns-then-same_entries
returns-then-same_entries c =
    let xs = c.args.x.now.slots.items in
    let ys = c.args.y.now.slots.items in
    let ds = c.args.x.now.entries.items in
    let es = c.args.y.now.entries.items in
    let test : same_entries ds es ≡ true = ap (λ z. same_entries z es) (sym c.deref.ensures.value) ∙ ap (same_entries c.deref.result.now) (sym c.deref-2.ensures.value) ∙ sym c.same_entries.ensures ∙ c.if-same_entries.true in
    let below = c.are_below.ensures in
    let left = c.deref-then-same_entries.ensures.value in
    let right = c.deref-then-same_entries-2.ensures.value in (
      λ t. record { slots = subst (λ z. Belows z ys) left (subst (Belows c.deref-then-same_entries.result.now) right (below.0 t)); entries = same_entries_is ds es test },
      λ h. below.1 (subst (λ z. Belows z c.deref-then-same_entries-2.result.now) (sym left) (subst (Belows xs) (sym right) h.slots)),
    )

pub returns-else-same_entries : goal.returns-else-same_entries
returns-else-same_entries c =
    let ds = c.args.x.now.entries.items in
    let es = c.args.y.now.entries.items in
    let test : same_entries ds es ≡ c.same_entries.result = ap (λ z. same_entries z es) (sym c.deref.ensures.value) ∙ ap (same_entries c.deref.result.now) (sym c.deref-2.ensures.value) ∙ sym c.same_entries.ensures in
    (λ t. absurd (false≢true (sym c.if-same_entries.false ∙ t)), λ h. sym test ∙ same_entries_from ds es h.entries)
