use Rattle.std.proofs.Common.{ℕ, length, Option, sym, ◌∙◌, ap, subst}
use Rattle.py_values.specs.mpy_base.World.{pairs_at}
use Rattle.arena_objects.specs.Found.{FirstFrom, HasKey, least}
use Rattle.arena_objects.specs.PlainKeys.{plain}
use Rattle.arena_objects.proofs.KeyCodes.{str_first}
use Rattle.arena_objects.proofs.finding.with_text.Goals as goal

pub returns : goal.returns
returns g c =
    let h = c.args.arena.now in
    let d = c.args.d.cell in
    let texts = g.C.Constants.text_of c.args.consts.now in
    let p = plain c.args.sought in
    subst (λ (found : Option ℕ). FirstFrom (HasKey texts h d p) (length (pairs_at h d)) 0 found)
    (sym (c.least.ensures ∙ ap (λ (found : Option ℕ). least found c.in_ok-named.named) c.least-unnamed.ensures))
    (str_first texts h d c.args.number p c.args.bytes.now c.requires.text c.requires.number c.in_ok-made.made c.in_ok-others.others c.in_ok-named.named
    c.in_ok-made.ensures c.in_ok-others.ensures c.in_ok-named.ensures)
