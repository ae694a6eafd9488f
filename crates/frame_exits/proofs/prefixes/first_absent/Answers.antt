use Rattle.std.proofs.Common.{ℕ, List, ◌+◌, take, drop, sym, ap, ◌∙◌}
use Rattle.prim_modules.specs.Registry.{plain_modules}
use Rattle.frame_exits.proofs.Fronts.{fronts, absent, none_here, one_here, is_there_first}
use Rattle.frame_exits.proofs.prefixes.first_absent.Goals as goal
use Rattle.frame_exits.proofs.prefixes.first_absent.Goals.{else-name-at-eq46-via-then-name-at-eq46+else-not-is_there, else-name-at-eq46-via-else-name-at-eq46}

pub loop-at-preserved : goal.loop-at-preserved
loop-at-preserved g c w =
    let modules = plain_modules (g.C.Constants.text_of c.args.consts.now) (g.C.Constants.items_of c.args.consts.now) c.args.modules.now in
    let name = c.args.name.now in
    let at = c.loop-at.at in
    elim c.else-name-at-eq46.branch [
      | else-name-at-eq46-via-then-name-at-eq46+else-not-is_there b ↦
          sym (is_there_first modules w (take at name) (fronts (take (at + 1) name) (drop (at + 1) name)) (sym b.if-not-is_there.ensures))
          ∙ (sym (ap (λ (names : List (List ℕ)). absent modules w names) (one_here name at c.loop-at-test.true b.if-name-at-eq46.true)) ∙ c.loop-at.invariant w)
      | else-name-at-eq46-via-else-name-at-eq46 b ↦
          sym (ap (λ (names : List (List ℕ)). absent modules w names) (none_here name at c.loop-at-test.true b.if-name-at-eq46.false)) ∙ c.loop-at.invariant w
    ]
