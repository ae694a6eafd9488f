use Rattle.std.proofs.Common.{ℕ, ◌++◌, take, ap, ◌∙◌}
use Rattle.prim_walks.proofs.parts.Cutter.keep.Goals as goal

pub returns-clause-kept : goal.returns-clause-kept
returns-clause-kept c =
    let part = c.args.self.now.part in
    c.fill-self.ensures.filled ∙ ap (λ (n : ℕ). take n (take part.count part.bytes ++ c.args.piece.now)) c.args.self.now.room
