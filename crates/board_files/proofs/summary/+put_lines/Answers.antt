use Rattle.std.proofs.Common.{ℕ, List, ◌∷◌, OnErr, sym, subst}
use Rattle.std.specs.List.{concat}
use Rattle.std.specs.Io.KnownBytes.{Appends}
use Rattle.mpy_io.specs.Told.{AppendsFront}
use Rattle.board_files.proofs.Told.{front_on, on_err}
use Rattle.board_files.proofs.summary.+put_lines.Goals as goal

pub returns-in-Ok-clause-err : goal.returns-in-Ok-clause-err
returns-in-Ok-clause-err g t c =
    let line = c.in-Some.line.now in
    let rest = c.in-Some.rest.now in
    let before = g.S.Sink.told c.args.out.now in
    let between = g.S.Sink.told c.put.new.self in
    let behind = g.S.Sink.told c.put_lines.new.out in
    let first : Appends before between line = subst (λ (bytes : List ℕ). Appends before between bytes) c.bytes.ensures c.in-Ok.ensures.ok in
    subst (λ (lines : List (List ℕ)). OnErr c.put_lines.result (AppendsFront before behind (concat lines))) (sym c.in-Some.ensures.cases.0)
    (on_err c.put_lines.result (AppendsFront between behind (concat rest)) (AppendsFront before behind (concat (line ∷ rest))) (front_on before between behind line rest first) c.put_lines.ensures.err)
