use Rattle.std.proofs.Common.{List, ◌++◌, ◌∙◌, ap, length}
use Rattle.std.specs.List.{flat_map}
use Rattle.snap_saving.specs.Put.{number}
use Rattle.prim_modules.specs.declared.entry.Entry.{Entry as Registered}
use Rattle.snap_saving.specs.Steps.{found, registered_bytes}
use Rattle.snap_saving.proofs.Adding.{joined2}
use Rattle.snap_saving.proofs.saving.put_registry.Goals as goal

pub returns : goal.returns
returns c =
    let f = registered_bytes (found c.args.places.now) in
    let es = c.entries-entries.result.now in
    c.in_ok-put_modules.ensures
    ∙ (joined2 c.args.out.now.items c.put_number.new.out.items (number (length es)) (flat_map f es) c.in_ok-put_number.ensures
    ∙ ap (λ (xs : List Registered). c.args.out.now.items ++ (number (length xs) ++ flat_map f xs)) c.entries-entries.ensures.are)
