use Rattle.std.proofs.Common.{None, true, false, sym, ap, ◌∙◌}
use Rattle.std.specs.Prelude.{position}
use Rattle.std.specs.List.{list_any}
use Rattle.std.specs.Str.{bytes_eq}
use Rattle.bc_library.specs.declared.library.Loaded.{Loaded}
use Rattle.bc_library.proofs.Shelves.{member_is, member_at}
use Rattle.bc_library.proofs.library.Library.find.Goals as goal

pub returns-in-Some : goal.returns-in-Some
returns-in-Some c =
    let at = c.in-Some.ensures.place ∙ ap (position (λ (l : Loaded). bytes_eq c.args.name.now l.name)) c.deref.ensures.value in
    member_at c.self.inside.modules.items c.self.inside.refused c.self.inside.pool c.args.self.now c.args.name.now c.in-Some.place c.self.view_is at

pub returns-then-is_among : goal.returns-then-is_among
returns-then-is_among c =
    let at = c.in-None.ensures.place ∙ ap (position (λ (l : Loaded). bytes_eq c.args.name.now l.name)) c.deref.ensures.value in
    let among = sym c.if-is_among.true ∙ (c.is_among.ensures ∙ ap (list_any (bytes_eq c.args.name.now)) c.as_slice.ensures) in
    member_is c.self.inside.modules.items c.self.inside.refused c.self.inside.pool c.args.self.now c.args.name.now None true c.self.view_is at among

pub returns-else-is_among : goal.returns-else-is_among
returns-else-is_among c =
    let at = c.in-None.ensures.place ∙ ap (position (λ (l : Loaded). bytes_eq c.args.name.now l.name)) c.deref.ensures.value in
    let among = sym c.if-is_among.false ∙ (c.is_among.ensures ∙ ap (list_any (bytes_eq c.args.name.now)) c.as_slice.ensures) in
    member_is c.self.inside.modules.items c.self.inside.refused c.self.inside.pool c.args.self.now c.args.name.now None false c.self.view_is at among
