use Rattle.std.proofs.Common.{w32, to_z, of_z, ℤ, ◌≡◌, ℕ, ◌<◌, ◌≤◌, true, false, length, map, Err, Result, is_err, sym, ap, ◌∙◌, subst, refl}
use Rattle.std.proofs.lemmas.List.{length-map}
use Rattle.std.proofs.lemmas.Int.{to_z-of_z}
use Rattle.mpy_io.specs.Ports.{Puts}
use Rattle.port_set.specs.Calls.{CallsOne}
use Rattle.port_set.specs.declared.fault.PortFault.{PortFault}
use Rattle.port_set.specs.declared.fault.PortFault.TheVariants.{NoPort, Failed}
use Rattle.port_set.proofs.ToldCall.{put_told}
use Rattle.prim_outputs.proofs.PortsTold.{within, put_fine, put_failed, put_nowhere, failed_at, put_listed}
use Rattle.prim_outputs.proofs.ports.put_number.Goals as goal

pub returns-in-Ok-clause-told : goal.returns-in-Ok-clause-told
returns-in-Ok-clause-told g c contents tell fails =
    let seen = g.P.Port.seen in
    let old = map seen c.args.ports.now in
    let new = map seen c.put.new.self in
    let lt = within c.put.result (Err NoPort) (length c.args.ports.now) c.args.at c.put.ensures.no_port (λ e. let q = sym c.in-Ok.is ∙ e in cc) in
    let call = subst (λ (r : Result (Unit {0}) PortFault). CallsOne old new c.args.at (λ before after. Puts before after (to_z w32 (of_z w32 c.args.n)) (is_err r))) c.in-Ok.is (c.put.ensures.call lt) in
    let same = subst (λ (z : ℤ). CallsOne old new c.args.at (λ before after. Puts before after z false)) (to_z-of_z w32 c.args.n c.ranges.n) call in
    put_fine contents new c.args.at c.args.n (put_told old new contents c.args.at c.args.n false tell same)

pub returns-in-Err-NoPort-clause-told : goal.returns-in-Err-NoPort-clause-told
returns-in-Err-NoPort-clause-told g c contents tell fails =
    let seen = g.P.Port.seen in
    let old = map seen c.args.ports.now in
    let past = c.put.ensures.no_port.0 (c.in-Err-NoPort.is ∙ ap (λ (f : PortFault). Err f) c.in-Err-NoPort.field-0-is) in
    put_nowhere contents (map seen c.put.new.self) c.args.at c.args.n old tell (subst (λ (k : ℕ). k ≤ c.args.at) (sym (length-map c.args.ports.now seen)) past) (ap (map seen) (c.put.ensures.unchanged past))

pub returns-in-Err-Failed-clause-told : goal.returns-in-Err-Failed-clause-told
returns-in-Err-Failed-clause-told g c contents tell fails =
    let seen = g.P.Port.seen in
    let old = map seen c.args.ports.now in
    let new = map seen c.put.new.self in
    let lt = within c.put.result (Err NoPort) (length c.args.ports.now) c.args.at c.put.ensures.no_port (λ e. let q : Err c.in-Err-Failed.field-0 ≡ Err NoPort = sym c.in-Err-Failed.is ∙ e in let f = c.in-Err-Failed.field-0-is in cc) in
    let is : c.put.result ≡ Err Failed = c.in-Err-Failed.is ∙ ap (λ (f : PortFault). Err f) c.in-Err-Failed.field-0-is in
    let call = subst (λ (r : Result (Unit {0}) PortFault). CallsOne old new c.args.at (λ before after. Puts before after (to_z w32 (of_z w32 c.args.n)) (is_err r))) is (c.put.ensures.call lt) in
    let same = subst (λ (z : ℤ). CallsOne old new c.args.at (λ before after. Puts before after z true)) (to_z-of_z w32 c.args.n c.ranges.n) call in
    put_failed contents new c.args.at c.args.n (put_told old new contents c.args.at c.args.n true tell same) (fails refl)

pub returns-in-Err-Failed-clause-failed : goal.returns-in-Err-Failed-clause-failed
returns-in-Err-Failed-clause-failed g c e =
    let seen = g.P.Port.seen in
    let old = map seen c.args.ports.now in
    let new = map seen c.put.new.self in
    let lt = within c.put.result (Err NoPort) (length c.args.ports.now) c.args.at c.put.ensures.no_port (λ e. let q : Err c.in-Err-Failed.field-0 ≡ Err NoPort = sym c.in-Err-Failed.is ∙ e in let f = c.in-Err-Failed.field-0-is in cc) in
    let is : c.put.result ≡ Err Failed = c.in-Err-Failed.is ∙ ap (λ (f : PortFault). Err f) c.in-Err-Failed.field-0-is in
    let call = subst (λ (r : Result (Unit {0}) PortFault). CallsOne old new c.args.at (λ before after. Puts before after (to_z w32 (of_z w32 c.args.n)) (is_err r))) is (c.put.ensures.call lt) in
    let same = subst (λ (z : ℤ). CallsOne old new c.args.at (λ before after. Puts before after z true)) (to_z-of_z w32 c.args.n c.ranges.n) call in
    failed_at old new c.args.at (λ before after. Puts before after c.args.n true) (λ before after p. p.cause) (λ before after p. p.after) (subst (λ (k : ℕ). c.args.at < k) (sym (length-map c.args.ports.now seen)) lt) same

pub returns-in-Err-Failed-clause-listed : goal.returns-in-Err-Failed-clause-listed
returns-in-Err-Failed-clause-listed g c e contents listed = put_listed contents c.args.at c.args.n listed
