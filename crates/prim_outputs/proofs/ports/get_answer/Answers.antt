use Rattle.std.proofs.Common.{ℤ, ◌≡◌, ℕ, ◌<◌, ◌≤◌, length, map, Ok, Err, Result, Option, sym, ap, ◌∙◌, subst, refl}
use Rattle.std.proofs.lemmas.List.{length-map}
use Rattle.mpy_io.specs.Ports.{Gets}
use Rattle.port_set.specs.Calls.{CallsOne}
use Rattle.port_set.specs.declared.fault.PortFault.{PortFault}
use Rattle.port_set.specs.declared.fault.PortFault.TheVariants.{NoPort, Failed}
use Rattle.port_set.proofs.ToldCall.{get_told}
use Rattle.prim_outputs.proofs.PortsTold.{within, get_fine, get_failed, get_nowhere, failed_at, get_listed}
use Rattle.prim_outputs.proofs.ports.get_answer.Goals as goal

pub returns-in-Ok-clause-told : goal.returns-in-Ok-clause-told
returns-in-Ok-clause-told g c contents tell fails =
    let seen = g.P.Port.seen in
    let old = map seen c.args.ports.now in
    let new = map seen c.get.new.self in
    let lt = within c.get.result (Err NoPort) (length c.args.ports.now) c.args.at c.get.ensures.no_port (λ e. let q = sym c.in-Ok.is ∙ e in cc) in
    let call = subst (λ (r : Result (Option ℤ) PortFault). CallsOne old new c.args.at (λ before after. Gets before after r)) c.in-Ok.is (c.get.ensures.call lt) in
    get_fine contents new c.args.at c.in-Ok.answer c.answer_value.result c.answer_value.ensures.taken (get_told old new contents c.args.at (Ok c.in-Ok.answer) tell call)

pub returns-in-Err-NoPort-clause-told : goal.returns-in-Err-NoPort-clause-told
returns-in-Err-NoPort-clause-told g c contents tell fails =
    let seen = g.P.Port.seen in
    let old = map seen c.args.ports.now in
    let past = c.get.ensures.no_port.0 (c.in-Err-NoPort.is ∙ ap (λ (f : PortFault). Err f) c.in-Err-NoPort.field-0-is) in
    get_nowhere contents (map seen c.get.new.self) c.args.at old tell (subst (λ (k : ℕ). k ≤ c.args.at) (sym (length-map c.args.ports.now seen)) past) (ap (map seen) (c.get.ensures.unchanged past))

pub returns-in-Err-Failed-clause-told : goal.returns-in-Err-Failed-clause-told
returns-in-Err-Failed-clause-told g c contents tell fails =
    let seen = g.P.Port.seen in
    let old = map seen c.args.ports.now in
    let new = map seen c.get.new.self in
    let lt = within c.get.result (Err NoPort) (length c.args.ports.now) c.args.at c.get.ensures.no_port (λ e. let q : Err c.in-Err-Failed.field-0 ≡ Err NoPort = sym c.in-Err-Failed.is ∙ e in let f = c.in-Err-Failed.field-0-is in cc) in
    let is : c.get.result ≡ Err Failed = c.in-Err-Failed.is ∙ ap (λ (f : PortFault). Err f) c.in-Err-Failed.field-0-is in
    let call = subst (λ (r : Result (Option ℤ) PortFault). CallsOne old new c.args.at (λ before after. Gets before after r)) is (c.get.ensures.call lt) in
    get_failed contents new c.args.at (get_told old new contents c.args.at (Err Failed) tell call) (fails refl)

pub returns-in-Err-Failed-clause-failed : goal.returns-in-Err-Failed-clause-failed
returns-in-Err-Failed-clause-failed g c e =
    let seen = g.P.Port.seen in
    let old = map seen c.args.ports.now in
    let new = map seen c.get.new.self in
    let lt = within c.get.result (Err NoPort) (length c.args.ports.now) c.args.at c.get.ensures.no_port (λ e. let q : Err c.in-Err-Failed.field-0 ≡ Err NoPort = sym c.in-Err-Failed.is ∙ e in let f = c.in-Err-Failed.field-0-is in cc) in
    let is : c.get.result ≡ Err Failed = c.in-Err-Failed.is ∙ ap (λ (f : PortFault). Err f) c.in-Err-Failed.field-0-is in
    let call = subst (λ (r : Result (Option ℤ) PortFault). CallsOne old new c.args.at (λ before after. Gets before after r)) is (c.get.ensures.call lt) in
    failed_at old new c.args.at (λ before after. Gets {E = PortFault} before after (Err Failed)) (λ before after p. p.cause) (λ before after p. p.after) (subst (λ (k : ℕ). c.args.at < k) (sym (length-map c.args.ports.now seen)) lt) call

pub returns-in-Err-Failed-clause-listed : goal.returns-in-Err-Failed-clause-listed
returns-in-Err-Failed-clause-listed g c e contents listed = get_listed contents c.args.at listed
