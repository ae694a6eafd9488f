use Rattle.std.proofs.Common.{Err, ap, sym, subst}
use Rattle.py_tokens.specs.Tokens.{IsTokens}
use Rattle.py_source.proofs.Owed.{accepted_owed, tokens_owed, tree_owed, names_owed}
use Rattle.py_source.proofs.source.read_source.Goals as goal

pub returns-in-Err : goal.returns-in-Err
returns-in-Err c =
    let o = tokens_owed c.args.level c.args.source.now c.in-Err.refusal (λ f e. c.in-Err.ensures.fault f (ap Err e)) in
    record { found = o.found; only = o.only; fault = o.fault; fault_only = o.fault_only }

pub returns-in-Err-parse : goal.returns-in-Err-parse
returns-in-Err-parse c =
    let are = subst (IsTokens c.args.level c.args.source.now) (sym c.deref.ensures.value) c.in-Ok.ensures.found in
    let o = tree_owed c.args.level c.args.source.now c.deref.result.now are c.in-Err-parse.refusal (λ f e. c.in-Err-parse.ensures.fault f (ap Err e)) in
    record { found = o.found; only = o.only; fault = o.fault; fault_only = o.fault_only }

pub returns-in-Ok-scopes : goal.returns-in-Ok-scopes
returns-in-Ok-scopes c =
    let are = subst (IsTokens c.args.level c.args.source.now) (sym c.deref.ensures.value) c.in-Ok.ensures.found in
    let o = accepted_owed c.args.level c.args.source.now (record { tree = c.in-Ok-parse.tree; slots = c.in-Ok-scopes.slots }) (record {
      is_source = record {
        list = c.deref.result.now;
        are_tokens = are;
        nests = c.in-Ok-parse.ensures.nests;
        is_tree = c.in-Ok-parse.ensures.found;
        faultless = c.in-Ok-scopes.ensures.only;
      };
      slots_are = c.in-Ok-scopes.ensures.found;
    }) in
    record { found = o.found; only = o.only; fault = o.fault; fault_only = o.fault_only }

pub returns : goal.returns
returns c =
    let are = subst (IsTokens c.args.level c.args.source.now) (sym c.deref.ensures.value) c.in-Ok.ensures.found in
    let o = names_owed c.args.level c.args.source.now c.deref.result.now c.in-Ok-parse.tree are c.in-Ok-parse.ensures.nests c.in-Ok-parse.ensures.found c.in-Err-scopes.refusal c.in-Err-scopes.ensures.fault in
    record { found = o.found; only = o.only; fault = o.fault; fault_only = o.fault_only }
