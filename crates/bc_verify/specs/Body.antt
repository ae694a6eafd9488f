-- What a code's own bytes say.
use Rattle.std.specs.Prelude.{◌≡◌, ℕ, List, length, map}
use Rattle.mpy_tree.specs.bc_ops.declared.listing.Item.{Item}
use Rattle.mpy_tree.specs.bc_ops.Listing.{Lists}
use Rattle.mpy_tree.specs.bc_prelude.declared.prelude.Prelude.{Prelude}
use Rattle.mpy_tree.specs.bc_prelude.Prelude.{Begins}
use Rattle.bc_refusals.specs.bc_flow.declared.code.Code.{Code as RustCode}
use Rattle.bc_refusals.specs.bc_flow.Action.{action}
use Rattle.bc_refusals.specs.bc_flow.Code.{Code, locals}

-- the instructions, and the numbers of the prelude
pub record Body : Type 0 where
  pub items : List Item
  pub n_state : ℕ
  pub n_exc : ℕ
  pub arguments : ℕ

-- the bytes are the code, whose instructions start at the offsets
pub record Says (bytes : List ℕ) (body : Body) (offsets : List ℕ) : Type 0 where
  pub prelude : Prelude
  pub begins : Begins bytes prelude
  pub lists : Lists begins.instructions body.items offsets
  pub n_state : body.n_state ≡ prelude.n_state
  pub n_exc : body.n_exc ≡ prelude.n_exc
  pub arguments : body.arguments ≡ prelude.args

-- what the decoded code says
abbrev pub body_of : RustCode → Body
body_of c = record { items = c.items.items; n_state = c.n_state; n_exc = c.n_exc; arguments = c.arguments }

-- what the flow is about
abbrev pub flow_of : Body → Code
flow_of body = record {
  actions = map (action (length body.items)) body.items;
  n_state = body.n_state;
  n_exc = body.n_exc;
  locals = locals body.arguments body.items;
}
