-- An instruction breaks one rule at most.
use Rattle.std.proofs.Common.{◌≡◌, ℕ, ◌+◌, ◌<◌, ◌≤◌, length, Some, below_more, refl, sym, subst, ◌∙◌, arith}
use Rattle.std.specs.Prelude.{slice_get}
use Rattle.mpy_tree.proofs.Codes.{get_within}
use Rattle.mpy_base.specs.declared.limits.TheConstants.{MAX_ITEMS}
use Rattle.mpy_tree.specs.bc_ops.declared.instr.Op.{Op}
use Rattle.mpy_tree.specs.bc_ops.declared.instr.Op.TheVariants as ops
use Rattle.mpy_tree.specs.bc_ops.declared.instr.Instr.{Instr}
use Rattle.mpy_tree.specs.bc_ops.declared.instr.Instr.TheVariants as instrs
use Rattle.mpy_tree.specs.bc_ops.declared.listing.Item.{Item}
use Rattle.mpy_tree.specs.bc_ops.declared.listing.Item.TheVariants as items
use Rattle.bc_refusals.specs.bc_flow.Code.{LeavesCode, item_locals, op_locals, named, op_named}
use Rattle.mpy_tree.specs.Raw.{Module}
use Rattle.bc_verify.specs.declared.fault.Rule.{Rule}
use Rattle.bc_verify.specs.declared.fault.Rule.TheVariants.{Jump, Height, Handlers, Falls, Local, State, Names}
use Rattle.bc_verify.specs.Body.{Body}
use Rattle.bc_verify.specs.Rules.{IsMissing, Breaks, KeepsAll}

-- the only rule that an instruction may break by itself
abbrev op_rule : Op → Rule
op_rule ops.LoadFast = Local
op_rule ops.StoreFast = Local
op_rule ops.LoadFastN = Local
op_rule ops.StoreFastN = Local
op_rule ops.DeleteFast = Local
op_rule ops.LoadConstObj = Names
op_rule ops.MakeFunction = Names
op_rule ops.MakeFunctionDefargs = Names
op_rule _ = State

abbrev instr_rule : Instr → Rule
instr_rule (instrs.Num op n) = op_rule op
instr_rule _ = Names

abbrev item_rule : Item → Rule
item_rule (items.Plain instr) = instr_rule instr
item_rule (items.Jump op to) = Jump
item_rule (items.Unwind to byte) = Jump

op_local : (op : Op) (n k : ℕ) → k < op_locals op n → Local ≡ op_rule op
op_local ops.LoadFast n k lt = refl
op_local ops.StoreFast n k lt = refl
op_local ops.LoadFastN n k lt = refl
op_local ops.StoreFastN n k lt = refl
op_local ops.DeleteFast n k lt = refl
op_local _ n k lt = absurd (omega (arith, lt))

op_state : (op : Op) (n k : ℕ) → k < op_named op n → State ≡ op_rule op
op_state ops.LoadFast n k lt = absurd (omega (arith, lt))
op_state ops.StoreFast n k lt = absurd (omega (arith, lt))
op_state ops.LoadFastN n k lt = absurd (omega (arith, lt))
op_state ops.StoreFastN n k lt = absurd (omega (arith, lt))
op_state ops.DeleteFast n k lt = absurd (omega (arith, lt))
op_state ops.LoadConstObj n k lt = absurd (omega (arith, lt))
op_state ops.MakeFunction n k lt = absurd (omega (arith, lt))
op_state ops.MakeFunctionDefargs n k lt = absurd (omega (arith, lt))
op_state _ n k lt = refl

op_names : (m : Module) (children : ℕ) (op : Op) (n : ℕ) → IsMissing m children (items.Plain (instrs.Num op n)) → Names ≡ op_rule op
op_names m children ops.LoadConstObj n h = refl
op_names m children ops.MakeFunction n h = refl
op_names m children ops.MakeFunctionDefargs n h = refl
op_names m children _ n h = absurd h

local_only : (item : Item) (k : ℕ) → k < item_locals item → Local ≡ item_rule item
unfolding item_locals
local_only (items.Plain (instrs.Num op n)) k lt = op_local op n k lt
local_only _ k lt = absurd (omega (arith, lt))

state_only : (item : Item) (k : ℕ) → k < named item → State ≡ item_rule item
unfolding named
state_only (items.Plain (instrs.Num op n)) k lt = op_state op n k lt
state_only _ k lt = absurd (omega (arith, lt))

names_only : (m : Module) (children : ℕ) (item : Item) → IsMissing m children item → Names ≡ item_rule item
names_only m children (items.Plain (instrs.Num op n)) h = op_names m children op n h
names_only m children (items.Plain (instrs.Name op n)) h = refl
names_only m children _ h = absurd h

jump_only : (size : ℕ) (item : Item) → LeavesCode size item → Jump ≡ item_rule item
jump_only size (items.Plain instr) h = absurd h
jump_only size (items.Jump op to) h = refl
jump_only size (items.Unwind to byte) h = refl

breaks_only : (m : Module) (children : ℕ) (body : Body) (rule : Rule) (item : Item) → Breaks m children body rule item → rule ≡ item_rule item
breaks_only m children body Jump item h = jump_only (length body.items) item h
breaks_only m children body Local item h = local_only item body.n_state h
breaks_only m children body Names item h = names_only m children item h
breaks_only m children body State item h = state_only item MAX_ITEMS h
breaks_only m children body Height item h = absurd h
breaks_only m children body Handlers item h = absurd h
breaks_only m children body Falls item h = absurd h

pub one_rule : (m : Module) (children : ℕ) (body : Body) (r s : Rule) (item : Item) → Breaks m children body r item → Breaks m children body s item → r ≡ s
one_rule m children body r s item h k = breaks_only m children body r item h ∙ sym (breaks_only m children body s item k)

-- none of the first `n` instructions breaks a rule by itself
abbrev pub KeepsBelow : Module → ℕ → Body → ℕ → Type 0
KeepsBelow m children body n =
    (q : ℕ) (other : Item) (another : Rule) → q < n → slice_get body.items q ≡ Some other → Breaks m children body another other → ⊥

pub keeps_more : (m : Module) (children : ℕ) (body : Body) (n : ℕ) (item : Item) → slice_get body.items n ≡ Some item → ((rule : Rule) → Breaks m children body rule item → ⊥) → KeepsBelow m children body n → KeepsBelow m children body (n + 1)
keeps_more m children body n item here keeps below q other another lt e h =
    below_more (λ (i : ℕ). (o : Item) (r : Rule) → slice_get body.items i ≡ Some o → Breaks m children body r o → ⊥) n (λ i less o r at k. below i o r less at k) keeps_here q lt other another e h
  where
    keeps_here : (o : Item) (r : Rule) → slice_get body.items n ≡ Some o → Breaks m children body r o → ⊥
    keeps_here o r at k =
        let one : Some o ≡ Some item = sym at ∙ here in
        let is : o ≡ item = cc in
        keeps r (subst (Breaks m children body r) is k)

pub keeps_all : (m : Module) (children : ℕ) (body : Body) (n : ℕ) → length body.items ≤ n → KeepsBelow m children body n → KeepsAll m children body
keeps_all m children body n le below p item rule e h = let lt = get_within body.items p item e in below p item rule (omega (arith, lt, le)) e h
