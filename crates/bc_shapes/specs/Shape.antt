-- Kinds of slots, shapes, their order and where two meet.
use Rattle.std.specs.Prelude.{◌≡◌, ℕ, suc, Bool, true, false, not, ◌&&◌, List, [], ◌∷◌, ◌++◌, map, get_or, drop, replicate}
use Rattle.std.specs.Prelude.{Option, Some, None, nat_eq, if◌then◌else◌}
use Rattle.std.specs.List.{list_all}
use Rattle.bc_shapes.specs.declared.kinds.Kind.{Kind}
use Rattle.bc_shapes.specs.declared.kinds.Kind.TheVariants as kinds
use Rattle.bc_shapes.specs.declared.kinds.Want.{Want}
use Rattle.bc_shapes.specs.declared.kinds.Want.TheVariants as wants
use Rattle.bc_shapes.specs.declared.kinds.Give.{Give}
use Rattle.bc_shapes.specs.declared.kinds.Give.TheVariants.{New, Again}
use Rattle.bc_shapes.specs.declared.shape.Entry.{Entry}

-- what holds of a position: its slots and its entries, the topmost first
pub record At : Type 0 where
  pub slots : List Kind
  pub entries : List Entry

-- None or an entered exception may stand wherever a value or a cause is asked
pub data Below : Kind → Kind → Type 0 where
  same : {k : Kind} → Below k k
  value : Below kinds.Either kinds.Value
  cause : Below kinds.Either kinds.Cause

-- equally many slots, one by one below
pub data Belows : List Kind → List Kind → Type 0 where
  none : Belows [] []
  also : {k l : Kind} {ks ls : List Kind} → Below k l → Belows ks ls → Belows (k ∷ ks) (l ∷ ls)

-- slot by slot below, with the same entries
pub record Under (x y : At) : Type 0 where
  pub slots : Belows x.slots y.slots
  pub entries : x.entries ≡ y.entries

-- a slot of the kind serves what is asked
abbrev pub stands : Want → Kind → Bool
stands wants.Value kinds.Value = true
stands wants.Value kinds.Either = true
stands wants.Cause kinds.Cause = true
stands wants.Cause kinds.Either = true
stands wants.Top kinds.Value = true
stands wants.Top kinds.Either = true
stands wants.Top kinds.Iter1 = true
stands wants.Top kinds.Iter2 = true
stands wants.Top kinds.Iter3 = true
stands wants.Top kinds.Iter4 = true
stands wants.ValueOrNull kinds.Value = true
stands wants.ValueOrNull kinds.Either = true
stands wants.ValueOrNull kinds.Null = true
stands wants.Iter1 kinds.Iter1 = true
stands wants.Iter2 kinds.Iter2 = true
stands wants.Iter3 kinds.Iter3 = true
stands wants.Iter4 kinds.Iter4 = true
stands wants.Null kinds.Null = true
stands wants.Method kinds.Method = true
stands _ _ = false

-- the slots that are asked lie on top
abbrev pub fits : List Want → List Kind → Bool
fits [] ks = true
fits (w ∷ ws) [] = false
fits (w ∷ ws) (k ∷ ks) = stands w k && fits ws ks

-- each slot serves as a value
abbrev pub are_values : List Kind → Bool
are_values ks = list_all (stands wants.Value) ks

-- `n` values on top of others
abbrev pub takes : ℕ → List Want → List Want
takes n others = replicate n wants.Value ++ others

-- `n` new values on top of others
abbrev pub gives : ℕ → List Give → List Give
gives n others = replicate n (New kinds.Value) ++ others

-- a slot that was found keeps its kind
abbrev pub give_of : List Kind → Give → Kind
give_of ks (New k) = k
give_of ks (Again n) = get_or ks n kinds.Either

-- the slots once `n` are taken and these given
abbrev pub after : List Give → ℕ → List Kind → List Kind
after gs n ks = map (give_of ks) gs ++ drop n ks

-- where two kinds meet
abbrev pub join_kind : Kind → Kind → Option Kind
join_kind kinds.Value kinds.Value = Some kinds.Value
join_kind kinds.Value kinds.Either = Some kinds.Value
join_kind kinds.Cause kinds.Cause = Some kinds.Cause
join_kind kinds.Cause kinds.Either = Some kinds.Cause
join_kind kinds.Either kinds.Value = Some kinds.Value
join_kind kinds.Either kinds.Cause = Some kinds.Cause
join_kind kinds.Either kinds.Either = Some kinds.Either
join_kind kinds.Iter1 kinds.Iter1 = Some kinds.Iter1
join_kind kinds.Iter2 kinds.Iter2 = Some kinds.Iter2
join_kind kinds.Iter3 kinds.Iter3 = Some kinds.Iter3
join_kind kinds.Iter4 kinds.Iter4 = Some kinds.Iter4
join_kind kinds.Null kinds.Null = Some kinds.Null
join_kind kinds.Method kinds.Method = Some kinds.Method
join_kind _ _ = None

-- the kind where the condition holds, and else none
abbrev pub only : Kind → Bool → Option Kind
only k b = if b then Some k else None

-- a slot on top of others, where there is one and these are
abbrev pub both : Option Kind → Option (List Kind) → Option (List Kind)
both (Some k) (Some ks) = Some (k ∷ ks)
both _ _ = None

-- where two lists of slots meet: equally many slots, one by one
abbrev pub join : List Kind → List Kind → Option (List Kind)
join [] [] = Some []
join (k ∷ ks) (l ∷ ls) = both (join_kind k l) (join ks ls)
join _ _ = None

-- may the slot still become a value or a cause?
abbrev pub is_either : Kind → Bool
is_either kinds.Either = true
is_either _ = false

-- how many slots may still become a value or a cause
abbrev pub opens : List Kind → ℕ
opens [] = 0
opens (k ∷ ks) = if is_either k then suc (opens ks) else opens ks

-- are the two equal?
abbrev pub same_bool : Bool → Bool → Bool
same_bool true b = b
same_bool false b = not b

-- are the entries equal?
abbrev pub same_entry : Entry → Entry → Bool
same_entry d e = nat_eq d.handler e.handler && same_bool d.is_finally e.is_finally && same_bool d.active e.active && nat_eq d.height e.height

-- are there equally many entries, equal one by one?
abbrev pub same_entries : List Entry → List Entry → Bool
same_entries [] [] = true
same_entries (d ∷ ds) (e ∷ es) = same_entry d e && same_entries ds es
same_entries _ _ = false
