-- The values of objects.
use Rattle.std.specs.Prelude.{List, [], ◌∷◌, true, false}
use Rattle.qstr_pool.specs.mpy_base.Val.{Val, Vals, Only, Then, Nil, Truth, Int, Str, Fixed, Empty}
use Rattle.mpy_tree.specs.declared.module.Constant.{Constant}
use Rattle.mpy_tree.specs.declared.module.Constant.TheOpen.{Constant-F}
use Rattle.mpy_tree.specs.declared.module.Constant.TheFolds.{fold-Constant}

-- a tuple of values
abbrev pub vals_of : Val → List Val → Vals
vals_of v [] = Only v
vals_of v (u ∷ us) = Then v (vals_of u us)

-- the tuple of these values, which may be none
abbrev pub tuple_value : List Val → Val
tuple_value [] = Empty
tuple_value (v ∷ vs) = Fixed (vals_of v vs)

-- an object, from the values of its items
abbrev pub constant_step : Constant-F Val → Val
constant_step Constant-F.None = Nil
constant_step Constant-F.False = Truth false
constant_step Constant-F.True = Truth true
constant_step (Constant-F.Str text) = Str text
constant_step (Constant-F.Int n) = Int n
constant_step (Constant-F.Tuple items) = tuple_value items

-- the value of an object
abbrev pub value_of : Constant → Val
value_of = fold-Constant Val constant_step
