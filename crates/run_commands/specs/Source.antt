-- The source: functions that assign drawn numbers to drawn keys of a dict, their calls, and a sum over the dict.
use Rattle.std.specs.Prelude.{ℕ, zero, suc, ◌+◌, ◌-◌, ◌*◌, ◌/◌, min, List, [], ◌++◌, codes, decimal}
use Rattle.run_commands.specs.Draws.{next, after, drawn}

-- an assignment from a state of the generator: its key is drawn, and then its value
abbrev pub assignment : ℕ → List ℕ
assignment state =
    codes "    d[" ++ (decimal (drawn (next state)) ++ (codes "] = " ++ (decimal (drawn (next (next state))) ++ codes "\n")))

-- that number of assignments, from a state on
abbrev pub assignments : ℕ → ℕ → List ℕ
assignments state zero = []
assignments state (suc count) = assignment state ++ assignments (next (next state)) count

-- the function with a number, and its assignments
abbrev pub function : (state number count : ℕ) → List ℕ
function state number count = codes "def f" ++ (decimal number ++ (codes "(d):\n" ++ assignments state count))

-- functions of 500 assignments each, from a number on, the last one with those that are left
abbrev pub functions : (many state number left : ℕ) → List ℕ
functions zero state number left = []
functions (suc many) state number left =
    let here = min left 500 in
    function state number here ++ functions many (after state (2 * here)) (suc number) (left - here)

-- the call of the function of that number
abbrev pub call : ℕ → List ℕ
call number = codes "f" ++ (decimal number ++ codes "(d)\n")

-- calls of `many` functions, from a number on
abbrev pub calls : (many number : ℕ) → List ℕ
calls zero number = []
calls (suc many) number = call number ++ calls many (suc number)

-- the sum over the dict, and its print
abbrev pub ending : List ℕ
ending = codes "s = 0\nfor k in d.keys():\n    s = s + k * d[k]\nprint(len(d), s)\n"

-- the source of a seed with `count` assignments
abbrev pub stress_text : (seed count : ℕ) → List ℕ
stress_text seed count =
    let many = (count + 499) / 500 in
    codes "d = {}\n" ++ (functions many seed 0 count ++ (calls many 0 ++ ending))
