-- The orders and the first faults of small words.
use Rattle.std.proofs.Common.{◌≡◌, ℕ, [], ◌∷◌, Option, Some, None, Ok, Err, codes, refl}
use Rattle.mpy_words.specs.declared.order.Command.{Command}
use Rattle.mpy_words.specs.declared.order.Command.TheVariants.{Go, CheckAs, Cross, Merge, Freeze, Migrate, Run, Resume, Board, Stress}
use Rattle.mpy_words.specs.declared.order.Named.TheVariants.{Source, File, Input, Output, Manifest, Plan, Snapshot, Count}
use Rattle.mpy_words.specs.declared.order.Setting.TheVariants.{Level, StoredName, MainName, Base, Save, Cells, Steps}
use Rattle.mpy_words.specs.declared.order.WordFault.TheVariants.{NoCommand, Unknown, MissingName, MissingValue, BadNumber, Twice}
use Rattle.mpy_words.specs.Number.{value_of}
use Rattle.mpy_words.specs.Words.{Outcome, settings, past_files, named, order_of, source_name, main_name}

abbrev ordered : Command → ℕ → Option ℕ → Outcome
ordered command level stored_name =
    Ok (record { command = command; seed = 0; count = 0; level = level; stored_name = stored_name; main_name = None; base = None; save = None; cells = 65536; bytes = 262144; steps = 10000000 })

abbrev runs : (cells bytes steps : ℕ) → Outcome
runs cells bytes steps =
    Ok (record { command = Run; seed = 0; count = 0; level = 0; stored_name = None; main_name = None; base = None; save = None; cells = cells; bytes = bytes; steps = steps })

abbrev goes : (level cells bytes steps : ℕ) → Outcome
goes level cells bytes steps =
    Ok (record { command = Go; seed = 0; count = 0; level = level; stored_name = None; main_name = None; base = None; save = None; cells = cells; bytes = bytes; steps = steps })

abbrev stresses : (seed count : ℕ) → Outcome
stresses seed count =
    Ok (record { command = Stress; seed = seed; count = count; level = 0; stored_name = None; main_name = None; base = None; save = None; cells = 65536; bytes = 262144; steps = 10000000 })

no_word : order_of [] ≡ Err NoCommand
unfolding settings named past_files value_of
no_word = refl

another_word : order_of (codes "frob" ∷ []) ≡ Err (Unknown 0)
unfolding settings named past_files value_of
another_word = refl

go_alone : order_of (codes "go" ∷ []) ≡ Err (MissingName Source)
unfolding settings named past_files value_of
go_alone = refl

check_with_option : order_of (codes "check" ∷ codes "a" ∷ codes "-O" ∷ codes "1" ∷ []) ≡ Err (Unknown 2)
unfolding settings named past_files value_of
check_with_option = refl

check_alone : order_of (codes "check" ∷ []) ≡ Err (MissingName File)
unfolding settings named past_files value_of
check_alone = refl

check_without_names : order_of (codes "check" ∷ codes "-O" ∷ codes "1" ∷ []) ≡ Err (Unknown 1)
unfolding settings named past_files value_of
check_without_names = refl

check_as : order_of (codes "check" ∷ codes "a" ∷ codes "b" ∷ []) ≡ ordered CheckAs 0 None
unfolding settings named past_files value_of
check_as = refl

check_as_at_level : order_of (codes "check" ∷ codes "a" ∷ codes "b" ∷ codes "-O" ∷ codes "2" ∷ []) ≡ ordered CheckAs 2 None
unfolding settings named past_files value_of
check_as_at_level = refl

check_as_level_too_high : order_of (codes "check" ∷ codes "a" ∷ codes "b" ∷ codes "-O" ∷ codes "4" ∷ []) ≡ Err (BadNumber 4)
unfolding settings named past_files value_of
check_as_level_too_high = refl

check_as_without_level : order_of (codes "check" ∷ codes "a" ∷ codes "b" ∷ codes "-O" ∷ []) ≡ Err (MissingValue Level)
unfolding settings named past_files value_of
check_as_without_level = refl

check_as_surplus : order_of (codes "check" ∷ codes "a" ∷ codes "b" ∷ codes "x" ∷ []) ≡ Err (Unknown 3)
unfolding settings named past_files value_of
check_as_surplus = refl

check_as_option_of_runs : order_of (codes "check" ∷ codes "a" ∷ codes "b" ∷ codes "--cells" ∷ codes "9" ∷ []) ≡ Err (Unknown 3)
unfolding settings named past_files value_of
check_as_option_of_runs = refl

go_at_level : order_of (codes "go" ∷ codes "a" ∷ codes "-O" ∷ codes "3" ∷ []) ≡ ordered Go 3 None
unfolding settings named past_files value_of
go_at_level = refl

cross_alone : order_of (codes "cross" ∷ []) ≡ Err (MissingName Source)
unfolding settings named past_files value_of
cross_alone = refl

cross_one_name : order_of (codes "cross" ∷ codes "a" ∷ []) ≡ Err (MissingName File)
unfolding settings named past_files value_of
cross_one_name = refl

cross_two_names : order_of (codes "cross" ∷ codes "a" ∷ codes "b" ∷ []) ≡ ordered Cross 0 None
unfolding settings named past_files value_of
cross_two_names = refl

unknown_before_missing : order_of (codes "cross" ∷ codes "a" ∷ codes "-x" ∷ []) ≡ Err (Unknown 2)
unfolding settings named past_files value_of
unknown_before_missing = refl

option_for_name : order_of (codes "cross" ∷ codes "a" ∷ codes "-O" ∷ codes "1" ∷ []) ≡ Err (MissingName File)
unfolding settings named past_files value_of
option_for_name = refl

no_value : order_of (codes "cross" ∷ codes "a" ∷ codes "b" ∷ codes "-s" ∷ []) ≡ Err (MissingValue StoredName)
unfolding settings named past_files value_of
no_value = refl

value_with_dash : order_of (codes "cross" ∷ codes "a" ∷ codes "b" ∷ codes "-s" ∷ codes "-x" ∷ codes "-O" ∷ codes "3" ∷ []) ≡ ordered Cross 3 (Some 4)
unfolding settings named past_files value_of
value_with_dash = refl

twice_before_value : order_of (codes "cross" ∷ codes "a" ∷ codes "b" ∷ codes "-O" ∷ codes "1" ∷ codes "-O" ∷ []) ≡ Err (Twice Level)
unfolding settings named past_files value_of
twice_before_value = refl

twice_stored : order_of (codes "cross" ∷ codes "a" ∷ codes "b" ∷ codes "-s" ∷ codes "x" ∷ codes "-s" ∷ codes "y" ∷ []) ≡ Err (Twice StoredName)
unfolding settings named past_files value_of
twice_stored = refl

surplus : order_of (codes "cross" ∷ codes "a" ∷ codes "b" ∷ codes "c" ∷ []) ≡ Err (Unknown 3)
unfolding settings named past_files value_of
surplus = refl

great_number : order_of (codes "cross" ∷ codes "a" ∷ codes "b" ∷ codes "-O" ∷ codes "4" ∷ []) ≡ Err (BadNumber 4)
unfolding settings named past_files value_of
great_number = refl

option_for_number : order_of (codes "cross" ∷ codes "a" ∷ codes "b" ∷ codes "-O" ∷ codes "-O" ∷ []) ≡ Err (BadNumber 4)
unfolding settings named past_files value_of
option_for_number = refl

no_stored_name_of_go : order_of (codes "go" ∷ codes "a" ∷ codes "-s" ∷ codes "x" ∷ []) ≡ Err (Unknown 2)
unfolding settings named past_files value_of
no_stored_name_of_go = refl

merge_alone : order_of (codes "merge" ∷ []) ≡ Err (MissingName Output)
unfolding settings named past_files value_of
merge_alone = refl

merge_no_file : order_of (codes "merge" ∷ codes "o" ∷ []) ≡ ordered Merge 0 None
unfolding settings named past_files value_of
merge_no_file = refl

merge_two_files : order_of (codes "merge" ∷ codes "o" ∷ codes "a" ∷ codes "b" ∷ []) ≡ ordered Merge 0 None
unfolding settings named past_files value_of
merge_two_files = refl

merge_option : order_of (codes "merge" ∷ codes "o" ∷ codes "a" ∷ codes "-O" ∷ codes "b" ∷ []) ≡ Err (Unknown 3)
unfolding settings named past_files value_of
merge_option = refl

run_alone : order_of (codes "run" ∷ []) ≡ Err (MissingName File)
unfolding settings named past_files value_of
run_alone = refl

run_file : order_of (codes "run" ∷ codes "a.mpy" ∷ []) ≡ ordered Run 0 None
unfolding settings named past_files value_of
run_file = refl

run_in_room : order_of (codes "run" ∷ codes "a.mpy" ∷ codes "--cells" ∷ codes "26" ∷ codes "--bytes" ∷ codes "0" ∷ []) ≡ runs 26 0 10000000
unfolding settings named past_files value_of
run_in_room = refl

greatest_room : order_of (codes "run" ∷ codes "a.mpy" ∷ codes "--bytes" ∷ codes "16777216" ∷ codes "--steps" ∷ codes "1000000000000" ∷ codes "--cells" ∷ codes "4194304" ∷ []) ≡ runs 4194304 16777216 1000000000000
unfolding settings named past_files value_of
greatest_room = refl

no_cells : order_of (codes "run" ∷ codes "a.mpy" ∷ codes "--cells" ∷ []) ≡ Err (MissingValue Cells)
unfolding settings named past_files value_of
no_cells = refl

cells_no_number : order_of (codes "run" ∷ codes "a.mpy" ∷ codes "--cells" ∷ codes "x" ∷ []) ≡ Err (BadNumber 3)
unfolding settings named past_files value_of
cells_no_number = refl

too_many_cells : order_of (codes "run" ∷ codes "a.mpy" ∷ codes "--cells" ∷ codes "4194305" ∷ []) ≡ Err (BadNumber 3)
unfolding settings named past_files value_of
too_many_cells = refl

too_many_bytes : order_of (codes "run" ∷ codes "a.mpy" ∷ codes "--bytes" ∷ codes "16777217" ∷ []) ≡ Err (BadNumber 3)
unfolding settings named past_files value_of
too_many_bytes = refl

too_many_steps : order_of (codes "run" ∷ codes "a.mpy" ∷ codes "--steps" ∷ codes "1000000000001" ∷ []) ≡ Err (BadNumber 3)
unfolding settings named past_files value_of
too_many_steps = refl

twice_steps : order_of (codes "run" ∷ codes "a.mpy" ∷ codes "--steps" ∷ codes "1" ∷ codes "--bytes" ∷ codes "0" ∷ codes "--steps" ∷ codes "1" ∷ []) ≡ Err (Twice Steps)
unfolding settings named past_files value_of
twice_steps = refl

room_for_file : order_of (codes "run" ∷ codes "--cells" ∷ codes "1" ∷ []) ≡ Err (MissingName File)
unfolding settings named past_files value_of
room_for_file = refl

no_level_of_run : order_of (codes "run" ∷ codes "a.mpy" ∷ codes "-O" ∷ codes "1" ∷ []) ≡ Err (Unknown 2)
unfolding settings named past_files value_of
no_level_of_run = refl

go_in_room : order_of (codes "go" ∷ codes "a.py" ∷ codes "--cells" ∷ codes "26" ∷ codes "-O" ∷ codes "1" ∷ codes "--bytes" ∷ codes "0" ∷ codes "--steps" ∷ codes "7" ∷ []) ≡ goes 1 26 0 7
unfolding settings named past_files value_of
go_in_room = refl

no_room_of_cross : order_of (codes "cross" ∷ codes "a" ∷ codes "b" ∷ codes "--cells" ∷ codes "1" ∷ []) ≡ Err (Unknown 3)
unfolding settings named past_files value_of
no_room_of_cross = refl

given_name : source_name (codes "cross" ∷ codes "a" ∷ codes "b" ∷ codes "-s" ∷ codes "-x" ∷ []) (Some 4) ≡ codes "-x"
given_name = refl

own_name : source_name (codes "cross" ∷ codes "a" ∷ codes "b" ∷ []) None ≡ codes "a"
own_name = refl

freeze_alone : order_of (codes "freeze" ∷ []) ≡ Err (MissingName Manifest)
unfolding settings named past_files value_of
freeze_alone = refl

freeze_one_name : order_of (codes "freeze" ∷ codes "m.py" ∷ []) ≡ Err (MissingName Output)
unfolding settings named past_files value_of
freeze_one_name = refl

freeze_manifest : order_of (codes "freeze" ∷ codes "m.py" ∷ codes "i.img" ∷ []) ≡ ordered Freeze 0 None
unfolding settings named past_files value_of
freeze_manifest = refl

freeze_option : order_of (codes "freeze" ∷ codes "m.py" ∷ codes "i.img" ∷ codes "-m" ∷ codes "a" ∷ []) ≡ Err (Unknown 3)
unfolding settings named past_files value_of
freeze_option = refl

run_image : order_of (codes "run" ∷ codes "i.img" ∷ codes "-m" ∷ codes "-a" ∷ [])
    ≡ Ok (record { command = Run; seed = 0; count = 0; level = 0; stored_name = None; main_name = Some 3; base = None; save = None; cells = 65536; bytes = 262144; steps = 10000000 })
unfolding settings named past_files value_of
run_image = refl

no_main : order_of (codes "run" ∷ codes "i.img" ∷ codes "-m" ∷ []) ≡ Err (MissingValue MainName)
unfolding settings named past_files value_of
no_main = refl

main_twice : order_of (codes "run" ∷ codes "i.img" ∷ codes "-m" ∷ codes "a" ∷ codes "-m" ∷ []) ≡ Err (Twice MainName)
unfolding settings named past_files value_of
main_twice = refl

no_main_of_go : order_of (codes "go" ∷ codes "a.py" ∷ codes "-m" ∷ codes "a" ∷ []) ≡ Err (Unknown 2)
unfolding settings named past_files value_of
no_main_of_go = refl

given_main : main_name (codes "run" ∷ codes "i" ∷ codes "-m" ∷ codes "a" ∷ []) (Some 3) ≡ codes "a"
given_main = refl

own_main : main_name (codes "run" ∷ codes "i" ∷ []) None ≡ codes "main"
own_main = refl

migrate_alone : order_of (codes "migrate" ∷ []) ≡ Err (MissingName Input)
unfolding settings named past_files value_of
migrate_alone = refl

migrate_one_name : order_of (codes "migrate" ∷ codes "a.img" ∷ []) ≡ Err (MissingName Output)
unfolding settings named past_files value_of
migrate_one_name = refl

migrate_image : order_of (codes "migrate" ∷ codes "a.img" ∷ codes "b.img" ∷ []) ≡ ordered Migrate 0 None
unfolding settings named past_files value_of
migrate_image = refl

no_base_of_migrate : order_of (codes "migrate" ∷ codes "a.img" ∷ codes "b.img" ∷ codes "--base" ∷ codes "c.img" ∷ []) ≡ Err (Unknown 3)
unfolding settings named past_files value_of
no_base_of_migrate = refl

board_no_plan : order_of (codes "board" ∷ codes "i.img" ∷ []) ≡ Err (MissingName Plan)
unfolding settings named past_files value_of
board_no_plan = refl

board_plan : order_of (codes "board" ∷ codes "i.img" ∷ codes "p" ∷ []) ≡ ordered Board 0 None
unfolding settings named past_files value_of
board_plan = refl

run_over : order_of (codes "run" ∷ codes "i.img" ∷ codes "--base" ∷ codes "b.img" ∷ codes "-m" ∷ codes "a" ∷ [])
    ≡ Ok (record { command = Run; seed = 0; count = 0; level = 0; stored_name = None; main_name = Some 5; base = Some 3; save = None; cells = 65536; bytes = 262144; steps = 10000000 })
unfolding settings named past_files value_of
run_over = refl

base_no_file : order_of (codes "freeze" ∷ codes "m.py" ∷ codes "i.img" ∷ codes "--base" ∷ codes "-x" ∷ []) ≡ Err (MissingValue Base)
unfolding settings named past_files value_of
base_no_file = refl

base_twice : order_of (codes "board" ∷ codes "i.img" ∷ codes "p" ∷ codes "--base" ∷ codes "b" ∷ codes "--base" ∷ codes "-x" ∷ []) ≡ Err (Twice Base)
unfolding settings named past_files value_of
base_twice = refl

stress_numbers : order_of (codes "stress" ∷ codes "4294967295" ∷ codes "020000" ∷ []) ≡ stresses 4294967295 20000
unfolding settings named past_files value_of
stress_numbers = refl

too_many_assignments : order_of (codes "stress" ∷ codes "1" ∷ codes "20001" ∷ []) ≡ Err (BadNumber 2)
unfolding settings named past_files value_of
too_many_assignments = refl

great_seed : order_of (codes "stress" ∷ codes "4294967296" ∷ []) ≡ Err (BadNumber 1)
unfolding settings named past_files value_of
great_seed = refl

seed_alone : order_of (codes "stress" ∷ codes "7" ∷ []) ≡ Err (MissingName Count)
unfolding settings named past_files value_of
seed_alone = refl

no_number_before_missing : order_of (codes "stress" ∷ codes "x" ∷ []) ≡ Err (BadNumber 1)
unfolding settings named past_files value_of
no_number_before_missing = refl

no_negative_seed : order_of (codes "stress" ∷ codes "-1" ∷ codes "2" ∷ []) ≡ Err (Unknown 1)
unfolding settings named past_files value_of
no_negative_seed = refl

no_room_of_stress : order_of (codes "stress" ∷ codes "1" ∷ codes "2" ∷ codes "--cells" ∷ codes "1" ∷ []) ≡ Err (Unknown 3)
unfolding settings named past_files value_of
no_room_of_stress = refl

-- the file that a run saves to, by its place
saves : order_of (codes "run" ∷ codes "a.mpy" ∷ codes "--save" ∷ codes "s.bin" ∷ [])
    ≡ Ok (record { command = Run; seed = 0; count = 0; level = 0; stored_name = None; main_name = None; base = None; save = Some 3; cells = 65536; bytes = 262144; steps = 10000000 })
unfolding settings named past_files value_of
saves = refl

saves_to_none : order_of (codes "run" ∷ codes "a.mpy" ∷ codes "--save" ∷ codes "-s" ∷ []) ≡ Err (MissingValue Save)
unfolding settings named past_files value_of
saves_to_none = refl

only_runs_save : order_of (codes "go" ∷ codes "a.py" ∷ codes "--save" ∷ codes "s.bin" ∷ []) ≡ Err (Unknown 2)
unfolding settings named past_files value_of
only_runs_save = refl

-- the state from which a run goes on
resume_alone : order_of (codes "resume" ∷ []) ≡ Err (MissingName File)
unfolding settings named past_files value_of
resume_alone = refl

resume_one_name : order_of (codes "resume" ∷ codes "a.mpy" ∷ codes "--steps" ∷ codes "1" ∷ []) ≡ Err (MissingName Snapshot)
unfolding settings named past_files value_of
resume_one_name = refl

resumes : order_of (codes "resume" ∷ codes "a.mpy" ∷ codes "s.bin" ∷ codes "--save" ∷ codes "t.bin" ∷ codes "--base" ∷ codes "b.img" ∷ codes "--steps" ∷ codes "7" ∷ [])
    ≡ Ok (record { command = Resume; seed = 0; count = 0; level = 0; stored_name = None; main_name = None; base = Some 6; save = Some 4; cells = 65536; bytes = 262144; steps = 7 })
unfolding settings named past_files value_of
resumes = refl

no_room_of_resume : order_of (codes "resume" ∷ codes "a.mpy" ∷ codes "s.bin" ∷ codes "--cells" ∷ codes "9" ∷ []) ≡ Err (Unknown 3)
unfolding settings named past_files value_of
no_room_of_resume = refl

no_main_of_resume : order_of (codes "resume" ∷ codes "a.mpy" ∷ codes "-m" ∷ codes "a" ∷ []) ≡ Err (Unknown 2)
unfolding settings named past_files value_of
no_main_of_resume = refl

resume_surplus : order_of (codes "resume" ∷ codes "a.mpy" ∷ codes "s.bin" ∷ codes "t.bin" ∷ []) ≡ Err (Unknown 3)
unfolding settings named past_files value_of
resume_surplus = refl
