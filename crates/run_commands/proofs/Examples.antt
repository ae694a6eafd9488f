-- Small sources: how long they are, and the shortest one whole.
use Rattle.std.proofs.Common.{◌≡◌, length, codes, refl}
use Rattle.std.specs.Fmt.{digits}
use Rattle.run_commands.specs.Draws.{next, drawn}
use Rattle.run_commands.specs.Source.{stress_text}

nothing_assigned : stress_text 0 0 ≡ codes "d = {}\ns = 0\nfor k in d.keys():\n    s = s + k * d[k]\nprint(len(d), s)\n"
nothing_assigned = refl

nothing_is_70_bytes : length (stress_text 0 0) ≡ 70
nothing_is_70_bytes = refl

two_are_121_bytes : length (stress_text 1 2) ≡ 121
unfolding next drawn digits
two_are_121_bytes = refl

two_assigned : stress_text 1 2 ≡ codes "d = {}\ndef f0(d):\n    d[838] = 758\n    d[113] = 515\nf0(d)\ns = 0\nfor k in d.keys():\n    s = s + k * d[k]\nprint(len(d), s)\n"
unfolding next drawn digits
two_assigned = refl

five_are_169_bytes : length (stress_text 1 5) ≡ 169
unfolding next drawn digits
five_are_169_bytes = refl
