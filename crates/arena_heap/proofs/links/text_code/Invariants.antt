use Rattle.std.proofs.Common.{◌≡◌, ◌<◌, ◌^◌, drop}
use Rattle.arena_heap.specs.Links.{bytes_code, text_code}
use Rattle.arena_heap.proofs.links.text_code.Given as goal

abbrev pub invariant-loop-byte : goal.invariant-loop-byte
invariant-loop-byte l = (bytes_code l.code (drop l.byte-index l.bytes) ≡ text_code l.bytes) × (l.code < 2 ^ 32)
