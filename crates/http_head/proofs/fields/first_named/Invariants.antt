use Rattle.std.proofs.Common.{◌≡◌, map, drop}
use Rattle.httparse.specs.Spans.{header_bytes}
use Rattle.http_head.specs.Heads.{values_of}
use Rattle.http_head.proofs.fields.first_named.Given as goal

abbrev pub invariant-loop-i : goal.invariant-loop-i
invariant-loop-i l = values_of l.name (map (header_bytes l.buf) (drop l.i l.headers)) ≡ values_of l.name (map (header_bytes l.buf) l.headers)
