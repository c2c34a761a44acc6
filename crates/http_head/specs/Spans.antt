-- A header's spans where there is none.
use Rattle.httparse.specs.declared.spans.HeaderSpan.{HeaderSpan}

abbrev pub header_none : HeaderSpan
header_none = record { name = record { start = 0; end = 0 }; value = record { start = 0; end = 0 } }
