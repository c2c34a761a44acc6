use Rattle.std.proofs.Common.{sym, ap, ◌∙◌}
use Rattle.names_core.specs.Ids.{id_of}
use Rattle.http_head.proofs.Judged.{stream_none, stream_is}
use Rattle.http_head.proofs.fields.stream_by.Goals as goal

pub returns-in_default : goal.returns-in_default
returns-in_default c = stream_none c.args.text.now c.in_default.ensures.cases.0

pub returns-in-Ok-from_text : goal.returns-in-Ok-from_text
returns-in-Ok-from_text c = c.in-Ok-from_text.ensures.ok ∙ ap (id_of 83) c.in-Ok.ensures.cases.0 ∙ sym (stream_is c.args.text.now c.in-Ok.ensures.cases.1)
