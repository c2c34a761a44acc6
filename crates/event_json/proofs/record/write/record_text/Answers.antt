use Rattle.std.proofs.Common.{◌≡◌, ap, ◌∙◌, false, string_bytes, String, Global}
use Rattle.std.proofs.lemmas.Result.{IfOk-weaker}
use Rattle.serde_json.specs.View.{view}
use Rattle.serde_json.specs.Written.{compact_text, has_float}
use Rattle.event_json.specs.Texts.{record_form}
use Rattle.event_json.proofs.RecordFloats.{no_float}
use Rattle.event_json.proofs.record.write.record_text.Goals as goal

pub returns-clause-text : goal.returns-clause-text
returns-clause-text c =
    let value = view c.in_ok-value.value in
    let durable = c.args.durable.now in
    IfOk-weaker c.to_string.result (λ (s : String Global). has_float value ≡ false → string_bytes s ≡ compact_text value) (λ (s : String Global). string_bytes s ≡ record_form durable)
    (λ s text. text (ap has_float c.in_ok-value.ensures.value ∙ no_float 2 durable) ∙ ap compact_text c.in_ok-value.ensures.value) c.to_string.ensures.text
