use Rattle.std.proofs.Common.{◌≡◌, ◌≤◌, ℕ, length, false, Vec, Global, ap, ◌∙◌}
use Rattle.std.proofs.lemmas.Result.{IfOk-weaker}
use Rattle.serde_json.specs.View.{view}
use Rattle.serde_json.specs.Written.{compact_text, has_float}
use Rattle.event_json.specs.Bounds.{longest}
use Rattle.event_json.specs.Events.{event_text}
use Rattle.event_json.proofs.Floats.{no_float}
use Rattle.event_json.proofs.Lengths.{event_fits}
use Rattle.event_json.proofs.write.write_event.Goals as goal

pub returns : goal.returns
returns c =
    let value = view c.in_ok-value.value in
    let event = c.args.event.now in
    let written = IfOk-weaker c.to_vec.result (λ (v : Vec ℕ Global). has_float value ≡ false → v.items ≡ compact_text value) (λ (v : Vec ℕ Global). v.items ≡ event_text event)
    (λ v text. text (ap has_float c.in_ok-value.ensures.value ∙ no_float event) ∙ ap compact_text c.in_ok-value.ensures.value) c.to_vec.ensures.text in
    record {
      text = written;
      fits = IfOk-weaker c.to_vec.result (λ (v : Vec ℕ Global). v.items ≡ event_text event) (λ (v : Vec ℕ Global). length v.items ≤ longest)
          (λ v text. rw text (event_fits event c.in_ok-value.ensures.bounds)) written;
    }
