use Rattle.std.proofs.Common.{◌≡◌, ℕ, List, Result, Ok, length, ap, ◌∙◌, option_and_then, refl}
use Rattle.std.specs.Result.{result_ok}
use Rattle.base64.specs.Engines.{standard}
use Rattle.base64.specs.GeneralPurpose.{decode_of}
use Rattle.base64.specs.declared.decode.DecodeError.{DecodeError}
use Rattle.names_core.specs.Updates.{update_in}
use Rattle.names_core.proofs.UpdateTexts.{not_sixteen}
use Rattle.names_core.proofs.update.UpdateId.from_text.Goals as goal

pub returns-in-Err-clause-bad : goal.returns-in-Err-clause-bad
returns-in-Err-clause-bad c = λ same.
    let bytes = c.in-Ok.bytes.items in
    let decoded : decode_of standard c.args.text.now ≡ Ok bytes = rw c.as_bytes.ensures.value at c.in-Ok.ensures.ok in
    ap (λ (r : Result (List ℕ) DecodeError). option_and_then update_in (result_ok r)) decoded ∙ not_sixteen bytes (update_in bytes) refl (λ l. let no = c.in-Err.ensures.ok.1 (ap length c.deref.ensures.value ∙ l) in let bad : ⊥ = cc no in bad)
