use Rattle.std.proofs.Common.{ap, inl, refl}
use Rattle.keep_store.specs.SavesKept.{Kept}
use Rattle.event_json.specs.Texts.{record_form}
use Rattle.keep_folder.proofs.stores.record_kept.Goals as goal

pub returns-clause-kept : goal.returns-clause-kept
returns-clause-kept g c = λ clean.
    let saved = c.in_ok-save.ensures.saved (c.requires (c.in_ok-save.ensures.clean clean)) clean in
    let d = c.args.durable.now in
    (saved.0, (record_form d, ap (λ (kept : Kept). kept.body) saved.1, (record { durable = c.in_ok-save.ensures.durable; form = inl refl }, c.in_ok-save.ensures.recorded)))

pub returns-clause-replaced : goal.returns-clause-replaced
returns-clause-replaced g c = λ clean. (c.in_ok-save.ensures.saved (c.requires (c.in_ok-save.ensures.clean clean)) clean).1

pub returns-clause-usable : goal.returns-clause-usable
returns-clause-usable g c = λ clean. (c.in_ok-save.ensures.saved (c.requires (c.in_ok-save.ensures.clean clean)) clean).0
