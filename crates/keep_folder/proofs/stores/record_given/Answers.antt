use Rattle.std.proofs.Common.{subst, sym}
use Rattle.sqlite.specs.Effect.{Database}
use Rattle.keep_store.specs.SavesKept.{kept_in}
use Rattle.keep_store.specs.Kept.{IsLoaded}
use Rattle.keep_folder.proofs.stores.record_given.Goals as goal

pub returns-clause-usable : goal.returns-clause-usable
returns-clause-usable g c = λ clean. c.in_ok-record.ensures.up (c.requires (c.in_ok-record.ensures.clean clean)) clean

pub returns-clause-found : goal.returns-clause-found
returns-clause-found g c = λ clean.
    let was = c.requires (c.in_ok-record.ensures.clean clean) in
    let ready = c.in_ok-record.ensures.up was clean in
    let same = (c.in_ok-record.ensures.stays was clean).same ready.is_open in
    (ready, subst (λ (d : Database). IsLoaded (kept_in d.trees).body c.in_ok-record.record) (sym same) (c.in_ok-record.ensures.loaded was clean))
