use Rattle.std.proofs.Common.{rules, ◌≡◌, subst, sym}
use Rattle.keep_tables.specs.Tables.{IsLone}
use Rattle.keep_store.proofs.AddLemmas.{then}
use Rattle.keep_store.proofs.check.check_ids.Goals as goal

pub returns-in-Ok-clause-lone : goal.returns-in-Ok-clause-lone
returns-in-Ok-clause-lone c =
    let value : c.as_slice.result.now ≡ c.in-Ok.rows.items = search rules in
    then c.check_lone.result (λ lone. (c.in-Ok.rows, c.in-Ok.is, subst IsLone value lone)) c.check_lone.ensures.lone

pub returns-in-Ok-clause-damaged : goal.returns-in-Ok-clause-damaged
returns-in-Ok-clause-damaged c = λ is.
    let value : c.as_slice.result.now ≡ c.in-Ok.rows.items = search rules in
    (c.in-Ok.rows, c.in-Ok.is, λ lone. c.check_lone.ensures.damaged is (subst IsLone (sym value) lone))
