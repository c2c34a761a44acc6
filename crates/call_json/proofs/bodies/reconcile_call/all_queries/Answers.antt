use Rattle.std.proofs.Common.{[], map}
use Rattle.std.proofs.lemmas.Result.{err_from_is_err_and}
use Rattle.serde_json.specs.View.{view}
use Rattle.call_json.specs.Lists.{each_in}
use Rattle.call_json.proofs.Each.{goes_on, ends, is_done}
use Rattle.call_json.specs.Tasks.{add_query}
use Rattle.call_json.proofs.bodies.reconcile_call.all_queries.Goals as goal

pub returns-in_err-add_query : goal.returns-in_err-add_query
returns-in_err-add_query c =
    let p = err_from_is_err_and c.from_residual.result c.from_residual.ensures.1 in
    rw (p.1, p.2) (ends _ add_query c.loop-value.queries.items c.args.values.now c.loop-value.value-index c.value-item.result (each_in add_query [] (map view c.args.values.now)) c.in_err-add_query.field-0.0 c.loop-value-test.true c.value-item.is c.in_err-add_query.ensures c.loop-value.invariant)

pub loop-value-preserved : goal.loop-value-preserved
loop-value-preserved c =
    goes_on _ add_query c.loop-value.queries.items c.add_query.new.queries.items c.args.values.now c.loop-value.value-index c.value-item.result (each_in add_query [] (map view c.args.values.now)) c.loop-value-test.true c.value-item.is c.in_ok-add_query.ensures c.loop-value.invariant

pub returns : goal.returns
returns c = is_done _ add_query c.loop-value.queries.items c.args.values.now c.loop-value.value-index (each_in add_query [] (map view c.args.values.now)) c.loop-value-test.false c.loop-value.invariant
