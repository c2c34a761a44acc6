use Rattle.command_line.proofs.Reading.{at_none}
use Rattle.command_line.proofs.options.serve_options.Goals as goal

pub returns-in_err-port_in-clause-none : goal.returns-in_err-port_in-clause-none
returns-in_err-port_in-clause-none c = at_none _ c.from_residual.result (λ o has. c.in_err-port_in.ensures.none o.port has.port)

pub returns-in_err-number_in-clause-none : goal.returns-in_err-number_in-clause-none
returns-in_err-number_in-clause-none c = at_none _ c.from_residual-in_err-number_in.result (λ o has. c.in_err-number_in.ensures.none o.interval has.interval)

pub returns-in_err-count_in-clause-none : goal.returns-in_err-count_in-clause-none
returns-in_err-count_in-clause-none c = at_none _ c.from_residual-in_err-count_in.result (λ o has. c.in_err-count_in.ensures.none o.offer_seconds has.offer_seconds)

pub returns-in_err-number_in-2-clause-none : goal.returns-in_err-number_in-2-clause-none
returns-in_err-number_in-2-clause-none c = at_none _ c.from_residual-in_err-number_in-2.result (λ o has. c.in_err-number_in-2.ensures.none o.task_seconds has.task_seconds)

pub returns-in_err-number_in-3-clause-none : goal.returns-in_err-number_in-3-clause-none
returns-in_err-number_in-3-clause-none c = at_none _ c.from_residual-in_err-number_in-3.result (λ o has. c.in_err-number_in-3.ensures.none o.connections has.connections)

pub returns-in_err-number_in-4-clause-none : goal.returns-in_err-number_in-4-clause-none
returns-in_err-number_in-4-clause-none c = at_none _ c.from_residual-in_err-number_in-4.result (λ o has. c.in_err-number_in-4.ensures.none o.idle_seconds has.idle_seconds)

pub returns-in_err-count_in-2-clause-none : goal.returns-in_err-count_in-2-clause-none
returns-in_err-count_in-2-clause-none c = at_none _ c.from_residual-in_err-count_in-2.result (λ o has. c.in_err-count_in-2.ensures.none o.workers has.workers)

pub returns-in_err-number_in-5-clause-none : goal.returns-in_err-number_in-5-clause-none
returns-in_err-number_in-5-clause-none c = at_none _ c.from_residual-in_err-number_in-5.result (λ o has. c.in_err-number_in-5.ensures.none o.memory has.memory)

pub returns-in_err-flag_in-clause-none : goal.returns-in_err-flag_in-clause-none
returns-in_err-flag_in-clause-none c = at_none _ c.from_residual-in_err-flag_in.result (λ o has. c.in_err-flag_in.ensures.none o.keep_serving has.keep_serving)
