use Rattle.stream_core.proofs.Orders.{issued_applied, issued_numbered, issued_stay, taken_in_order, waiting_numbered}
use Rattle.stream_core.proofs.link.LinkOut.is_taken_in_order.Goals as goal

pub returns-clause-issues : goal.returns-clause-issues
returns-clause-issues g c all command h = (issued_stay all command c.args.self.now h, issued_numbered all command c.args.self.now h)

pub returns-clause-applies : goal.returns-clause-applies
returns-clause-applies g c all count h = issued_applied all count c.args.self.now h

pub returns-clause-waits : goal.returns-clause-waits
returns-clause-waits g c all place command h e = waiting_numbered all place command c.args.self.now h e

pub returns-clause-takes : goal.returns-clause-takes
returns-clause-takes g c all mails h = taken_in_order all mails h
