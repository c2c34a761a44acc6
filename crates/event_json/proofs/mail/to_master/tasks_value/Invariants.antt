use Rattle.std.proofs.Common.{◌≡◌, map, take}
use Rattle.serde_json.specs.View.{view}
use Rattle.event_json.specs.Mails.{booked_data}
use Rattle.event_json.proofs.mail.to_master.tasks_value.Given as goal

abbrev pub invariant-loop-task : goal.invariant-loop-task
invariant-loop-task l = map view l.values.items ≡ map booked_data (take l.task-index l.tasks)
