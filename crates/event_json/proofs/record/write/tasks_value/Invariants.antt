use Rattle.std.proofs.Common.{◌≡◌, map, take}
use Rattle.std.specs.List.{AllByRecursion}
use Rattle.serde_json.specs.View.{view}
use Rattle.event_json.specs.Texts.{task_data}
use Rattle.event_json.specs.Written.{IsTask}
use Rattle.event_json.proofs.record.write.tasks_value.Given as goal

abbrev pub invariant-loop-task : goal.invariant-loop-task
invariant-loop-task l =
    record {
      written : map view l.values.items ≡ map task_data (take l.task-index l.tasks);
      are_tasks : AllByRecursion IsTask (take l.task-index l.tasks);
    }
