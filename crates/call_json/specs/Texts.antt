-- The messages of refusals of texts that are no calls.
use Rattle.std.specs.Prelude.{ℕ, List, codes}
use Rattle.call_json.specs.declared.members.fault.Member.{Member}
use Rattle.call_json.specs.declared.members.fault.Member.TheVariants as members
use Rattle.call_json.specs.declared.members.fault.Refusal.{Refusal}
use Rattle.call_json.specs.declared.members.fault.Refusal.TheVariants.{NotJson, NoType, UnknownType, Missing, BadId, NotWhole, NotScalar, TooManyRoles, LimitExceeded}
use Rattle.call_json.specs.declared.members.fault.CallFault.{CallFault}
use Rattle.call_json.specs.declared.members.fault.CallFault.TheVariants.{OutOfMemory, Refused}

-- a missing member is named by its path: the names of the members that lead to it, joined by points
unfoldable pub missing_text : Member → List ℕ
missing_text members.User = codes "J4 Missing subscribe.framework_info.user"
missing_text members.FrameworkName = codes "J4 Missing subscribe.framework_info.name"
missing_text members.Roles = codes "J4 Missing subscribe.framework_info.roles"
missing_text members.FrameworkId = codes "J4 Missing framework_id"
missing_text members.AcceptedOffers = codes "J4 Missing accept.offer_ids"
missing_text members.OperationType = codes "J4 Missing accept.operations.type"
missing_text members.Tasks = codes "J4 Missing accept.operations.launch.task_infos"
missing_text members.TaskLabel = codes "J4 Missing accept.operations.launch.task_infos.name"
missing_text members.TaskId = codes "J4 Missing accept.operations.launch.task_infos.task_id"
missing_text members.TaskAgent = codes "J4 Missing accept.operations.launch.task_infos.agent_id"
missing_text members.Resources = codes "J4 Missing accept.operations.launch.task_infos.resources"
missing_text members.ResourceName =
    codes "J4 Missing accept.operations.launch.task_infos.resources.name"
missing_text members.ResourceType =
    codes "J4 Missing accept.operations.launch.task_infos.resources.type"
missing_text members.ResourceValue =
    codes "J4 Missing accept.operations.launch.task_infos.resources.scalar.value"
missing_text members.DeclinedOffers = codes "J4 Missing decline.offer_ids"
missing_text members.KilledTask = codes "J4 Missing kill.task_id"
missing_text members.AcknowledgedAgent = codes "J4 Missing acknowledge.agent_id"
missing_text members.AcknowledgedTask = codes "J4 Missing acknowledge.task_id"
missing_text members.AcknowledgedUpdate = codes "J4 Missing acknowledge.uuid"
missing_text members.ReconciledTasks = codes "J4 Missing reconcile.tasks"
missing_text members.ReconciledTask = codes "J4 Missing reconcile.tasks.task_id"

unfoldable pub refusal_text : Refusal → List ℕ
refusal_text NotJson = codes "J1 NotJson"
refusal_text NoType = codes "J2 NoType"
refusal_text UnknownType = codes "J3 UnknownType"
refusal_text (Missing member) = missing_text member
refusal_text BadId = codes "J5 BadId"
refusal_text NotWhole = codes "J6 NotWhole"
refusal_text NotScalar = codes "J7 NotScalar"
refusal_text TooManyRoles = codes "J8 TooManyRoles"
refusal_text LimitExceeded = codes "J9 LimitExceeded"

unfoldable pub fault_text : CallFault → List ℕ
fault_text OutOfMemory = codes "J10 OutOfMemory"
fault_text (Refused refusal) = refusal_text refusal
