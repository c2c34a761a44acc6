-- Mails as compact JSON, members in byte order of their names.
use Rattle.std.specs.Prelude.{ℕ, Bool, List, codes}
use Rattle.serde_json.specs.Data.{Data, boolean, string, object, no_members, member}
use Rattle.serde_json.specs.Written.{compact_text}
use Rattle.names_core.specs.Ids.{Numbered, id_text}
use Rattle.names_core.specs.declared.state.TaskState.{TaskState}
use Rattle.names_core.specs.States.{state_text}
use Rattle.quantity.specs.declared.rows.Row.{Row}
use Rattle.messages.specs.declared.task.Job.{Job}
use Rattle.messages.specs.declared.task.Booked.{Booked}
use Rattle.messages.specs.declared.mail.Command.{Command}
use Rattle.messages.specs.declared.mail.Command.TheVariants.{Launch, Kill, Ack, EndFramework}
use Rattle.messages.specs.declared.mail.MasterMail.{MasterMail}
use Rattle.messages.specs.declared.mail.MasterMail.TheVariants.{Hello, Issued}
use Rattle.messages.specs.declared.mail.AgentMail.{AgentMail}
use Rattle.messages.specs.declared.mail.AgentMail.TheVariants.{Report, Applied, Update}
use Rattle.messages.specs.declared.mail.ToAgent.{ToAgent}
use Rattle.messages.specs.declared.mail.ToMaster.{ToMaster}
use Rattle.event_json.specs.Texts.{whole, amounts, list_data}

-- an object of one member
abbrev pub only : List ℕ → Data → Data
only name d = object (member name d no_members)

abbrev pub framework_data : Numbered → Data
framework_data framework = string (id_text 70 framework)

abbrev pub key_data : Numbered → Data
key_data key = string (id_text 76 key)

abbrev pub offer_data : Numbered → Data
offer_data offer = string (id_text 79 offer)

-- from the master

abbrev pub launch_object : Job → List Numbered → Data
launch_object job offers = object
    (member (codes "framework") (framework_data job.framework)
    (member (codes "key") (key_data job.key)
    (member (codes "name") (string job.name)
    (member (codes "offers") (list_data offer_data offers)
    (member (codes "resources") (amounts job.resources) no_members)))))

abbrev pub ack_data : Numbered → ℕ → Data
ack_data key k =
    only (codes "ack")
    (object (member (codes "k") (whole k) (member (codes "key") (key_data key) no_members)))

unfoldable pub command_data : Command → Data
command_data (Launch job offers) = only (codes "launch") (launch_object job offers)
command_data (Kill key) = only (codes "kill") (key_data key)
command_data (Ack key k) = ack_data key k
command_data (EndFramework framework) = only (codes "end_framework") (framework_data framework)

abbrev pub hello_data : ℕ → ℕ → Data
hello_data run dead =
    only (codes "hello")
    (object (member (codes "dead") (whole dead) (member (codes "run") (whole run) no_members)))

abbrev pub issued_object : List ℕ → ℕ → ℕ → Command → Data
issued_object agent session number command = object
    (member (codes "agent") (string agent)
    (member (codes "n") (whole number)
    (member (codes "session") (whole session)
    (member (codes "what") (command_data command) no_members))))

unfoldable pub master_mail_data : List ℕ → MasterMail → Data
master_mail_data agent (Hello run dead) = hello_data run dead
master_mail_data agent (Issued session number command) =
    only (codes "cmd") (issued_object agent session number command)

-- from an agent

-- a task in a report
abbrev pub booked_data : Booked → Data
booked_data t = object
    (member (codes "ended") (boolean t.ended)
    (member (codes "framework") (framework_data t.job.framework)
    (member (codes "key") (key_data t.job.key)
    (member (codes "name") (string t.job.name)
    (member (codes "resources") (amounts t.job.resources)
    (member (codes "sent") (whole t.received)
    (member (codes "state") (string (state_text t.state)) no_members)))))))

abbrev pub report_object : List ℕ → ℕ → ℕ → List Booked → List Row → Data
report_object agent session run tasks total = object
    (member (codes "agent") (string agent)
    (member (codes "run") (whole run)
    (member (codes "session") (whole session)
    (member (codes "tasks") (list_data booked_data tasks)
    (member (codes "total") (amounts total) no_members)))))

abbrev pub applied_data : List ℕ → ℕ → ℕ → Data
applied_data agent session count = only (codes "applied") (object
    (member (codes "agent") (string agent)
    (member (codes "n") (whole count)
    (member (codes "session") (whole session) no_members))))

abbrev pub update_data : List ℕ → ℕ → Numbered → ℕ → TaskState → Bool → Data
update_data agent session key k state ended = only (codes "update") (object
    (member (codes "agent") (string agent)
    (member (codes "ended") (boolean ended)
    (member (codes "k") (whole k)
    (member (codes "key") (key_data key)
    (member (codes "session") (whole session)
    (member (codes "state") (string (state_text state)) no_members)))))))

unfoldable pub agent_mail_data : List ℕ → AgentMail → Data
agent_mail_data agent (Report session run tasks total) =
    only (codes "report") (report_object agent session run tasks total)
agent_mail_data agent (Applied session count) = applied_data agent session count
agent_mail_data agent (Update session key k state ended) =
    update_data agent session key k state ended

-- texts

abbrev pub to_agent_form : ToAgent → List ℕ
to_agent_form to = compact_text (master_mail_data to.agent to.mail)

abbrev pub to_master_form : ToMaster → List ℕ
to_master_form to = compact_text (agent_mail_data to.agent to.mail)
