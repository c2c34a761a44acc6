-- What a master holds, as the model of it has it, and what the model's steps make of that.
use Rattle.std.specs.Prelude.{◌≡◌, suc, Bool, true, if◌then◌else◌, List, ◌++◌, Option, Some, None, option_map, Result, Ok, Err}
use Rattle.names_core.specs.Ids.{Numbered}
use Rattle.messages.specs.declared.refusal.MasterRefusal.{MasterRefusal}
use Rattle.messages.specs.declared.refusal.MasterRefusal.TheVariants.{NotSubscribed, WrongStream, NoSuchFramework}
use Rattle.cluster_model.specs.Sides.{Run}
use Rattle.cluster_model.specs.Masters.{MasterEffect, Master, Moved, Registers, framework_of, is_torn, move_all}
use Rattle.cluster_model.specs.Calls.{is_stream}
use Rattle.master_state.specs.declared.fault.MasterFault.{MasterFault}
use Rattle.master_state.specs.declared.fault.MasterFault.TheVariants.{OutOfMemory, Refused}
use Rattle.master_state.specs.States.{State, StreamEvent}

-- the master of the model

abbrev pub run_of : State → Run
run_of s =
    record {
      number = s.run;
      serves = true;
      torn = s.torn;
      next_key = record { run = s.run; n = suc s.last_key };
      next_offer = record { run = s.run; n = s.next_offer };
    }

abbrev pub registers_of : State → Registers
registers_of s =
    record {
      now = s.moment;
      frameworks = s.frameworks;
      last_framework = s.last_framework;
      last_stream = s.last_stream;
    }

abbrev pub master_of : State → Master
master_of s = record { run = run_of s; sides = s.sides; registers = registers_of s }

-- all that a master holds: the run, its sides and the mails that it sent; its registers;
-- its events; the streams opened and closed
pub record Work : Type 0 where
  pub moved : Moved
  pub registers : Registers
  pub events : List StreamEvent
  pub opens : List Numbered
  pub closes : List Numbered

abbrev pub work_of : State → Work
work_of s = record {
  moved = record { run = run_of s; sides = s.sides; sent = s.outs.mails };
  registers = registers_of s;
  events = s.outs.events;
  opens = s.outs.opened;
  closes = s.outs.closed;
}

-- what a step of the model makes of it
abbrev pub done : MasterEffect → Work → Work
done d w = record {
  moved = move_all d.moves w.moved;
  registers = d.registers;
  events = w.events ++ d.events;
  opens = w.opens ++ d.opens;
  closes = w.closes ++ d.closes;
}

-- a step was done, or it was refused and nothing changed; memory is refused only where the step
-- isn't
abbrev pub Gave : {T : Type 0} → Result T MasterFault → State → State → MasterEffect → Type 0
Gave (Ok x) before after d = (d.refusal ≡ None) × (work_of after ≡ done d (work_of before))
Gave (Err OutOfMemory) before after d = d.refusal ≡ None
Gave (Err (Refused refusal)) before after d = (d.refusal ≡ Some refusal) × (after ≡ before)

-- the open stream on which a framework calls, or why it may not

abbrev pub admission_on : Option Numbered → Numbered → Result Numbered MasterRefusal
admission_on given open_one = if is_stream open_one given then Ok open_one else Err WrongStream

abbrev pub admission_of : Option Numbered → Bool → Option (Option Numbered)
    → Result Numbered MasterRefusal
admission_of given torn None = Err NoSuchFramework
admission_of given torn (Some None) = if torn then Err NoSuchFramework else Err NotSubscribed
admission_of given torn (Some (Some open_one)) =
    if torn then Err NoSuchFramework else admission_on given open_one

abbrev pub admission : Master → Option Numbered → Numbered → Result Numbered MasterRefusal
admission m given framework =
    admission_of given (is_torn m framework) (option_map (λ f. f.stream) (framework_of m framework))
