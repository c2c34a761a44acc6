-- Which call a text is, or its first fault.
use Rattle.std.specs.Prelude.{ℕ, nat_le, List, codes, bytes_eq, Option, None, Some, Result, Err, is_some, if◌then◌else◌}
use Rattle.std.specs.Str.{is_utf8}
use Rattle.serde_json.specs.Data.{Data, depth}
use Rattle.serde_json.specs.Find.{get, as_object}
use Rattle.serde_json.specs.Read.{max_depth, read}
use Rattle.call_json.specs.Trim.{trim}
use Rattle.call_json.specs.MemberLookups.{text_of}
use Rattle.call_json.specs.declared.members.fault.Refusal.{Refusal}
use Rattle.call_json.specs.declared.members.fault.Refusal.TheVariants.{NotJson, NoType, UnknownType}
use Rattle.call_json.specs.Frameworks.{teardown_of, revive_of, suppress_of}
use Rattle.call_json.specs.Subscribe.{subscribe_of}
use Rattle.call_json.specs.Offers.{accept_of, decline_of}
use Rattle.call_json.specs.Tasks.{kill_of, acknowledge_of, reconcile_of}
use Rattle.messages.specs.declared.call.Call.{Call}
use Rattle.call_json.specs.declared.read.Kind.{Kind}
use Rattle.call_json.specs.declared.read.Kind.TheVariants.{Subscribe, Teardown, Accept, Decline, Revive, Suppress, Kill, Acknowledge, Reconcile}

unfoldable pub kind_of : List ℕ → Option Kind
kind_of text =
    if bytes_eq text (codes "SUBSCRIBE") then Some Subscribe
    else (if bytes_eq text (codes "TEARDOWN") then Some Teardown
    else (if bytes_eq text (codes "ACCEPT") then Some Accept
    else (if bytes_eq text (codes "DECLINE") then Some Decline
    else (if bytes_eq text (codes "REVIVE") then Some Revive
    else (if bytes_eq text (codes "SUPPRESS") then Some Suppress
    else (if bytes_eq text (codes "KILL") then Some Kill
    else (if bytes_eq text (codes "ACKNOWLEDGE") then Some Acknowledge
    else (if bytes_eq text (codes "RECONCILE") then Some Reconcile else None))))))))

abbrev pub by_kind : Kind → Data → Result Call Refusal
by_kind Subscribe d = subscribe_of d
by_kind Teardown d = teardown_of d
by_kind Accept d = accept_of d
by_kind Decline d = decline_of d
by_kind Revive d = revive_of d
by_kind Suppress d = suppress_of d
by_kind Kill d = kill_of d
by_kind Acknowledge d = acknowledge_of d
by_kind Reconcile d = reconcile_of d

abbrev pub by_known : Option Kind → Data → Result Call Refusal
by_known None d = Err UnknownType
by_known (Some kind) d = by_kind kind d

abbrev pub by_type : Option (List ℕ) → Data → Result Call Refusal
by_type None d = Err NoType
by_type (Some text) d = by_known (kind_of text) d

-- the call that an object is
unfoldable pub nested_call : Data → Result Call Refusal
nested_call d =
    if is_some (as_object d) then by_type (text_of (get (codes "type") d)) d else Err NotJson

-- the call that a JSON value is, where it nests no deeper than a text may
unfoldable pub call_of : Data → Result Call Refusal
call_of d = if nat_le (depth d) max_depth then nested_call d else Err NotJson

abbrev pub call_in : Option Data → Result Call Refusal
call_in None = Err NotJson
call_in (Some d) = call_of d

-- a text is UTF-8, and JSON
unfoldable pub read_json : List ℕ → Result Call Refusal
read_json bytes = call_in (if is_utf8 bytes then read bytes else None)

-- the call that a text is: each whole number that is written with a point and zeros counts as such
abbrev pub read_call : List ℕ → Result Call Refusal
read_call bytes = read_json (trim bytes)
