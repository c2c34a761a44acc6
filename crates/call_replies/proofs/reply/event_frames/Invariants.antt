use Rattle.std.proofs.Common.{◌≡◌, map, take}
use Rattle.call_replies.specs.Replies.{event_in, frames}
use Rattle.call_replies.proofs.reply.event_frames.Given as goal

abbrev pub invariant-loop-told : goal.invariant-loop-told
invariant-loop-told l = l.text.items ≡ frames (map event_in (take l.told-index l.events))
