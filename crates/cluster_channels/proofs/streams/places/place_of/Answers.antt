use Rattle.std.proofs.Common.{◌≡◌, ◌<◌, false, length, get_or, sym, ap, ◌∙◌, rules, arith}
use Rattle.std.proofs.lemmas.List.{get_or_default}
use Rattle.std.proofs.lemmas.List.Sorted.{IsPartitionPoint-from_clause}
use Rattle.names_core.specs.Ids.{before}
use Rattle.cluster_channels.specs.Streams.{KeptStream, is_kept_as}
use Rattle.cluster_channels.proofs.Standing.{placed, parted, not_placed}
use Rattle.cluster_channels.proofs.streams.places.place_of.Goals.{else-place-streams-via-then-place-streams+else-is, else-place-streams-via-else-place-streams}
use Rattle.cluster_channels.proofs.streams.places.place_of.Goals as goal

pub returns-then-is : goal.returns-then-is
returns-then-is c = sym (placed c.args.id c.args.streams.now c.partition_point-place.result c.index-streams-place.result c.requires (omega arith) c.index-streams-place.is (sym c.is.ensures ∙ c.if-is.true))

pub returns : goal.returns
returns c =
    let ss = c.args.streams.now in
    let id = c.args.id in
    let i = c.partition_point-place.result in
    let point = IsPartitionPoint-from_clause (λ (s : KeptStream). before s.id id) ss i c.partition_point-place.ensures.partitioned (parted id ss c.requires) (λ a r q k. search rules) in
    let other : (d : KeptStream) → i < length ss → is_kept_as id (get_or ss i d) ≡ false =
    elim c.else-place-streams.branch [
      | else-place-streams-via-then-place-streams+else-is w ↦ (λ d within. ap (is_kept_as id) (get_or_default ss i d w.index-streams-place.result within ∙ sym w.index-streams-place.is) ∙ (sym w.is.ensures ∙ w.if-is.false))
      | else-place-streams-via-else-place-streams w ↦ (λ d within. absurd (omega (arith, w.if-place-streams.false)))
    ] in
    sym (not_placed id ss i c.requires point other)
