use Rattle.std.proofs.Common.{◌≡◌, ◌∙◌, ◌++◌, List, length, map, take, ap, sym, subst, rules, arith}
use Rattle.std.proofs.Math.Seq.{take-append_seam}
use Rattle.cluster_laws.specs.Runs.{AreRising}
use Rattle.cluster_channels.specs.Streams.{KeptStream, received, kept_ids, opened_stream}
use Rattle.cluster_channels.proofs.Standing.{rising_first}
use Rattle.cluster_channels.proofs.Receiving.{ids_with, ids_after}
use Rattle.cluster_channels.proofs.streams.places.receive_in.Goals as goal

pub push_all-requires : goal.push_all-requires
push_all-requires c = subst AreRising (sym (ap (λ (ss : List KeptStream). kept_ids ss) c.in_default.ensures.ok ∙ ids_with c.args.streams.now.items c.args.opened.now)) c.requires

pub returns-in-Err-clause-ids : goal.returns-in-Err-clause-ids
returns-in-Err-clause-ids c =
    let same : c.truncate.new.self.items ≡ c.args.streams.now.items = search rules in
    subst (λ (ss : List KeptStream). AreRising (kept_ids ss)) (sym same) (rising_first (kept_ids c.args.streams.now.items) c.args.opened.now c.requires)

pub returns-in-Err-push_all-clause-ids : goal.returns-in-Err-push_all-clause-ids
returns-in-Err-push_all-clause-ids c =
    let xs = c.args.streams.now.items in
    let more = map opened_stream c.args.opened.now in
    let items : c.push_all.new.streams.items ≡ xs ++ more = c.in-Err-push_all.ensures.err ∙ c.in_default.ensures.ok in
    let count : c.len-count.result ≡ length xs = omega (arith, c.len-count.ensures) in
    let same : c.truncate-in-Err-push_all.new.self.items ≡ xs = c.truncate-in-Err-push_all.ensures.items ∙ (ap (λ (ss : List KeptStream). take c.len-count.result ss) items ∙ (ap (λ n. take n (xs ++ more)) count ∙ take-append_seam xs more)) in
    subst (λ (ss : List KeptStream). AreRising (kept_ids ss)) (sym same) (rising_first (kept_ids c.args.streams.now.items) c.args.opened.now c.requires)

pub returns-clause-ids : goal.returns-clause-ids
returns-clause-ids c =
    let same : c.push_all.new.streams.items ≡ received c.args.opened.now c.args.events.now c.args.streams.now.items = search rules in
    subst AreRising (sym (ap (λ (ss : List KeptStream). kept_ids ss) same ∙ ids_after c.args.streams.now.items c.args.opened.now c.args.events.now)) c.requires
