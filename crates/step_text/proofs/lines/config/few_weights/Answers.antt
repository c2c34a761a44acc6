use Rattle.std.proofs.Common.{◌≡◌, ◌<◌, ◌≤◌, true, false, nat_le, refl, arith}
use Rattle.std.proofs.lemmas.Bool.{le-leb, lt-leb}
use Rattle.serde_json.specs.Events.{members_len}
use Rattle.serde_json.specs.View.{members_view}
use Rattle.serde_json.proofs.Views.{members_len-members_view}
use Rattle.step_text.specs.Configs.{most_weights}
use Rattle.step_text.proofs.lines.config.few_weights.Goals as goal

pub returns-then-len-gt-MOST_WEIGHTS : goal.returns-then-len-gt-MOST_WEIGHTS
returns-then-len-gt-MOST_WEIGHTS c =
    let ms = members_view c.args.members.now.entries in
    let over : most_weights < members_len ms = omega (arith, c.if-len-gt-MOST_WEIGHTS.true, c.len.ensures.len, members_len-members_view c.args.members.now.entries) in
    let many : nat_le (members_len ms) most_weights ≡ false = lt-leb _ _ over in
    rw many refl

pub returns : goal.returns
returns c =
    let ms = members_view c.args.members.now.entries in
    let within : members_len ms ≤ most_weights = omega (arith, c.if-len-gt-MOST_WEIGHTS.false, c.len.ensures.len, members_len-members_view c.args.members.now.entries) in
    let few : nat_le (members_len ms) most_weights ≡ true = le-leb _ _ within in
    rw few c.all_weights.ensures
