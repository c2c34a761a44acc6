use Rattle.std.proofs.Common.{◌≡◌, ◌≤◌, ◌++◌, flat_map, length, take}
use Rattle.std.specs.List.{All}
use Rattle.master_rounds.specs.News.{news_of}
use Rattle.master_rounds.proofs.Places.{Outside}
use Rattle.master_rounds.proofs.news.send_offers.Given as goal

abbrev pub invariant-loop-place : goal.invariant-loop-place
invariant-loop-place l = record {
  events : l.events ≡ l.fn.events ++ flat_map (news_of l.offers) (take l.passed l.frameworks);
  within : l.passed ≤ length l.frameworks;
  outside : All (Outside l.passed (length l.frameworks)) (take l.place-index l.place-items);
}
