use Rattle.http_head.proofs.Cuts.{cut_bounds}
use Rattle.http_head.proofs.Parts.{cut_is, cut_at, none_is, none_at}
use Rattle.http_head.proofs.laws.parts_are_found.Goals as goal

pub returns : goal.returns
returns c = record {
  some = λ place input n. ((λ is. ((cut_bounds place input n is).1, cut_is place input n is)), (λ is. cut_at place input n is.0 is.1));
  none = λ place input. (none_is place input, none_at place input);
}
