-- The visit of an agent at a place.
use Rattle.std.proofs.Common.{◌≡◌, ℕ, zero, suc, ◌+◌, ◌<◌, List, [], ◌∷◌, length, take, fold, None, refl, ap, ◌∙◌, arith}
use Rattle.messages.specs.declared.framework.Framework.{Framework}
use Rattle.cluster_model.specs.Sides.{Side}
use Rattle.roster.specs.Places.{value_at}
use Rattle.master_agents.specs.Free.{open_part}
use Rattle.master_rounds.specs.Visits.{Progress, visits, visits_part}

visited_next : (run now : ℕ) (fs : List Framework) (p : Progress) (ss : List Side) (i : ℕ) → i < length ss
    → visits_part run now fs (fold (visits run now fs) p (take i ss)) (value_at i open_part None ss) ≡ fold (visits run now fs) p (take (suc i) ss)
visited_next run now fs p [] i within = absurd (omega arith)
visited_next run now fs p (s ∷ ss) zero within = refl
visited_next run now fs p (s ∷ ss) (suc i) within = visited_next run now fs (visits run now fs p s) ss i (omega arith)

pub visited_more : (run now : ℕ) (fs : List Framework) (p : Progress) (ss : List Side) (i : ℕ) → i < length ss
    → visits_part run now fs (fold (visits run now fs) p (take i ss)) (value_at i open_part None ss) ≡ fold (visits run now fs) p (take (i + 1) ss)
visited_more run now fs p ss i within =
    let one : suc i ≡ i + 1 = omega arith in
    visited_next run now fs p ss i within ∙ ap (λ n. fold (visits run now fs) p (take n ss)) one
