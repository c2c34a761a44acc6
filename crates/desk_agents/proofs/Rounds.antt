-- What a ticker's rounds add.
use Rattle.std.proofs.Common.{List, [], ◌∷◌, ◌++◌, refl, subst}
use Rattle.desk_lock.specs.Answering.{Refusing, Taking}
use Rattle.desk_agents.specs.Moments.{Reading}
use Rattle.desk_agents.specs.Rounds.{AreRounds, IsRound, Ticking}

-- one round more
pub rounds_then : {S : Type 0} (is_taken : Taking) (is_refused : Refusing) (reads : Reading S) (states : List (Ticking S)) (p q r : Ticking S) → AreRounds is_taken is_refused reads states p q → IsRound is_taken is_refused reads q r
    → AreRounds is_taken is_refused reads (states ++ r ∷ []) p r
rounds_then {S} is_taken is_refused reads [] p q r rounds round = (subst (λ (x : Ticking S). IsRound is_taken is_refused reads x r) rounds round, refl)
rounds_then {S} is_taken is_refused reads (next ∷ states) p q r rounds round = (rounds.0, rounds_then {S = S} is_taken is_refused reads states next q r rounds.1 round)
