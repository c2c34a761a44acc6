-- What a master's step keeps of its run, and the order of the streams that it opens.
use Rattle.std.specs.Prelude.{◌≡◌, ◌⊎◌, suc, true, List, [], ◌∷◌, map, Some, ⊤}
use Rattle.std.specs.List.{AllByRecursion as Each}
use Rattle.names_core.specs.Ids.{Numbered, before}
use Rattle.messages.specs.declared.refusal.MasterRefusal.{MasterRefusal}
use Rattle.cluster_model.specs.Sides.{Run}
use Rattle.cluster_model.specs.Masters.{MasterEffect, Master, Move, AtSide, TearDownAll, RestartAll, HaltAll, refused}
use Rattle.cluster_model.specs.Calls.{new_stream}
use Rattle.cluster_model.specs.Clusters.{Cluster, Stream}
use Rattle.cluster_model.specs.Steps.{done, effect_of}

-- the same run, which serves if it did
pub record SameRun (old new : Run) : Type 0 where
  pub number : new.number ≡ old.number
  pub serves : new.serves ≡ old.serves

abbrev pub KeepsRun : Cluster → MasterEffect → Type 0
KeepsRun c d = SameRun c.world.run (done c (effect_of [] d)).after.world.run

-- a move within a run
abbrev pub IsPlain : Move → Type 0
IsPlain (AtSide agent step) = ⊤
IsPlain (TearDownAll framework) = ⊤
IsPlain RestartAll = ⊥
IsPlain HaltAll = ⊥

-- where it refuses, it does nothing else
abbrev pub RefusesAlone : Master → MasterEffect → Type 0
RefusesAlone m d = (r : MasterRefusal) → d.refusal ≡ Some r → d ≡ refused m r

-- no stream opens, or the one with the number after the last one
abbrev pub OpensNext : Master → MasterEffect → Type 0
OpensNext m d =
    ((d.opens ≡ []) × (d.registers.last_stream ≡ m.registers.last_stream))
    ⊎ ((d.opens ≡ new_stream m ∷ []) × (d.registers.last_stream ≡ suc m.registers.last_stream))

abbrev pub ids_of : List Stream → List Numbered
ids_of streams = map (λ s. s.id) streams

-- each id is before all that follow it
abbrev pub AreRising : List Numbered → Type 0
AreRising [] = ⊤
AreRising (id ∷ ids) = Each (λ later. before id later ≡ true) ids × AreRising ids
