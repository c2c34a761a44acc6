-- Where one update of a task is acknowledged, and a call named it.
use Rattle.std.proofs.Common.{◌≡◌, ℕ, ◌≤◌, List, [], ◌∷◌, ap, ◌∙◌, subst, inl, inr, arith}
use Rattle.names_core.specs.Ids.{Numbered}
use Rattle.messages.specs.declared.task.Job.{Job}
use Rattle.messages.specs.declared.record.RecordParts.{RecordParts}
use Rattle.cluster_model.specs.Clusters.{Post}
use Rattle.cluster_safe.specs.Acknowledged.{WasSent}
use Rattle.cluster_safe.specs.AcknowledgedAt.{OwnersAcknowledged}
use Rattle.cluster_safe.specs.Origin.{IsOneOf}

pub first_named : (records : List RecordParts) (job : Job) (count : Numbered → ℕ) (posts : List Post) → count job.key ≤ 1 → WasSent job.framework job.key 0 posts → OwnersAcknowledged records (job ∷ []) count posts
first_named records job count posts few sent framework key k of lt = inl (by of.1)
  where
    by : IsOneOf of.0 (job ∷ []) → WasSent framework key k posts
    by (inl is) =
        let key_is : job.key ≡ key = ap (λ (j : Job). j.key) is ∙ of.2 in
        let framework_is : job.framework ≡ framework = ap (λ (j : Job). j.framework) is ∙ of.3 in
        let most : count key ≤ 1 = subst (λ i. count i ≤ 1) key_is few in
        let first : 0 ≡ k = omega arith in
        subst (λ n. WasSent framework key n posts) first (subst (λ f. WasSent f key 0 posts) framework_is (subst (λ i. WasSent job.framework i 0 posts) key_is sent))
    by (inr none) = absurd none
