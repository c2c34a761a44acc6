-- A refusal of an agent's file is one of the folder.
use Rattle.std.proofs.Common.{◌≡◌, List, subst, sym}
use Rattle.std.specs.List.{Contains}
use Rattle.master_agents.specs.declared.config.ConfiguredAgent.{ConfiguredAgent}
use Rattle.keep_folder.specs.Refusals.{IsFileRefusal, IsFolderRefusal}
use Rattle.keep_folder.specs.declared.folder_fault.FolderFault.{FolderFault}
use Rattle.keep_folder.specs.declared.folder_fault.FolderFault.TheVariants.{Store, TotalDiffers, NoCluster, OutOfMemory}

pub file_refused : (agents : List ConfiguredAgent) (a : ConfiguredAgent) (fault : FolderFault) → Contains agents a → IsFileRefusal a fault → IsFolderRefusal agents fault
file_refused agents a (Store path fault hint) among h = tt
file_refused agents a (TotalDiffers name) among h = (a, among, h)
file_refused agents a NoCluster among h = tt
file_refused agents a OutOfMemory among h = tt

-- so is that no cluster has these records
pub no_cluster_refused : (agents : List ConfiguredAgent) (fault : FolderFault) → fault ≡ NoCluster → IsFolderRefusal agents fault
no_cluster_refused agents fault is = subst (IsFolderRefusal agents) (sym is) tt
