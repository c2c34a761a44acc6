-- Why the records of a folder are refused.
use Rattle.std.specs.Prelude.{◌≡◌, false, List, Option, Some, string_bytes, ⊤}
use Rattle.std.specs.List.{Contains}
use Rattle.master_agents.specs.declared.config.ConfiguredAgent.{ConfiguredAgent}
use Rattle.messages.specs.declared.record.RecordParts.{RecordParts}
use Rattle.quantity.specs.Rows.{covers}
use Rattle.keep_folder.specs.declared.folder_fault.FolderFault.{FolderFault}
use Rattle.keep_folder.specs.declared.folder_fault.FolderFault.TheVariants.{TotalDiffers, NoCluster, OutOfMemory}

-- there is no record of an agent:
-- one was found that the agent's total doesn't cover, or memory was refused
abbrev pub IsRecordRefusal : ConfiguredAgent → Option RecordParts → FolderFault → Type 0
IsRecordRefusal a (Some d) (TotalDiffers name) =
    (covers a.total d.total ≡ false) × (string_bytes name ≡ a.name)
IsRecordRefusal a found OutOfMemory = ⊤
IsRecordRefusal a found fault = ⊥

-- a store failed, or memory was refused
abbrev pub IsStoreRefusal : FolderFault → Type 0
IsStoreRefusal (TotalDiffers name) = ⊥
IsStoreRefusal NoCluster = ⊥
IsStoreRefusal fault = ⊤

-- an agent's file has no record: as above, or its store failed
abbrev pub IsFileRefusal : ConfiguredAgent → FolderFault → Type 0
IsFileRefusal a (TotalDiffers name) = string_bytes name ≡ a.name
IsFileRefusal a NoCluster = ⊥
IsFileRefusal a fault = ⊤

-- a folder isn't opened: where a total isn't covered, it is one of a configured agent
abbrev pub IsFolderRefusal : List ConfiguredAgent → FolderFault → Type 0
IsFolderRefusal agents (TotalDiffers name) =
    (a : ConfiguredAgent) × Contains agents a × (string_bytes name ≡ a.name)
IsFolderRefusal agents fault = ⊤
