-- What a store keeps that answered a request, where it is open, and what its files keep.
use Rattle.std.specs.Prelude.{◌≡◌, ℕ, Option}
use Rattle.messages.specs.declared.record.RecordParts.{RecordParts}
use Rattle.sqlite_disk.specs.declared.Disk.{Ghosts}
use Rattle.sqlite_disk.specs.declared.Files.{Files}
use Rattle.sqlite_wal.specs.Files.{outcomes}
use Rattle.sqlite_wal.specs.Recovery.{Image}
use Rattle.sqlite.specs.Closing.{HoldsAlone}
use Rattle.sqlite.specs.Files.{image_of}
use Rattle.sqlite.specs.State.{State, HasCleanDisk}
use Rattle.sqlite.specs.Tree.{Trees}
use Rattle.sqlite_catalog.specs.Listing.{IsSound}
use Rattle.keep_tables.specs.Tables.{IsReady, keeper_schema}
use Rattle.keep_store.specs.SavesKept.{kept_in}
use Rattle.keep_store.specs.Kept.{IsLoaded}

-- the store is ready, unless its disk returned what was never written
abbrev pub IsUsable : State → Type 0
IsUsable s = HasCleanDisk s → IsReady s

-- the store is ready, and this is the last run of the master that it keeps
abbrev pub GivesRun : State → ℕ → Type 0
GivesRun s run = IsReady s × ((kept_in s.now.trees).last ≡ run)

-- the store is ready, and this is the record that it keeps; None where it keeps none
abbrev pub GivesRecord : State → Option RecordParts → Type 0
GivesRecord s found = IsReady s × IsLoaded (kept_in s.now.trees).body found

-- the two files hold a database that keeps this record, or none, as they read and after a stop;
-- so does the database file alone, without its write-ahead file
pub record KeepsRecord {D : Type 0} (g : Ghosts D) (files : Files D)
    (found : Option RecordParts) : Type 0 where
  pub trees : Trees
  pub seen : HoldsAlone (image_of g files) trees
  pub left : (image : Image) → outcomes g files.log files.db image → HoldsAlone image trees
  pub sound : IsSound keeper_schema trees
  pub loaded : IsLoaded (kept_in trees).body found
