-- What the files keep of a store that is closed, and what a store over them keeps.
use Rattle.std.proofs.Common.{◌≡◌, ◌∙◌, ℕ, IsSomeAnd, Option, Some, ap, subst, sym}
use Rattle.std.proofs.Math.Logic.{∥∥₁_elim}
use Rattle.messages.specs.declared.record.RecordParts.{RecordParts}
use Rattle.sqlite_disk.specs.declared.Disk.{Ghosts}
use Rattle.sqlite_disk.specs.declared.Files.{Files}
use Rattle.sqlite_wal.specs.Reads.{AreClean}
use Rattle.sqlite_store.specs.declared.store.FileStore.{FileStore}
use Rattle.sqlite_trees.specs.Props.{Trees-set}
use Rattle.sqlite.specs.Closing.{IsCopied}
use Rattle.sqlite.specs.Effect.{Database}
use Rattle.sqlite.specs.Files.{HoldsDatabase, file_state, image_of}
use Rattle.sqlite.specs.Held.{Held}
use Rattle.sqlite.specs.State.{HasCleanDisk}
use Rattle.sqlite.specs.Tree.{Trees}
use Rattle.sqlite_catalog.specs.Listing.{IsSound}
use Rattle.keep_tables.specs.Tables.{IsReady, keeper_schema}
use Rattle.keep_store.specs.SavesKept.{kept_in}
use Rattle.keep_store.specs.Kept.{IsLoaded}
use Rattle.keep_folder.specs.Given.{GivesRecord, GivesRun, KeepsRecord}

module _ {D : Type 0} {g : Ghosts D} where
  pub kept_by_files : (c : Held (FileStore D g)) (files : Files D) (found : Option RecordParts) → (AreClean g files.log files.db → IsCopied c files)
      → (IsReady (file_state c) → IsSound keeper_schema (file_state c).committed.trees) → (HasCleanDisk (file_state c) → GivesRecord (file_state c) found) → AreClean g files.log files.db → KeepsRecord g files found
  kept_by_files c files found copied sound gives honest =
      let it = copied honest in
      let given = gives it.was_clean in
      record {
        trees = (file_state c).committed.trees;
        seen = it.seen;
        left = it.left;
        sound = sound given.0;
        loaded = subst (λ (d : Database). IsLoaded (kept_in d.trees).body found) (sym given.0.committed) given.1;
      }

  pub given_by_files : (c : Held (FileStore D g)) (files : Files D) (found : Option RecordParts) → (AreClean g files.log files.db → KeepsRecord g files found)
      → (HasCleanDisk (file_state c) → IsReady (file_state c)) → (HasCleanDisk (file_state c) → AreClean g files.log files.db)
      → (HasCleanDisk (file_state c) → (db : Trees) → HoldsDatabase (image_of g files) db → IsSound keeper_schema db → (file_state c).now.trees ≡ db)
      → HasCleanDisk (file_state c) → GivesRecord (file_state c) found
  given_by_files c files found keeps ready honest same clean =
      let it = keeps (honest clean) in
      let trees : (file_state c).now.trees ≡ it.trees = ∥∥₁_elim it.seen.both (Trees-set _ _) (λ holds. same clean it.trees holds it.sound) in
      (ready clean, subst (λ (all : Trees). IsLoaded (kept_in all).body found) (sym trees) it.loaded)

  pub run_folded : (kept : Option (Held (FileStore D g))) (old new : Held (FileStore D g)) (run : ℕ) → kept ≡ Some old → (HasCleanDisk (file_state new) → HasCleanDisk (file_state old))
      → (HasCleanDisk (file_state new) → IsReady (file_state new)) → (HasCleanDisk (file_state new) → IsReady (file_state old) → (file_state new).now.trees ≡ (file_state old).now.trees)
      → IsSomeAnd kept (λ keeper. HasCleanDisk (file_state keeper) → GivesRun (file_state keeper) run) → HasCleanDisk (file_state new) → GivesRun (file_state new) run
  run_folded kept old new run at clean ready same gives is =
      let had = subst (λ (it : Option (Held (FileStore D g))). IsSomeAnd it (λ keeper. HasCleanDisk (file_state keeper) → GivesRun (file_state keeper) run)) at gives in
      let was = had (clean is) in
      (ready is, ap (λ (all : Trees). (kept_in all).last) (same is was.0) ∙ was.1)
