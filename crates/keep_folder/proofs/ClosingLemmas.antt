-- What a keeper keeps that was closed and is opened again over the same files.
use Rattle.std.proofs.Common.{◌≡◌, ◌∙◌, ap, subst}
use Rattle.std.proofs.Math.Logic.{∥∥₁_elim}
use Rattle.sqlite_disk.specs.declared.Disk.{Ghosts}
use Rattle.sqlite_disk.specs.declared.Files.{Files}
use Rattle.sqlite_wal.specs.Reads.{AreClean}
use Rattle.sqlite_store.specs.declared.store.FileStore.{FileStore}
use Rattle.sqlite_trees.specs.Props.{Trees-set}
use Rattle.sqlite.specs.Closing.{IsCopied}
use Rattle.sqlite.specs.Effect.{Database}
use Rattle.sqlite.specs.Files.{HoldsDatabase, file_state, image_of}
use Rattle.sqlite.specs.Held.{Held}
use Rattle.sqlite.specs.Schema.{Schema}
use Rattle.sqlite.specs.State.{IsLive, State}
use Rattle.sqlite.specs.Tree.{Trees}
use Rattle.sqlite_catalog.specs.Listing.{IsSound}
use Rattle.keep_tables.specs.Tables.{IsReady, keeper_schema}

pub folded : {D : Type 0} {g : Ghosts D} (old new : Held (FileStore D g)) (files : Files D) → (AreClean g files.log files.db → IsCopied old files) → AreClean g files.log files.db
    → ((db : Trees) → HoldsDatabase (image_of g files) db → IsSound keeper_schema db → (file_state new).now.trees ≡ db)
    → (IsReady (file_state old) → IsSound keeper_schema (file_state old).committed.trees) → IsReady (file_state old)
    → (file_state new).now.trees ≡ (file_state old).now.trees
folded old new files closed honest found sound ready =
    ∥∥₁_elim (closed honest).seen.both (Trees-set _ _) (λ holds. found (file_state old).committed.trees holds (sound ready))
    ∙ ap (λ (d : Database). d.trees) ready.committed

-- the trees of a store that is ready list a keeper's tables
pub sound_ready : (s : State) → IsLive s → IsReady s → IsSound keeper_schema s.committed.trees
sound_ready s live ready = subst (λ (schema : Schema). IsSound schema s.committed.trees) (ap (λ (d : Database). d.schema) ready.committed ∙ ready.ours.schema) (live ready.is_open).1
