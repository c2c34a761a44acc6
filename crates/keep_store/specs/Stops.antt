-- What a stop leaves.
use Rattle.std.specs.Prelude.{◌≡◌, ◌⊎◌, IsTrue}
use Rattle.sqlite.specs.Tree.{Trees}
use Rattle.sqlite.specs.State.{State, HasCleanDisk}
use Rattle.keep_store.specs.SavesKept.{Kept, kept_in}

-- a stop at any moment of a call leaves what was kept before it, or what the call makes of that
abbrev pub LeavesEither : State → State → (Kept → Kept) → Type 0
LeavesEither old new change =
    HasCleanDisk new → (db : Trees) → new.may_leave db → (kept_in db ≡ kept_in old.now.trees)
    ⊎ (kept_in db ≡ change (kept_in old.now.trees))

-- a stop after a call leaves what is kept then, and nothing else
abbrev pub Stands : State → Type 0
Stands s = IsTrue s.is_open → (db : Trees) → s.may_leave db → kept_in db ≡ kept_in s.committed.trees
