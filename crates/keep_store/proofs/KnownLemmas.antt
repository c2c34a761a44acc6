-- What holds of what is there where it is known, and of a head that has the parts of another.
use Rattle.std.proofs.Common.{◌≡◌, [], Bool, true, false, Option, None, Some, IfSome, IsTrue, if◌then◌else◌, refl, sym, subst, ap}
use Rattle.sqlite.specs.Tree.{Trees}
use Rattle.messages.specs.declared.record.RecordParts.{RecordParts}
use Rattle.keep_store.specs.SavesKept.{IsHead, IsHeadSeen, KnowsHead, with_tasks}

pub if_known_holds : {A : Type 0} (P : Option A → Type 0) (known : Bool) (it found : Option A) → P None → found ≡ (if known then it else None) → (IsTrue known → P it) → P found
if_known_holds P true it found none is holds = subst P (sym is) (holds refl)
if_known_holds P false it found none is holds = subst P (sym is) none

pub head_put : (head : Option RecordParts) (d : RecordParts) → IfSome head (λ kept. with_tasks [] kept ≡ with_tasks [] d) → IsHead d → IsHeadSeen head
head_put None d same put = tt
head_put (Some kept) d same put =
    let name : kept.name ≡ d.name = ap (λ (x : RecordParts). x.name) same in
    let total : kept.total ≡ d.total = ap (λ (x : RecordParts). x.total) same in
    let session : kept.session ≡ d.session = ap (λ (x : RecordParts). x.session) same in
    let run : kept.run ≡ d.run = ap (λ (x : RecordParts). x.run) same in
    record { named = rw name put.named; name = rw name put.name; run = rw run put.run; session = rw session put.session; total = rw total put.total; amounts = rw total put.amounts }

pub head_known : (head : Option RecordParts) (d : RecordParts) (db : Trees) → IfSome head (λ kept. with_tasks [] kept ≡ with_tasks [] d) → KnowsHead (Some d) db → KnowsHead head db
head_known None d db same known = tt
head_known (Some kept) d db same known =
    let name : kept.name ≡ d.name = ap (λ (x : RecordParts). x.name) same in
    let total : kept.total ≡ d.total = ap (λ (x : RecordParts). x.total) same in
    let session : kept.session ≡ d.session = ap (λ (x : RecordParts). x.session) same in
    let run : kept.run ≡ d.run = ap (λ (x : RecordParts). x.run) same in
    (known.0, rw (name, run, session) known.1, rw total known.2)
