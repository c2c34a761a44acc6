-- The replies to records, one list of records behind another.
use Rattle.std.proofs.Common.{◌≡◌, ℕ, ◌+◌, ◌<◌, List, [], ◌∷◌, ◌++◌, length, take, drop, get_or, Vec, Global, Option, refl, sym, ap, ◌∙◌, append_assoc}
use Rattle.std.proofs.lemmas.List.{take_more, drop_more, map-append, take-append-drop, append-nil}
use Rattle.frame_record.specs.Firsts.{bodies}
use Rattle.call_json.specs.Calls.{read_call}
use Rattle.call_replies.specs.Replies.{Asked, frames, reply, replies, after_all}
use Rattle.frame_record.specs.Writes.{AppendsFront}
use Rattle.frame_record.specs.Written.{front_after, front_longer}
use Rattle.std.specs.Io.KnownBytes.{Appends}

pub replies_none : (s : Asked) → replies s [] ≡ []
unfolding replies
replies_none s = refl

pub after_none : (s : Asked) → after_all s [] ≡ s
unfolding after_all
after_none s = refl

pub replies-append : (s : Asked) (rs qs : List (List ℕ)) → replies s (rs ++ qs) ≡ replies s rs ++ replies (after_all s rs) qs
unfolding replies after_all
replies-append s [] qs = refl
replies-append s (r ∷ rs) qs =
    let now = reply s (read_call r) in
    ap (λ (t : List ℕ). frames now.events ++ t) (replies-append now.after rs qs) ∙ sym (append_assoc (frames now.events) (replies now.after rs) (replies (after_all now.after rs) qs))

pub after_all-append : (s : Asked) (rs qs : List (List ℕ)) → after_all s (rs ++ qs) ≡ after_all (after_all s rs) qs
unfolding after_all
after_all-append s [] qs = refl
after_all-append s (r ∷ rs) qs = after_all-append (reply s (read_call r)).after rs qs

replies_one : (s : Asked) (r : List ℕ) (qs : List (List ℕ)) → replies s (r ∷ qs) ≡ frames (reply s (read_call r)).events ++ replies (reply s (read_call r)).after qs
unfolding replies
replies_one s r qs = refl

after_one : (s : Asked) (r : List ℕ) → after_all s (r ∷ []) ≡ (reply s (read_call r)).after
unfolding after_all
after_one s r = refl

-- ---- the next of a list of records

bodies_more : (rs : List (Vec ℕ Global)) (i : ℕ) (r : Vec ℕ Global) → i < length rs → r ≡ get_or rs i r → bodies (take (i + 1) rs) ≡ bodies (take i rs) ++ r.items ∷ []
bodies_more rs i r lt is =
    ap bodies (take_more rs i r lt ∙ ap (λ (w : Vec ℕ Global). take i rs ++ w ∷ []) (sym is)) ∙ map-append (λ (w : Vec ℕ Global). w.items) (take i rs) (r ∷ [])

bodies_split : (rs : List (Vec ℕ Global)) (i : ℕ) (r : Vec ℕ Global) → i < length rs → r ≡ get_or rs i r → bodies rs ≡ bodies (take i rs) ++ r.items ∷ bodies (drop (i + 1) rs)
bodies_split rs i r lt is =
    let parts : rs ≡ take i rs ++ r ∷ drop (i + 1) rs = sym (take-append-drop i rs) ∙ ap (λ (t : List (Vec ℕ Global)). take i rs ++ t) (drop_more rs i r lt ∙ ap (λ (w : Vec ℕ Global). w ∷ drop (i + 1) rs) (sym is)) in
    ap bodies parts ∙ map-append (λ (w : Vec ℕ Global). w.items) (take i rs) (r ∷ drop (i + 1) rs)

pub replies_more : (s : Asked) (rs : List (Vec ℕ Global)) (i : ℕ) (r : Vec ℕ Global) → i < length rs → r ≡ get_or rs i r
    → replies s (bodies (take (i + 1) rs)) ≡ replies s (bodies (take i rs)) ++ frames (reply (after_all s (bodies (take i rs))) (read_call r.items)).events
replies_more s rs i r lt is =
    let before = bodies (take i rs) in
    let now = reply (after_all s before) (read_call r.items) in
    let one : replies (after_all s before) (r.items ∷ []) ≡ frames now.events ++ [] = replies_one (after_all s before) r.items [] ∙ ap (λ (t : List ℕ). frames now.events ++ t) (replies_none now.after) in
    ap (replies s) (bodies_more rs i r lt is) ∙ (replies-append s before (r.items ∷ []) ∙ ap (λ (t : List ℕ). replies s before ++ t) (one ∙ append-nil (frames now.events)))

pub after_more : (s : Asked) (rs : List (Vec ℕ Global)) (i : ℕ) (r : Vec ℕ Global) → i < length rs → r ≡ get_or rs i r
    → after_all s (bodies (take (i + 1) rs)) ≡ (reply (after_all s (bodies (take i rs))) (read_call r.items)).after
after_more s rs i r lt is = ap (after_all s) (bodies_more rs i r lt is) ∙ (after_all-append s (bodies (take i rs)) (r.items ∷ []) ∙ after_one (after_all s (bodies (take i rs))) r.items)

-- a beginning of a reply, behind the replies to the records before it, is a beginning of all replies
pub front_at : (old middle new : Option (List ℕ)) (s : Asked) (rs : List (Vec ℕ Global)) (i : ℕ) (r : Vec ℕ Global) → i < length rs → r ≡ get_or rs i r
    → Appends old middle (replies s (bodies (take i rs))) → AppendsFront middle new (frames (reply (after_all s (bodies (take i rs))) (read_call r.items)).events) → AppendsFront old new (replies s (bodies rs))
front_at old middle new s rs i r lt is written front =
    let before = bodies (take i rs) in
    let now = reply (after_all s before) (read_call r.items) in
    let others = replies now.after (bodies (drop (i + 1) rs)) in
    let whole : replies s (bodies rs) ≡ (replies s before ++ frames now.events) ++ others =
    ap (replies s) (bodies_split rs i r lt is) ∙ (replies-append s before (r.items ∷ bodies (drop (i + 1) rs))
    ∙ (ap (λ (t : List ℕ). replies s before ++ t) (replies_one (after_all s before) r.items (bodies (drop (i + 1) rs))) ∙ sym (append_assoc (replies s before) (frames now.events) others))) in
    rw whole (front_longer old new (replies s before ++ frames now.events) others (front_after old middle new (replies s before) (frames now.events) written front))
