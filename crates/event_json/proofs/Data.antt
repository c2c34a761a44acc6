-- The data of a record is plain, and nests a few levels deep.
use Rattle.std.proofs.Common.{◌≡◌, ◌<◌, ◌^◌, ℕ, ◌≤◌, List, [], ◌∷◌, length, map, Bool, true, false, cond, refl, arith, nat_le, ◌&&◌}
use Rattle.std.proofs.lemmas.Bool.{and_parts, leb-true}
use Rattle.std.specs.List.{AllByRecursion, list_any}
use Rattle.serde_json.specs.Data.{Data, string, depth, items_depth, members_depth}
use Rattle.serde_json.specs.View.{items_of}
use Rattle.names_core.specs.declared.state.TaskState.{TaskState}
use Rattle.names_core.specs.Ids.{id_text}
use Rattle.names_core.specs.States.{state_text, is_terminal}
use Rattle.quantity.specs.declared.rows.Row.{Row}
use Rattle.quantity.specs.Rows.{AreRows}
use Rattle.stream_core.specs.Updates.{are_updates, ends_last}
use Rattle.messages.specs.declared.record.RecordParts.{RecordParts}
use Rattle.messages.specs.declared.record.RecordedTask.{RecordedTask}
use Rattle.event_json.specs.Texts.{row_members, amounts, task_data, record_data}
use Rattle.event_json.specs.Written.{IsTask, IsDurable}
use Rattle.event_json.proofs.Compact.{IsPlain, ArePlain}
use Rattle.event_json.proofs.Rows.{plain_rows, puts_rows}

plain_list : {A : Type 0} (g : A → Data) (xs : List A) → AllByRecursion (λ x. IsPlain (g x)) xs → ArePlain (items_of (map g xs))
plain_list g [] h = tt
plain_list g (x ∷ xs) h = (h.0, plain_list g xs h.1)

shallow_list : {A : Type 0} (n : ℕ) (g : A → Data) → ((x : A) → depth (g x) ≤ n) → (xs : List A) → items_depth (items_of (map g xs)) ≤ n
shallow_list n g h [] = omega arith
shallow_list n g h (x ∷ xs) = omega (arith, h x, shallow_list n g h xs)

all_texts : {A : Type 0} (f : A → List ℕ) (xs : List A) → AllByRecursion (λ x. IsPlain (string (f x))) xs
all_texts f [] = tt
all_texts f (x ∷ xs) = (tt, all_texts f xs)

pub plain_amounts : (rows : List Row) → AreRows rows → IsPlain (amounts rows)
plain_amounts rows are = (plain_rows rows are.each, puts_rows [] rows are.ordered)

pub rows_depth : (rows : List Row) → members_depth (row_members rows) ≡ 0
rows_depth [] = refl
rows_depth (r ∷ rows) = omega (arith, rows_depth rows)

-- so many updates at most
pub few_updates : (states : List TaskState) (count : ℕ) → are_updates states count ≡ true → count ≤ 4096
few_updates states count h =
    let limit : ℕ = cond (list_any is_terminal states) 4096 4095 in
    let p = and_parts (ends_last states && nat_le count (length states)) (nat_le (length states) limit) h in
    let q = and_parts (ends_last states) (nat_le count (length states)) p.0 in
    let most : length states ≤ 4096 = by_end (list_any is_terminal states) (leb-true (length states) limit p.1) in
    omega (arith, most, leb-true count (length states) q.1)
  where
    by_end : (b : Bool) → length states ≤ cond b 4096 4095 → length states ≤ 4096
    by_end true h = h
    by_end false h = omega arith

pub task_plain : (t : RecordedTask) → IsTask t → IsPlain (task_data t)
unfolding task_data
task_plain t is =
    let acked = few_updates t.updates.states t.updates.acknowledged is.updates in
    let offers = plain_list (λ offer. string (id_text 79 offer)) t.offers (all_texts (id_text 79) t.offers) in
    let updates = plain_list (λ state. string (state_text state)) t.updates.states (all_texts state_text t.updates.states) in
    ((omega (arith, acked), (tt, (tt, (tt, (offers, (plain_amounts t.job.resources is.resources, (updates, tt))))))), refl)

pub task_depth : (t : RecordedTask) → depth (task_data t) ≤ 2
unfolding task_data
task_depth t =
    let offers = shallow_list 0 (λ offer. string (id_text 79 offer)) (λ x. omega arith) t.offers in
    let updates = shallow_list 0 (λ state. string (state_text state)) (λ x. omega arith) t.updates.states in
    omega (arith, offers, updates, rows_depth t.job.resources)

all_plain : (ts : List RecordedTask) → AllByRecursion IsTask ts → AllByRecursion (λ t. IsPlain (task_data t)) ts
all_plain [] h = tt
all_plain (t ∷ ts) h = (task_plain t h.0, all_plain ts h.1)

pub record_plain : (version : ℕ) (d : RecordParts) → version < 2 ^ 64 → IsDurable d → IsPlain (record_data version d)
unfolding record_data
record_plain version d small is =
    let tasks = plain_list task_data d.tasks (all_plain d.tasks is.tasks) in
    ((tt, (omega (arith, is.run), (omega (arith, is.session), (tasks, (plain_amounts d.total is.total, (omega (arith, small), tt)))))), refl)

pub record_depth : (version : ℕ) (d : RecordParts) → depth (record_data version d) ≤ 127
unfolding record_data
record_depth version d =
    let tasks = shallow_list 2 task_data task_depth d.tasks in
    omega (arith, tasks, rows_depth d.total)
