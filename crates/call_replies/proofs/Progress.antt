-- How far the answering of an input has come.
use Rattle.std.proofs.Common.{◌≡◌, List, ℕ, [], ◌++◌, Option, Some, refl, sym, ap, ◌∙◌}
use Rattle.std.proofs.lemmas.List.{append-nil}
use Rattle.std.specs.Option.{IfSome}
use Rattle.std.specs.Io.KnownBytes.{Appends, Consumes, IsAtEnd}
use Rattle.frame_record.specs.declared.fault.FrameFault.{FrameFault}
use Rattle.frame_record.specs.Records.{State as Standing, Reads, end_of}
use Rattle.call_replies.specs.Replies.{first_master, Asked, IsAnswer, after_all, fault_in, replies}
use Rattle.frame_record.specs.Read.{all_consumed, consumes_more, consumes_nothing, if_known, some_left}
use Rattle.frame_record.specs.Writes.{AppendsFront}
use Rattle.frame_record.specs.Written.{appends_more, appends_nothing, front_after, front_longer}
use Rattle.call_replies.proofs.Replying.{after_all-append, after_none, replies-append, replies_none}

-- so much of the input was read, these records stood on it, and their replies were written
pub record Progress (start now old new : Option (List ℕ)) (frames : Standing) (master : Asked) : Type 0 where
  pub consumed : List ℕ
  pub records : List (List ℕ)
  pub taken : Consumes start now consumed
  pub read : Reads consumed records frames
  pub written : Appends old new (replies first_master records)
  pub state : master ≡ after_all first_master records

pub begins : (start old : Option (List ℕ)) (frames : Standing) (master : Asked) → Reads [] [] frames → master ≡ first_master → Progress start start old old frames master
begins start old frames master reads is = record {
  consumed = [];
  records = [];
  taken = consumes_nothing start;
  read = reads;
  written = rw (replies_none first_master) (appends_nothing old);
  state = is ∙ sym (after_none first_master);
}

pub goes_on : (start now then old middle new : Option (List ℕ)) (frames frames' : Standing) (master master' : Asked) (piece : List ℕ) (fed : List (List ℕ)) → Progress start now old middle frames master
    → Consumes now then piece → ((text : List ℕ) (before : List (List ℕ)) → Reads text before frames → Reads (text ++ piece) (before ++ fed) frames')
    → Appends middle new (replies master fed) → master' ≡ after_all master fed → Progress start then old new frames' master'
goes_on start now then old middle new frames frames' master master' piece fed p took reads wrote is =
    let s : Asked = after_all first_master p.records in
    record {
      consumed = p.consumed ++ piece;
      records = p.records ++ fed;
      taken = consumes_more start now then p.consumed piece p.taken took;
      read = reads p.consumed p.records p.read;
      written = rw (replies-append first_master p.records fed, ← p.state) (appends_more old middle new (replies first_master p.records) (replies master fed) p.written wrote);
      state = is ∙ (ap (λ (t : Asked). after_all t fed) p.state ∙ sym (after_all-append first_master p.records fed));
    }

-- where a read took nothing
pub goes_nowhere : (start now then old new : Option (List ℕ)) (frames : Standing) (master : Asked) → Progress start now old new frames master → Consumes now then [] → Progress start then old new frames master
goes_nowhere start now then old new frames master p took =
    let all : Consumes start then (p.consumed ++ []) = consumes_more start now then p.consumed [] p.taken took in
    let taken : Consumes start then p.consumed = rw (append-nil p.consumed) at all in
    record { consumed = p.consumed; records = p.records; taken = taken; read = p.read; written = p.written; state = p.state }

-- at the end of the input
pub ends : (start now old new : Option (List ℕ)) (frames : Standing) (master : Asked) (fault : Option FrameFault) → Progress start now old new frames master → IsAtEnd now → fault ≡ fault_in (end_of frames)
    → IfSome start (λ input. (text : List ℕ) × IsAnswer input text fault × Appends old new text)
ends start now old new frames master fault p at_end is = if_known start _ (λ input known.
    let all : p.consumed ≡ input = all_consumed start now p.consumed input known p.taken at_end in
    let reads : Reads input p.records frames = rw all at p.read in
    (replies first_master p.records, (p.records, frames, reads, refl, is), p.written))

abbrev pub FaultStays : Type 0
FaultStays = (text more : List ℕ) (records : List (List ℕ)) (s : Standing) (f : FrameFault) → s.fault ≡ Some f → Reads text records s → Reads (text ++ more) records s

abbrev pub FirstRecordsStay : Type 0
FirstRecordsStay = (text more : List ℕ) (records all : List (List ℕ)) (s t : Standing) → Reads text records s → Reads (text ++ more) all t → (others : List (List ℕ)) × (all ≡ records ++ others)

end_at_fault : (s : Standing) (o : Option FrameFault) (f : FrameFault) → s.fault ≡ o → o ≡ Some f → o ≡ fault_in (end_of s)
end_at_fault s o f e h = rw (e, h) refl

-- at a fault
pub ends_at_fault : FaultStays → (start now old new : Option (List ℕ)) (frames : Standing) (master : Asked) (f : FrameFault) → Progress start now old new frames master → frames.fault ≡ Some f
    → IfSome start (λ input. (text : List ℕ) × IsAnswer input text (Some f) × Appends old new text)
ends_at_fault stays start now old new frames master f p is = if_known start _ (λ input known.
    let left = some_left start now p.consumed input known p.taken in
    let reads : Reads input p.records frames = rw left.1 (stays p.consumed left.0 p.records frames f is p.read) in
    (replies first_master p.records, (p.records, frames, reads, refl, rw is refl), p.written))

-- at any other place: a beginning of every answer was written
pub stops : FirstRecordsStay → (start now old new : Option (List ℕ)) (frames : Standing) (master : Asked) → Progress start now old new frames master
    → IfSome start (λ input. (text : List ℕ) (fault : Option FrameFault) → IsAnswer input text fault → AppendsFront old new text)
stops law start now old new frames master p = if_known start _ (λ input known text fault is.
    let left = some_left start now p.consumed input known p.taken in
    let whole : Reads (p.consumed ++ left.0) is.0 is.1 = rw left.1 at is.2 in
    let others = law p.consumed left.0 p.records is.0 frames is.1 p.read whole in
    let text_is : text ≡ replies first_master p.records ++ replies (after_all first_master p.records) others.0 = is.3 ∙ (ap (replies first_master) others.1 ∙ replies-append first_master p.records others.0) in
    (replies first_master p.records, replies (after_all first_master p.records) others.0, text_is, p.written))

-- in the midst of the replies to what a piece brought
pub stops_inside : FirstRecordsStay → (start now then old middle new : Option (List ℕ)) (frames frames' : Standing) (master : Asked) (piece : List ℕ) (fed : List (List ℕ)) → Progress start now old middle frames master
    → Consumes now then piece → ((text : List ℕ) (before : List (List ℕ)) → Reads text before frames → Reads (text ++ piece) (before ++ fed) frames')
    → AppendsFront middle new (replies master fed)
    → IfSome start (λ input. (text : List ℕ) (fault : Option FrameFault) → IsAnswer input text fault → AppendsFront old new text)
stops_inside law start now then old middle new frames frames' master piece fed p took reads wrote = if_known start _ (λ input known text fault is.
    let left = some_left start then (p.consumed ++ piece) input known (consumes_more start now then p.consumed piece p.taken took) in
    let whole : Reads ((p.consumed ++ piece) ++ left.0) is.0 is.1 = rw left.1 at is.2 in
    let others = law (p.consumed ++ piece) left.0 (p.records ++ fed) is.0 frames' is.1 (reads p.consumed p.records p.read) whole in
    let s : Asked = after_all first_master p.records in
    let behind = replies (after_all first_master (p.records ++ fed)) others.0 in
    let text_is : text ≡ (replies first_master p.records ++ replies master fed) ++ behind =
    is.3 ∙ (ap (replies first_master) others.1 ∙ (replies-append first_master (p.records ++ fed) others.0
    ∙ ap (λ (t : List ℕ). t ++ behind) (replies-append first_master p.records fed ∙ ap (λ (t : Asked). replies first_master p.records ++ replies t fed) (sym p.state)))) in
    rw text_is (front_longer old new (replies first_master p.records ++ replies master fed) behind (front_after old middle new (replies first_master p.records) (replies master fed) p.written wrote)))
