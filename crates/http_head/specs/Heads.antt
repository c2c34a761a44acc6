-- Which heads parse, and what is asked of one.
use Rattle.std.specs.Prelude.{ℕ, ◌≤◌, Bool, false, not, ◌&&◌, List, [], ◌∷◌, length, map, Option, None, Result, Ok, Err, if◌then◌else◌, ◌==◌, nat_lt, nat_le, codes, bytes_eq}
use Rattle.std.specs.List.{list_all, before_first, list_any, slice_split}
use Rattle.std.specs.Char.{is_ascii_digit}
use Rattle.std.specs.Str.{is_utf8}
use Rattle.std.specs.Str.Parse.{digits_value}
use Rattle.httparse.specs.Grammar.{RequestHead, ReadsRequest, trim_ows}
use Rattle.httparse.specs.Spans.{header_bytes, name_and_value}
use Rattle.httparse.specs.declared.spans.HeaderSpan.{HeaderSpan}
use Rattle.http1.specs.Text.{eq_ignore_case}
use Rattle.names_core.specs.Ids.{Numbered, id_of}
use Rattle.http_head.specs.declared.fault.RequestFault.{RequestFault}
use Rattle.http_head.specs.declared.fault.RequestFault.TheVariants.{BadHead, NoSuchPath, NotPost, WrongMedia, TooLong, BadBody}
use Rattle.http_head.specs.declared.plan.Body.{Body}
use Rattle.http_head.specs.declared.plan.Body.TheVariants.{Sized, Chunked}
use Rattle.http_head.specs.declared.plan.Plan.{Plan}

abbrev pub max_fields : ℕ
max_fields = 64

abbrev pub max_body : ℕ
max_body = 1048576

-- the text parses: it is the head h to its last byte
pub record IsHead (text : List ℕ) (h : RequestHead) : Type 0 where
  pub reads : ReadsRequest text h []
  pub few : length h.fields ≤ max_fields

-- the text doesn't parse
abbrev pub IsNoHead : List ℕ → Type 0
IsNoHead text = (h : RequestHead) → ¬ (IsHead text h)

-- the values of the fields with this name, in order
abbrev pub values_of : List ℕ → List (List ℕ × List ℕ) → List (List ℕ)
values_of name [] = []
values_of name (f ∷ fields) =
    if eq_ignore_case f.0 name then f.1 ∷ values_of name fields else values_of name fields

-- the same, of fields whose bytes are in a buffer
abbrev pub values_in : List ℕ → List HeaderSpan → List ℕ → List (List ℕ)
values_in buf headers name = values_of name (map (header_bytes buf) headers)

-- ---- the length fields

-- 1*DIGIT
abbrev pub is_number : List ℕ → Bool
is_number text = nat_lt 0 (length text) && list_all is_ascii_digit text

-- the body by a Content-Length
abbrev pub sized_by : List ℕ → Result Body RequestFault
sized_by text =
    if is_number text then (if nat_le (digits_value 10 text) max_body
    then Ok (Sized (digits_value 10 text)) else Err TooLong) else Err BadBody

-- the body by a Transfer-Encoding
abbrev pub coded_by : List ℕ → Result Body RequestFault
coded_by text = if eq_ignore_case text (codes "chunked") then Ok Chunked else Err BadBody

-- the body by all of both, which are one at most
abbrev pub body_by : List (List ℕ) → List (List ℕ) → Result Body RequestFault
body_by [] [] = Ok (Sized 0)
body_by [] (text ∷ []) = coded_by text
body_by [] (text ∷ (more ∷ texts)) = Err BadBody
body_by (text ∷ []) [] = sized_by text
body_by (text ∷ []) (other ∷ others) = Err BadBody
body_by (text ∷ (more ∷ texts)) others = Err BadBody

-- ---- the other fields, of which the first counts

abbrev pub is_semicolon : ℕ → Bool
is_semicolon b = b == 59

-- application/json, with or without parameters
abbrev pub is_json : List ℕ → Bool
is_json text = eq_ignore_case (trim_ows (before_first is_semicolon text)) (codes "application/json")

abbrev pub has_json : List (List ℕ) → Bool
has_json [] = false
has_json (text ∷ texts) = is_json text

abbrev pub expects : List (List ℕ) → Bool
expects [] = false
expects (text ∷ texts) = eq_ignore_case text (codes "100-continue")

-- a word between commas, without the blanks round it
abbrev pub is_close : List ℕ → Bool
is_close word = eq_ignore_case (trim_ows word) (codes "close")

abbrev pub is_comma : ℕ → Bool
is_comma b = b == 44

-- one of the words between commas is `close`
abbrev pub has_close : List ℕ → Bool
has_close text = list_any is_close (slice_split is_comma text)

abbrev pub closes : List (List ℕ) → Bool
closes [] = false
closes (text ∷ texts) = has_close text

abbrev pub stream_in : List (List ℕ) → Option Numbered
stream_in [] = None
stream_in (text ∷ texts) = if is_utf8 text then id_of 83 text else None

-- ---- the checks on a head, in order

abbrev pub fields_of : RequestHead → List (List ℕ × List ℕ)
fields_of h = map name_and_value h.fields

-- how the request goes on, with this body
abbrev pub planned : Result Body RequestFault → List (List ℕ × List ℕ) → Result Plan RequestFault
planned (Err fault) fields = Err fault
planned (Ok body) fields = Ok (record {
  body = body;
  expects = expects (values_of (codes "expect") fields);
  closes = closes (values_of (codes "connection") fields);
  stream = stream_in (values_of (codes "mesos-stream-id") fields);
})

abbrev pub fields_check : List (List ℕ × List ℕ) → Result Plan RequestFault
fields_check fields =
    if not (has_json (values_of (codes "content-type") fields)) then Err WrongMedia
    else planned (body_by (values_of (codes "content-length") fields)
    (values_of (codes "transfer-encoding") fields)) fields

abbrev pub check_of : ℕ → List ℕ → List ℕ → List (List ℕ × List ℕ) → Result Plan RequestFault
check_of minor target method fields =
    if not (minor == 1) then Err BadHead
    else if not (bytes_eq target (codes "/api/v1/scheduler")) then Err NoSuchPath
    else if not (bytes_eq method (codes "POST")) then Err NotPost
    else fields_check fields

abbrev pub head_check : RequestHead → Result Plan RequestFault
head_check h = check_of h.minor h.target h.method (fields_of h)

-- a body of a length that is known has at most so many bytes
abbrev pub IsWithinLimit : Body → Type 0
IsWithinLimit (Sized n) = n ≤ max_body
IsWithinLimit Chunked = Unit {0}
