-- The ids of status updates: UUIDs of version 8 (RFC 9562, section 5.8),
-- in base64 (RFC 4648, section 4).
use Rattle.std.specs.Prelude.{ℕ, Bool, ◌^◌, ◌<◌, ◌&&◌, List, ◌∷◌, ◌++◌, Option, None, Some, option_and_then, bytes_eq, take, drop, nat_lt, if◌then◌else◌}
use Rattle.std.specs.Int.{w16, w32, to_be_bytes, from_be_bytes}
use Rattle.std.specs.Result.{result_ok}
use Rattle.base64.specs.Engines.{standard}
use Rattle.base64.specs.GeneralPurpose.{encode_of, decode_of}
use Rattle.names_core.specs.Ids.{Numbered, InRange}

-- the k-th update of a launch
pub record Update : Type 0 where
  pub key : Numbered
  pub k : ℕ

pub record IsUpdate (u : Update) : Type 0 where
  pub key : InRange u.key
  pub k_fits : u.k < 4096

-- the run, the launch's number, the version 8, the variant 10, and k;
-- numbers are big-endian
abbrev pub update_bytes : Update → List ℕ
update_bytes u =
    to_be_bytes w16 u.key.run
    ++ (to_be_bytes w32 u.key.n ++ (128 ∷ 0 ∷ 128 ∷ 0 ∷ 0 ∷ 0 ∷ to_be_bytes w32 u.k))

-- the values at the places of the run, the number and k
abbrev pub fields_of : List ℕ → Update
fields_of bytes = record {
  key =
      record {
        run = from_be_bytes w16 (take 2 bytes);
        n = from_be_bytes w32 (take 4 (drop 2 bytes));
      };
  k = from_be_bytes w32 (drop 12 bytes);
}

-- a run and a number in range, and one of the first 4,096 updates
abbrev pub is_update : Update → Bool
is_update u =
    nat_lt 0 u.key.run && nat_lt u.key.run (2 ^ 16) && nat_lt 0 u.key.n && nat_lt u.key.n (2 ^ 32)
    && nat_lt u.k 4096

-- the update whose bytes these are
unfoldable pub update_in : List ℕ → Option Update
update_in bytes =
    if is_update (fields_of bytes) && bytes_eq bytes (update_bytes (fields_of bytes))
    then Some (fields_of bytes) else None

-- the one text of an update's id
abbrev pub update_text : Update → List ℕ
update_text u = encode_of standard (update_bytes u)

-- the update that a text is the id of
abbrev pub update_of : List ℕ → Option Update
update_of text = option_and_then update_in (result_ok (decode_of standard text))
