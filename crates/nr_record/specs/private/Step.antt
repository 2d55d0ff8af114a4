-- What a step makes of what is kept.
use Rattle.std.specs.Prelude.{ℕ, ◌+◌, ◌-◌, ◌%◌, ◌^◌, ◌&&◌, ◌==◌, nat_lt, nat_le, List, [], ◌∷◌, ◌++◌, length, Some, if◌then◌else◌}
use Rattle.nr_xdr.specs.Fields.{word_at}
use Rattle.nr_record.specs.declared.fault.RecordFault.TheVariants.{Bad, Memory}
use Rattle.nr_record.specs.Constants.{RECORD_MAX, HEADER_LEN, REASON_RECORD}
use Rattle.nr_record.specs.RecordsState.{RecordsState}

-- the record that is begun is complete, and waits
abbrev pub with_record : RecordsState → RecordsState
with_record k = record k { waiting = k.waiting ++ record { at = k.start; bytes = k.payload } ∷ []; start = k.count; payload = [] }

-- after the last byte of a last fragment its record waits
unfoldable pub ended : RecordsState → RecordsState
ended k = if k.left == 0 && k.last then with_record k else k

-- a fragment with this header begins, or is refused
unfoldable pub with_header : ℕ → RecordsState → RecordsState
with_header word k =
    if nat_lt RECORD_MAX (length k.payload + word % 2 ^ 31)
    then record k { fault = Some (Bad (k.count - HEADER_LEN) REASON_RECORD) }
    else ended (record k { last = nat_le (2 ^ 31) word; left = word % 2 ^ 31 })

-- one more byte of a header
unfoldable pub with_byte : ℕ → RecordsState → RecordsState
with_byte byte k =
    if nat_lt (length (k.head ++ byte ∷ [])) HEADER_LEN
    then record k { count = k.count + 1; head = k.head ++ byte ∷ [] }
    else with_header (word_at 0 (k.head ++ byte ∷ [])) (record k { count = k.count + 1; head = [] })

-- more payload of a fragment, which is not longer than what is missing
unfoldable pub with_payload : List ℕ → RecordsState → RecordsState
with_payload bytes k = ended (record k { count = k.count + length bytes; payload = k.payload ++ bytes; left = k.left - length bytes })

abbrev pub with_fault : RecordsState → RecordsState
with_fault k = record k { fault = Some Memory }
