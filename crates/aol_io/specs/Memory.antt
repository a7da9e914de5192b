-- Sources and sinks in memory, apart from how they are stored, and each of their steps.
use Rattle.std.specs.Prelude.{ℕ, ◌+◌, ◌-◌, ◌^◌, ◌<◌, ◌≤◌, min, List, ◌++◌, length, take, drop, Bool, ◌&&◌, ◌||◌, ◌==◌, nat_lt, Option, Some, Result, Ok, Err, if◌then◌else◌, refl}
use Rattle.std.specs.List.{list_any}
use Rattle.std.specs.Coded.{Coded, code_by, coded×, coded_ℕ, coded_list}
use Rattle.aol_io.specs.declared.streams.Failed.{Failed}

-- bytes to read, how many of them were read, the most that one call gives, and the calls so far, those that fail, and the faults
pub record MemSourceOf : Type 0 where
  pub bytes : List ℕ
  pub at : ℕ
  pub piece : ℕ
  pub calls : ℕ
  pub failing : List ℕ
  pub faults : ℕ

-- it is stored as the tuple of its fields
abbrev pub mem_source_code : Coded MemSourceOf
mem_source_code = code_by (List ℕ × (ℕ × (ℕ × (ℕ × (List ℕ × ℕ)))))
    (coded× (coded_list coded_ℕ) (coded× coded_ℕ (coded× coded_ℕ (coded× coded_ℕ (coded× (coded_list coded_ℕ) coded_ℕ)))))
    (λ s. (s.bytes, (s.at, (s.piece, (s.calls, (s.failing, s.faults))))))
    (λ p. record { bytes = p.0; at = p.1.0; piece = p.1.1.0; calls = p.1.1.1.0; failing = p.1.1.1.1.0; faults = p.1.1.1.1.1 }) (λ _. refl)

-- room for bytes, how much of it was written, and the rest as in a source
pub record MemSinkOf : Type 0 where
  pub room : List ℕ
  pub used : ℕ
  pub piece : ℕ
  pub calls : ℕ
  pub failing : List ℕ
  pub faults : ℕ

-- it is stored as the tuple of its fields
abbrev pub mem_sink_code : Coded MemSinkOf
mem_sink_code = code_by (List ℕ × (ℕ × (ℕ × (ℕ × (List ℕ × ℕ)))))
    (coded× (coded_list coded_ℕ) (coded× coded_ℕ (coded× coded_ℕ (coded× coded_ℕ (coded× (coded_list coded_ℕ) coded_ℕ)))))
    (λ s. (s.room, (s.used, (s.piece, (s.calls, (s.failing, s.faults))))))
    (λ p. record { room = p.0; used = p.1.0; piece = p.1.1.0; calls = p.1.1.1.0; failing = p.1.1.1.1.0; faults = p.1.1.1.1.1 }) (λ _. refl)

-- a source whose calls don't fail
pub record CalmSourceOf : Type 0 where
  pub bytes : List ℕ
  pub at : ℕ
  pub piece : ℕ

-- it is stored as the tuple of its fields
abbrev pub calm_source_code : Coded CalmSourceOf
calm_source_code = code_by (List ℕ × (ℕ × ℕ)) (coded× (coded_list coded_ℕ) (coded× coded_ℕ coded_ℕ))
    (λ s. (s.bytes, (s.at, s.piece))) (λ p. record { bytes = p.0; at = p.1.0; piece = p.1.1 }) (λ _. refl)

-- a place in a list that a u32 counts, and at least one byte a call
pub record IsPlaced (list : List ℕ) (place piece : ℕ) : Type 0 where
  pub within : place ≤ length list
  pub counted : length list < 2 ^ 32
  pub moves : 1 ≤ piece

-- ---- before the first call

-- none of the bytes was read
abbrev pub fresh_source : List ℕ → ℕ → List ℕ → MemSourceOf
fresh_source bytes piece failing = record { bytes = bytes; at = 0; piece = piece; calls = 0; failing = failing; faults = 0 }

-- none of the bytes was read
abbrev pub fresh_calm : List ℕ → ℕ → CalmSourceOf
fresh_calm bytes piece = record { bytes = bytes; at = 0; piece = piece }

-- none of the room is used
abbrev pub fresh_sink : List ℕ → ℕ → List ℕ → MemSinkOf
fresh_sink room piece failing = record { room = room; used = 0; piece = piece; calls = 0; failing = failing; faults = 0 }

-- ---- counts, which stay at their last value

-- the number of the next call
abbrev pub next_call : ℕ → ℕ
next_call calls = min (calls + 1) (2 ^ 32 - 1)

-- the faults after one more
abbrev pub next_fault : ℕ → ℕ
next_fault faults = min (faults + 1) (2 ^ 64 - 1)

-- the call is one of these
abbrev pub is_one_of : ℕ → List ℕ → Bool
is_one_of call calls = list_any (λ k. k == call) calls

-- ---- a read

-- the bytes from a place on
abbrev pub unread : List ℕ → ℕ → Option (List ℕ)
unread bytes at = Some (drop at bytes)

-- how many bytes a call gives into a buffer of this length
abbrev pub given : List ℕ → ℕ → ℕ → ℕ → ℕ
given bytes at piece room = min piece (min room (length bytes - at))

-- the buffer after n bytes were copied to its front: the rest of it is as before
abbrev pub filled : List ℕ → ℕ → ℕ → List ℕ → List ℕ
filled bytes at n into = take n (drop at bytes) ++ drop n into

-- the source after a read that doesn't fail
abbrev pub after_calm : CalmSourceOf → ℕ → CalmSourceOf
after_calm s room = record s { at = s.at + given s.bytes s.at s.piece room }

-- the next read fails
abbrev pub read_fails : MemSourceOf → Bool
read_fails s = is_one_of (next_call s.calls) s.failing

-- what the next read answers, into a buffer of this length
abbrev pub read_answer : MemSourceOf → ℕ → Result ℕ Failed
read_answer s room = if read_fails s then Err (record {}) else Ok (given s.bytes s.at s.piece room)

-- the source after it
abbrev pub after_read : MemSourceOf → ℕ → MemSourceOf
after_read s room = if read_fails s then record s { calls = next_call s.calls; faults = next_fault s.faults }
    else record s { calls = next_call s.calls; at = s.at + given s.bytes s.at s.piece room }

-- the buffer after it: a failed read leaves it as it was
abbrev pub buffer_after : MemSourceOf → List ℕ → List ℕ
buffer_after s into = if read_fails s then into else filled s.bytes s.at (given s.bytes s.at s.piece (length into)) into

-- ---- a write

-- the bytes before a place
abbrev pub written : List ℕ → ℕ → Option (List ℕ)
written room used = Some (take used room)

-- the next write of a piece of this length fails: its call is one of those, or there is no room for a piece that has bytes
abbrev pub write_fails : MemSinkOf → ℕ → Bool
write_fails k size = is_one_of (next_call k.calls) k.failing || (nat_lt 0 size && k.used == length k.room)

-- how many bytes of it are taken
abbrev pub taken_of : MemSinkOf → ℕ → ℕ
taken_of k size = min k.piece (min size (length k.room - k.used))

-- what the write answers
abbrev pub write_answer : MemSinkOf → ℕ → Result ℕ Failed
write_answer k size = if write_fails k size then Err (record {}) else Ok (taken_of k size)

-- the room with these bytes written at a place
abbrev pub written_at : List ℕ → ℕ → List ℕ → List ℕ
written_at room place bytes = take place room ++ bytes ++ drop (place + length bytes) room

-- the sink after the write of this piece
abbrev pub after_write : MemSinkOf → List ℕ → MemSinkOf
after_write k piece = if write_fails k (length piece) then record k { calls = next_call k.calls; faults = next_fault k.faults }
    else record k { calls = next_call k.calls; used = k.used + taken_of k (length piece); room = written_at k.room k.used (take (taken_of k (length piece)) piece) }
