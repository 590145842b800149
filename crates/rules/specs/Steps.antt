-- "Other steps": the store and the mark.
use Rattle.std.specs.Prelude.{ℕ, ◌+◌, Bool, not, ◌&&◌, List, leb, ltb, length, set, Ok, Err}
use Rattle.rules.specs.Words.{page_size, records}
use Rattle.rules.specs.Answers.{Verdict, refusal, Answered, refuse}
use Rattle.rules.specs.Machine.{Lent, below, write, valid, permitted, table_byte, is_live, record_at, amend}

-- "It is done exactly when the VMPL is 1 to 3, the page below N, offset plus length at most 4,096, and the page valid and permitted to
-- that VMPL" (`permitted` holds of VMPL 1 to 3 alone)
unfoldable pub may_store : ℕ → ℕ → ℕ → ℕ → Lent → Bool
may_store c p offset n m = below m p && leb (offset + n) page_size && valid (table_byte m p) && permitted c (table_byte m p)

-- "A store names VMPL, page, offset and bytes"
unfoldable pub store : ℕ → ℕ → ℕ → List ℕ → Lent → Answered Verdict Lent
store c p offset bytes m =
    refuse m (not (may_store c p offset (length bytes) m)) (Err refusal)
    (record { answer = Ok tt; after = write p offset bytes m })

-- "A run or stop mark sets byte +2 of a live record (byte +0 is 1) to 1 or 0": of the sheet's sixteen, and to nothing else
unfoldable pub may_mark : ℕ → ℕ → Lent → Bool
may_mark i value m = ltb i records && leb value 1 && is_live (record_at m i)

-- "Otherwise .. refused without change"
unfoldable pub mark : ℕ → ℕ → Lent → Answered Verdict Lent
mark i value m = refuse m (not (may_mark i value m)) (Err refusal) (record { answer = Ok tt; after = amend (λ r. set r 2 value) i m })
