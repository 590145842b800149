-- The rows of "Sixteen pages", in the paper's order, those marked * and then the three that are not: "Monitor 12 to 15, VMSA 11, calling 10, V 8, VMPL 1."
-- Last comes one that the paper has no row for, a vCPU that deletes itself, so that every outcome of a real call stands in the table.
-- The memory is blank but for the two bytes of the VMSA page that launch wants: its VMPL, and EFER bit 12.
use Rattle.std.specs.Prelude.{ℕ, zero, suc, List, [], ◌∷◌, ◌++◌, replicate, set}
use Rattle.rules.specs.Words.{page_size, records, record_size}
use Rattle.rules.specs.Machine.{Machine, zeros}
use Rattle.rules.specs.declared.Plan.{Plan}
use Rattle.rows.specs.Night.{hex, Placed, Event, launches, asks, Row}

-- sixteen pages, as they are lent to launch
unfoldable pub blank : Machine
blank =
    let vmsa = set (set (zeros page_size) 0xCA 1) 0xD1 0x10 in
    record {
      lent = record {
        memory = replicate 11 (zeros page_size) ++ vmsa ∷ replicate 4 (zeros page_size);
        table = zeros 16;
        sheet = replicate records (zeros record_size);
      };
    }

unfoldable pub plan : Plan
plan = record { first = 12; count = 4; vmsa = 11; calling = 10; apic = 0; valid = 8 }

-- the cells of the table: n bytes at a place; an entry n times from a place on; call RAX with RCX, RDX and R8; outcome 0 with this code and this RCX
unfoldable pub at : ℕ → ℕ → ℕ → Placed
at place n digits = record { place = place; bytes = hex n digits }

unfoldable pub times : ℕ → List ℕ → List ℕ
times zero bytes = []
times (suc n) bytes = bytes ++ times n bytes

unfoldable pub entries : ℕ → ℕ → ℕ → Placed
entries place n digits = record { place = place; bytes = times n (hex 8 digits) }

unfoldable pub blank_page : ℕ → Placed
blank_page place = record { place = place; bytes = zeros page_size }

unfoldable pub ask : ℕ → ℕ → ℕ → ℕ → Event
ask rax rcx rdx r8 = asks 0 (record { rax = rax; rcx = rcx; rdx = rdx; r8 = r8; r9 = 0; reason = 0x403 })

unfoldable pub code : ℕ → ℕ → List ℕ
code rax rcx = 0 ∷ rax ∷ rcx ∷ []

unfoldable pub rows : List Row
rows =
    -- "Table whole"
    record {
      stored = [];
      event = launches plan;
      answer = 0 ∷ [];
      memory = [];
      table = at 0 16 0x78_78_78_78_78_78_78_78_00_00_79_0D_0A_0A_0A_0A ∷ [];
    }
    ∷
    -- "List at 0x1000: .., Pvalidate: code 0, bytes 2,3 01 00, page 8 zeros, table byte 18"
    record {
      stored = at 0x1000 16 0x01_00_00_00_00_00_00_00_04_80_00_00_00_00_00_00 ∷ [];
      event = ask 1 0x1000 0 0;
      answer = code 0 0x1000;
      memory = at 0x1002 2 0x01_00 ∷ blank_page 0x8000 ∷ [];
      table = at 8 1 0x18 ∷ [];
    }
    ∷
    -- "Index back to 0, again: 0x80001010, index 0"
    record {
      stored = at 0x1002 2 0x00_00 ∷ [];
      event = ask 1 0x1000 0 0;
      answer = code 0x80001010 0x1000;
      memory = at 0x1002 2 0x00_00 ∷ [];
      table = at 8 1 0x18 ∷ [];
    }
    ∷
    -- "Entry 0x800C: success"; page 8, written to in between, is zeros again
    record {
      stored = at 0x8010 2 0xAA_BB ∷ at 0x1008 8 0x0C_80_00_00_00_00_00_00 ∷ [];
      event = ask 1 0x1000 0 0;
      answer = code 0 0x1000;
      memory = at 0x1002 2 0x01_00 ∷ blank_page 0x8000 ∷ [];
      table = at 8 1 0x18 ∷ [];
    }
    ∷
    -- "Index 0, entry 0x8000 by Deposit: 0B, startup flag 1"
    record {
      stored = at 0x1002 2 0x00_00 ∷ at 0x1008 8 0x00_80_00_00_00_00_00_00 ∷ [];
      event = ask 4 0x1000 0 0;
      answer = code 0 0x1000;
      memory = at 0x1002 2 0x01_00 ∷ at 0xA000 2 0x00_01 ∷ [];
      table = at 8 1 0x0B ∷ [];
    }
    ∷
    -- "Withdraw at 0x2000: 01 00, six bytes kept, 00 80 00 00 00 00 00 00; byte 18, flag 0"
    record {
      stored = at 0x2000 18 0xEE_EE_EE_EE_EE_EE_EE_EE_EE_EE_EE_EE_EE_EE_EE_EE_EE_EE ∷ [];
      event = ask 5 0x2000 0 0;
      answer = code 0 0x2000;
      memory = at 0x2000 18 0x01_00_EE_EE_EE_EE_EE_EE_00_80_00_00_00_00_00_00_EE_EE ∷ at 0xA000 2 0x00_00 ∷ [];
      table = at 8 1 0x18 ∷ [];
    }
    ∷
    -- "Withdraw at 0x2FF8: PARAMETER"
    record {
      stored = [];
      event = ask 5 0x2FF8 0 0;
      answer = code 0x80000005 0x2FF8;
      memory = at 0x2FF8 8 0x00_00_00_00_00_00_00_00 ∷ [];
      table = at 8 1 0x18 ∷ [];
    }
    ∷
    -- "at 0x2FF0 one entry fits": of two pages that are deposited for it, the lower
    record {
      stored = at 0x1000 24 0x02_00_00_00_00_00_00_00_00_30_00_00_00_00_00_00_00_80_00_00_00_00_00_00 ∷ [];
      event = ask 4 0x1000 0 0;
      answer = code 0 0x1000;
      memory = at 0x1002 2 0x02_00 ∷ [];
      table = at 3 1 0x0B ∷ at 8 1 0x0B ∷ [];
    }
    ∷
    record {
      stored = [];
      event = ask 5 0x2FF0 0 0;
      answer = code 0 0x2FF0;
      memory = at 0x2FF0 16 0x01_00_00_00_00_00_00_00_00_30_00_00_00_00_00_00 ∷ at 0xA000 2 0x00_01 ∷ [];
      table = at 3 1 0x18 ∷ at 8 1 0x0B ∷ [];
    }
    ∷
    record {
      stored = [];
      event = ask 5 0x2000 0 0;
      answer = code 0 0x2000;
      memory = at 0x2000 16 0x01_00_EE_EE_EE_EE_EE_EE_00_80_00_00_00_00_00_00 ∷ at 0xA000 2 0x00_00 ∷ [];
      table = at 3 1 0x18 ∷ at 8 1 0x18 ∷ [];
    }
    ∷
    -- "Count 511 at offset 0 is read": to its last entry
    record {
      stored = at 0x3000 4 0xFF_01_FE_01 ∷ at 0x3FF8 8 0x0C_80_00_00_00_00_00_00 ∷ [];
      event = ask 1 0x3000 0 0;
      answer = code 0 0x3000;
      memory = at 0x3000 4 0xFF_01_FF_01 ∷ [];
      table = at 8 1 0x18 ∷ [];
    }
    ∷
    -- "512 is PARAMETER"
    record {
      stored = at 0x3000 4 0x00_02_00_00 ∷ [];
      event = ask 1 0x3000 0 0;
      answer = code 0x80000005 0x3000;
      memory = at 0x3000 4 0x00_02_00_00 ∷ [];
      table = at 8 1 0x18 ∷ [];
    }
    ∷
    -- "Create with VMSA 6 (VMPL 1, EFER bit 12 set, features as record 0's), calling 7, a new APIC ID: 0D, 79"
    record {
      stored = at 0x60CA 1 0x01 ∷ at 0x60D1 1 0x10 ∷ [];
      event = ask 2 0x6000 0x7000 1;
      answer = code 0 0x6000;
      memory = [];
      table = at 6 2 0x0D_79 ∷ [];
    }
    ∷
    -- "Delete: 18, 78"
    record {
      stored = [];
      event = ask 3 0x6000 0 0;
      answer = code 0 0x6000;
      memory = at 0x60D0 8 0x00_00_00_00_00_00_00_00 ∷ [];
      table = at 6 2 0x18_78 ∷ [];
    }
    ∷
    -- "A fifth live vCPU, pool empty: 0x40000001": the second to the fourth
    record {
      stored = at 0x60CA 1 0x01 ∷ at 0x60D1 1 0x10 ∷ [];
      event = ask 2 0x6000 0x7000 1;
      answer = code 0 0x6000;
      memory = [];
      table = at 6 2 0x0D_79 ∷ [];
    }
    ∷
    record {
      stored = at 0x40CA 1 0x01 ∷ at 0x40D1 1 0x10 ∷ [];
      event = ask 2 0x4000 0x5000 2;
      answer = code 0 0x4000;
      memory = [];
      table = at 4 2 0x0D_79 ∷ [];
    }
    ∷
    record {
      stored = at 0x20CA 1 0x01 ∷ at 0x20D1 1 0x10 ∷ [];
      event = ask 2 0x2000 0x3000 3;
      answer = code 0 0x2000;
      memory = [];
      table = at 2 2 0x0D_19 ∷ [];
    }
    ∷
    -- and the fifth
    record {
      stored = at 0xCA 1 0x01 ∷ at 0xD1 1 0x10 ∷ [];
      event = ask 2 0x0 0x8000 4;
      answer = code 0x40000001 0x0;
      memory = [];
      table = at 0 1 0x78 ∷ at 8 1 0x18 ∷ [];
    }
    ∷
    -- "Query RCX 2: 0"
    record {
      stored = [];
      event = ask 6 2 0 0;
      answer = code 0 0;
      memory = [];
      table = [];
    }
    ∷
    -- "Page 8 twice in one list, both wishing valid: index 1, 0x80001010": a list refused midway, for which page 8 is made invalid
    record {
      stored = at 0x1000 16 0x01_00_00_00_00_00_00_00_00_80_00_00_00_00_00_00 ∷ [];
      event = ask 1 0x1000 0 0;
      answer = code 0 0x1000;
      memory = at 0x1002 2 0x01_00 ∷ [];
      table = at 8 1 0x00 ∷ [];
    }
    ∷
    record {
      stored = at 0x1100 24 0x02_00_00_00_00_00_00_00_04_80_00_00_00_00_00_00_04_80_00_00_00_00_00_00 ∷ [];
      event = ask 1 0x1100 0 0;
      answer = code 0x80001010 0x1100;
      memory = at 0x1102 2 0x01_00 ∷ blank_page 0x8000 ∷ [];
      table = at 8 1 0x18 ∷ [];
    }
    ∷
    -- "33 entries: incomplete at 32"; and the same list again does the last one
    record {
      stored = at 0x1000 4 0x21_00_00_00 ∷ entries 0x1008 33 0x0C_80_00_00_00_00_00_00 ∷ [];
      event = ask 1 0x1000 0 0;
      answer = code 0x80000000 0x1000;
      memory = at 0x1002 2 0x20_00 ∷ [];
      table = at 8 1 0x18 ∷ [];
    }
    ∷
    record {
      stored = [];
      event = ask 1 0x1000 0 0;
      answer = code 0 0x1000;
      memory = at 0x1002 2 0x21_00 ∷ [];
      table = at 8 1 0x18 ∷ [];
    }
    ∷
    -- "A 512-page entry with N 16: ADDRESS"
    record {
      stored = at 0x1000 16 0x01_00_00_00_00_00_00_00_05_00_00_00_00_00_00_00 ∷ [];
      event = ask 1 0x1000 0 0;
      answer = code 0x80000003 0x1000;
      memory = at 0x1002 2 0x00_00 ∷ [];
      table = at 0 2 0x78_78 ∷ [];
    }
    ∷
    -- the vCPU of record 1, whose VMSA is page 6 and whose calling page is 7, deletes itself: gone, its registers and its pending byte as they were
    record {
      stored = [];
      event = asks 1 (record { rax = 3; rcx = 0x6000; rdx = 0; r8 = 0; r9 = 0; reason = 0x403 });
      answer = 2 ∷ 3 ∷ 0x6000 ∷ [];
      memory = at 0x60D0 8 0x00_00_00_00_00_00_00_00 ∷ at 0x7000 1 0x01 ∷ at 0xA000 2 0x00_00 ∷ [];
      table = at 6 2 0x18_78 ∷ [];
    }
    ∷
    []
