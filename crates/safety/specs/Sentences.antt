-- "A sound machine", sentence by sentence. `Sound.sound` says it as faults that a program could look for; the two are shown to be the same, so that a reader need
-- not believe the faults.
use Rattle.std.specs.Prelude.{◌≡◌, ◌⊎◌, true, false, ℕ, ◌<◌, ◌≤◌, length}
use Rattle.rules.specs.Words.{page_size, least_pages, most_pages, records, record_size}
use Rattle.rules.specs.Machine.{Lent, N, page_at, zeros, owner, plain, calling_area, pool_in_use, vmsa_area, valid, permitted, table_byte, record_at, vcpu, startup}

-- byte +0 is 1
unfoldable pub Live : Lent → ℕ → Type 0
Live m i = (vcpu m i).live ≡ 1

-- record i names page p as a page of this owner: "as VMSA, calling page and held pool page"
pub data Names (m : Lent) (i p : ℕ) : ℕ → Type 0 where
  as_vmsa : (vcpu m i).vmsa ≡ p → Names m i p vmsa_area
  as_calling : (vcpu m i).calling ≡ p → Names m i p calling_area
  as_held : (vcpu m i).holding ≡ 1 → (vcpu m i).pool ≡ p → Names m i p pool_in_use

-- a live record that names page p as a page of owner o
pub record Named (m : Lent) (p o : ℕ) : Type 0 where
  pub by : ℕ
  pub live : Live m by
  pub naming : Names m by p o

-- "VMPL outside 1 to 3 or a page (the pool page if held) at or above N": what a live record of a sound machine does not have
pub record NamesBelow (m : Lent) (i : ℕ) : Type 0 where
  pub least_vmpl : 1 ≤ (vcpu m i).vmpl
  pub most_vmpl : (vcpu m i).vmpl ≤ 3
  pub vmsa : (vcpu m i).vmsa < N m
  pub calling : (vcpu m i).calling < N m
  pub pool : (vcpu m i).holding ≡ 1 → (vcpu m i).pool < N m

-- "+16 pool page (4; 0 if none held), +20 zeros (4), +24 SEV features (8; record 0 only, else 0)"
pub record Layout (m : Lent) (i : ℕ) : Type 0 where
  pub pool : (vcpu m i).holding ≡ 0 → (vcpu m i).pool ≡ 0
  pub spare : (vcpu m i).spare ≡ 0
  pub features : 0 < i → (vcpu m i).features ≡ 0

pub record SoundMachine (m : Lent) : Type 0 where
  -- "N from 3 to 8,192", "4,096 x N bytes", "512 bytes, 16 records of 32"
  pub least : least_pages ≤ N m
  pub most : N m ≤ most_pages
  pub memory : length m.memory ≡ N m
  pub pages : (p : ℕ) → p < N m → length (page_at m p) ≡ page_size
  pub sheet : length m.sheet ≡ records
  pub rows : (i : ℕ) → i < records → length (record_at m i) ≡ record_size
  -- "Owners 5, 1 and 4 stand on exactly the pages that live records name as VMSA, calling page and held pool page"
  pub named : (p : ℕ) → p < N m
      → (owner (table_byte m p) ≡ vmsa_area) ⊎ ((owner (table_byte m p) ≡ calling_area) ⊎ (owner (table_byte m p) ≡ pool_in_use))
      → Named m p (owner (table_byte m p))
  pub owned : (i p o : ℕ) → Live m i → Names m i p o → owner (table_byte m p) ≡ o
  -- "each named once"
  pub once : (i j p o q : ℕ) → Live m i → Live m j → Names m i p o → Names m j p q → (i ≡ j) × (o ≡ q)
  -- "6 and 7 don't occur"
  pub owners : (p : ℕ) → p < N m → owner (table_byte m p) ≤ vmsa_area
  -- "The sheet holds nothing that outcome 3 names": "a live, running or holding byte above 1; a live record with .."
  pub live_byte : (i : ℕ) → (vcpu m i).live ≤ 1
  pub running_byte : (i : ℕ) → (vcpu m i).running ≤ 1
  pub holding_byte : (i : ℕ) → (vcpu m i).holding ≤ 1
  pub names_below : (i : ℕ) → Live m i → NamesBelow m i
  -- "and keeps the layout above": each record, live or not
  pub layout : (i : ℕ) → Layout m i
  -- "Record 0 is live"
  pub startup_live : Live m 0
  -- "A live record from 4 up holds a pool page, 0 to 3 never do"
  pub holders : (i : ℕ) → Live m i → 4 ≤ i → (vcpu m i).holding ≡ 1
  pub first_four : (i : ℕ) → i < 4 → (vcpu m i).holding ≡ 0
  -- "other records are zeros"
  pub blank : (i : ℕ) → i < records → (Live m i → ⊥) → record_at m i ≡ zeros record_size
  -- "Live APIC IDs differ, and no live VMPL is below the startup's"
  pub apart : (i j : ℕ) → Live m i → Live m j → (vcpu m i).apic ≡ (vcpu m j).apic → i ≡ j
  pub above : (i : ℕ) → Live m i → (startup m).vmpl ≤ (vcpu m i).vmpl
  -- "Pages that aren't plain are valid"
  pub validity : (p : ℕ) → p < N m → (owner (table_byte m p) ≡ plain → ⊥) → valid (table_byte m p) ≡ true
  -- "Owners 2 to 5 and invalid pages carry no permission"
  pub sealed : (p c : ℕ) → p < N m → ((2 ≤ owner (table_byte m p)) × (owner (table_byte m p) ≤ 5)) ⊎ (valid (table_byte m p) ≡ false)
      → permitted c (table_byte m p) ≡ false
  -- "valid plain and calling pages carry the startup's VMPL"
  pub carried : (p : ℕ) → p < N m → (owner (table_byte m p) ≡ plain) ⊎ (owner (table_byte m p) ≡ calling_area) → valid (table_byte m p) ≡ true
      → permitted (startup m).vmpl (table_byte m p) ≡ true
