-- For statement 6: what one round, a store and a Withdraw by the startup vCPU, does to the pages, and how many it gives back.
use mathlib.Core.Path.{◌≡◌, refl, sym, ◌∙◌, ap}
use mathlib.Core.Logic.{◌⊎◌, inl, inr}
use mathlib.Core.Bool.{true, false, cond}
use mathlib.Core.List.{List, [], ◌∷◌}
use Prim.Native.Nat.{ℕ, ◌+◌, ◌-◌, ◌*◌, ◌/◌, ◌<◌, ◌≤◌, min}
use native.Mathlib.Omega.{arith}
use lib.Dec.{eqb}
use lib.ListN.{length, length-take}
use lib.Seq.{get_or-set_same}
use borrow.Author.Tests.{eqb-false, ne_eqb}
use Rattle.rules.specs.Words.{page_size, records, between, little, exists, places, each}
use Rattle.rules.specs.Machine.{Lent, N, offset_of, page_at, with_memory, write, owner, valid, permitted, grant, own, table_byte}
use Rattle.rules.specs.Machine.{vcpu, startup}
use Rattle.rules.specs.Lists.{in_list}
use Rattle.rules.specs.Calls.{is_free, any_free, withdrawn_pages, give_back, gpas, withdrawn}
use Rattle.rules.specs.Call.{pending, clear_pending, set_flag}
use Rattle.laws.proofs.Ranges.{by_test, rising→absent, length_places}
use Rattle.laws.proofs.Counts.{count_each_down}
use Rattle.laws.proofs.TableByte.{byte·simp}
use Rattle.safety.specs.Terms.{free, last_writes}
use Rattle.safety.proofs.Effects.{give_back_table, given_memory, same_startup, withdrawn_sheet, page_written, owned_below}
use Rattle.safety.proofs.Checks.{withdrawn_rising, withdrawn_free, given_free, given_byte, not_given_byte}
use Rattle.safety.proofs.Sound.Facts.{Sound}
use Rattle.safety.proofs.Sound.Sizes.{page_there, page_whole}
use Rattle.safety.proofs.Sound.Rows.{startup_lives, startup_range}
use Rattle.safety.proofs.Sound.OnePage.{write_sound, granted, owned_valid}
use Rattle.safety.proofs.Sound.Withdraw.{withdraw_sound}
use Rattle.safety.proofs.Elsewhere.{Untouched, untouched_here, untouched_twice, write_elsewhere}
use Rattle.safety.proofs.Pool.Bytes.{in_list_last}
use Rattle.safety.proofs.Pool.Withdraw.{withdrawn_count}
use Rattle.safety.proofs.Pool.BackCall.{list_page, list_offset, ended, calling_inside, withdraw_done}

-- a page that the startup's VMPL may use as its own: plain, valid and permitted
pub record Open (c b : ℕ) : Type 0 where
  pub owned : owner b ≡ 0
  pub validity : valid b ≡ true
  pub permission : permitted c b ≡ true

-- a page that waits in the pool, or has come back from it
unfoldable pub Turning : ℕ → ℕ → Type 0
Turning c b = (owner b ≡ 3) ⊎ Open c b

-- what a part of a round, and any number of rounds, leaves as it was, and what it turns
pub record Round (m after : Lent) : Type 0 where
  pub still_sound : Sound after
  pub sheet : after.sheet ≡ m.sheet
  pub in_use : (p : ℕ) → owner (table_byte m p) ≡ 4 → Untouched p m after
  pub turns : (p : ℕ) → Turning (startup m).vmpl (table_byte m p) → Turning (startup m).vmpl (table_byte after p)

-- one after another
pub round_twice : {m after later : Lent} → Round m after → Round after later → Round m later
round_twice {m} {after} {later} h k =
    record {
      still_sound = k.still_sound;
      sheet = k.sheet ∙ h.sheet;
      in_use = λ p e. let first = h.in_use p e in untouched_twice first (k.in_use p (ap owner first.byte ∙ e));
      turns = λ p e. rw (same_startup m after h.sheet) at (k.turns p) (h.turns p e);
    }

-- none
pub round_here : {m : Lent} → Sound m → Round m m
round_here s = record { still_sound = s; sheet = refl; in_use = λ p e. untouched_here; turns = λ p e. e }

-- pages of different owners differ
elsewhere : (m : Lent) (p q : ℕ) → owner (table_byte m p) ≡ 4 → owner (table_byte m q) ≡ 1 → eqb p q ≡ false
elsewhere m p q e f = ne_eqb p q (λ h. absurd (omega (arith, sym e ∙ ap (λ x. owner (table_byte m x)) h ∙ f)))

-- what a page given back is not
not_free : (v b : ℕ) → is_free (grant v (own 0 b)) ≡ false
unfolding is_free
not_free v b = simp byte·simp

-- a write leaves the sheet as it was
pub write_sheet : (p o : ℕ) (bytes : List ℕ) (m : Lent) → (write p o bytes m).sheet ≡ m.sheet
unfolding write with_memory
write_sheet p o bytes m = refl

-- and the table
pub write_byte : (p o : ℕ) (bytes : List ℕ) (m : Lent) (q : ℕ) → table_byte (write p o bytes m) q ≡ table_byte m q
unfolding write with_memory table_byte
write_byte p o bytes m q = refl

-- a page of the pool is one of the table's
pub pool_inside : (m : Lent) (p : ℕ) → owner (table_byte m p) ≡ 3 → p < N m
pool_inside m p e = owned_below m p 3 e (omega arith)

-- a page given back
given_open : (c b : ℕ) → between 1 3 c ≡ true → valid b ≡ true → Open c (grant c (own 0 b))
given_open c b e t =
    record { owned = simp byte·simp; validity = simp (byte·simp, t); permission = granted c c (own 0 b) e (omega arith) }

-- 510 pages fit
small : (page_size - 8 - 8) / 8 ≡ 510
unfolding page_size
small = refl

room : (k : ℕ) → (page_size - offset_of (page_size * k + 8) - 8) / 8 ≡ 510
room k = rw (list_offset k) small

module _ (m : Lent) where
  abbrev k : ℕ
  k = (startup m).calling

  abbrev rcx : ℕ
  rcx = page_size * (startup m).calling + 8

  abbrev ps : List ℕ
  ps = withdrawn_pages (page_size * (startup m).calling + 8) m

  abbrev given : Lent
  given = each (give_back (startup m).vmpl) (withdrawn_pages (page_size * (startup m).calling + 8) m) m

  -- ---- the table

  ended_table : (ended m).table ≡ given.table
  unfolding ended set_flag clear_pending withdrawn write with_memory
  ended_table = refl

  -- the sheet is as it was
  pub ended_sheet : (ended m).sheet ≡ m.sheet
  unfolding ended set_flag clear_pending write with_memory
  ended_sheet = withdrawn_sheet (startup m).vmpl rcx m

  byte_of : (p : ℕ) → table_byte (ended m) p ≡ table_byte (withdrawn (startup m).vmpl rcx m) p
  unfolding ended set_flag clear_pending write with_memory table_byte
  byte_of p = refl

  -- a page that is not given back keeps its table byte
  ended_other : (p : ℕ) → exists (eqb p) ps ≡ false → table_byte (ended m) p ≡ table_byte m p
  ended_other p e = byte_of p ∙ not_given_byte (startup m).vmpl rcx p m e

  -- one that is given back is plain and granted
  ended_given : (p : ℕ) → exists (eqb p) ps ≡ true → table_byte (ended m) p ≡ grant (startup m).vmpl (own 0 (table_byte m p))
  ended_given p e = byte_of p ∙ given_byte (startup m).vmpl rcx p m e

  -- a page that is not free keeps its table byte
  pub ended_kept : (p o : ℕ) → owner (table_byte m p) ≡ o → eqb o 3 ≡ false → table_byte (ended m) p ≡ table_byte m p
  ended_kept p o e n =
      by_test (exists (eqb p) ps) (λ t. absurd (eqb-false o 3 n (sym e ∙ given_free rcx p m t))) (ended_other p)

  -- ---- the counts

  -- as many pages as are free, and no more than 510
  pub how_many : length ps ≡ min 510 (free m)
  unfolding withdrawn_pages free
  how_many =
      length-take ((page_size - offset_of rcx - 8) / 8) (places is_free 0 m.table)
      ∙ rw (room k, length_places is_free 0 m.table)

  -- they are free no more
  pub fewer_free : free (ended m) + length ps ≡ free m
  unfolding free N
  fewer_free =
      let f : ℕ → ℕ = λ b. grant (startup m).vmpl (own 0 b) in
      rw ended_table
      (count_each_down f (give_back (startup m).vmpl) (give_back_table (startup m).vmpl) is_free (withdrawn_rising rcx m) m (omega arith) (withdrawn_free rcx m)
      (rising→absent (λ p. is_free (f (table_byte m p))) (withdrawn_rising rcx m) (λ p l h. not_free (startup m).vmpl (table_byte m p))))

  -- 510 fewer, or none is left
  pub left_free : free (ended m) ≡ free m - 510
  left_free = omega (arith, how_many, fewer_free)

  -- ---- the memory

  -- the writes, all in the calling page
  abbrev counted : Lent
  counted = write k 8 (little 2 (length ps)) given

  abbrev listed : Lent
  listed = write k 16 (gpas ps) counted

  withdrawn_is : withdrawn (startup m).vmpl rcx m ≡ listed
  unfolding withdrawn
  withdrawn_is = rw (list_page k, list_offset k)

  sheet_listed : listed.sheet ≡ m.sheet
  sheet_listed = rw withdrawn_is at (withdrawn_sheet (startup m).vmpl rcx m)

  same_calling : startup listed ≡ startup m
  same_calling = same_startup m listed sheet_listed

  flagged_calling : startup (write k 0 (0 ∷ []) listed) ≡ startup m
  flagged_calling = same_startup m (write k 0 (0 ∷ []) listed) (write_sheet k 0 (0 ∷ []) listed ∙ sheet_listed)

  ended_is : ended m ≡ write k 1 (cond (any_free (write k 0 (0 ∷ []) listed)) 1 0 ∷ []) (write k 0 (0 ∷ []) listed)
  unfolding ended set_flag clear_pending startup
  ended_is = rw (withdrawn_is, same_calling, flagged_calling)

  given_page : (p : ℕ) → page_at given p ≡ page_at m p
  unfolding page_at
  given_page p = rw (given_memory (startup m).vmpl ps m)

  -- every other page keeps its bytes
  pub ended_elsewhere : (p : ℕ) → eqb p k ≡ false → page_at (ended m) p ≡ page_at m p
  ended_elsewhere p e =
      rw ended_is
      ((write_elsewhere p k 1 _ _ e).page ∙ (write_elsewhere p k 0 _ _ e).page ∙ (write_elsewhere p k 16 _ _ e).page
      ∙ (write_elsewhere p k 8 _ _ e).page ∙ given_page p)

  module _ (s : Sound m) (mine : owner (table_byte m (startup m).calling) ≡ 1) where
    ended_sound : Sound (ended m)
    unfolding ended set_flag clear_pending records
    ended_sound =
        let done = rw (withdraw_done m s mine) at (withdraw_sound 0 rcx (omega arith) m s (startup_lives m s)) in
        write_sound _ 1 _ _ (write_sound _ 0 _ _ done)

    ended_turns : (p : ℕ) → Turning (startup m).vmpl (table_byte m p) → Turning (startup m).vmpl (table_byte (ended m) p)
    unfolding Turning
    ended_turns p (inr h) = inr (rw (ended_kept p 0 h.owned refl) h)
    ended_turns p (inl e) =
        by_test (exists (eqb p) ps)
        (λ t.
        let inside = pool_inside m p e in
        inr (rw (ended_given p t) (given_open (startup m).vmpl (table_byte m p) (startup_range m s) (owned_valid _ _ _ (s.pages p inside) (λ z. omega arith)))))
        (λ t. inl (rw (ended_other p t) e))

    -- the call, as a part of a round
    pub ended_round : Round m (ended m)
    ended_round =
        record {
          still_sound = ended_sound;
          sheet = ended_sheet;
          in_use = λ p e. record { page = ended_elsewhere p (elsewhere m p k e mine); byte = ended_kept p 4 e refl };
          turns = ended_turns;
        }

    -- the store
    pub stored_round : Round m (write k 0 (1 ∷ []) m)
    stored_round =
        record {
          still_sound = write_sound k 0 (1 ∷ []) m s;
          sheet = write_sheet k 0 (1 ∷ []) m;
          in_use = λ p e. write_elsewhere p k 0 (1 ∷ []) m (elsewhere m p k e mine);
          turns = λ p e. rw (write_byte k 0 (1 ∷ []) m p) e;
        }

    calling_there : k < length m.memory
    calling_there = page_there m s.memories (calling_inside m s mine)

    calling_long : length (page_at m k) ≡ page_size
    calling_long = page_whole m s.memories k calling_there

    -- the count that Withdraw wrote, which the last writes leave
    pub count_told : in_list 2 0 rcx (ended m) ≡ length ps
    unfolding ended last_writes clear_pending set_flag page_size
    count_told =
        let behind : 2 ≤ offset_of rcx + 0 = omega (arith, list_offset k) in
        in_list_last 0 rcx 2 0 (withdrawn (startup m).vmpl rcx m) (λ e. behind) (λ e. behind)
        ∙ withdrawn_count (startup m).vmpl rcx m (rw (list_page k) calling_there) (rw (list_page k, list_offset k) (omega (arith, calling_long)))

    -- after the store the call is pending
    pub store_waits : pending 0 (write k 0 (1 ∷ []) m) ≡ 1
    unfolding pending startup page_size
    store_waits =
        let same : vcpu (write k 0 (1 ∷ []) m) 0 ≡ vcpu m 0 = same_startup m (write k 0 (1 ∷ []) m) (write_sheet k 0 (1 ∷ []) m) in
        rw (same, page_written k 0 (1 ∷ []) m calling_there)
        (get_or-set_same (page_at m k) 0 1 0 (omega (arith, calling_long)))
