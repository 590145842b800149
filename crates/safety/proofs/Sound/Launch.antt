-- A launch that is made gives a sound machine (statement 0).
use mathlib.Core.Path.{◌≡◌, refl, sym, ◌∙◌, ap}
use mathlib.Core.Bool.{Bool, true, false, cond, not, ◌||◌, true≢false, and-eq-true_iff}
use mathlib.Core.List.{List, [], ◌∷◌, ◌++◌, map, append-nil}
use Prim.Native.Nat.{ℕ, zero, suc, ◌+◌, ◌-◌, ◌^◌, ◌<◌, ◌≤◌}
use native.Mathlib.Omega.{arith}
use native.Mathlib.Nat.{zero-add}
use lib.Dec.{eqb, ltb, leb}
use lib.ListN.{length, get_or, replicate, length-map, get_or-replicate}
use borrow.Author.Tests.{eqb-true, eq-eqb, ne_eqb, leb-true, not-false}
use Rattle.rules.specs.declared.Plan.{Plan}
use Rattle.rules.specs.Words.{most_pages, records, record_size, records_without_pool, between, bits, bit, little, number, range, every, count}
use Rattle.rules.specs.Machine.{Lent, N, page_at, zeros, owner, valid, permitted, table_byte, fields, laid_out, is_live, holds, needs_page}
use Rattle.rules.specs.Machine.{record_at, vcpu, startup, vmsa_vmpl, efer}
use Rattle.rules.specs.Sound.{claim, claims, agrees, record_fault, table_sized, pages_sized, sound}
use Rattle.rules.specs.Launch.{in_monitor, out_of_range, areas_meet, unfit_vmsa, launch_byte, launch_table, launch_record, launch_sheet, made}
use Rattle.laws.proofs.Numbers.{number_little_fits, length_zeros}
use Rattle.laws.proofs.Ranges.{by_test, length_range, or_false}
use Rattle.laws.proofs.Records.{length_laid_out, is_live_zeros}
use Rattle.laws.proofs.FlatLaunch.{in_range}
use Rattle.safety.specs.Statements.{LaunchedSound}
use Rattle.safety.proofs.Small.{flip}
use Rattle.safety.proofs.Checks.{launch_made}
use Rattle.safety.proofs.Sound.Facts.{PageRight, Sound, close_sound}
use Rattle.safety.proofs.Sound.Sizes.{table_sizes, few_pages, pages_kept}
use Rattle.safety.proofs.Sound.Claims.{claim_dead}
use Rattle.safety.proofs.Sound.Rows.{has_apic, close_row, close_dead}
use Rattle.safety.proofs.Sound.OnePage.{write_sound, right_open, right_sealed, right_invalid}

-- ---- the table

-- element i of a list made of a range
getD_map_range : (f : ℕ → ℕ) (first n i d : ℕ) → i < n → get_or (map f (range first n)) i d ≡ f (first + i)
unfolding range
getD_map_range f first zero i d h = absurd (omega arith)
getD_map_range f first (suc n) zero d h = ap f (omega arith)
getD_map_range f first (suc n) (suc i) d h = getD_map_range f (suc first) n i d (omega arith) ∙ ap f (omega arith)

-- a byte with all three permissions permits each VMPL of 1 to 3
full : (c b : ℕ) → bit 4 b ≡ true → bit 5 b ≡ true → bit 6 b ≡ true → between 1 3 c ≡ true → permitted c b ≡ true
unfolding permitted between
full zero b x y z e = absurd (true≢false (sym e))
full (suc zero) b x y z e = x
full (suc (suc zero)) b x y z e = y
full (suc (suc (suc zero))) b x y z e = z
full (suc (suc (suc (suc c)))) b x y z e =
    let v = suc (suc (suc (suc c))) in
    absurd (omega (arith, leb-true v 3 ((and-eq-true_iff (leb 1 v) (leb v 3)).0 e).1))

-- ---- a sheet of zeros

claims_zeros : (k n p : ℕ) → claims (replicate k (zeros n)) p ≡ []
unfolding claims
claims_zeros zero n p = refl
claims_zeros (suc k) n p = rw (claim_dead (zeros n) p (is_live_zeros n)) (claims_zeros k n p)

count_zeros : (k n a : ℕ) → count (has_apic a) (replicate k (zeros n)) ≡ 0
unfolding count
count_zeros zero n a = refl
count_zeros (suc k) n a = rw (is_live_zeros n) (count_zeros k n a)

-- ---- a launch that passes its tests

module _ (plan : Plan) (l : Lent) (tables : table_sized l ≡ true) (memories : pages_sized l ≡ true) (within : out_of_range plan (N l) ≡ false)
    (apart : areas_meet plan ≡ false) (fit : unfit_vmsa (page_at l plan.vmsa) ≡ false) where
  abbrev page : List ℕ
  page = page_at l plan.vmsa

  abbrev row : List ℕ
  row = launch_record plan page

  abbrev base : Lent
  base = record { memory = l.memory; table = launch_table plan (N l); sheet = launch_sheet plan page }

  -- what the tests say
  inside : (plan.vmsa < N l) × (plan.calling < N l)
  inside = in_range plan (N l) within

  apart_all : ((eqb plan.vmsa plan.calling ≡ false) × (in_monitor plan plan.vmsa ≡ false)) × (in_monitor plan plan.calling ≡ false)
  unfolding areas_meet
  apart_all =
      let outer = or_false (eqb plan.vmsa plan.calling || in_monitor plan plan.vmsa) (in_monitor plan plan.calling) apart in
      (or_false (eqb plan.vmsa plan.calling) (in_monitor plan plan.vmsa) outer.0, outer.1)

  vmpl_fit : between 1 3 (vmsa_vmpl page) ≡ true
  unfolding unfit_vmsa
  vmpl_fit = not-false _ (or_false (not (between 1 3 (vmsa_vmpl page))) (not (bit 12 (efer page))) fit).0

  small : N l ≤ 256 ^ 4
  unfolding most_pages
  small = omega (arith, few_pages l tables)

  -- the sizes
  same_N : N base ≡ N l
  unfolding N launch_table
  same_N = length-map (range 0 (length l.table)) (launch_byte plan) ∙ length_range 0 (length l.table)

  row_length : length row ≡ record_size
  unfolding launch_record
  row_length = length_laid_out _

  tables_made : table_sized base ≡ true
  unfolding table_sized launch_sheet records every
  tables_made = rw (same_N, (table_sizes l tables).0, row_length, length_zeros record_size, eq-eqb record_size record_size refl)

  memories_made : pages_sized base ≡ true
  memories_made = pages_kept l memories base refl same_N

  -- the fields of record 0
  row_live : is_live row ≡ true
  unfolding is_live fields launch_record laid_out
  row_live = refl

  row_holds : holds row ≡ false
  unfolding holds fields launch_record laid_out
  row_holds = refl

  row_vmpl : (fields row).vmpl ≡ vmsa_vmpl page
  unfolding fields launch_record laid_out
  row_vmpl = refl

  row_flags : ((fields row).running ≡ 0) × ((fields row).holding ≡ 0)
  unfolding fields launch_record laid_out
  row_flags = (refl, refl)

  row_pool : (fields row).pool ≡ 0
  unfolding fields launch_record laid_out little number
  row_pool = refl

  row_spare : (fields row).spare ≡ 0
  unfolding fields launch_record laid_out little number
  row_spare = refl

  row_vmsa : (fields row).vmsa ≡ plan.vmsa
  unfolding fields launch_record laid_out little number
  row_vmsa = number_little_fits 4 plan.vmsa [] (omega (arith, inside, small))

  row_calling : (fields row).calling ≡ plan.calling
  unfolding fields launch_record laid_out little number
  row_calling = number_little_fits 4 plan.calling [] (omega (arith, inside, small))

  -- what the sheet claims
  claims_made : (p : ℕ) → claims base.sheet p
      ≡ cond (eqb plan.vmsa p) (5 ∷ []) [] ++ cond (eqb plan.calling p) (1 ∷ []) []
  unfolding launch_sheet claims claim
  claims_made p = rw (row_live, row_holds, row_vmsa, row_calling, claims_zeros (records - 1) record_size p) (simp append-nil)

  -- ---- each page

  byte_made : (p : ℕ) → p < N l → table_byte base p ≡ launch_byte plan p
  unfolding table_byte launch_table
  byte_made p h = getD_map_range (launch_byte plan) 0 (N l) p 0 h ∙ ap (launch_byte plan) (zero-add p)

  startup_made : (startup base).vmpl ≡ vmsa_vmpl page
  unfolding startup vcpu record_at launch_sheet
  startup_made = row_vmpl

  elsewhere : (p q : ℕ) → in_monitor plan p ≡ true → in_monitor plan q ≡ false → eqb q p ≡ false
  elsewhere p q t f = ne_eqb q p (λ e. true≢false (sym t ∙ ap (in_monitor plan) (sym e) ∙ f))

  abbrev right : ℕ → ℕ → Type 0
  right p b = PageRight (vmsa_vmpl page) (cond (eqb plan.vmsa p) (5 ∷ []) [] ++ cond (eqb plan.calling p) (1 ∷ []) []) b

  -- the rest, where no record claims the page
  rest_right : (p : ℕ) → eqb plan.vmsa p ≡ false → eqb plan.calling p ≡ false → (b : Bool) → right p (cond b 0x78 0x00)
  unfolding agrees owner valid bits bit
  rest_right p v c true = rw (v, c) (right_open (vmsa_vmpl page) [] 0x78 refl refl refl (full (vmsa_vmpl page) 0x78 refl refl refl vmpl_fit))
  rest_right p v c false = rw (v, c) (right_invalid (vmsa_vmpl page) [] 0x00 refl refl refl refl)

  byte_right : (p : ℕ) → right p (launch_byte plan p)
  unfolding launch_byte agrees owner valid bits bit
  byte_right p =
      by_test (in_monitor plan p)
      (λ t. rw (t, elsewhere p plan.vmsa t apart_all.0.1, elsewhere p plan.calling t apart_all.1)
      (right_sealed (vmsa_vmpl page) [] 0x0A refl refl refl refl))
      (λ t. by_test (eqb p plan.vmsa)
      (λ u. let e = eqb-true p plan.vmsa u in
      rw (t, u) (rw (e, eq-eqb plan.vmsa plan.vmsa refl, flip plan.vmsa plan.calling apart_all.0.0)
      (right_sealed (vmsa_vmpl page) (5 ∷ []) 0x0D refl refl refl refl)))
      (λ u. by_test (eqb p plan.calling)
      (λ v. let e = eqb-true p plan.calling v in
      rw (t, u, v) (rw (e, eq-eqb plan.calling plan.calling refl, apart_all.0.0)
      (right_open (vmsa_vmpl page) (1 ∷ []) 0x79 refl refl refl (full (vmsa_vmpl page) 0x79 refl refl refl vmpl_fit))))
      (λ v. rw (t, u, v) (rest_right p (flip p plan.vmsa u) (flip p plan.calling v) (ltb p plan.valid)))))

  page_made : (p : ℕ) → p < N base → PageRight (startup base).vmpl (claims base.sheet p) (table_byte base p)
  page_made p h = rw (startup_made, claims_made p, byte_made p (rw same_N at h)) (byte_right p)

  -- ---- each record

  vcpu_made : vcpu base 0 ≡ fields row
  unfolding vcpu record_at launch_sheet
  vcpu_made = refl

  one_apic : count (has_apic (fields row).apic) base.sheet ≡ 1
  unfolding count launch_sheet
  one_apic = rw (row_live, eq-eqb (fields row).apic (fields row).apic refl, count_zeros (records - 1) record_size (fields row).apic)

  vmpl_range : (1 ≤ vmsa_vmpl page) × (vmsa_vmpl page ≤ 3)
  unfolding between
  vmpl_range =
      let both = (and-eq-true_iff (leb 1 (vmsa_vmpl page)) (leb (vmsa_vmpl page) 3)).0 vmpl_fit in
      (leb-true _ _ both.0, leb-true _ _ both.1)

  first_made : record_at base 0 ≡ row
  unfolding record_at launch_sheet
  first_made = refl

  later_made : (i : ℕ) → suc i < records → record_at base (suc i) ≡ zeros record_size
  unfolding record_at launch_sheet
  later_made i h = get_or-replicate (records - 1) i (zeros record_size) [] (omega arith)

  rows_made : (i : ℕ) → i < records → record_fault base i ≡ false
  unfolding startup needs_page records_without_pool
  rows_made zero h =
      close_row base 0
      (rw (same_N, vcpu_made)
      record {
        running = omega (arith, row_flags);
        least = rw row_vmpl vmpl_range.0;
        most = rw row_vmpl vmpl_range.1;
        vmsa = rw row_vmsa inside.0;
        calling = rw row_calling inside.1;
        pool = λ e. omega (arith, row_flags);
        holding = row_flags.1;
        no_pool = λ e. row_pool;
        spare = row_spare;
        features = λ e. absurd (e refl);
        once = one_apic;
        rank = omega arith;
      })
      (rw first_made row_live)
  rows_made (suc i) h = close_dead base (suc i) (later_made i h) (λ e. omega arith)

  base_sound : Sound base
  base_sound = record { tables = tables_made; memories = memories_made; pages = page_made; rows = rows_made }

  made_sound : sound (made plan l).lent ≡ true
  unfolding made
  made_sound = close_sound _ (write_sound plan.calling 0 (0 ∷ 0 ∷ []) base base_sound)

-- statement 0
pub launched_sound : LaunchedSound
unfolding LaunchedSound
launched_sound plan m tables memories e =
    let told = launch_made plan m e in
    rw told.after (made_sound plan m.lent tables memories told.within told.apart told.fit)
