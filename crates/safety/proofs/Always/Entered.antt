-- What a VMSA says, for statement 10: the VMSA of a vCPU that a call makes has no VMPL below the caller's, when the call has ended. Of every machine of at most
-- 8,192 pages.
use mathlib.Core.Path.{◌≡◌, refl, sym, ◌∙◌}
use mathlib.Core.Logic.{◌⊎◌, inl, inr}
use mathlib.Core.Bool.{true, false, true≢false}
use mathlib.Core.List.{List, [], ◌∷◌}
use Prim.Native.Nat.{ℕ, ◌+◌, ◌^◌, ◌<◌, ◌≤◌}
use native.Mathlib.Omega.{arith}
use lib.ListN.{length}
use lib.Seq.{sets}
use Rattle.rules.specs.declared.Registers.{Registers}
use Rattle.rules.specs.declared.Outcome.{Outcome}
use Rattle.rules.specs.declared.ListCall.{ListCall}
use Rattle.rules.specs.Answers.{Code, Answered}
use Rattle.rules.specs.Words.{most_pages, record_size, entries_a_call, little, number}
use Rattle.rules.specs.Machine.{Lent, Machine, with_lent, N, page_at, with_memory, write, zeros, fields, laid_out, is_live, record_at, vcpu, amend}
use Rattle.rules.specs.Machine.{vmsa_vmpl}
use Rattle.rules.specs.Lists.{list_call}
use Rattle.rules.specs.Calls.{Asked, asked, remapped, new_record, created, deleted}
use Rattle.rules.specs.Call.{Posed, on_lent, on_rcx, clear_pending, set_flag, finish, handle}
use Rattle.laws.proofs.Numbers.{number_little_fits}
use Rattle.laws.proofs.Records.{is_live_zeros, is_live_remapped}
use Rattle.safety.proofs.Branches.{on_test, on_handle}
use Rattle.safety.proofs.Effects.{written_elsewhere, remapped_sheet, created_sheet, created_memory, deleted_sheet, withdrawn_sheet}
use Rattle.safety.proofs.Entries.{run_within_sheet}
use Rattle.safety.proofs.Checks.{CreateFit, past_list, past_withdraw, past_remap, past_create, past_delete}
use Rattle.safety.proofs.Always.Modest.{amended}

-- the VMSA of a vCPU that was not there has no VMPL below c
abbrev pub Entered : ℕ → Lent → Lent → Type 0
Entered c m after =
    N m ≤ most_pages → (i : ℕ) → is_live (record_at m i) ≡ false → is_live (record_at after i) ≡ true
    → c ≤ vmsa_vmpl (page_at after (vcpu after i).vmsa)

-- ---- no vCPU is made

none_entered : (c : ℕ) (m after : Lent) → ((i : ℕ) → is_live (record_at after i) ≡ true → is_live (record_at m i) ≡ true) → Entered c m after
none_entered c m after none few i dead live = absurd (true≢false (sym (none i live) ∙ dead))

same_entered : (c : ℕ) (m after : Lent) → after.sheet ≡ m.sheet → Entered c m after
unfolding record_at
same_entered c m after e = none_entered c m after (λ i live. rw e at live)

-- where nothing happens
pub entered_here : (c : ℕ) (m : Lent) → Entered c m m
entered_here c m = same_entered c m m refl

-- a record changed to one that is live only if it was
amend_entered : (c : ℕ) (f : List ℕ → List ℕ) (i : ℕ) (m after : Lent) → (is_live (f (record_at m i)) ≡ true → is_live (record_at m i) ≡ true)
    → after.sheet ≡ (amend f i m).sheet → Entered c m after
unfolding record_at
amend_entered c f i m after same e = none_entered c m after (λ j live. was j (amended f i m j) (rw e at live))
  where
    was : (j : ℕ) → ((i ≡ j) × (record_at (amend f i m) j ≡ f (record_at m i))) ⊎ (record_at (amend f i m) j ≡ record_at m j)
        → is_live (record_at (amend f i m) j) ≡ true → is_live (record_at m j) ≡ true
    was j (inl both) live = rw (← both.0) (same (rw both.1 at live))
    was j (inr kept) live = rw kept at live

remapped_entered : (c caller old new : ℕ) (m : Lent) → Entered c m (remapped caller old new m)
unfolding amend
remapped_entered c caller old new m =
    amend_entered c (λ r. sets r 12 (little 4 new)) caller m _ (λ live. sym (is_live_remapped (record_at m caller) new) ∙ live)
    (remapped_sheet caller old new m)

deleted_entered : (c vmpl i : ℕ) (m : Lent) → Entered c m (deleted vmpl i m)
unfolding amend
deleted_entered c vmpl i m =
    amend_entered c (λ old. zeros record_size) i m _ (λ live. absurd (true≢false (sym live ∙ is_live_zeros record_size))) (deleted_sheet vmpl i m)

-- ---- Create

-- the record names the VMSA that was asked for, whose number fits
new_vmsa : (a : Asked) (i : ℕ) (m : Lent) → a.vmsa < 256 ^ 4 → (fields (new_record a i m)).vmsa ≡ a.vmsa
unfolding new_record fields laid_out little number
new_vmsa a i m h = number_little_fits 4 a.vmsa [] h

module _ (a : Asked) (i : ℕ) (m : Lent) (fit : CreateFit a i m) where
  abbrev now : Lent
  now = created a i m

  abbrev new : List ℕ → List ℕ
  new old = new_record a i m

  -- the sheet is amended
  row : (j : ℕ) → record_at now j ≡ record_at (amend new i m) j
  unfolding record_at amend
  row j = rw (created_sheet a i m)

  -- its page is as it was when it was looked at
  page : page_at now a.vmsa ≡ page_at m a.vmsa
  unfolding page_at
  page = rw (created_memory a i m)

  at_record : N m ≤ most_pages → (j : ℕ) → ((i ≡ j) × (record_at (amend new i m) j ≡ new (record_at m i))) ⊎ (record_at (amend new i m) j ≡ record_at m j)
      → is_live (record_at m j) ≡ false → is_live (record_at now j) ≡ true → a.caller_vmpl ≤ vmsa_vmpl (page_at now (vcpu now j).vmsa)
  unfolding vcpu most_pages
  at_record few j (inl both) dead live =
      rw (row j, both.1, new_vmsa a i m (omega (arith, fit.vmsa.inside, few)), page) fit.rank
  at_record few j (inr kept) dead live = absurd (true≢false (sym (rw (row j, kept) at live) ∙ dead))

  created_entered : Entered a.caller_vmpl m now
  created_entered few j = at_record few j (amended new i m j)

-- ---- the last writes

-- a write that ends before it leaves the VMPL of every VMSA
vmpl_kept : (p offset : ℕ) (bytes : List ℕ) (m : Lent) (q : ℕ) → offset + length bytes ≤ 0xCA
    → vmsa_vmpl (page_at (write p offset bytes m) q) ≡ vmsa_vmpl (page_at m q)
unfolding vmsa_vmpl page_at write with_memory
vmpl_kept p offset bytes m q h = written_elsewhere p offset bytes m.memory q 0xCA (inr h)

-- and every record
record_kept : (p offset : ℕ) (bytes : List ℕ) (m : Lent) (i : ℕ) → record_at (write p offset bytes m) i ≡ record_at m i
unfolding record_at write with_memory
record_kept p offset bytes m i = refl

write_entered : (c p offset : ℕ) (bytes : List ℕ) (m now : Lent) → offset + length bytes ≤ 0xCA → Entered c m now → Entered c m (write p offset bytes now)
unfolding vcpu
write_entered c p offset bytes m now h e few i dead live =
    rw (record_kept p offset bytes now i, vmpl_kept p offset bytes now _ h) (e few i dead (rw (record_kept p offset bytes now i) at live))

pub ended_entered : (caller : ℕ) (g : Registers) (c : ℕ) (m : Lent) (a : Answered Code (Posed Registers Machine)) → Entered c m a.after.machine.lent
    → Entered c m (finish caller g a).after.machine.lent
unfolding finish with_lent clear_pending set_flag
ended_entered caller g c m a h =
    let now = a.after.machine.lent in
    on_test (λ (x : Answered Outcome (Posed Registers Machine)). Entered c m x.after.machine.lent) (is_live (record_at now caller)) _ _
    (λ t. write_entered c _ 1 (_ ∷ []) m _ (omega arith) (write_entered c _ 0 (_ ∷ []) m now (omega arith) h))
    (λ t. write_entered c _ 1 (_ ∷ []) m now (omega arith) h)

-- ---- a call, whatever it is handled as

list_entered : (c : ℕ) (call : ListCall) (caller rcx : ℕ) (m : Lent) → Entered c m (list_call entries_a_call call caller rcx m).after
list_entered c call caller rcx m =
    past_list entries_a_call call caller rcx m (Entered c m) (entered_here c m)
    (λ page. same_entered c m _ (run_within_sheet entries_a_call call caller rcx m))

pub handled_entered : (caller : ℕ) (g : Registers) (m : Machine)
    → Entered (vcpu m.lent caller).vmpl m.lent (handle caller (record { registers = g; machine = m })).after.machine.lent
unfolding on_lent on_rcx with_lent asked
handled_entered caller g m =
    let now = m.lent in
    let c = (vcpu now caller).vmpl in
    let still = entered_here c now in
    on_handle caller (record { registers = g; machine = m }) (λ a. Entered c now a.after.machine.lent)
    (record {
      bad_pending = still;
      unknown_protocol = λ e. still;
      remaps = λ e. past_remap caller g.rcx now (Entered c now) still (λ fit. remapped_entered c caller _ _ now);
      validates = λ e. list_entered c _ caller g.rcx now;
      creates = λ e. past_create caller g.rcx g.rdx g.r8 now (Entered c now) still (created_entered _ _ now);
      deletes = λ e. past_delete caller g.rcx now (Entered c now) still (λ fit. deleted_entered c _ _ now);
      deposits = λ e. list_entered c _ caller g.rcx now;
      withdraws = λ e. past_withdraw caller g.rcx now (Entered c now) still (λ page. same_entered c now _ (withdrawn_sheet c g.rcx now));
      queries = λ e. still;
      configures = λ e. still;
      unknown_call = λ e. still;
    })
