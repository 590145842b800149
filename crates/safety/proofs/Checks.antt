-- What a check that is passed has told: of the caller, of a list's page, of the pages and the record that a call is to change, of a launch.
-- A law `past-..` says of a call that what holds before it, and of its effect once all checks are passed, holds after it.
use mathlib.Core.Path.{◌≡◌, sym, ◌∙◌, ap}
use mathlib.Core.Bool.{Bool, true, false, not, ◌&&◌, ◌||◌, and-eq-true_iff}
use mathlib.Core.List.{List, []}
use Prim.Native.Nat.{ℕ, ◌-◌, ◌/◌, ◌^◌, ◌<◌, ◌≤◌}
use native.Mathlib.Omega.{arith}
use native.Mathlib.Nat.{zero-add}
use lib.Dec.{leb, ltb, eqb}
use lib.ListN.{length, get_or}
use borrow.Author.Tests.{eqb-true, eqb-false, ltb-true, ltb-false, leb-true, leb-false, ne_eqb, not-true, not-false}
use Rattle.std.specs.Prelude.{Ok, Err}
use Rattle.rules.specs.declared.Progress.TheVariants.{Success}
use Rattle.rules.specs.declared.LaunchError.TheVariants.{OutOfRange, AreasMeet, UnfitVmsa}
use Rattle.rules.specs.declared.ListCall.{ListCall}
use Rattle.rules.specs.declared.Plan.{Plan}
use Rattle.rules.specs.Answers.{Code, Launched, Answered, refuse, launched_number}
use Rattle.rules.specs.Words.{page_size, records, between, bit, bits, multiple, every, exists, places}
use Rattle.rules.specs.Machine.{Lent, Machine, N, page_of, offset_of, page_at, owner, valid, table_byte, owned_by, usable}
use Rattle.rules.specs.Machine.{with_memory, write, grant, own, fields, is_live, needs_page, record_at, vcpu, startup, vmsa_vmpl, vmsa_features, efer}
use Rattle.rules.specs.Launch.{out_of_range, areas_meet, unfit_vmsa, made, launch}
use Rattle.rules.specs.Sound.{bad_record}
use Rattle.rules.specs.Lists.{bad_list_page, bad_count, bad_next, run_within, list_call}
use Rattle.rules.specs.Calls.{remapped, remap, Asked, asked, unfit_page, unfit_pages, unfit_vcpu, free_record, is_free, free_page, any_free, created, create}
use Rattle.rules.specs.Calls.{deleted, named_by, delete, withdrawn_pages, give_back, withdrawn, withdraw}
use Rattle.rules.specs.Call.{bad_sheet, bad_machine}
use Rattle.laws.proofs.Usable.{usable→}
use Rattle.laws.proofs.Ranges.{by_test, lowest_passes, exists_lowest, every_take, places_read, Rising, rising_take, rising_places, or_false}
use Rattle.safety.proofs.Small.{and_false→, one_holds, among}
use Rattle.laws.proofs.Counts.{table_byte_each, table_byte_each_other}
use Rattle.safety.proofs.Branches.{past, passed}
use Rattle.safety.proofs.Effects.{owned_below, give_back_table}

-- ---- the caller

-- a caller that passes outcome 3: a record of the sheet, and live, as record 0 is
pub record Caller (caller : ℕ) (m : Lent) : Type 0 where
  pub below : caller < records
  pub live : is_live (record_at m caller) ≡ true
  pub started : is_live (record_at m 0) ≡ true

-- outcome 3 was passed
pub caller_of : (caller : ℕ) (m : Lent) → bad_machine caller m ≡ false → Caller caller m
unfolding bad_machine bad_sheet record_at
caller_of caller m e =
    let above = leb records caller in
    let dead : ℕ → Bool = λ i. not (is_live (get_or m.sheet i [])) in
    let outer = or_false (above || dead caller || dead 0) (exists (bad_record (N m)) m.sheet) e in
    let inner = or_false (above || dead caller) (dead 0) outer.0 in
    let both = or_false above (dead caller) inner.0 in
    record { below = leb-false records caller both.0; live = not-false _ both.1; started = not-false _ inner.1 }

-- ---- a page

-- one of an owner has it
owned_by→ : (o : ℕ) (m : Lent) (p : ℕ) → owned_by o m p ≡ true → owner (table_byte m p) ≡ o
unfolding owned_by
owned_by→ o m p e = eqb-true _ _ e

-- a page that is below N, valid and plain
pub record PlainPage (m : Lent) (p : ℕ) : Type 0 where
  pub inside : p < N m
  pub validated : valid (table_byte m p) ≡ true
  pub owned : owner (table_byte m p) ≡ 0

plain_page : (c : ℕ) (m : Lent) (p : ℕ) → unfit_page c m p ≡ false → PlainPage m p
unfolding unfit_page
plain_page c m p e =
    let both = or_false (not (usable c m p)) (not (owned_by 0 m p)) e in
    let page = usable→ c m p (not-false _ both.0) in
    record { inside = page.0; validated = page.1; owned = owned_by→ 0 m p (not-false _ both.1) }

-- ---- a list's page

-- it is below N, plain or a calling area, and in a calling area the list is not at its start
pub record ListPage (rcx : ℕ) (m : Lent) : Type 0 where
  pub inside : page_of rcx < N m
  pub low : owner (table_byte m (page_of rcx)) ≤ 1
  pub behind : owner (table_byte m (page_of rcx)) ≡ 1 → offset_of rcx ≡ 0 → ⊥

-- the list page was accepted
pub list_page : (vmpl rcx : ℕ) (m : Lent) → bad_list_page vmpl rcx m ≡ false → ListPage rcx m
unfolding bad_list_page owned_by
list_page vmpl rcx m e =
    let q = page_of rcx in
    let o = owner (table_byte m q) in
    let strange = not (eqb o 0) && not (eqb o 1) in
    let outer = or_false (not (usable vmpl m q) || strange) (eqb o 1 && eqb (offset_of rcx) 0) e in
    let inner = or_false (not (usable vmpl m q)) strange outer.0 in
    record {
      inside = (usable→ vmpl m q (not-false _ inner.0)).0;
      low = by_test (eqb o 1) (λ t. omega (arith, eqb-true o 1 t)) (λ t. omega (arith, eqb-true o 0 (one_holds (eqb o 0) (eqb o 1) inner.1 t)));
      behind = λ h. eqb-false _ _ (and_false→ (eqb o 1) _ outer.1 (rw h));
    }

-- Pvalidate and Deposit, with all that their head's checks told
pub past_head : (budget : ℕ) (call : ListCall) (caller rcx : ℕ) (m : Lent) (P : Lent → Type 0) → P m
    → (ListPage rcx m → bad_count rcx m ≡ false → bad_next rcx m ≡ false → P (run_within budget call caller rcx m).after)
    → P (list_call budget call caller rcx m).after
unfolding list_call
past_head budget call caller rcx m P h k =
    past P m _ _ _ h (λ t.
    past P m _ _ _ h (λ page.
    past P m _ _ _ h (λ counts.
    past P m _ _ _ h (λ nexts. k (list_page (vcpu m caller).vmpl rcx m page) counts nexts))))

-- and where only the list's page matters
pub past_list : (budget : ℕ) (call : ListCall) (caller rcx : ℕ) (m : Lent) (P : Lent → Type 0) → P m
    → (ListPage rcx m → P (run_within budget call caller rcx m).after) → P (list_call budget call caller rcx m).after
past_list budget call caller rcx m P h k = past_head budget call caller rcx m P h (λ page counts nexts. k page)

-- Withdraw
pub past_withdraw : (caller rcx : ℕ) (m : Lent) (P : Lent → Type 0) → P m → (ListPage rcx m → P (withdrawn (vcpu m caller).vmpl rcx m))
    → P (withdraw caller rcx m).after
unfolding withdraw
past_withdraw caller rcx m P h k =
    past P m _ _ _ h (λ t. past P m _ _ _ h (λ page. k (list_page (vcpu m caller).vmpl rcx m page)))

-- the pages that it gives back rise
pub withdrawn_rising : (rcx : ℕ) (m : Lent) → Rising 0 (N m) (withdrawn_pages rcx m)
unfolding withdrawn_pages N
withdrawn_rising rcx m =
    rising_take ((page_size - offset_of rcx - 8) / 8) (rw zero-add at (rising_places is_free 0 m.table))

-- and each is free
pub withdrawn_free : (rcx : ℕ) (m : Lent) → every (λ p. is_free (table_byte m p)) (withdrawn_pages rcx m) ≡ true
unfolding withdrawn_pages table_byte
withdrawn_free rcx m =
    every_take (λ p. is_free (get_or m.table p 0)) ((page_size - offset_of rcx - 8) / 8) (places is_free 0 m.table)
    (places_read is_free 0 m.table 0 (λ p. get_or m.table p 0) (λ i h. rw zero-add))

-- a free page's owner
pub free_owner : (b : ℕ) → is_free b ≡ true → owner b ≡ 3
unfolding is_free
free_owner b e = eqb-true (owner b) 3 e

-- so has each page that is given back
pub given_free : (rcx p : ℕ) (m : Lent) → exists (eqb p) (withdrawn_pages rcx m) ≡ true → owner (table_byte m p) ≡ 3
given_free rcx p m e = free_owner _ (among (λ q. is_free (table_byte m q)) p (withdrawn_pages rcx m) (withdrawn_free rcx m) e)

module _ (vmpl rcx p : ℕ) (m : Lent) where
  -- and is plain and granted after it
  pub given_byte : exists (eqb p) (withdrawn_pages rcx m) ≡ true → table_byte (withdrawn vmpl rcx m) p ≡ grant vmpl (own 0 (table_byte m p))
  unfolding withdrawn write with_memory table_byte N
  given_byte e =
      table_byte_each (λ b. grant vmpl (own 0 b)) (give_back vmpl) (give_back_table vmpl) (withdrawn_rising rcx m) m p e
      (owned_below m p 3 (given_free rcx p m e) (omega arith))

  -- each other page is as it was
  pub not_given_byte : exists (eqb p) (withdrawn_pages rcx m) ≡ false → table_byte (withdrawn vmpl rcx m) p ≡ table_byte m p
  unfolding withdrawn write with_memory table_byte
  not_given_byte e = table_byte_each_other (λ b. grant vmpl (own 0 b)) (give_back vmpl) (give_back_table vmpl) (withdrawn_pages rcx m) m p e

-- ---- Remap

-- the new page is below N, valid, and plain if it is not the old one
pub record RemapFit (caller rcx : ℕ) (m : Lent) : Type 0 where
  pub inside : page_of rcx < N m
  pub validated : valid (table_byte m (page_of rcx)) ≡ true
  pub owned : (page_of rcx ≡ (vcpu m caller).calling → ⊥) → owner (table_byte m (page_of rcx)) ≡ 0

-- Remap
pub past_remap : (caller rcx : ℕ) (m : Lent) (P : Lent → Type 0) → P m
    → (RemapFit caller rcx m → P (remapped caller (vcpu m caller).calling (page_of rcx) m)) → P (remap caller rcx m).after
unfolding remap
past_remap caller rcx m P h k =
    let new = page_of rcx in
    let old = (vcpu m caller).calling in
    let fit : (not (usable (vcpu m caller).vmpl m new) || not (owned_by 0 m new) && not (eqb new old)) ≡ false → RemapFit caller rcx m
    = λ t.
    let both = or_false (not (usable (vcpu m caller).vmpl m new)) (not (owned_by 0 m new) && not (eqb new old)) t in
    let page = usable→ _ m new (not-false _ both.0) in
    record { inside = page.0; validated = page.1; owned = λ ne. owned_by→ 0 m new (one_holds (owned_by 0 m new) _ both.1 (ne_eqb new old ne)) } in
    past P m _ _ _ h (λ t. past P m _ _ _ h (λ u. k (fit u)))

-- ---- Create

-- what is asked for can be done with record i
pub record CreateFit (a : Asked) (i : ℕ) (m : Lent) : Type 0 where
  pub vmsa : PlainPage m a.vmsa
  pub calling : PlainPage m a.calling
  pub differ : a.vmsa ≡ a.calling → ⊥
  pub fits : a.apic < 256 ^ 4
  pub unused : exists (λ r. is_live r && eqb (fields r).apic a.apic) m.sheet ≡ false
  pub least : 1 ≤ vmsa_vmpl (page_at m a.vmsa)
  pub most : vmsa_vmpl (page_at m a.vmsa) ≤ 3
  pub rank : a.caller_vmpl ≤ vmsa_vmpl (page_at m a.vmsa)
  pub row : i < length m.sheet
  pub dead : is_live (record_at m i) ≡ false
  pub pool_in : needs_page i ≡ true → free_page m < N m
  pub pool_free : needs_page i ≡ true → owner (table_byte m (free_page m)) ≡ 3

-- the pool page is neither of the two others, which are plain
pub pool_apart : (a : Asked) (i : ℕ) (m : Lent) → CreateFit a i m → needs_page i ≡ true → (a.vmsa ≡ free_page m → ⊥) × (a.calling ≡ free_page m → ⊥)
pool_apart a i m fit t =
    let apart : (q : ℕ) → owner (table_byte m q) ≡ 0 → q ≡ free_page m → ⊥
    = λ q o e. omega (arith, fit.pool_free t, ap (λ q. owner (table_byte m q)) e) in
    (apart a.vmsa fit.vmsa.owned, apart a.calling fit.calling.owned)

-- the lowest free page is one, if any is
free_found : (m : Lent) → any_free m ≡ true → (free_page m < N m) × (owner (table_byte m (free_page m)) ≡ 3)
unfolding any_free free_page N table_byte
free_found m e =
    let h = ltb-true _ _ (sym (exists_lowest is_free m.table) ∙ e) in
    (h, free_owner _ (lowest_passes is_free m.table 0 h))

-- the free record is not live
free_dead : (m : Lent) → free_record m < length m.sheet → is_live (record_at m (free_record m)) ≡ false
unfolding free_record record_at
free_dead m h = not-true _ (lowest_passes (λ r. not (is_live r)) m.sheet [] h)

-- bits 31:0 fit four bytes
low_bits : (n : ℕ) → bits 31 0 n < 256 ^ 4
unfolding bits
low_bits n = omega arith

-- the VMSA that is asked for has no VMPL below the caller's
create_rank : (a : Asked) (m : Lent) → unfit_vcpu a m ≡ false → a.caller_vmpl ≤ vmsa_vmpl (page_at m a.vmsa)
unfolding unfit_vcpu
create_rank a m e =
    let page = page_at m a.vmsa in
    let low = ltb (vmsa_vmpl page) a.caller_vmpl in
    let unlike = not (eqb (vmsa_features page) (startup m).features) in
    let used = exists (λ r. is_live r && eqb (fields r).apic a.apic) m.sheet in
    let three = (or_false (unfit_vmsa page || low || unlike) used e).0 in
    ltb-false _ _ (or_false (unfit_vmsa page) low (or_false (unfit_vmsa page || low) unlike three).0).1

module _ (caller rcx rdx r8 : ℕ) (m : Lent) where
  abbrev wanted : Asked
  wanted = asked caller rcx rdx r8 m

  abbrev found : ℕ
  found = free_record m

  create_fit : unfit_pages wanted m ≡ false → unfit_vcpu wanted m ≡ false → leb (length m.sheet) found ≡ false
      → (needs_page found && not (any_free m)) ≡ false → CreateFit wanted found m
  unfolding unfit_pages unfit_vcpu unfit_vmsa between asked
  create_fit pages vcpus rows pools =
      let v = page_of rcx in
      let c = page_of rdx in
      let mine = (vcpu m caller).vmpl in
      let unfit = unfit_page mine m in
      let both = or_false (unfit v || unfit c) (eqb v c) pages in
      let each = or_false (unfit v) (unfit c) both.0 in
      let page = page_at m v in
      let vmpl = vmsa_vmpl page in
      let outside = not (leb 1 vmpl && leb vmpl 3) in
      let dim = not (bit 12 (efer page)) in
      let unlike = not (eqb (vmsa_features page) (startup m).features) in
      let used = exists (λ r. is_live r && eqb (fields r).apic (bits 31 0 r8)) m.sheet in
      let four = or_false (outside || dim || ltb vmpl mine || unlike) used vcpus in
      let two = or_false (outside || dim) (ltb vmpl mine) (or_false (outside || dim || ltb vmpl mine) unlike four.0).0 in
      let range = (and-eq-true_iff (leb 1 vmpl) (leb vmpl 3)).0 (not-false _ (or_false outside dim two.0).0) in
      let room = leb-false _ _ rows in
      let free : needs_page found ≡ true → (free_page m < N m) × (owner (table_byte m (free_page m)) ≡ 3)
      = λ t. free_found m (not-false _ (and_false→ (needs_page found) _ pools t)) in
      record {
        vmsa = plain_page mine m v each.0;
        calling = plain_page mine m c each.1;
        differ = eqb-false v c both.1;
        fits = low_bits r8;
        unused = four.1;
        least = leb-true _ _ range.0;
        most = leb-true _ _ range.1;
        rank = create_rank wanted m vcpus;
        row = room;
        dead = free_dead m room;
        pool_in = λ t. (free t).0;
        pool_free = λ t. (free t).1;
      }

  -- Create
  pub past_create : (P : Lent → Type 0) → P m → (CreateFit wanted found m → P (created wanted found m)) → P (create caller rcx rdx r8 m).after
  unfolding create
  past_create P h k =
      past P m _ _ _ h (λ t.
      past P m _ _ _ h (λ pages.
      past P m _ _ _ h (λ vcpus.
      past P m _ _ _ h (λ rows.
      past P m _ _ _ h (λ pools. k (create_fit pages vcpus rows pools))))))

-- ---- Delete

-- the record meant is one of the sheet and not the first, is live, and names that VMSA; and Delete is done
pub record DeleteFit (caller rcx i : ℕ) (m : Lent) : Type 0 where
  pub row : i < length m.sheet
  pub later : i ≡ 0 → ⊥
  pub live : is_live (record_at m i) ≡ true
  pub named : (vcpu m i).vmsa ≡ page_of rcx
  pub done : (delete caller rcx m).answer ≡ Ok Success

module _ (caller rcx : ℕ) (m : Lent) where
  abbrev meant : ℕ
  meant = named_by (page_of rcx) m

  -- whatever test of VMPLs stands beside the others
  delete_fit : (low : Bool) → (not (multiple page_size rcx) || leb (length m.sheet) meant || eqb meant 0 || low) ≡ false
      → (delete caller rcx m).answer ≡ Ok Success → DeleteFit caller rcx meant m
  unfolding vcpu record_at named_by
  delete_fit low e done =
      let test : List ℕ → Bool = λ r. is_live r && eqb (fields r).vmsa (page_of rcx) in
      let odd = not (multiple page_size rcx) in
      let none = leb (length m.sheet) meant in
      let outer = or_false (odd || none) (eqb meant 0) (or_false (odd || none || eqb meant 0) low e).0 in
      let h = leb-false (length m.sheet) meant (or_false odd none outer.0).1 in
      let both = (and-eq-true_iff _ _).0 (lowest_passes test m.sheet [] h) in
      record { row = h; later = eqb-false meant 0 outer.1; live = both.0; named = eqb-true _ (page_of rcx) both.1; done = done }

  -- Delete
  pub past_delete : (P : Lent → Type 0) → P m → (DeleteFit caller rcx meant m → P (deleted (vcpu m caller).vmpl meant m))
      → P (delete caller rcx m).after
  unfolding delete
  past_delete P h k =
      past P m _ _ _ h (λ e. past P m _ _ _ h (λ f. k (delete_fit _ e (ap (λ (a : Answered Code Lent). a.answer) (passed m _ _ _ e ∙ passed m _ _ _ f)))))

-- ---- launch

-- an answer with another number is not that it is made
pub not_made : {A : Type 0} (l : Launched) → 0 < launched_number l → l ≡ Ok tt → A
unfolding launched_number
not_made l h e = absurd (omega (arith, rw e at h))

-- a launch that is made passed its three tests
pub record LaunchFit (plan : Plan) (m : Machine) : Type 0 where
  pub within : out_of_range plan (N m.lent) ≡ false
  pub apart : areas_meet plan ≡ false
  pub fit : unfit_vmsa (page_at m.lent plan.vmsa) ≡ false
  pub after : (launch plan m).after ≡ made plan m.lent

-- launch
pub launch_made : (plan : Plan) (m : Machine) → (launch plan m).answer ≡ Ok tt → LaunchFit plan m
unfolding launch refuse launched_number
launch_made plan m e =
    by_test (out_of_range plan (N m.lent))
    (λ t. not_made (Err OutOfRange) (omega arith) (rw t at e))
    (λ t. by_test (areas_meet plan)
    (λ u. not_made (Err AreasMeet) (omega arith) (rw (t, u) at e))
    (λ u. by_test (unfit_vmsa (page_at m.lent plan.vmsa))
    (λ v. not_made (Err UnfitVmsa) (omega arith) (rw (t, u, v) at e))
    (λ v. record { within = t; apart = u; fit = v; after = rw (t, u, v) })))
