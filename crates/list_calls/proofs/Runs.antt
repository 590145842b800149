-- The head of a list, and a run over its entries, one at a time.
-- Assumes nothing.
use mathlib.Core.Path.{◌≡◌, sym, ◌∙◌, ap}
use mathlib.Core.Bool.{cond}
use mathlib.Core.List.{List}
use Prim.Native.Nat.{ℕ, suc, ◌+◌, ◌-◌, ◌<◌}
use native.Mathlib.Omega.{arith}
use native.Mathlib.Numerals.{add-one}
use lib.Dec.{ltb}
use lib.ListN.{length}
use Rattle.std.specs.Prelude.{Result, Ok, Err}
use Rattle.rules.specs.declared.Refusal.{Refusal}
use Rattle.rules.specs.declared.Refusal.TheVariants.{Address}
use Rattle.rules.specs.declared.Progress.TheVariants.{Success, Incomplete}
use Rattle.rules.specs.declared.Entry.{Entry}
use Rattle.rules.specs.declared.ListCall.{ListCall}
use Rattle.rules.specs.Words.{page_size}
use Rattle.rules.specs.Machine.{Lent, page_of, vcpu}
use Rattle.rules.specs.Lists.{bad_list_page, list_count, list_entry, store_index, read_entry, carry_out_all, after_entry, run}
use Rattle.rules.specs.Flat.{buffers, parts, parted}
use Rattle.laws.specs.Alone.{table_alone, without_sheet}
use Rattle.laws.specs.Tested.{Tested}
use Rattle.laws.proofs.Tested.{pages_tested}
use Rattle.lists.proofs.Page.{list_page_bytes, accepted, page_below}
use Rattle.effects.proofs.Laws.{all_after}

-- a list's page that is given is one of a tested machine's memory
pub list_below : (memory table sheet : List ℕ) (caller vmpl rcx p : ℕ) (told : Result ℕ Refusal) → Tested (buffers memory table sheet) caller
    → told ≡ cond (bad_list_page vmpl rcx (table_alone table)) (Err Address) (Ok (page_of rcx)) → told ≡ Ok p → page_of rcx < length (parts page_size memory)
list_below memory table sheet caller vmpl rcx p told t is ok =
    let b = buffers memory table sheet in
    rw (pages_tested b caller t) (page_below vmpl rcx b (list_page_bytes vmpl rcx b ∙ (accepted _ p (page_of rcx) _ (sym ok ∙ is)).0))

-- a run of which some entries are left
module _ (call : ListCall) (caller rcx end k : ℕ) (more : k < end) (m : Lent) where
  left : end - k ≡ suc (end - (k + 1))
  left = omega arith

  pub run_more : (entry : Entry) → Ok entry ≡ read_entry call (vcpu m caller).vmpl rcx (list_entry k rcx m) m
      → run call caller rcx (end - k) k m ≡ run call caller rcx (end - (k + 1)) (k + 1) (carry_out_all entry.wish (vcpu m caller).vmpl entry.first entry.count m)
  unfolding run after_entry
  run_more entry read = rw (left, ← read) (ap (λ (n : ℕ). run call caller rcx (end - (k + 1)) n (carry_out_all entry.wish (vcpu m caller).vmpl entry.first entry.count m)) (sym (add-one k)))

  pub run_refused : (why : Refusal) → Err why ≡ read_entry call (vcpu m caller).vmpl rcx (list_entry k rcx m) m
      → run call caller rcx (end - k) k m ≡ record { answer = Err why; after = store_index k rcx m }
  unfolding run after_entry
  run_refused why read = rw (left, ← read)

-- one of which none is left
module _ (call : ListCall) (caller rcx end k : ℕ) (none : end ≡ k) (m : Lent) where
  pub run_ends : run call caller rcx (end - k) k m ≡ record { answer = Ok (cond (ltb end (list_count rcx m)) Incomplete Success); after = store_index end rcx m }
  unfolding run
  run_ends = let left : end - k ≡ 0 = omega arith in rw (left, none)

-- the same of a machine that is lent as bytes
module _ (call : ListCall) (caller rcx end k : ℕ) (memory table sheet : List ℕ) where
  abbrev m : Lent
  m = parted (buffers memory table sheet)

  -- for a caller of this VMPL
  module _ (more : k < end) (vmpl : ℕ) (asks : vmpl ≡ (vcpu m caller).vmpl) where
    pub run_more_bytes : (entry : Entry) (memory' table' : List ℕ) → Ok entry ≡ read_entry call vmpl rcx (list_entry k rcx m) m
        → carry_out_all entry.wish vmpl entry.first entry.count (without_sheet memory table) ≡ without_sheet memory' table'
        → run call caller rcx (end - k) k m ≡ run call caller rcx (end - (k + 1)) (k + 1) (parted (buffers memory' table' sheet))
    run_more_bytes entry memory' table' read done =
        let after = all_after entry.wish vmpl entry.first entry.count memory table sheet memory' table' done in
        run_more call caller rcx end k more m entry (rw (← asks) read) ∙ ap (run call caller rcx (end - (k + 1)) (k + 1)) (rw (← asks) after)

    pub run_refused_bytes : (why : Refusal) (after : Lent) → Err why ≡ read_entry call vmpl rcx (list_entry k rcx m) m → store_index k rcx m ≡ after
        → run call caller rcx (end - k) k m ≡ record { answer = Err why; after = after }
    run_refused_bytes why after read store = run_refused call caller rcx end k more m why (rw (← asks) read) ∙ rw store

  pub run_ends_bytes : end ≡ k → (after : Lent) → store_index end rcx m ≡ after
      → run call caller rcx (end - k) k m ≡ record { answer = Ok (cond (ltb end (list_count rcx m)) Incomplete Success); after = after }
  run_ends_bytes none after store = run_ends call caller rcx end k none m ∙ rw store
