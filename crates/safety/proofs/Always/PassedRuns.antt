-- Runs of a list call: the index tells what was done. It reads as no more than the entries from next on that the run may do, and a page that none of those
-- passed covers is as it was, but for the list's own.
use mathlib.Core.Path.{◌≡◌, refl, sym, ◌∙◌, ap}
use mathlib.Core.Bool.{false}
use Prim.Native.Nat.{ℕ, zero, suc, ◌+◌, ◌<◌, ◌≤◌}
use native.Mathlib.Omega.{arith}
use lib.Dec.{eqb}
use lib.ListN.{length, length-set}
use borrow.Author.Tests.{eqb-true, eqb-false}
use Rattle.std.specs.Prelude.{Result, Ok, Err}
use Rattle.rules.specs.declared.Entry.{Entry}
use Rattle.rules.specs.declared.Refusal.{Refusal}
use Rattle.rules.specs.declared.ListCall.{ListCall}
use Rattle.rules.specs.declared.Wish.{Wish}
use Rattle.rules.specs.declared.Wish.TheVariants.{Invalid, Valid, Pool}
use Rattle.rules.specs.Answers.{Code, reads, Answered}
use Rattle.rules.specs.Words.{little, range}
use Rattle.rules.specs.Machine.{Lent, page_of, offset_of, page_at, fill, with_memory, vcpu}
use Rattle.rules.specs.Lists.{list_next, list_entry, store_index, read_entry, cleared, carry_out, carry_out_all, after_entry, run}
use Rattle.laws.proofs.Ranges.{by_test, each_same}
use Rattle.safety.specs.Terms.{covers, Uncovered}
use Rattle.safety.proofs.Effects.{carried_puts}
use Rattle.safety.proofs.Entries.{entry_read, list_kept, entry_kept}
use Rattle.safety.proofs.Elsewhere.{Untouched, untouched_twice, untouched_here, write_elsewhere, carry_elsewhere, each_elsewhere}
use Rattle.safety.proofs.Pool.Bytes.{in_list_written}
use Rattle.safety.proofs.Always.SecondValidation.{covers_range}

-- ---- one entry

-- one entry more that does not cover the page
pub uncovered_more : (from k p rcx : ℕ) (m : Lent) → Uncovered from k p rcx m → covers (list_entry k rcx m) p ≡ false → Uncovered from (suc k) p rcx m
unfolding Uncovered
uncovered_more from k p rcx m none last j low up =
    by_test (eqb j k) (λ t. rw (eqb-true j k t) last) (λ t. none j low (omega (arith, eqb-false j k t)))

-- an entry that is carried out leaves a page that it does not cover
pub uncovered_left : (call : ListCall) (vmpl rcx e first n : ℕ) (wish : Wish) (m : Lent) → read_entry call vmpl rcx e m ≡ reads first n wish
    → (p : ℕ) → covers e p ≡ false → Untouched p m (carry_out_all wish vmpl first n m)
unfolding carry_out_all
uncovered_left call vmpl rcx e first n wish m clean p away =
    let told = entry_read call vmpl rcx e first n wish m clean in
    each_elsewhere (carry_out wish vmpl) p (carry_elsewhere wish vmpl p) (range first n) m
    (sym (covers_range told p) ∙ away)

-- memory has as many pages as before
carried_length : (wish : Wish) (vmpl p : ℕ) (m : Lent) → length (carry_out wish vmpl p m).memory ≡ length m.memory
unfolding cleared fill with_memory
carried_length Invalid vmpl p m = ap length (carried_puts Invalid vmpl p m).memory
carried_length Valid vmpl p m = ap length (carried_puts Valid vmpl p m).memory ∙ length-set m.memory p _
carried_length Pool vmpl p m = ap length (carried_puts Pool vmpl p m).memory

entry_length : (wish : Wish) (vmpl first n : ℕ) (m : Lent) → length (carry_out_all wish vmpl first n m).memory ≡ length m.memory
unfolding carry_out_all
entry_length wish vmpl first n m = each_same (λ now. length now.memory) (carry_out wish vmpl) (carried_length wish vmpl) (range first n) m

-- ---- a run

module _ (rcx p : ℕ) (m : Lent) where
  -- the call has come to entry k, with this machine: the list is as it was, and so is the page if no entry before k covers it
  pub record At (k : ℕ) (now : Lent) : Type 0 where
    pub list : page_at now (page_of rcx) ≡ page_at m (page_of rcx)
    pub pages : length now.memory ≡ length m.memory
    pub entries : (j : ℕ) → list_entry j rcx now ≡ list_entry j rcx m
    pub left : Uncovered (list_next rcx m) k p rcx m → Untouched p m now

  -- what is left by a run that comes to entry `last` or less far: an index that tells what was done
  pub record Told (last : ℕ) (after : Lent) : Type 0 where
    pub most : list_next rcx after ≤ last
    pub untouched : Uncovered (list_next rcx m) (list_next rcx after) p rcx m → Untouched p m after

  -- on entry
  pub at_next : At (list_next rcx m) m
  at_next = record { list = refl; pages = refl; entries = λ j. refl; left = λ none. untouched_here }

  -- where nothing happens
  pub still_told : (more : ℕ) → Told (list_next rcx m + more) m
  still_told more = record { most = omega arith; untouched = λ none. untouched_here }

module _ (call : ListCall) (caller rcx p : ℕ) (m : Lent) (there : page_of rcx < length m.memory)
    (room : offset_of rcx + 4 ≤ length (page_at m (page_of rcx))) (apart : eqb p (page_of rcx) ≡ false) where
  -- its own index is stored
  stopped : (k last index : ℕ) (now : Lent) → At rcx p m k now → k ≤ last → last < 65536 → index ≡ k → Told rcx p m last (store_index index rcx now)
  unfolding store_index list_next
  stopped k last index now h low few own =
      let told : list_next rcx (store_index index rcx now) ≡ k
      = rw own (in_list_written 2 2 (offset_of rcx + 2) k rcx now refl (omega (arith, h.pages)) (omega (arith, ap length h.list)) (omega arith)) in
      record {
        most = omega (arith, told);
        untouched = λ none.
            untouched_twice (h.left (rw told at none))
            (write_elsewhere p (page_of rcx) (offset_of rcx + 2) (little 2 index) now apart);
      }

  -- an entry is passed
  come_on : (k first n : ℕ) (wish : Wish) (now : Lent) → list_next rcx m ≤ k → At rcx p m k now
      → read_entry call (vcpu now caller).vmpl rcx (list_entry k rcx now) now ≡ reads first n wish → At rcx p m (suc k) (carry_out_all wish (vcpu now caller).vmpl first n now)
  unfolding Uncovered
  come_on k first n wish now low h clean =
      record {
        list = list_kept call _ rcx (list_entry k rcx now) first n wish now clean ∙ h.list;
        pages = entry_length wish (vcpu now caller).vmpl first n now ∙ h.pages;
        entries = λ j. entry_kept call _ rcx (list_entry k rcx now) first n wish now clean j ∙ h.entries j;
        left = λ none.
            untouched_twice (h.left (λ j from up. none j from (omega arith)))
            (uncovered_left call _ rcx (list_entry k rcx now) first n wish now clean p (rw (h.entries k) (none k low (omega arith))));
      }

  entry_told : (x : Result Entry Refusal) (k last : ℕ) (go_on : Lent → Answered Code Lent) (now : Lent)
      → read_entry call (vcpu now caller).vmpl rcx (list_entry k rcx now) now ≡ x
      → ((then : Lent) → At rcx p m (suc k) then → Told rcx p m last (go_on then).after)
      → list_next rcx m ≤ k → At rcx p m k now → k ≤ last → last < 65536 → Told rcx p m last (after_entry x caller rcx k go_on now).after
  unfolding after_entry
  entry_told (Ok entry) k last go_on now is rest low h up few = rest _ (come_on k entry.first entry.count entry.wish now low h is)
  entry_told (Err code) k last go_on now is rest low h up few = stopped k last _ now h up few (omega arith)

  -- a run from entry k on, of `todo` entries or fewer
  pub run_told : (todo k last : ℕ) (now : Lent) → list_next rcx m ≤ k → At rcx p m k now → k + todo ≤ last → last < 65536
      → Told rcx p m last (run call caller rcx todo k now).after
  unfolding run
  run_told zero k last now low h up few = stopped k last _ now h (omega arith) few (omega arith)
  run_told (suc todo) k last now low h up few =
      entry_told (read_entry call (vcpu now caller).vmpl rcx (list_entry k rcx now) now) k last (run call caller rcx todo (suc k)) now refl
      (λ then g. run_told todo (suc k) last then (omega arith) g (omega arith) few) low h (omega arith) few
