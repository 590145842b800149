-- Every call keeps the sizes of a machine of right size, sound or not: of table, sheet, records, memory and pages. Every step keeps how many pages there are.
use mathlib.Core.Path.{◌≡◌, refl, ◌∙◌}
use Prim.Native.Nat.{ℕ}
use lib.Dec.{eqb}
use lib.ListN.{length, set, length-set}
use lib.Seq.{sets, length-sets}
use Rattle.rules.specs.declared.ListCall.{ListCall}
use Rattle.rules.specs.declared.Wish.{Wish}
use Rattle.rules.specs.declared.Wish.TheVariants.{Invalid, Valid, Pool}
use Rattle.rules.specs.Words.{entries_a_call, record_size, little, range}
use Rattle.rules.specs.Machine.{Lent, N, zeros, own, change, holds, needs_page, record_at, vcpu}
use Rattle.rules.specs.Steps.{mark}
use Rattle.rules.specs.Lists.{store_index, cleared, carry_out, carry_out_all}
use Rattle.rules.specs.Calls.{remapped, Asked, free_page, new_record, created, clear_svme, deleted, give_back, withdrawn_pages, withdrawn}
use Rattle.laws.proofs.Numbers.{length_zeros}
use Rattle.laws.proofs.Records.{length_laid_out}
use Rattle.safety.specs.Statements.{SizesKept}
use Rattle.safety.proofs.Branches.{on_test, past}
use Rattle.laws.proofs.Change.{put_puts}
use Rattle.safety.proofs.Entries.{Keeps, within_keeps}
use Rattle.safety.proofs.Checks.{past_remap, past_list, past_create, past_delete, past_withdraw}
use Rattle.safety.proofs.Keeping.{EachKeeps, called_keeps}
use Rattle.safety.proofs.Sound.Sizes.{Sized, write_sized, fill_sized, change_sized, amend_sized, each_sized, puts_sized}

module _ (n : ℕ) where
  -- ---- the calls

  remapped_sized : (caller old new : ℕ) (m : Lent) → Sized n m → Sized n (remapped caller old new m)
  unfolding remapped
  remapped_sized caller old new m s =
      let moved = on_test (Sized n) (eqb old new) m (change (own 0) old m) (λ t. s) (λ t. change_sized (own 0) old m s) in
      let named = amend_sized (λ r. sets r 12 (little 4 new)) caller _ (λ r h. length-sets r 12 (little 4 new) ∙ h) (change_sized (own 1) new _ moved) in
      write_sized _ _ _ _ (write_sized _ _ _ _ named)

  new_length : (a : Asked) (i : ℕ) (m : Lent) → length (new_record a i m) ≡ record_size
  unfolding new_record
  new_length a i m = length_laid_out _

  created_sized : (a : Asked) (i : ℕ) (m : Lent) → Sized n m → Sized n (created a i m)
  unfolding created
  created_sized a i m s =
      let two = change_sized (own 1) a.calling _ (change_sized _ a.vmsa m s) in
      amend_sized (λ old. new_record a i m) i _ (λ r h. new_length a i m)
      (on_test (Sized n) (needs_page i) _ _ (λ t. change_sized (own 4) (free_page m) _ two) (λ t. two))

  deleted_sized : (vmpl i : ℕ) (m : Lent) → Sized n m → Sized n (deleted vmpl i m)
  unfolding deleted clear_svme
  deleted_sized vmpl i m s =
      let two = change_sized (own 0) (vcpu m i).calling _ (change_sized _ (vcpu m i).vmsa _ (write_sized _ _ _ m s)) in
      amend_sized (λ old. zeros record_size) i _ (λ r h. length_zeros record_size)
      (on_test (Sized n) (holds (record_at m i)) _ _ (λ t. change_sized (own 3) (vcpu m i).pool _ two) (λ t. two))

  give_back_sized : (vmpl p : ℕ) (m : Lent) → Sized n m → Sized n (give_back vmpl p m)
  unfolding give_back
  give_back_sized vmpl p m s = change_sized _ p m s

  withdrawn_sized : (vmpl rcx : ℕ) (m : Lent) → Sized n m → Sized n (withdrawn vmpl rcx m)
  unfolding withdrawn
  withdrawn_sized vmpl rcx m s =
      write_sized _ _ _ _ (write_sized _ _ _ _ (each_sized (give_back vmpl) (give_back_sized vmpl) (withdrawn_pages rcx m) m s))

  -- ---- a list's entries

  carry_out_sized : (wish : Wish) (vmpl p : ℕ) (m : Lent) → Sized n m → Sized n (carry_out wish vmpl p m)
  unfolding carry_out cleared
  carry_out_sized Invalid vmpl p m s = puts_sized (put_puts p _ m) s
  carry_out_sized Valid vmpl p m s = puts_sized (put_puts p _ _) (fill_sized p m s)
  carry_out_sized Pool vmpl p m s = puts_sized (put_puts p _ m) s

  list_sized : (call : ListCall) (caller rcx : ℕ) → Keeps call caller rcx (Sized n)
  unfolding store_index carry_out_all
  list_sized call caller rcx =
      record {
        stored = λ k m s. write_sized _ _ _ m s;
        carried = λ e first n wish m s r. each_sized (carry_out wish _) (carry_out_sized wish _) (range first n) m s;
      }

  -- ---- a mark

  mark_sized : (i value : ℕ) (m : Lent) → Sized n m → Sized n (mark i value m).after
  unfolding mark
  mark_sized i value m s = past (Sized n) m _ _ _ s (λ t. amend_sized (λ r. set r 2 value) i m (λ r h. length-set r 2 value ∙ h) s)

  -- ---- the whole

  pub each_sized_call : EachKeeps (Sized n)
  each_sized_call =
      record {
        remaps = λ caller rcx m s c. past_remap caller rcx m (Sized n) s (λ fit. remapped_sized caller _ _ m s);
        lists = λ kind caller rcx m s c.
            past_list entries_a_call kind caller rcx m (Sized n) s (λ page. within_keeps kind caller rcx (Sized n) (list_sized kind caller rcx) entries_a_call m s);
        creates = λ caller rcx rdx r8 m s c. past_create caller rcx rdx r8 m (Sized n) s (λ fit. created_sized _ _ m s);
        deletes = λ caller rcx m s c. past_delete caller rcx m (Sized n) s (λ fit. deleted_sized _ _ m s);
        withdraws = λ caller rcx m s c. past_withdraw caller rcx m (Sized n) s (λ page. withdrawn_sized _ rcx m s);
        writes = write_sized;
        mark_kept = mark_sized;
      }

-- a call keeps the sizes
pub sizes_kept : SizesKept
unfolding SizesKept
sizes_kept caller g m t p =
    let n = N m.lent in
    let after = called_keeps (Sized n) (each_sized_call n) caller g m (record { tables = t; memories = p; number = refl }) in
    (after.tables, after.memories, after.number)
