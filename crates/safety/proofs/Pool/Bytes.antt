-- A list's numbers in memory: which writes leave them, the last writes of a call among those.
use mathlib.Core.Path.{◌≡◌, refl, ◌∙◌, ap}
use mathlib.Core.Bool.{true, cond}
use mathlib.Core.Logic.{◌⊎◌, inr}
use mathlib.Core.List.{List, [], ◌∷◌}
use Prim.Native.Nat.{ℕ, ◌+◌, ◌%◌, ◌^◌, ◌<◌, ◌≤◌}
use native.Mathlib.Omega.{arith}
use lib.Dec.{ltb, eqb}
use lib.ListN.{length}
use borrow.Author.Tests.{ltb-true, ltb-false, eqb-true, eqb-false}
use Rattle.rules.specs.Words.{page_size, records, multiple, little, number}
use Rattle.rules.specs.declared.Registers.{Registers}
use Rattle.rules.specs.Answers.{Code, Answered}
use Rattle.rules.specs.Machine.{Lent, Machine, with_lent, page_of, offset_of, page_at, write, with_memory, is_live, record_at, vcpu, startup}
use Rattle.rules.specs.Lists.{in_list, list_next}
use Rattle.rules.specs.Calls.{any_free}
use Rattle.rules.specs.Call.{Posed, clear_pending, set_flag, finish}
use Rattle.laws.proofs.Ranges.{by_test}
use Rattle.laws.proofs.Numbers.{number_elsewhere, number_written}
use Rattle.safety.specs.Terms.{last_writes}
use Rattle.safety.proofs.Effects.{page_written, page_not_written, page_out}
use Rattle.safety.proofs.Checks.{ListPage}
use Rattle.safety.proofs.Sound.Facts.{Sound}
use Rattle.safety.proofs.Sound.Rows.{calling_owned}

module _ (p o : ℕ) (bytes : List ℕ) (m : Lent) where
  -- a number of the list, where the bytes are not written over
  pub in_list_write : (w at rcx : ℕ) → (page_of rcx ≡ p → (offset_of rcx + at + w ≤ o) ⊎ (o + length bytes ≤ offset_of rcx + at))
      → in_list w at rcx (write p o bytes m) ≡ in_list w at rcx m
  unfolding in_list
  in_list_write w at rcx apart =
      by_test (eqb (page_of rcx) p)
      (λ t. let same : page_of rcx ≡ p = eqb-true (page_of rcx) p t in
      by_test (ltb p (length m.memory))
      (λ u. rw (same, page_written p o bytes m (ltb-true p (length m.memory) u))
      (number_elsewhere w (page_at m p) o bytes (offset_of rcx + at) (apart same)))
      (λ u. ap (λ page. number w page (offset_of rcx + at)) (page_out p o bytes m (page_of rcx) (ltb-false p (length m.memory) u))))
      (λ t. ap (λ page. number w page (offset_of rcx + at)) (page_not_written p o bytes m (page_of rcx) (eqb-false (page_of rcx) p t)))

-- a number that is written into the list is read
pub in_list_written : (w at o n rcx : ℕ) (m : Lent) → offset_of rcx + at ≡ o → page_of rcx < length m.memory
    → o + w ≤ length (page_at m (page_of rcx)) → n < 256 ^ w → in_list w at rcx (write (page_of rcx) o (little w n) m) ≡ n
unfolding in_list
in_list_written w at o n rcx m e h k b =
    rw (page_written (page_of rcx) o (little w n) m h, e) (number_written w (page_at m (page_of rcx)) o n k b)

-- the offset of a multiple of 8 is one
pub offset_eight : (rcx : ℕ) → multiple 8 rcx ≡ true → offset_of rcx % 8 ≡ 0
unfolding multiple offset_of page_size
offset_eight rcx e = omega (arith, eqb-true (rcx % 8) 0 e)

-- an offset is within a page
pub offset_below : (rcx : ℕ) → offset_of rcx < page_size
unfolding offset_of page_size
offset_below rcx = omega arith

-- a list that is accepted, if it is in a live record's calling page, is behind the page's first eight bytes
pub list_behind : (m : Lent) → Sound m → (rcx : ℕ) → multiple 8 rcx ≡ true → ListPage rcx m
    → (i : ℕ) → i < records → is_live (record_at m i) ≡ true → page_of rcx ≡ (vcpu m i).calling → 8 ≤ offset_of rcx
list_behind m s rcx mult page i h live e = omega (arith, page.behind (rw e (calling_owned m s i h live)), offset_eight rcx mult)

-- the last writes leave a list that lies behind the first bytes of the calling pages
module _ (caller rcx w at : ℕ) (m : Lent) (mine : page_of rcx ≡ (vcpu m caller).calling → 2 ≤ offset_of rcx + at)
    (first : page_of rcx ≡ (startup m).calling → 2 ≤ offset_of rcx + at) where
  in_list_cleared : in_list w at rcx (clear_pending caller m) ≡ in_list w at rcx m
  unfolding clear_pending
  in_list_cleared = in_list_write (vcpu m caller).calling 0 (0 ∷ []) m w at rcx (λ e. inr (omega (arith, mine e)))

  startup_cleared : (startup (clear_pending caller m)).calling ≡ (startup m).calling
  unfolding clear_pending startup vcpu record_at write with_memory
  startup_cleared = refl

  -- both writes
  pub in_list_last : in_list w at rcx (last_writes caller m) ≡ in_list w at rcx m
  unfolding last_writes clear_pending
  in_list_last =
      let now = clear_pending caller m in
      in_list_write (startup now).calling 1 (cond (any_free now) 1 0 ∷ []) now w at rcx
      (λ e. inr (omega (arith, first (e ∙ startup_cleared)))) ∙ in_list_cleared

-- so does the end of a call, whatever its outcome
pub finish_list : (caller rcx w at : ℕ) (g : Registers) (a : Answered Code (Posed Registers Machine))
    → (page_of rcx ≡ (vcpu a.after.machine.lent caller).calling → 2 ≤ offset_of rcx + at)
    → (page_of rcx ≡ (startup a.after.machine.lent).calling → 2 ≤ offset_of rcx + at)
    → in_list w at rcx (finish caller g a).after.machine.lent ≡ in_list w at rcx a.after.machine.lent
unfolding finish with_lent last_writes clear_pending set_flag
finish_list caller rcx w at g a mine first =
    let m = a.after.machine.lent in
    by_test (is_live (record_at m caller))
    (λ t. rw t (in_list_last caller rcx w at m mine first))
    (λ t. rw t (in_list_write (startup m).calling 1 (cond (any_free m) 1 0 ∷ []) m w at rcx (λ e. inr (omega (arith, first e)))))

-- the last writes are in bytes 0 and 1 of a page, and the index behind them
pub finish_index : (caller rcx : ℕ) (g : Registers) (a : Answered Code (Posed Registers Machine))
    → list_next rcx (finish caller g a).after.machine.lent ≡ list_next rcx a.after.machine.lent
unfolding list_next
finish_index caller rcx g a = finish_list caller rcx 2 2 g a (λ e. omega arith) (λ e. omega arith)

-- the last writes leave the table
pub table_last : (caller : ℕ) (m : Lent) → (last_writes caller m).table ≡ m.table
unfolding last_writes write with_memory
table_last caller m = refl
