-- A page that Withdraw gives back: it is plain after the call and told by the list, which the last writes leave.
use mathlib.Core.Path.{◌≡◌, refl, ◌∙◌}
use mathlib.Core.Bool.{true}
use Prim.Native.Nat.{ℕ, ◌≤◌}
use native.Mathlib.Omega.{arith}
use lib.Dec.{eqb}
use borrow.Author.Tests.{eq-eqb}
use Rattle.std.specs.Prelude.{Ok}
use Rattle.rules.specs.Words.{multiple, exists}
use Rattle.rules.specs.declared.Registers.{Registers}
use Rattle.rules.specs.declared.Progress.TheVariants.{Success}
use Rattle.rules.specs.Answers.{Code, Answered, code_number, outcome_number}
use Rattle.rules.specs.Machine.{Lent, Machine, with_lent, with_memory, page_of, offset_of, write, table_byte, owned_by, is_live, record_at, vcpu, startup}
use Rattle.rules.specs.Lists.{list_count, list_entry}
use Rattle.rules.specs.Calls.{withdrawn_pages, withdrawn}
use Rattle.rules.specs.Call.{Posed, with_rax, clear_pending, set_flag, finish}
use Rattle.rules.specs.Runs.{asks_for}
use Rattle.laws.proofs.Ranges.{by_test}
use Rattle.laws.proofs.TableByte.{owner_grant, owner_own}
use Rattle.safety.specs.Terms.{succeeded_by, given_back_by}
use Rattle.safety.proofs.Effects.{withdrawn_sheet}
use Rattle.safety.proofs.Branches.{Asks}
use Rattle.safety.proofs.Checks.{Caller, ListPage, given_byte}
use Rattle.safety.proofs.Sound.Facts.{Sound}
use Rattle.safety.proofs.Sound.Sizes.{few_pages, page_there, page_whole}
use Rattle.safety.proofs.Pool.Bytes.{offset_eight, list_behind, finish_list}
use Rattle.safety.proofs.Pool.Withdraw.{Told, told_tells, withdrawn_told}

-- after the call itself: the caller lives on, the page is plain and told, and the list is behind the first bytes of the calling pages that are written last
pub record Given (caller rcx p : ℕ) (after : Lent) : Type 0 where
  pub live : is_live (record_at after caller) ≡ true
  pub owned : owned_by 0 after p ≡ true
  pub told : Told p rcx after
  pub mine : page_of rcx ≡ (vcpu after caller).calling → 2 ≤ offset_of rcx
  pub first : page_of rcx ≡ (startup after).calling → 2 ≤ offset_of rcx

-- Withdraw
pub withdrawn_gives : (caller rcx p : ℕ) (m : Lent) → Sound m → Caller caller m → multiple 8 rcx ≡ true → ListPage rcx m
    → exists (eqb p) (withdrawn_pages rcx m) ≡ true → Given caller rcx p (withdrawn (vcpu m caller).vmpl rcx m)
unfolding vcpu startup record_at owned_by
withdrawn_gives caller rcx p m s c even page e =
    let vmpl = (vcpu m caller).vmpl in
    let sheet = withdrawn_sheet vmpl rcx m in
    let there = page_there m s.memories page.inside in
    let behind = list_behind m s rcx even page in
    record {
      live = rw sheet c.live;
      owned = rw (given_byte vmpl rcx p m e, owner_grant, owner_own 0 (table_byte m p) refl);
      told = withdrawn_told vmpl rcx m p there (page_whole m s.memories (page_of rcx) there) (offset_eight rcx even) (few_pages m s.tables) e;
      mine = λ h. omega (arith, behind caller c.below c.live (rw sheet at h));
      first = λ h. omega (arith, behind 0 (omega (arith, c.below)) c.started (rw sheet at h));
    }

-- ---- the end of the call

module _ (caller : ℕ) (g : Registers) (a : Answered Code (Posed Registers Machine)) where
  -- the last writes leave the table
  finish_owner : (p o : ℕ) → owned_by o (finish caller g a).after.machine.lent p ≡ owned_by o a.after.machine.lent p
  unfolding finish clear_pending set_flag with_lent write with_memory owned_by table_byte
  finish_owner p o = by_test (is_live (record_at a.after.machine.lent caller)) (λ t. rw t) (λ t. rw t)

  -- a call with code 0 by a caller that lives on has succeeded
  finish_succeeds : is_live (record_at a.after.machine.lent caller) ≡ true → a.answer ≡ Ok Success → succeeded_by (finish caller g a) ≡ true
  unfolding finish succeeded_by with_rax code_number outcome_number
  finish_succeeds live e = rw (live, e)

  module _ (p : ℕ) (h : Given caller g.rcx p a.after.machine.lent) where
    finish_told : Told p g.rcx (finish caller g a).after.machine.lent
    unfolding list_count list_entry
    finish_told =
        record {
          place = h.told.place;
          below = rw (finish_list caller g.rcx 2 0 g a (λ e. omega (arith, h.mine e)) (λ e. omega (arith, h.first e))) h.told.below;
          gpa = finish_list caller g.rcx 8 _ g a (λ e. omega (arith, h.mine e)) (λ e. omega (arith, h.first e)) ∙ h.told.gpa;
        }

    -- a Withdraw that succeeded is excused for a page that it gave back
    pub finish_gives : Asks 5 g → a.answer ≡ Ok Success → given_back_by p g (finish caller g a) ≡ true
    unfolding given_back_by asks_for
    finish_gives asks e =
        simp (
          eq-eqb _ _ asks.spoken,
          eq-eqb _ _ asks.number,
          finish_succeeds h.live e,
          finish_owner p 0,
          h.owned,
          told_tells p g.rcx _ finish_told,
        )
