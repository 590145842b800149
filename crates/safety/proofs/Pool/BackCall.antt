-- For statement 6: in a sound machine the startup vCPU may store the byte 1 to its calling page, and its Withdraw then succeeds.
use mathlib.Core.Path.{◌≡◌, refl}
use mathlib.Core.Bool.{true, false}
use mathlib.Core.List.{[], ◌∷◌}
use Prim.Native.Nat.{ℕ, ◌+◌, ◌*◌, ◌%◌, ◌<◌}
use native.Mathlib.Omega.{arith}
use borrow.Author.Tests.{lt-ltb, eq-eqb}
use Rattle.std.specs.Prelude.{Ok}
use Rattle.rules.specs.Words.{page_size, records, bits, multiple}
use Rattle.rules.specs.declared.Registers.{Registers}
use Rattle.rules.specs.declared.Outcome.TheVariants.{Handled}
use Rattle.rules.specs.declared.Progress.TheVariants.{Success}
use Rattle.rules.specs.Answers.{refuse, code_number}
use Rattle.rules.specs.Machine.{Lent, with_lent, N, below, page_of, offset_of, write, owner, valid, permitted, table_byte, owned_by, usable}
use Rattle.rules.specs.Machine.{is_live, record_at, vcpu, startup}
use Rattle.rules.specs.Sound.{bad_record, well_permitted}
use Rattle.rules.specs.Steps.{may_store, store}
use Rattle.rules.specs.Lists.{bad_list_page}
use Rattle.rules.specs.Calls.{withdrawn, withdraw}
use Rattle.rules.specs.Call.{with_rax, bad_sheet, bad_machine, pending, no_call, protocol, call_number, on_lent, dispatch, handle, clear_pending}
use Rattle.rules.specs.Call.{set_flag, finish, call}
use Rattle.rules.specs.Runs.{called}
use Rattle.laws.proofs.Ranges.{→absent}
use Rattle.safety.specs.Terms.{asking}
use Rattle.safety.proofs.Effects.{withdrawn_sheet}
use Rattle.safety.proofs.Sound.Facts.{Sound}
use Rattle.safety.proofs.Sound.Sizes.{sheet_length}
use Rattle.safety.proofs.Sound.Rows.{not_bad, startup_lives, row_right}

-- ---- the address of the list

-- 8 bytes into page k
pub list_page : (k : ℕ) → page_of (page_size * k + 8) ≡ k
unfolding page_of page_size
list_page k = omega arith

-- at that place in the page
pub list_offset : (k : ℕ) → offset_of (page_size * k + 8) ≡ 8
unfolding offset_of page_size
list_offset k = omega arith

list_multiple : (k : ℕ) → multiple 8 (page_size * k + 8) ≡ true
unfolding multiple page_size
list_multiple k = eq-eqb ((page_size * k + 8) % 8) 0 (omega arith)

-- the call is a Withdraw
pub asks_withdraw : (m : Lent) (g : Registers) → (protocol (asking m g) ≡ 0) × (call_number (asking m g) ≡ 5)
unfolding protocol call_number asking bits
asks_withdraw m g = (refl, refl)

-- ---- the machine after the call

-- Withdraw by the startup vCPU, and the last writes
unfoldable pub ended : Lent → Lent
ended m = set_flag (clear_pending 0 (withdrawn (startup m).vmpl (page_size * (startup m).calling + 8) m))

-- ---- the calling page

module _ (m : Lent) (s : Sound m) (mine : owner (table_byte m (startup m).calling) ≡ 1) where
  -- it is a page of the machine
  pub calling_inside : (startup m).calling < N m
  unfolding startup vcpu records
  calling_inside = (row_right m s 0 (omega arith) (startup_lives m s)).calling

  -- valid and permitted
  calling_valid : valid (table_byte m (startup m).calling) ≡ true
  calling_valid = rw mine at (s.pages (startup m).calling calling_inside).validated

  calling_allowed : permitted (startup m).vmpl (table_byte m (startup m).calling) ≡ true
  unfolding well_permitted
  calling_allowed = rw (calling_valid, mine) at (s.pages (startup m).calling calling_inside).allowed

  -- the store is done
  pub stored : store (startup m).vmpl (startup m).calling 0 (1 ∷ []) m ≡ record { answer = Ok tt; after = write (startup m).calling 0 (1 ∷ []) m }
  unfolding store may_store refuse below page_size
  stored = rw (lt-ltb _ _ calling_inside, calling_valid, calling_allowed)

  good_list_page : bad_list_page (startup m).vmpl (page_size * (startup m).calling + 8) m ≡ false
  unfolding bad_list_page usable below owned_by
  good_list_page =
      rw (list_page (startup m).calling, list_offset (startup m).calling, lt-ltb _ _ calling_inside, calling_valid, mine)

  -- Withdraw succeeds
  pub withdraw_done : withdraw 0 (page_size * (startup m).calling + 8) m
      ≡ record { answer = Ok Success; after = withdrawn (startup m).vmpl (page_size * (startup m).calling + 8) m }
  unfolding withdraw refuse startup
  withdraw_done = rw (list_multiple (startup m).calling, list_offset (startup m).calling, good_list_page)

  good_machine : bad_machine 0 m ≡ false
  unfolding bad_machine bad_sheet records record_at
  good_machine =
      rw (startup_lives m s, →absent (bad_record (N m)) m.sheet [] (λ i h. not_bad m i (s.rows i (rw (← sheet_length m s.tables) h))))

  still_live : is_live (record_at (withdrawn (startup m).vmpl (page_size * (startup m).calling + 8) m) 0) ≡ true
  unfolding record_at
  still_live = rw (withdrawn_sheet (startup m).vmpl (page_size * (startup m).calling + 8) m) (startup_lives m s)

  module _ (g : Registers) (waits : pending 0 m ≡ 1) where
    real_call : no_call 0 (asking m g) m ≡ false
    unfolding no_call asking
    real_call = rw waits

    handled : handle 0 (record { registers = asking m g; machine = record { lent = m } })
        ≡ record {
          answer = Ok Success;
          after = record { registers = asking m g; machine = record { lent = withdrawn (startup m).vmpl (page_size * (startup m).calling + 8) m } };
        }
    unfolding handle dispatch refuse on_lent with_lent asking
    handled = rw (waits, (asks_withdraw m g).0, (asks_withdraw m g).1, withdraw_done)

    -- and it is handled, with code 0
    pub called_done : called 0 (asking m g) (record { lent = m })
        ≡ record {
          answer = Handled;
          after = record {
            registers = with_rax 0 (asking m g);
            machine = record { lent = ended m };
          };
        }
    unfolding called call refuse finish with_lent code_number ended
    called_done = rw (good_machine, real_call, handled, still_live)
