-- What holds of every branch of a test, of a refusal and of a call's handling holds of the whole.
use mathlib.Core.Path.{◌≡◌, refl, ap}
use mathlib.Core.Bool.{Bool, true, false, cond, true≢false}
use Prim.Native.Nat.{ℕ, suc, ◌≤◌, zero-le}
use native.Mathlib.Omega.{arith}
use lib.Dec.{eqb}
use borrow.Author.Tests.{eqb-true, eqb-false, not-true, not-false}
use Rattle.std.specs.Prelude.{Ok, Err}
use Rattle.rules.specs.declared.Registers.{Registers}
use Rattle.rules.specs.declared.Outcome.{Outcome}
use Rattle.rules.specs.declared.Progress.TheVariants.{Success}
use Rattle.rules.specs.declared.Refusal.TheVariants.{UnknownProtocol, UnknownCall, BadPending}
use Rattle.rules.specs.declared.ListCall.TheVariants.{Pvalidate, Deposit}
use Rattle.rules.specs.Answers.{Code, Answered, refuse, outcome_number}
use Rattle.rules.specs.Words.{entries_a_call}
use Rattle.rules.specs.Machine.{Machine}
use Rattle.rules.specs.Lists.{list_call}
use Rattle.rules.specs.Calls.{remap, create, delete, withdraw, query, vtom}
use Rattle.rules.specs.Call.{Posed, bad_machine, no_call, protocol, call_number, on_lent, on_rcx, dispatch, handle, finish, call}
use Rattle.rules.specs.Runs.{called}
use Rattle.laws.proofs.Ranges.{by_test}
use Rattle.safety.specs.Terms.{unreal}

-- a test, and what it decides between
pub on_test : {A : Type 0} (P : A → Type 0) (t : Bool) (x y : A) → (t ≡ true → P x) → (t ≡ false → P y) → P (cond t x y)
on_test P true x y passes fails = passes refl
on_test P false x y passes fails = fails refl

-- a refusal, or the rest
pub on_refuse : {A B : Type 0} (P : Answered A B → Type 0) (now : B) (t : Bool) (a : A) (rest : Answered A B)
    → (t ≡ true → P (record { answer = a; after = now })) → (t ≡ false → P rest) → P (refuse now t a rest)
unfolding refuse
on_refuse P now t a rest = on_test P t (record { answer = a; after = now }) rest

-- where only what is there after it matters
pub past : {A B : Type 0} (P : B → Type 0) (now : B) (t : Bool) (a : A) (rest : Answered A B) → P now → (t ≡ false → P rest.after)
    → P (refuse now t a rest).after
past P now t a rest h = on_refuse (λ x. P x.after) now t a rest (λ t. h)

-- a check that is passed leaves the rest
pub passed : {A B : Type 0} (now : B) (t : Bool) (a : A) (rest : Answered A B) → t ≡ false → refuse now t a rest ≡ rest
unfolding refuse
passed now t a rest e = rw e

-- two outcomes with different numbers are not one
pub never : {A : Type 0} (o p : Outcome) → eqb (outcome_number o) (outcome_number p) ≡ false → o ≡ p → A
never o p t e = absurd (eqb-false (outcome_number o) (outcome_number p) t (ap outcome_number e))

-- RAX asks for call n of the one protocol
pub record Asks (n : ℕ) (g : Registers) : Type 0 where
  pub spoken : protocol g ≡ 0
  pub number : call_number g ≡ n

-- what a call is handled as: refused at once, or one of the eight, or unknown; each with the number that RAX asked for
pub record Handlings (caller : ℕ) (s : Posed Registers Machine) (P : Answered Code (Posed Registers Machine) → Type 0) : Type 0 where
  pub bad_pending : P (record { answer = Err BadPending; after = s })
  pub unknown_protocol : eqb (protocol s.registers) 0 ≡ false → P (record { answer = Err UnknownProtocol; after = s })
  pub remaps : Asks 0 s.registers → P (on_lent (remap caller s.registers.rcx s.machine.lent) s)
  pub validates : Asks 1 s.registers → P (on_lent (list_call entries_a_call Pvalidate caller s.registers.rcx s.machine.lent) s)
  pub creates : Asks 2 s.registers → P (on_lent (create caller s.registers.rcx s.registers.rdx s.registers.r8 s.machine.lent) s)
  pub deletes : Asks 3 s.registers → P (on_lent (delete caller s.registers.rcx s.machine.lent) s)
  pub deposits : Asks 4 s.registers → P (on_lent (list_call entries_a_call Deposit caller s.registers.rcx s.machine.lent) s)
  pub withdraws : Asks 5 s.registers → P (on_lent (withdraw caller s.registers.rcx s.machine.lent) s)
  pub queries : Asks 6 s.registers → P (on_rcx (record { answer = Ok Success; after = query s.registers.rcx }) s)
  pub configures : Asks 7 s.registers → P (on_rcx (vtom s.registers.rcx) s)
  pub unknown_call : 8 ≤ call_number s.registers → P (record { answer = Err UnknownCall; after = s })

module _ (caller : ℕ) (s : Posed Registers Machine) (P : Answered Code (Posed Registers Machine) → Type 0) (h : Handlings caller s P) where
  dispatched : protocol s.registers ≡ 0 → P (dispatch caller s)
  unfolding dispatch
  dispatched e =
      let n = call_number s.registers in
      let asks : (k : ℕ) → eqb n k ≡ true → Asks k s.registers = λ k t. record { spoken = e; number = eqb-true n k t } in
      let up : (k : ℕ) → k ≤ n → eqb n k ≡ false → suc k ≤ n = λ k l e. omega (arith, eqb-false n k e) in
      on_test P (eqb n 0) _ _ (λ t. h.remaps (asks 0 t))
      (λ n0. on_test P (eqb n 1) _ _ (λ t. h.validates (asks 1 t))
      (λ n1. on_test P (eqb n 2) _ _ (λ t. h.creates (asks 2 t))
      (λ n2. on_test P (eqb n 3) _ _ (λ t. h.deletes (asks 3 t))
      (λ n3. on_test P (eqb n 4) _ _ (λ t. h.deposits (asks 4 t))
      (λ n4. on_test P (eqb n 5) _ _ (λ t. h.withdraws (asks 5 t))
      (λ n5. on_test P (eqb n 6) _ _ (λ t. h.queries (asks 6 t))
      (λ n6. on_test P (eqb n 7) _ _ (λ t. h.configures (asks 7 t))
      (λ n7. h.unknown_call (up 7 (up 6 (up 5 (up 4 (up 3 (up 2 (up 1 (up 0 zero-le n0) n1) n2) n3) n4) n5) n6) n7)))))))))

  -- what holds of each holds of the call
  pub on_handle : P (handle caller s)
  unfolding handle
  on_handle =
      on_refuse P _ _ _ _ (λ t. h.bad_pending)
      (λ t. on_refuse P _ _ _ _ (λ u. h.unknown_protocol (not-true _ u))
      (λ u. dispatched (eqb-true _ 0 (not-false (eqb (protocol s.registers) 0) u))))

-- a call that is one comes to the end of its handling
pub called_real : (caller : ℕ) (g : Registers) (m : Machine) → bad_machine caller m.lent ≡ false → no_call caller g m.lent ≡ false
    → called caller g m ≡ finish caller g (handle caller (record { registers = g; machine = m }))
unfolding called call refuse
called_real caller g m good real = rw (good, real)

-- a call with another outcome than no call and bad machine is one
pub real_call : (caller : ℕ) (g : Registers) (m : Machine) → unreal (called caller g m).answer ≡ false
    → (bad_machine caller m.lent ≡ false) × (no_call caller g m.lent ≡ false)
unfolding called call refuse unreal
real_call caller g m h =
    by_test (bad_machine caller m.lent)
    (λ t. absurd (true≢false (rw t at h)))
    (λ t. by_test (no_call caller g m.lent) (λ u. absurd (true≢false (rw (t, u) at h))) (λ u. (t, u)))
