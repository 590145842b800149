-- Pvalidate and Deposit leave a sound machine sound: page by page of an entry, entry by entry of a run.
use mathlib.Core.Path.{◌≡◌, refl}
use mathlib.Core.Bool.{true, and-eq-true_iff}
use mathlib.Core.List.{[]}
use Prim.Native.Nat.{ℕ, zero, suc, ◌+◌, ◌<◌, ◌≤◌}
use native.Mathlib.Omega.{arith}
use lib.Dec.{eqb}
use borrow.Author.Tests.{eqb-true}
use Rattle.rules.specs.declared.ListCall.{ListCall}
use Rattle.rules.specs.declared.Wish.{Wish}
use Rattle.rules.specs.declared.Wish.TheVariants.{Invalid, Valid, Pool}
use Rattle.rules.specs.Words.{records, between, little, range, each}
use Rattle.rules.specs.Machine.{Lent, N, page_of, offset_of, with_memory, write, fill, owner, valid, revoke, make_valid, make_invalid, table_byte}
use Rattle.rules.specs.Machine.{is_live, record_at, vcpu, startup}
use Rattle.rules.specs.Sound.{claims, agrees}
use Rattle.rules.specs.Lists.{store_index, wished, cleared, carry_out, carry_out_all, list_call}
use Rattle.laws.proofs.TableByte.{byte·simp}
use Rattle.laws.proofs.Change.{put_puts}
use Rattle.safety.proofs.Effects.{same_startup, carry_out_other, carry_out_sheet, entry_sheet}
use Rattle.safety.proofs.Entries.{fits, fits_plain, Keeps, within_keeps}
use Rattle.safety.proofs.Checks.{past_list}
use Rattle.safety.proofs.Sound.Facts.{PageRight, Sound}
use Rattle.safety.proofs.Sound.Claims.{nameable}
use Rattle.safety.proofs.Sound.Rows.{row_right, startup_range}
use Rattle.safety.proofs.Sound.OnePage.{write_sound, fill_sound, unclaimed_page, right_open, right_invalid, granted, right_taken, puts_sound}

-- ---- one page

-- a plain page that nobody claims is right after its wish
wished_right : (wish : Wish) (c v b : ℕ) → between 1 3 c ≡ true → c ≤ v → fits wish b ≡ true → PageRight c [] (wished wish v b)
unfolding wished fits agrees
wished_right Invalid c v b e h f =
    let o = eqb-true (owner b) 0 f in
    right_invalid c [] (make_invalid (revoke b)) (simp (byte·simp, o)) (simp (byte·simp, o)) (simp byte·simp) (simp byte·simp)
wished_right Valid c v b e h f =
    let o = eqb-true (owner b) 0 f in
    right_open c [] _ (simp (byte·simp, o)) (simp (byte·simp, o)) (simp byte·simp) (granted c _ (make_valid b) e (omega arith))
wished_right Pool c v b e h f = right_taken c 3 b [] refl refl ((and-eq-true_iff (eqb (owner b) 0) (valid b)).0 f).1 refl

-- a page that is plain and fit, after its wish, is right for its claims, which are none
right_page : (wish : Wish) (v p : ℕ) (m : Lent) → Sound m → (startup m).vmpl ≤ v → fits wish (table_byte m p) ≡ true → p < N m
    → PageRight (startup m).vmpl (claims m.sheet p) (wished wish v (table_byte m p))
unfolding nameable
right_page wish v p m s c f h =
    rw (unclaimed_page m p 0 s h (fits_plain wish (table_byte m p) f) refl)
    (wished_right wish (startup m).vmpl v (table_byte m p) (startup_range m s) c f)

filled_right : (p : ℕ) (m : Lent) (b : ℕ) → (p < N m → PageRight (startup m).vmpl (claims m.sheet p) b)
    → p < N (fill p m) → PageRight (startup (fill p m)).vmpl (claims (fill p m).sheet p) b
unfolding fill with_memory startup vcpu record_at N
filled_right p m b h = h

-- a page of an entry leaves the machine sound
carry_out_sound : (wish : Wish) (v p : ℕ) (m : Lent) → Sound m → (startup m).vmpl ≤ v → fits wish (table_byte m p) ≡ true → Sound (carry_out wish v p m)
unfolding carry_out cleared
carry_out_sound Invalid v p m s c f = puts_sound (put_puts p _ m) s (right_page Invalid v p m s c f)
carry_out_sound Valid v p m s c f = puts_sound (put_puts p _ (fill p m)) (fill_sound p m s) (filled_right p m _ (right_page Valid v p m s c f))
carry_out_sound Pool v p m s c f = puts_sound (put_puts p _ m) s (right_page Pool v p m s c f)

-- ---- an entry

-- all pages of an entry, each fit for the wish
range_sound : (wish : Wish) (v first n : ℕ) (m : Lent) → Sound m → (startup m).vmpl ≤ v
    → ((p : ℕ) → first ≤ p → p < first + n → fits wish (table_byte m p) ≡ true) → Sound (each (carry_out wish v) (range first n) m)
unfolding range each
range_sound wish v first zero m s c f = s
range_sound wish v first (suc n) m s c f =
    range_sound wish v (suc first) n (carry_out wish v first m)
    (carry_out_sound wish v first m s c (f first (omega arith) (omega arith)))
    (rw (same_startup m (carry_out wish v first m) (carry_out_sheet wish v first m)) c)
    (λ p l h. rw (carry_out_other wish v first m p (λ e. omega arith)) (f p (omega arith) (omega arith)))

-- an entry that reads leaves the machine sound
pub entry_sound : (wish : Wish) (v first n : ℕ) (m : Lent) → Sound m → (startup m).vmpl ≤ v
    → ((p : ℕ) → first ≤ p → p < first + n → fits wish (table_byte m p) ≡ true) → Sound (carry_out_all wish v first n m)
unfolding carry_out_all
entry_sound wish v first n m s c f = range_sound wish v first n m s c f

-- ---- a run

-- a sound machine whose caller is live
record Going (caller : ℕ) (m : Lent) : Type 0 where
  good : Sound m
  live : is_live (record_at m caller) ≡ true

module _ (call : ListCall) (caller rcx : ℕ) (h : caller < records) where
  going : Keeps call caller rcx (Going caller)
  unfolding store_index record_at write with_memory
  going =
      record {
        stored = λ k m g. record { good = write_sound (page_of rcx) (offset_of rcx + 2) (little 2 k) m g.good; live = g.live };
        carried = λ e first n wish m g r. record {
          good = entry_sound wish _ first n m g.good (row_right m g.good caller h g.live).rank (λ p l b. (r.fit p l b).1);
          live = rw (entry_sheet wish (vcpu m caller).vmpl first n m) g.live;
        };
      }

  -- Pvalidate and Deposit leave a sound machine sound
  pub list_call_sound : (budget : ℕ) (m : Lent) → Sound m → is_live (record_at m caller) ≡ true → Sound (list_call budget call caller rcx m).after
  list_call_sound budget m s live =
      past_list budget call caller rcx m Sound s
      (λ page. (within_keeps call caller rcx (Going caller) going budget m (record { good = s; live = live })).good)
