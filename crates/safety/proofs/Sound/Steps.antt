-- A mark leaves a sound machine sound: it changes one byte of a live record, which no fault goes by but its range.
use mathlib.Core.Path.{◌≡◌, refl, ◌∙◌}
use mathlib.Core.Bool.{true, ◌&&◌, and-eq-true_iff}
use mathlib.Core.List.{List}
use Prim.Native.Nat.{ℕ, ◌<◌, ◌≤◌}
use lib.Dec.{ltb, leb}
use lib.ListN.{length, set, length-set}
use borrow.Author.Tests.{ltb-true, leb-true, not-false}
use Rattle.rules.specs.Words.{records, record_size}
use Rattle.rules.specs.Machine.{Lent, N, table_byte, fields, is_live, holds, record_at, vcpu, startup, amend}
use Rattle.rules.specs.Sound.{claim, claims, pages_sized}
use Rattle.rules.specs.Steps.{may_mark, mark}
use Rattle.laws.proofs.Records.{fields_marked}
use Rattle.safety.proofs.Branches.{past}
use Rattle.safety.proofs.Sound.Facts.{PageRight, Sound}
use Rattle.safety.proofs.Sound.Sizes.{in_sheet, record_length}
use Rattle.safety.proofs.Sound.Claims.{claims_same}
use Rattle.safety.proofs.Sound.Rows.{renewed, calling_below}
use Rattle.safety.proofs.Sound.Changed.{renewed_sound}

module _ (i value : ℕ) (m : Lent) (s : Sound m) (h : i < records) (l : value ≤ 1) (live : is_live (record_at m i) ≡ true) where
  abbrev new_row : List ℕ
  new_row = set (record_at m i) 2 value

  abbrev new_sheet : List (List ℕ)
  new_sheet = set m.sheet i new_row

  abbrev marked : Lent
  marked = amend (λ r. set r 2 value) i m

  long : length (record_at m i) ≡ record_size
  long = record_length m s.tables i h

  refilled : fields new_row ≡ renewed value (vcpu m i).calling (vcpu m i)
  unfolding vcpu
  refilled = fields_marked (record_at m i) value long

  -- the claims are as they were
  claims_marked : (p : ℕ) → claims new_sheet p ≡ claims m.sheet p
  unfolding claim is_live holds record_at vcpu
  claims_marked p = claims_same m.sheet i p (in_sheet m s.tables h) new_row (rw refilled)

  memories : pages_sized marked ≡ true
  unfolding pages_sized amend N
  memories = s.memories

  pages_after : (p : ℕ) → p < N m → PageRight (startup m).vmpl (claims new_sheet p) (table_byte marked p)
  unfolding amend table_byte
  pages_after p b = rw (claims_marked p) (s.pages p b)

  marked_sound : Sound marked
  unfolding amend N
  marked_sound =
      renewed_sound m marked s i value (vcpu m i).calling new_row h live refilled (length-set (record_at m i) 2 value ∙ long) refl refl l
      (calling_below m s i h live) memories pages_after

-- a mark
pub mark_sound : (i value : ℕ) (m : Lent) → Sound m → Sound (mark i value m).after
unfolding mark may_mark
mark_sound i value m s =
    past Sound m _ _ _ s (λ t.
    let outer = (and-eq-true_iff (ltb i records && leb value 1) (is_live (record_at m i))).0 (not-false _ t) in
    let inner = (and-eq-true_iff (ltb i records) (leb value 1)).0 outer.0 in
    marked_sound i value m s (ltb-true i records inner.0) (leb-true value 1 inner.1) outer.1)
