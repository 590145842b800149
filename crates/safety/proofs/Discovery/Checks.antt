-- The checks that writer and reader share, one after the other: what an answer of 0 tells, what a refusal leaves, and which of them is the answer.
use mathlib.Core.Path.{◌≡◌, refl, sym, ◌∙◌, ap}
use mathlib.Core.Logic.{◌⊎◌, inl, inr}
use mathlib.Core.Bool.{Bool, true, false, not, ◌&&◌, true≢false}
use Prim.Native.Nat.{ℕ, ◌+◌, ◌%◌, ◌^◌, ◌<◌, ◌≤◌}
use native.Mathlib.Omega.{arith}
use lib.Dec.{eqb, leb, ltb}
use borrow.Author.Tests.{eqb-true, eqb-false, eq-eqb, ne_eqb, leb-false, ltb-false, lt-leb, le-leb, not-false}
use Rattle.std.specs.Prelude.{Err}
use Rattle.rules.specs.declared.Discovery.{Discovery}
use Rattle.rules.specs.declared.DiscoveryError.TheVariants.{UnalignedBase, UnalignedSize, UnalignedArea, PastEnd, AreaInside}
use Rattle.rules.specs.Words.{page_size, multiple}
use Rattle.rules.specs.Answers.{Answered, refuse}
use Rattle.rules.specs.Discovery.{Located, located_number, past_end, area_inside, refuse_range}
use Rattle.laws.proofs.Ranges.{by_test}
use Rattle.safety.specs.Discovery.{Whole, Apart, Fit, RefusedAs, by_base, by_size, by_area, by_end, by_inside, by_none}
use Rattle.safety.proofs.Branches.{passed}

-- the number of an answer
abbrev pub answered : {B : Type 0} → Answered Located B → ℕ
answered a = located_number a.answer

-- where the answer is 0, a check that answers another number was passed
pub told_past : {B : Type 0} (now : B) (test : Bool) (answer : Located) (rest : Answered Located B) → 0 < located_number answer
    → answered (refuse now test answer rest) ≡ 0 → (test ≡ false) × (answered rest ≡ 0)
unfolding refuse
told_past now true answer rest h e = absurd (omega arith)
told_past now false answer rest h e = (refl, e)

-- a check that fails is the answer
pub stops : {B : Type 0} (now : B) (test : Bool) (answer : Located) (rest : Answered Located B) → test ≡ true
    → answered (refuse now test answer rest) ≡ located_number answer
unfolding refuse
stops now true answer rest e = refl
stops now false answer rest e = absurd (true≢false (sym e))

-- everything is as it was, or the answer is 0
abbrev pub KeptOrTold : {B : Type 0} → B → Answered Located B → Type 0
KeptOrTold now a = (a.after ≡ now) ⊎ (answered a ≡ 0)

-- a check keeps that
pub kept_past : {B : Type 0} (now : B) (test : Bool) (answer : Located) (rest : Answered Located B) → KeptOrTold now rest
    → KeptOrTold now (refuse now test answer rest)
unfolding refuse
kept_past now true answer rest h = inl refl
kept_past now false answer rest h = h

-- and where the answer is not 0, everything is as it was
pub kept_refused : {B : Type 0} (now : B) (a : Answered Located B) → KeptOrTold now a → (answered a ≡ 0 → ⊥) → a.after ≡ now
kept_refused now a (inl same) refused = same
kept_refused now a (inr told) refused = absurd (refused told)

-- ---- the five checks of base, size and area

-- all of them are passed
pub record Passes (d : Discovery) : Type 0 where
  pub base_passes : not (multiple page_size d.base) ≡ false
  pub size_passes : not (multiple page_size d.size) ≡ false
  pub area_passes : not (multiple page_size d.area) ≡ false
  pub end_passes : past_end d ≡ false
  pub inside_passes : area_inside d ≡ false

module _ {B : Type 0} (now : B) (d : Discovery) (rest : Answered Located B) where
  -- where the answer is 0, they were passed
  pub range_told : answered (refuse_range now d rest) ≡ 0 → Passes d × (answered rest ≡ 0)
  unfolding refuse_range located_number
  range_told e =
      let base = told_past now _ (Err UnalignedBase) _ (omega arith) e in
      let size = told_past now _ (Err UnalignedSize) _ (omega arith) base.1 in
      let area = told_past now _ (Err UnalignedArea) _ (omega arith) size.1 in
      let end = told_past now _ (Err PastEnd) _ (omega arith) area.1 in
      let inside = told_past now _ (Err AreaInside) _ (omega arith) end.1 in (
        record {
          base_passes = base.0;
          size_passes = size.0;
          area_passes = area.0;
          end_passes = end.0;
          inside_passes = inside.0;
        },
        inside.1,
      )

  -- they change nothing
  pub range_kept : KeptOrTold now rest → KeptOrTold now (refuse_range now d rest)
  unfolding refuse_range
  range_kept h =
      kept_past now _ (Err UnalignedBase) _
      (kept_past now _ (Err UnalignedSize) _
      (kept_past now _ (Err UnalignedArea) _ (kept_past now _ (Err PastEnd) _ (kept_past now _ (Err AreaInside) _ h))))

  -- and passed they leave the rest
  pub range_passed : Passes d → refuse_range now d rest ≡ rest
  unfolding refuse_range refuse
  range_passed p = rw (p.base_passes, p.size_passes, p.area_passes, p.end_passes, p.inside_passes)

-- a multiple, by its remainder
whole : (n : ℕ) → not (multiple page_size n) ≡ false → n % 4096 ≡ 0
unfolding multiple page_size
whole n e = eqb-true (n % 4096) 0 (not-false _ e)

-- and back, either way
of_whole : (n : ℕ) → n % 4096 ≡ 0 → not (multiple page_size n) ≡ false
unfolding multiple page_size
of_whole n e = rw (eq-eqb (n % 4096) 0 e)

of_unaligned : (n : ℕ) → (n % 4096 ≡ 0 → ⊥) → not (multiple page_size n) ≡ true
unfolding multiple page_size
of_unaligned n other = rw (ne_eqb (n % 4096) 0 other)

-- what is not from a range's start on and before its end is below the range or behind it
pub outside_of : (start size n : ℕ) → (leb start n && ltb n (start + size)) ≡ false → (n < start) ⊎ (start + size ≤ n)
outside_of start size n e = by_test (leb start n) (λ t. inr (ltb-false _ _ (rw t at e))) (λ t. inl (leb-false _ _ t))

module _ (d : Discovery) where
  -- a range that ends at 2^64 or before does not pass the end
  of_end : d.base + d.size ≤ 2 ^ 64 → past_end d ≡ false
  unfolding past_end
  of_end h = omega (arith, lt-leb)

  -- an area below the range or behind it is not inside
  of_outside : (d.area < d.base) ⊎ (d.base + d.size ≤ d.area) → area_inside d ≡ false
  unfolding area_inside
  of_outside (inl h) = rw (lt-leb _ _ h)
  of_outside (inr h) = by_test (leb d.base d.area) (λ t. rw t (omega (arith, lt-leb))) (λ t. rw t)

  -- one that passes 2^64 does, and an area from the range's start on and before its end is
  of_past : 2 ^ 64 < d.base + d.size → past_end d ≡ true
  unfolding past_end
  of_past h = omega (arith, le-leb)

  of_inside : d.base ≤ d.area → d.area < d.base + d.size → area_inside d ≡ true
  unfolding area_inside
  of_inside low high = rw (le-leb _ _ low) (omega (arith, le-leb))

  -- what passes is whole and apart
  apart_of : Passes d → Apart d.base d.size d.area
  unfolding past_end area_inside
  apart_of p =
      record {
        whole = record {
          base_whole = whole d.base p.base_passes;
          size_whole = whole d.size p.size_passes;
          area_whole = whole d.area p.area_passes;
        };
        within = omega (arith, leb-false, p.end_passes);
        outside = outside_of d.base d.size d.area p.inside_passes;
      }

  of_apart : Apart d.base d.size d.area → Passes d
  of_apart a =
      let whole = a.whole in
      record {
        base_passes = of_whole d.base whole.base_whole;
        size_passes = of_whole d.size whole.size_whole;
        area_passes = of_whole d.area whole.area_whole;
        end_passes = of_end a.within;
        inside_passes = of_outside a.outside;
      }

  -- with some size it is fit
  pub fit_of : Passes d → eqb d.size 0 ≡ false → Fit d.base d.size d.area
  fit_of p some = record { apart = apart_of p; some = omega (arith, eqb-false d.size 0 some) }

  pub passes_of : Fit d.base d.size d.area → Passes d × (eqb d.size 0 ≡ false)
  passes_of f = (of_apart f.apart, ne_eqb d.size 0 (omega (arith, f.some)))

  -- whole numbers pass three checks
  whole_passed : {B : Type 0} (now : B) (rest : Answered Located B) → Whole d.base d.size d.area
      → refuse now (not (multiple page_size d.base)) (Err UnalignedBase)
      (refuse now (not (multiple page_size d.size)) (Err UnalignedSize) (refuse now (not (multiple page_size d.area)) (Err UnalignedArea) rest))
      ≡ rest
  whole_passed now rest w =
      passed now _ (Err UnalignedBase) _ (of_whole _ w.base_whole) ∙ passed now _ (Err UnalignedSize) _ (of_whole _ w.size_whole)
      ∙ passed now _ (Err UnalignedArea) _ (of_whole _ w.area_whole)

  -- the first of the five that fails is the answer; or all pass, and size is 0
  pub range_refused : {B : Type 0} (now : B) (rest : Answered Located B) (k : ℕ) → RefusedAs d.base d.size d.area k
      → (answered (refuse_range now d rest) ≡ k) ⊎ (Passes d × (d.size ≡ 0) × (k ≡ 6))
  unfolding refuse_range located_number
  range_refused now rest _ (by_base other) = inl (stops now _ (Err UnalignedBase) _ (of_unaligned _ other))
  range_refused now rest _ (by_size base other) =
      inl (ap answered (passed now _ (Err UnalignedBase) _ (of_whole _ base)) ∙ stops now _ (Err UnalignedSize) _ (of_unaligned _ other))
  range_refused now rest _ (by_area base size other) =
      inl
      (ap answered (passed now _ (Err UnalignedBase) _ (of_whole _ base) ∙ passed now _ (Err UnalignedSize) _ (of_whole _ size))
      ∙ stops now _ (Err UnalignedArea) _ (of_unaligned _ other))
  range_refused now rest _ (by_end w past) = inl (ap answered (whole_passed now _ w) ∙ stops now _ (Err PastEnd) _ (of_past past))
  range_refused now rest _ (by_inside w within low high) =
      inl (ap answered (whole_passed now _ w ∙ passed now _ (Err PastEnd) _ (of_end within)) ∙ stops now _ (Err AreaInside) _ (of_inside low high))
  range_refused now rest _ (by_none apart none) = inr (of_apart apart, none, refl)
