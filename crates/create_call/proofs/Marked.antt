-- The live marks of the records: one record more, all of them, and what the trailing zeros of their inverse say.
-- Assumes nothing.
use Rattle.std.proofs.Common.{◌≡◌, ap, ℕ, ◌+◌, ◌-◌, ◌*◌, ◌%◌, ◌^◌, ◌<◌, ◌≤◌, List, [], not, length, get_or, take, bit_or, arith}
use Rattle.std.specs.Int.{from_bool}
use Rattle.std.specs.Int.Bits.{or_zero_r}
use Rattle.std.specs.Int.Count.{count_trailing_zeros}
use Rattle.std.proofs.lemmas.List.{take_all}
use Rattle.rules.specs.Words.{records, lowest}
use Rattle.rules.specs.Machine.{is_live}
use Rattle.laws.specs.Marks.{marks}
use Rattle.laws.proofs.Marks.{marks_set, marks_left, trailing_marks}
use Rattle.laws.proofs.Ranges.{by_test}

module _ (rows : List (List ℕ)) (sized : length rows ≡ records) where
  -- one record more
  pub one_more : (i : ℕ) → i < records
      → bit_or (marks is_live (take i rows)) (from_bool (is_live (get_or rows i [])) * 2 ^ i % 2 ^ 64) ≡ marks is_live (take (i + 1) rows)
  unfolding records
  one_more i h =
      let below : i < length rows = omega arith in
      let gone : 0 * 2 ^ i % 2 ^ 64 ≡ 0 = omega arith in
      by_test (is_live (get_or rows i []))
      (λ t. rw t (marks_set is_live rows i [] below 64 (omega arith) t))
      (λ t. rw (t, gone, or_zero_r) (marks_left is_live rows i [] below t))

  -- all of them
  pub all_marked : (i : ℕ) → records ≤ i → marks is_live (take i rows) ≡ marks is_live rows
  all_marked i h = ap (marks is_live) (take_all i rows (omega arith))

  -- the free marks counted
  pub counted : count_trailing_zeros 64 ((2 ^ 64 - 1) - marks is_live rows) ≡ lowest (λ r. not (is_live r)) rows
  unfolding records
  counted = trailing_marks is_live 64 rows (omega arith)
