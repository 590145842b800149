-- Writes in one part: two runs of bytes that meet are one, and a run over all of a part is the new part.
use mathlib.Core.Path.{◌≡◌}
use mathlib.Core.List.{List, [], ◌∷◌, ◌++◌}
use Prim.Native.Nat.{ℕ, ◌+◌, ◌<◌}
use lib.ListN.{length, get_or, set}
use lib.Seq.{sets, get_or-set_same, set-set}
use Rattle.rules.specs.declared.Vcpu.{Vcpu}
use Rattle.rules.specs.Words.{little}
use Rattle.rules.specs.Machine.{written, laid_out}
use Rattle.laws.proofs.Chop.{sets_whole}
use Rattle.laws.proofs.Widths.{sets_append}

module _ (rows : List (List ℕ)) (i : ℕ) (h : i < length rows) where
  pub written_append : (o : ℕ) (xs ys : List ℕ) → written i (o + length xs) ys (written i o xs rows) ≡ written i o (xs ++ ys) rows
  unfolding written
  written_append o xs ys = rw (get_or-set_same rows i (sets (get_or rows i []) o xs) [] h, set-set, sets_append)

  pub written_whole : (vs : List ℕ) → length vs ≡ length (get_or rows i []) → written i 0 vs rows ≡ set rows i vs
  unfolding written
  written_whole vs e = rw (sets_whole (get_or rows i []) vs e)

  -- a record written eight bytes at a time is laid out
  pub record_written : (v : Vcpu)
      → written i 24 (little 8 v.features) (written i 16 (little 4 v.pool ++ little 4 v.spare)
      (written i 8 (little 4 v.vmsa ++ little 4 v.calling)
      (written i 0 ((v.live ∷ v.vmpl ∷ v.running ∷ v.holding ∷ []) ++ little 4 v.apic) rows)))
      ≡ written i 0 (laid_out v) rows
  unfolding laid_out little
  record_written v =
      let a = (v.live ∷ v.vmpl ∷ v.running ∷ v.holding ∷ []) ++ little 4 v.apic in
      let b = little 4 v.vmsa ++ little 4 v.calling in
      let d = little 4 v.pool ++ little 4 v.spare in
      rw (written_append 0 a b, written_append 0 (a ++ b) d, written_append 0 (a ++ b ++ d) (little 8 v.features))
