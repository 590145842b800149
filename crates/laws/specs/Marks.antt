-- The marks of a list as one number: bit i is set exactly where element i passes the test.
use Rattle.std.specs.Prelude.{Bool, cond, List, [], ◌∷◌, ℕ, ◌+◌, ◌*◌}

unfoldable pub marks : {A : Type 0} → (A → Bool) → List A → ℕ
marks test [] = 0
marks test (x ∷ xs) = cond (test x) 1 0 + 2 * marks test xs
