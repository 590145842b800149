-- One element of a list changed: the table after a change of one page's byte.
use Rattle.std.specs.Prelude.{List, ℕ, get_or, set}

-- element p changed by f; d stands for an element past the end
unfoldable pub revise : {A : Type 0} → (A → A) → A → ℕ → List A → List A
revise f d p xs = set xs p (f (get_or xs p d))
