-- The rows that are wrong: none; and each leaves a sound machine, the launched sixteen pages first. antt computes it from the definitions of `rules`. It does not print
-- the numbers where a row is wrong, but takes the right guess: with row 3 wrong, `≡ 3 ∷ []` is proved.
use Rattle.std.specs.Prelude.{◌≡◌, refl, []}
use Rattle.rows.specs.Night.{wrong_rows}
use Rattle.rows.specs.Table.{blank, rows}
use Rattle.rows.specs.Opened.{open_words, open_answers, open_machine, open_launch, open_steps, open_sound}
use Rattle.rows.specs.Opened.{open_lists, open_calls, open_call, open_runs, open_night, open_table}

pub no_row_is_wrong : wrong_rows 1 rows blank ≡ []
unfolding open_words open_answers open_machine open_launch open_steps open_sound open_lists open_calls open_call open_runs open_night open_table
no_row_is_wrong = refl
